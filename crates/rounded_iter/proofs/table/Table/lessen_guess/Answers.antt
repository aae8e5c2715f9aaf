use Rattle.std.proofs.Common.{rules, ◌≡◌, ◌∙◌, ◌<◌, ◌^◌, ℕ, ℤ, pos, ◌≤ℤ◌, true, length, ap, arith, SFits, w64, to_z-of_z}
use Rattle.lift_model.specs.Model.{ModelData}
use Rattle.float_guess.specs.Rule.{is_given, given}
use Rattle.rounded_iter.proofs.Guessing.{guess_of, one_more}
use Rattle.rounded_iter.proofs.table.Table.lessen_guess.Goals as goal

pub loop-s-preserved : goal.loop-s-preserved
loop-s-preserved c =
    let k = c.args.self.now.case in
    let ends = c.args.self.now.rule.ends in
    let fits : SFits w64 c.lessened_number.result = search rules in
    let inside : c.loop-s.s < length c.loop-s.lane = search rules in
    rw (to_z-of_z fits)
    (one_more (λ (i : ℕ) (n : ℤ). (is_given k.model ends i ≡ true → n ≡ given k ends i) × ((pos 0 ≤ℤ n) × (n ≤ℤ pos (2 ^ k.w))))
    c.loop-s.lane c.loop-s.s c.lessened_number.result inside c.loop-s.invariant (c.lessened_number.ensures.given, c.lessened_number.ensures.range))

pub returns : goal.returns
returns c =
    let r = rw (← c.self.view_is) at c.requires in
    rw (← c.self.view_is)
    (guess_of c.self.inside.rule c.self.inside.rows.now.case c.loop-s.lane r.case.asked.model.goals (c.loop-s.auto.lane ∙ r.size)
    (λ i lt. rw (← c.self.view_is) at (c.loop-s.invariant i (omega (arith, lt, c.states-s-end.ensures.value, ap (λ (m : ModelData). length m.states) c.model-model.ensures, c.loop-s-test.false)))))
