use Rattle.std.proofs.Common.{rules, SFits, w64, to_z-of_z, subst, sym, refl, arith, length, ◌∙◌}
use Rattle.lift_model.specs.Model.{choices}
use Rattle.rounded_iter.specs.Watching.{IsRaisedState}
use Rattle.rounded_iter.proofs.Solving.{laws_of}
use Rattle.rounded_iter.proofs.Raising.{raised_to, raised_given, solved_only, solved_plain}
use Rattle.rounded_iter.proofs.table.Table.raise_lone.Goals as goal

pub enough_for_only-requires : goal.enough_for_only-requires
enough_for_only-requires g c = record { read = c.requires.read; state = c.requires.state; numbers = c.requires.below.numbers }

pub returns-then-is_held : goal.returns-then-is_held
returns-then-is_held g c = raised_given c.args.self.now g.run c.args.lane.now c.args.s c.requires (c.is_held.ensures.held c.if-is_held.true)

pub raise-requires : goal.raise-requires
raise-requires g c = record { can = c.requires; free = c.is_held.ensures.free c.if-is_held.false; rewards = sym c.has_rewards.ensures ∙ c.if-has_rewards.false }

pub raise_rewarded-requires : goal.raise_rewarded-requires
raise_rewarded-requires g c = record { can = c.requires; free = c.is_held.ensures.free c.if-is_held.false; rewards = sym c.has_rewards.ensures ∙ c.if-has_rewards.true }

pub returns-in-Some : goal.returns-in-Some
returns-in-Some g c =
    let t = c.args.self.now in
    let one = c.in-Some.ensures.only refl in
    let fits : SFits w64 c.in-Some.number = search rules in
    let done = rw (to_z-of_z fits) at c.write_number.ensures in
    subst (λ lane. IsRaisedState t g.run c.args.lane.now lane c.args.s c.write_number.result) (sym done.written)
    (raised_to (laws_of c.rows_at_corners.ensures.parameters c.rows_at_corners.ensures.numbers c.rows_at_corners.ensures.range c.rows_at_corners.ensures.rise c.corners_bound_weights.ensures.sum) t g.run c.args.lane.now c.args.s c.requires (omega (arith, one)) (c.is_held.ensures.free c.if-is_held.false) c.in-Some.number
    (solved_plain t.rule t.case g.run.spans c.args.lane.now c.args.s (length (choices t.case.model c.args.s)) c.in-Some.number (sym c.has_rewards.ensures ∙ c.if-has_rewards.false)
    (solved_only (laws_of c.rows_at_corners.ensures.parameters c.rows_at_corners.ensures.numbers c.rows_at_corners.ensures.range c.rows_at_corners.ensures.rise c.corners_bound_weights.ensures.sum) t.rule t.case g.run.spans c.requires.read.case c.requires.read.table.inside c.args.lane.now c.requires.below.numbers c.args.s c.requires.state one c.in-Some.number c.in-Some.ensures.solved)) c.write_number.result done.other done.same)
