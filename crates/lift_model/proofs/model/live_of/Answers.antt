use Rattle.std.proofs.Common.{Vec, Global, ℕ, sym, ap, ◌∙◌}
use Rattle.lift_model.specs.declared.row.Row.{Row}
use Rattle.lift_model.specs.Model.{union, choices_support}
use Rattle.lift_model.proofs.Unions.{union_more, union_all, map-mapped}
use Rattle.lift_model.proofs.model.live_of.Goals as goal

-- the parameters of the choices that a vector holds
support_of : Vec Row Global → ℕ
support_of v = choices_support v.items

pub loop-choices-preserved : goal.loop-choices-preserved
unfolding support_of
loop-choices-preserved c =
    rw (c.choices_support-set.ensures, c.deref.ensures.value)
    (union_more support_of c.loop-choices.set c.loop-choices.choices-index c.args.states.now c.choices-item.result c.loop-choices-test.true c.choices-item.is ∙ c.loop-choices.invariant)

pub returns : goal.returns
unfolding support_of
returns c =
    let vectors = c.args.states.now in
    union_all support_of c.loop-choices.set c.loop-choices.choices-index vectors c.loop-choices-test.false c.loop-choices.invariant
    ∙ sym (ap union (map-mapped choices_support (λ (v : Vec Row Global). v.items) vectors))
