use Rattle.std.proofs.Common.{◌∙◌, arith}
use Rattle.corner_lift.proofs.corner_table.CornerTable.choice_count.Goals as goal

pub choices-requires : goal.choices-requires
choices-requires c = let state = rw (← c.self.view_is) at c.requires in omega (arith, state, c.self.invariant.places.states)

pub returns : goal.returns
returns c =
    let state = rw (← c.self.view_is) at c.requires in
    rw (← c.self.view_is) (c.choices.ensures ∙ c.self.invariant.places.choices c.args.s state)
