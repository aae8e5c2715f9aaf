use Rattle.std.proofs.Common.{◌≡◌, map, take}
use Rattle.lift_model.specs.Model.{choices}
use Rattle.lift_collapse.specs.Building.{row_at_places}
use Rattle.lift_collapse.proofs.build.placed_choices.Given as goal

-- the choices so far
abbrev pub invariant-loop-a : goal.invariant-loop-a
invariant-loop-a l = l.rows.items ≡ map (row_at_places l.places) (take l.a (choices l.model l.s))
