use Rattle.std.proofs.Common.{◌≡◌, take}
use Rattle.lift_model.specs.Model.{choices}
use Rattle.property_text.proofs.cut.kept_rows.Given as goal

-- the choices so far
abbrev pub invariant-loop-a : goal.invariant-loop-a
invariant-loop-a l = l.rows.items ≡ take l.a (choices l.model l.s)
