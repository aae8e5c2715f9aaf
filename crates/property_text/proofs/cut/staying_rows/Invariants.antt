use Rattle.std.proofs.Common.{◌≡◌, map, take}
use Rattle.lift_model.specs.Model.{choices}
use Rattle.property_text.specs.Restricted.{staying}
use Rattle.property_text.proofs.cut.staying_rows.Given as goal

-- the choices so far
abbrev pub invariant-loop-a : goal.invariant-loop-a
invariant-loop-a l = l.rows.items ≡ map (staying l.poly l.s) (take l.a (choices l.model l.s))
