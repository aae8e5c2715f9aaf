use Rattle.std.proofs.Common.{refl}
use Rattle.drn_expr.proofs.Operands.{parameter_operand}
use Rattle.drn_expr.proofs.parse.parameter.Goals as goal

pub returns-in-Some : goal.returns-in-Some
returns-in-Some c = let h = parameter_operand c.in-Some.place _ c.parameter.result c.in-Some.ensures.place c.parameter.ensures in (refl, h.0, h.1, h.2)
