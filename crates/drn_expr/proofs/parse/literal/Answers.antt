use Rattle.std.proofs.Common.{refl}
use Rattle.drn_expr.proofs.Operands.{literal_operand}
use Rattle.drn_expr.proofs.parse.literal.Goals as goal

pub returns-in-Ok : goal.returns-in-Ok
returns-in-Ok c = let h = literal_operand c.in-Ok.number _ c.number.result c.in-Ok.ensures.answer c.number.ensures in (refl, h.0, h.1, h.2)
