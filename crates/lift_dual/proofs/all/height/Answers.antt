use Rattle.std.proofs.Common.{arith}
use Rattle.lift_dual.proofs.Doubling.{all_marks}
use Rattle.lift_dual.proofs.all.height.Goals as goal

pub returns-clause-marks : goal.returns-clause-marks
returns-clause-marks c = all_marks c.args.ranks.now (λ i. omega (arith, (c.type_inv.ranks i).fits))
