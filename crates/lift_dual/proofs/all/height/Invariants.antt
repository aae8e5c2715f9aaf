use Rattle.lower_cert.specs.Lowering.{IsHeight}
use Rattle.lift_dual.proofs.all.height.Given as goal

abbrev pub invariant-loop-rank : goal.invariant-loop-rank
invariant-loop-rank l = IsHeight l.ranks l.rank-index l.height
