use Rattle.std.proofs.Common.{◌≡◌, ◌<◌, arith, subst}
use Rattle.lift_cert.specs.Bound.{BoundData, IsBound, part_limit}
use Rattle.plift_top.specs.Selftest.{one_half}
use Rattle.plift_top.proofs.Testing.{half_is_bound}
use Rattle.plift_top.proofs.selftest.verify_ladder.Goals as goal

pub invariant_of-job : goal.invariant_of-job
invariant_of-job c = half_is_bound

pub invariant_of-job-2-clause-bound_is_one : goal.invariant_of-job-2-clause-bound_is_one
invariant_of-job-2-clause-bound_is_one c b e =
    let same : one_half ≡ b = cc in
    subst (λ (bound : BoundData). IsBound bound × (bound.den < part_limit)) same (half_is_bound, omega arith)
