use Rattle.lift_cert.specs.Certificate.{IsAccepting, IsRejecting, NoneAccepts}
use Rattle.lift_finer.proofs.Alike.{knows_no_grid}
use Rattle.lift_finer.proofs.Vectors.{accepting_carries, rejecting_carries, none_accepts_carries}
use Rattle.lift_finer.proofs.laws.certificates_stay.Goals as goal

pub returns : goal.returns
returns c = record {
  accepting = λ bound x. knows_no_grid (λ k spans. IsAccepting k spans bound x) (accepting_carries bound x);
  rejecting = λ bound r. knows_no_grid (λ k spans. IsRejecting k spans bound r) (rejecting_carries bound r);
  none = λ bound. knows_no_grid (λ k spans. NoneAccepts k spans bound) (none_accepts_carries bound);
}
