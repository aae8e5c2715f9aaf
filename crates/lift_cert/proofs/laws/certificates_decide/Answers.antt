use Rattle.lift_cert.proofs.Accepting.{accepting_bounds, least_refutes}
use Rattle.lift_cert.proofs.laws.certificates_decide.Goals as goal

pub returns : goal.returns
returns c = record { accepting = accepting_bounds c.tosses_are_bounded.ensures c.rows_at_corners.ensures.numbers c.rows_inside.ensures.weights c.rows_inside.ensures.most; least = least_refutes }
