use Rattle.std.proofs.Common.{subst, sym}
use Rattle.lower_cert.specs.Beginning.{IsClosedState}
use Rattle.lower_cert.proofs.Beginning.{some_same}
use Rattle.lower_cert.proofs.raise.is_closed_position.Goals as goal

pub returns-in-Some : goal.returns-in-Some
returns-in-Some g c = λ e s h. subst (λ i. IsClosedState c.args.rows.now.case g.spans c.args.lane.now i) (sym (some_same c.in-Some.s s (c.in-Some.ensures.all s h))) (c.is_closed_state.ensures e)
