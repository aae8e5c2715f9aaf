use Rattle.lift_range.proofs.Doubling.{accepting_doubles, rejecting_doubles, none_accepts_below, none_rejects_below}
use Rattle.lift_range.proofs.laws.certificates_double.Goals as goal

pub returns-clause-accepting : goal.returns-clause-accepting
returns-clause-accepting c = accepting_doubles

pub returns-clause-rejecting : goal.returns-clause-rejecting
returns-clause-rejecting c = rejecting_doubles

pub returns-clause-none_accepts : goal.returns-clause-none_accepts
returns-clause-none_accepts c = none_accepts_below

pub returns-clause-none_rejects : goal.returns-clause-none_rejects
returns-clause-none_rejects c = none_rejects_below
