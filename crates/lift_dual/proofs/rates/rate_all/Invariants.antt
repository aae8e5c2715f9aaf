use Rattle.std.proofs.Common.{◌≤◌}
use Rattle.corner_lift.specs.Certificate.{most_rate}
use Rattle.robust_rank.specs.Rate.{IsFirstFrom}
use Rattle.lift_dual.specs.Rates.{IsRateOfStates}
use Rattle.lift_dual.proofs.rates.rate_all.Given as goal

abbrev pub ghost-rate_of_state : goal.ghost-rate_of_state
ghost-rate_of_state g a = g.spans

-- the least rate of the states before this one
abbrev pub invariant-loop-s : goal.invariant-loop-s
invariant-loop-s g l = record {
  least : IsFirstFrom (IsRateOfStates l.rows.case g.spans l.ranks l.s) 0 l.e;
  most : l.e ≤ most_rate;
}
