use Rattle.std.proofs.Common.{◌≤◌}
use Rattle.corner_lift.specs.Certificate.{most_rate}
use Rattle.robust_rank.specs.Rate.{IsStateRateBefore, IsFirstFrom}
use Rattle.robust_rank.proofs.rates.rate.Given as goal

abbrev pub ghost-rate_of_state : goal.ghost-rate_of_state
ghost-rate_of_state g a = g.spans

-- the least rate of the choices of the states before this one
abbrev pub invariant-loop-s : goal.invariant-loop-s
invariant-loop-s g l = record {
  least : IsFirstFrom (IsStateRateBefore l.case g.spans l.ranks l.picks l.s) 0 l.e;
  most : l.e ≤ most_rate;
}
