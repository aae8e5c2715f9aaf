use Rattle.std.proofs.Common.{◌≤◌}
use Rattle.corner_lift.specs.Certificate.{most_rate}
use Rattle.robust_rank.specs.Rate.{IsFirstFrom}
use Rattle.lift_dual.specs.Rates.{IsRateOfChoices}
use Rattle.lift_dual.proofs.rates.rate_of_state.Given as goal

abbrev pub ghost-rate_of_row : goal.ghost-rate_of_row
ghost-rate_of_row g a = g.spans

-- the least rate of the choices before this one
abbrev pub invariant-loop-a : goal.invariant-loop-a
invariant-loop-a g l = record {
  least : IsFirstFrom (IsRateOfChoices l.rows.case g.spans l.ranks l.s l.a) l.first l.e;
  most : l.e ≤ most_rate;
}
