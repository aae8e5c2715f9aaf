use Rattle.lift_collapse.proofs.Admitted.{collapsed_is_case}
use Rattle.lift_collapse.proofs.Scene.{Premises}
use Rattle.lift_collapse.proofs.Spread.{upper_spreads, lower_spreads, high_spreads, none_spreads}
use Rattle.lift_collapse.proofs.laws.collapses_spread.Goals as goal

pub returns : goal.returns
returns c =
    let corners = c.rows_at_corners.ensures in
    let laws : Premises = record { numbers = corners.numbers; parameters = corners.parameters; rise = corners.rise; most = corners.most; least = corners.least } in
    record {
      case = collapsed_is_case;
      upper = upper_spreads laws;
      lower = lower_spreads laws;
      high = high_spreads laws;
      none = none_spreads laws;
    }
