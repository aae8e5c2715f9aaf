use Rattle.lift_dual.proofs.Joining.{lower_alls_join, upper_ones_meet}
use Rattle.lift_dual.proofs.laws.certificates_join.Goals as goal

pub returns : goal.returns
returns c =
    let corners = c.rows_at_corners.ensures in
    record { join = lower_alls_join corners.numbers corners.rise; meet = upper_ones_meet corners.numbers corners.rise }
