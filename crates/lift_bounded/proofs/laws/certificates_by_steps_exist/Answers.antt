use Rattle.lift_bounded.proofs.Existing.{least_uppers, greatest_lowers}
use Rattle.lift_bounded.proofs.laws.certificates_by_steps_exist.Goals as goal

pub returns : goal.returns
returns c =
    let rows = c.rows_at_corners.ensures in
    record {
      least = λ k spans h is inside. least_uppers rows.numbers rows.range rows.parameters rows.rise k spans is inside h;
      greatest = λ k spans h is inside. greatest_lowers rows.numbers rows.range rows.parameters rows.rise k spans is inside h;
    }
