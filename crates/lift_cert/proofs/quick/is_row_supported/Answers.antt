use Rattle.std.proofs.Common.{rules, SFits, w64, to_z-of_z}
use Rattle.lift_cert.proofs.quick.is_row_supported.Goals as goal

pub returns : goal.returns
returns g c =
    let fits : SFits w64 c.number-number.result = search rules in
    rw (to_z-of_z fits, c.number-number.ensures, c.numbers.ensures) at c.is_held.ensures
