use Rattle.std.proofs.Common.{rules, pos, slice_index_or, SFits, w64, to_z-of_z}
use Rattle.lift_cert.proofs.quick.is_row_accepted.Goals as goal

pub returns : goal.returns
returns g c =
    let fits : SFits w64 (slice_index_or c.args.x.now c.args.state (pos 0)) = search rules in
    rw (to_z-of_z fits) at c.is_capped.ensures
