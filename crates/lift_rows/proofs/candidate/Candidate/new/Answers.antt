use Rattle.std.proofs.Common.{rules, SFits, w64, to_z-of_z}
use Rattle.lift_rows.proofs.candidate.Candidate.new.Goals as goal

pub greatest_of-greatest-requires : goal.greatest_of-greatest-requires
greatest_of-greatest-requires c = rw (c.sides.ensures.same) c.sides.ensures.sides

pub invariant_of-result : goal.invariant_of-result
invariant_of-result c =
    let d_fits : SFits w64 c.args.grid.d = search rules in
    (c.requires, rw (to_z-of_z d_fits, c.sides.ensures.same) at c.greatest_of-greatest.ensures)
