use Rattle.std.proofs.Common.{rules, SFits, w64, to_z-of_z}
use Rattle.corner_lift.specs.Case.{number}
use Rattle.lift_dual.proofs.Bounds.{satisfied_is}
use Rattle.lift_dual.proofs.one.is_satisfied.Goals as goal

pub returns : goal.returns
returns g c =
    let fits : SFits w64 (number c.args.lane.now c.args.s) = search rules in
    let is = satisfied_is c.rows_at_corners.ensures.parameters c.args.rows.now.case g.spans c.args.lane.now c.args.s c.args.a c.requires.0.inside in
    let test = rw (to_z-of_z fits, c.table.ensures) at c.is_capped.ensures in
    (λ e. is.0 (test.0 e), λ h. test.1 (is.1 h))
