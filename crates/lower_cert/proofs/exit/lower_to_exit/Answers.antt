use Rattle.std.proofs.Common.{rules, ◌<ℤ◌, SFits, w64, to_z, of_z, to_z-of_z, arith}
use Rattle.lift_poly.proofs.Ring.{linear}
use Rattle.lower_cert.proofs.Exits.{lt_from_test}
use Rattle.lower_cert.proofs.BestExit.{exit_lowers}
use Rattle.lower_cert.proofs.exit.lower_to_exit.Goals as goal

pub returns : goal.returns
returns g c =
    let fits : SFits w64 c.best_exit-exit.result = search rules in
    let level_is = to_z-of_z c.ranges.level in
    let less : c.best_exit-exit.result <ℤ c.args.level = omega (arith, linear, lt_from_test (to_z w64 (of_z w64 c.args.level)) (to_z w64 (of_z w64 c.best_exit-exit.result)) c.if-level-exit.false, to_z-of_z fits, level_is) in
    exit_lowers c.vectors_are_lowered.ensures.under c.rows_at_corners.ensures.numbers c.args.rows.now.case g.spans c.args.lane.now c.write_exit.new.lane c.mark_level.new.marks c.args.ranks.now c.args.level c.best_exit-exit.result c.w.ensures.case c.requires.0.inside c.requires.1.0 (omega (arith, c.mark_level.auto.marks, c.requires.1.1.0.0)) c.requires.1.1.1.0 (rw level_is at c.mark_level.ensures) (rw level_is at c.best_exit-exit.ensures) less (rw (to_z-of_z fits) at c.write_exit.ensures)
