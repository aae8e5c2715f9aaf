use Rattle.std.proofs.Common.{rules, ap, length, SFits, w64, to_z, of_z, to_z-of_z, arith}
use Rattle.lift_model.specs.Model.{ModelData}
use Rattle.lower_cert.proofs.Means.{stand}
use Rattle.lower_cert.proofs.BestExit.{states_next, states_all}
use Rattle.lower_cert.proofs.exit.best_exit.Goals as goal

pub loop-s-preserved : goal.loop-s-preserved
loop-s-preserved g c =
    let laws = c.premises.ensures in
    let place = stand laws c.args.rows.now.case g.spans c.w.ensures.case c.requires.table.inside in
    let fits : SFits w64 c.greater-most.result = search rules in
    let other_fits : SFits w64 c.exit_of_state-other.result = search rules in
    let up = rw (to_z-of_z other_fits) at c.greater-most.ensures in
    rw (to_z-of_z fits) (states_next c.args.rows.now.case g.spans place c.args.lane.now c.args.marks.now (to_z w64 (of_z w64 c.args.level)) c.loop-s.s _ c.exit_of_state-other.result c.greater-most.result c.loop-s.invariant c.exit_of_state-other.ensures.each up.0 up.1.0)

pub returns : goal.returns
returns g c = states_all c.args.rows.now.case g.spans c.args.lane.now c.args.marks.now (to_z w64 (of_z w64 c.args.level)) c.args.level c.loop-s.s _ _ (to_z-of_z c.ranges.level) (omega (arith, c.loop-s-test.false, c.states-s-end.ensures.value, ap (λ (m : ModelData). length m.states) c.model.ensures)) c.loop-s.invariant
