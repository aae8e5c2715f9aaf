use Rattle.std.proofs.Common.{rules, SFits, w64, to_z, of_z, to_z-of_z, arith}
use Rattle.lower_cert.proofs.Means.{stand}
use Rattle.lower_cert.proofs.BestExit.{choices_next, choices_all}
use Rattle.lower_cert.proofs.exit.exit_of_choices.Goals as goal

pub loop-a-preserved : goal.loop-a-preserved
loop-a-preserved g c =
    let laws = c.premises.ensures in
    let place = stand laws c.args.rows.now.case g.spans c.w.ensures.case c.requires.0.table.inside in
    let fits : SFits w64 c.greater-most.result = search rules in
    let other_fits : SFits w64 c.exit_of_choice-other.result = search rules in
    let up = rw (to_z-of_z other_fits) at c.greater-most.ensures in
    rw (to_z-of_z fits) (choices_next c.args.rows.now.case g.spans place c.args.lane.now c.args.marks.now (to_z w64 (of_z w64 c.args.level)) c.args.s c.loop-a.a _ c.exit_of_choice-other.result c.greater-most.result c.loop-a.invariant c.exit_of_choice-other.ensures.most up.0 up.1.0)

pub returns : goal.returns
returns g c = choices_all c.args.rows.now.case g.spans c.args.lane.now c.args.marks.now (to_z w64 (of_z w64 c.args.level)) c.args.level c.args.s c.loop-a.a _ (to_z-of_z c.ranges.level) (omega (arith, c.loop-a-test.false, c.choice_count-a-end.ensures)) c.loop-a.invariant
