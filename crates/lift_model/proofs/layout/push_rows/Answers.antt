use Rattle.std.proofs.Common.{◌<◌, length, arith}
use Rattle.lift_model.specs.Model.{choices}
use Rattle.lift_model.proofs.Laying.{laid_state, targets_more, targets_all}
use Rattle.lift_model.proofs.layout.push_rows.Goals as goal

pub loop-a-preserved : goal.loop-a-preserved
loop-a-preserved c =
    let choice : c.loop-a.a < length (choices c.args.model.now c.args.s) = omega (arith, c.loop-a-test.true, c.choices-a-end.ensures) in
    record {
      laid = c.in_ok-push_row.ensures.laid;
      targets = targets_more c.args.model.now c.args.s c.loop-a.a _ _ _ choice c.loop-a.invariant.targets c.in_ok-push_row.ensures.targets;
    }

pub returns-clause-laid : goal.returns-clause-laid
returns-clause-laid c = laid_state c.args.model.now _ c.args.s c.loop-a.a c.requires.state (omega (arith, c.loop-a-test.false, c.loop-a.auto.a-end, c.choices-a-end.ensures)) c.loop-a.invariant.laid

pub returns-clause-targets : goal.returns-clause-targets
returns-clause-targets c = targets_all c.args.model.now c.args.s c.loop-a.a _ _ (omega (arith, c.loop-a-test.false, c.choices-a-end.ensures)) c.loop-a.invariant.targets
