use Rattle.std.proofs.Common.{length, refl, ◌∙◌, subst}
use Rattle.lift_collapse.specs.Building.{HasTargets}
use Rattle.lift_collapse.proofs.Targets.{all_more, all_of}
use Rattle.lift_collapse.proofs.build.have_targets.Goals as goal

pub loop-row-preserved : goal.loop-row-preserved
loop-row-preserved c = (
  all_more (HasTargets (length c.args.seen.now)) c.args.rows.now c.loop-row.row-index c.row-item.result c.loop-row-test.true c.row-item.is c.loop-row.invariant.0 (subst (λ n. HasTargets n c.row-item.result) c.loop-row.invariant.1 (c.if-not-has_targets.ensures.targets refl)),
  c.has_targets.ensures.size ∙ c.loop-row.invariant.1,
)

pub returns-clause-targets : goal.returns-clause-targets
returns-clause-targets c = all_of (HasTargets (length c.args.seen.now)) c.args.rows.now c.loop-row.row-index c.loop-row-test.false c.loop-row.invariant.0
