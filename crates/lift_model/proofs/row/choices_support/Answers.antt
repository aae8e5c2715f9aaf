use Rattle.std.proofs.Common.{◌∙◌}
use Rattle.lift_model.specs.Model.{support}
use Rattle.lift_model.proofs.Unions.{union_more, union_all}
use Rattle.lift_model.proofs.row.choices_support.Goals as goal

pub loop-row-preserved : goal.loop-row-preserved
loop-row-preserved c =
    rw c.support-set.ensures (union_more support c.loop-row.set c.loop-row.row-index c.args.choices.now c.row-item.result c.loop-row-test.true c.row-item.is ∙ c.loop-row.invariant)

pub returns : goal.returns
returns c = union_all support c.loop-row.set c.loop-row.row-index c.args.choices.now c.loop-row-test.false c.loop-row.invariant
