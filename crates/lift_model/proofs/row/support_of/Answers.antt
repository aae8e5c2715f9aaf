use Rattle.std.proofs.Common.{◌∙◌}
use Rattle.lift_poly.specs.Arithmetic as polynomial
use Rattle.lift_model.specs.declared.entry.Entry.{Entry}
use Rattle.lift_model.proofs.Unions.{union_more, union_all}
use Rattle.lift_model.proofs.row.support_of.Goals as goal

pub loop-entry-preserved : goal.loop-entry-preserved
loop-entry-preserved c =
    rw (c.support-set.ensures, c.deref.ensures) (union_more (λ (entry : Entry). polynomial.support entry.poly) c.loop-entry.set c.loop-entry.entry-index c.args.entries.now c.entry-item.result c.loop-entry-test.true c.entry-item.is ∙ c.loop-entry.invariant)

pub returns : goal.returns
returns c = union_all (λ (entry : Entry). polynomial.support entry.poly) c.loop-entry.set c.loop-entry.entry-index c.args.entries.now c.loop-entry-test.false c.loop-entry.invariant
