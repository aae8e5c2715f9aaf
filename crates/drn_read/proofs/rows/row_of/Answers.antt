use Rattle.std.proofs.Common.{◌≡◌, Err, rules}
use Rattle.drn_read.specs.Reading.{is_large}
use Rattle.drn_read.proofs.Building.{fault_kept}
use Rattle.drn_read.proofs.rows.row_of.Goals as goal

pub returns-in_err-entry_of-clause-fault : goal.returns-in_err-entry_of-clause-fault
returns-in_err-entry_of-clause-fault c =
    let e : c.from_residual-in_err-entry_of.result ≡ Err c.in_err-entry_of.field-0.0 = search rules in
    fault_kept c.from_residual-in_err-entry_of.result c.in_err-entry_of.field-0.0 (is_large c.args.common) c.args.choice.now c.loop-transition.transition-index c.transition-item.result e c.loop-transition-test.true c.transition-item.is c.in_err-entry_of.ensures.fault
