use Rattle.tree_tests.proofs.Made.{still_made}
use Rattle.tree_tests.proofs.rooms.is_written.Goals as goal

pub returns : goal.returns
returns c = still_made c.args.case.now c.args.links.now c.args.room.now c.write_report.new.room c.requires.made c.write_report.ensures.room

pub write_report-requires-clause-from : goal.write_report-requires-clause-from
write_report-requires-clause-from c v e = absurd (cc)
