use Rattle.std.proofs.Common.{◌+◌, to_z-of_z, arith}
use Rattle.lower_cert.proofs.Beginning.{keeps_set}
use Rattle.lower_cert.proofs.part.write_at.Goals as goal

pub returns-in-Some-clause-kept : goal.returns-in-Some-clause-kept
returns-in-Some-clause-kept c = rw (to_z-of_z c.ranges.value) (keeps_set c.args.rows.now.case c.args.rows.now.links c.args.position (c.args.position + 1) c.args.position c.in-Some.s c.args.lane.now c.args.value c.requires.numbers (omega arith) (omega arith) c.in-Some.ensures.some c.requires.value.0 c.requires.value.1)
