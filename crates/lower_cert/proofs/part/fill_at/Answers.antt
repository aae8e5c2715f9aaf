use Rattle.std.proofs.Common.{to_z-of_z}
use Rattle.lower_cert.proofs.Beginning.{some_same, filled_some}
use Rattle.lower_cert.proofs.part.fill_at.Goals as goal

pub returns-in-Some : goal.returns-in-Some
returns-in-Some c = rw (to_z-of_z c.ranges.number) (filled_some c.args.rows.now.case c.args.rows.now.links c.args.part.low c.args.part.high c.args.position c.in-Some.s c.args.lane.now c.args.number c.requires.numbers c.requires.inside.0 c.requires.inside.1 c.in-Some.ensures.some c.requires.number.0 c.requires.number.1 (λ t h. some_same c.in-Some.s t (c.in-Some.ensures.all t h)))
