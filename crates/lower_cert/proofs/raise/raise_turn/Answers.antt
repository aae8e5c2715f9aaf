use Rattle.std.proofs.Common.{rules, SFits, w64, to_z-of_z}
use Rattle.lower_cert.proofs.Beginning.{keeps_set}
use Rattle.lower_cert.proofs.raise.raise_turn.Goals as goal

pub returns : goal.returns
returns g c =
    let fits : SFits w64 c.raised-number.result = search rules in
    rw (to_z-of_z fits) (keeps_set c.args.rows.now.case c.args.rows.now.links c.args.part.low c.args.part.high c.args.position c.in-Some.s c.args.lane.now c.raised-number.result c.requires.0.numbers c.requires.1.0.0 c.requires.1.0.1 c.in-Some.ensures.some c.raised-number.ensures.0 c.raised-number.ensures.1)
