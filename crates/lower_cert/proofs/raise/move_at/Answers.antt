use Rattle.std.proofs.Common.{rules, pos, ◌^◌, ◌≤ℤ◌, SFits, w64, to_z-of_z}
use Rattle.lower_cert.proofs.Beginning.{keeps_set}
use Rattle.lower_cert.proofs.raise.move_at.Goals as goal

pub returns : goal.returns
returns g c =
    let fits : SFits w64 c.within-number.result = search rules in
    let most : c.within-number.result ≤ℤ pos (2 ^ c.args.rows.now.case.w) = search rules in
    rw (to_z-of_z fits) (keeps_set c.args.rows.now.case c.args.rows.now.links c.args.part.low c.args.part.high c.args.position c.in-Some.s c.args.lane.now c.within-number.result c.requires.0.numbers c.requires.1.0.0 c.requires.1.0.1 c.in-Some.ensures.some c.within-number.ensures.0 most)
