use Rattle.std.proofs.Common.{◌∙◌, to_z-of_z, rules, SFits, w64}
use Rattle.lower_cert.proofs.Beginning.{closed_high, top_high, keeps_both}
use Rattle.lower_cert.proofs.begin.begin_anew.Goals as goal

pub returns-then-found : goal.returns-then-found
returns-then-found g c = closed_high c.rows_at_corners.ensures.numbers c.args.rows.now.case c.args.rows.now.links g.spans c.args.part.low c.args.part.high c.args.lane.now c.raise_part-found.new.lane c.w.ensures.case c.requires.0.table.inside c.requires.0.high c.raise_part-found.ensures.kept c.vectors_are_lowered.ensures.start (c.raise_part-found.ensures.closed c.if-found.true)

pub returns : goal.returns
returns g c =
    let k = c.args.rows.now.case in
    let l = c.args.rows.now.links in
    let fits : SFits w64 c.top.result = search rules in
    let top = to_z-of_z fits ∙ c.top.ensures in
    top_high c.rows_at_corners.ensures.numbers k l g.spans c.args.part.low c.args.part.high c.args.lane.now c.fill_part.new.lane c.w.ensures.case c.requires.0.table.inside c.requires.0.high
    (keeps_both k l c.args.part.low c.args.part.high c.args.lane.now c.raise_part-found.new.lane c.fill_part.new.lane c.raise_part-found.ensures.kept c.fill_part.ensures.kept)
    (λ at from to s h. c.fill_part.ensures.filled at from to s h ∙ top)
