use Rattle.std.proofs.Common.{◌∙◌, to_z-of_z, rules, SFits, w64}
use Rattle.lower_cert.proofs.Beginning.{top_high, keeps_both, fallen_high}
use Rattle.lower_cert.proofs.begin.lower_from_guess.Goals as goal

pub returns-then-not-guessed : goal.returns-then-not-guessed
returns-then-not-guessed g c =
    let kept = rw (c.case.ensures, c.links.ensures) at c.guess_part-guessed.ensures in
    let k = c.args.rows.now.case in
    let l = c.args.rows.now.links in
    let fits : SFits w64 c.top.result = search rules in
    let top = to_z-of_z fits ∙ c.top.ensures in
    top_high c.rows_at_corners.ensures.numbers k l g.spans c.args.part.low c.args.part.high c.args.lane.now c.fill_part.new.lane c.w.ensures.case c.requires.0.table.inside c.requires.0.high
    (keeps_both k l c.args.part.low c.args.part.high c.args.lane.now c.guess_part-guessed.new.lane c.fill_part.new.lane kept c.fill_part.ensures.kept)
    (λ at from to s h. c.fill_part.ensures.filled at from to s h ∙ top)

pub returns-then-are_other : goal.returns-then-are_other
returns-then-are_other g c =
    let kept = rw (c.case.ensures, c.links.ensures) at c.guess_part-guessed.ensures in
    fallen_high c.rows_at_corners.ensures.numbers c.args.rows.now.case c.args.rows.now.links g.spans c.args.part.low c.args.part.high c.args.lane.now c.guess_part-guessed.new.lane c.w.ensures.case c.requires.0.table.inside c.requires.0.high kept c.vectors_are_lowered.ensures.guess c.settle_within-settled.new.lane c.note.new.noted c.settle_within-settled.ensures.lowered.high c.settle_within-settled.ensures.lowered.below c.note.ensures (c.are_other.ensures c.if-are_other.true)

pub returns : goal.returns
returns g c =
    let kept = rw (c.case.ensures, c.links.ensures) at c.guess_part-guessed.ensures in
    let k = c.args.rows.now.case in
    let l = c.args.rows.now.links in
    let fits : SFits w64 c.top-2.result = search rules in
    let top = to_z-of_z fits ∙ c.top-2.ensures in
    top_high c.rows_at_corners.ensures.numbers k l g.spans c.args.part.low c.args.part.high c.args.lane.now c.fill_part-2.new.lane c.w.ensures.case c.requires.0.table.inside c.requires.0.high
    (keeps_both k l c.args.part.low c.args.part.high c.args.lane.now c.settle_within-settled.new.lane c.fill_part-2.new.lane
    (keeps_both k l c.args.part.low c.args.part.high c.args.lane.now c.guess_part-guessed.new.lane c.settle_within-settled.new.lane kept c.settle_within-settled.ensures.kept)
    c.fill_part-2.ensures.kept)
    (λ at from to s h. c.fill_part-2.ensures.filled at from to s h ∙ top)
