use Rattle.lower_cert.proofs.Settling.{are_choices, is_greatest}
use Rattle.lower_cert.proofs.greatest.rate_of.Goals as goal

pub rate-requires : goal.rate-requires
rate-requires g c =
    rw (c.case.ensures, c.links.ensures, c.weights.ensures)
    (c.w.ensures.links, (c.requires.0, are_choices c.args.rows.now.case g.spans c.args.lane.now c.args.picks.now c.args.ranks.now c.requires.1.1.ranked))

pub returns-clause-greatest : goal.returns-clause-greatest
returns-clause-greatest g c =
    let least = rw c.case.ensures at c.rate.ensures.least in
    is_greatest c.vectors_are_lowered.ensures.greatest c.rows_at_corners.ensures.numbers c.args.rows.now.case g.spans c.args.lane.now c.args.picks.now c.args.ranks.now c.rate.result c.height.result c.requires.1.0 c.requires.1.1 c.height.ensures.marks least c.rate.ensures.most c.height.ensures.height c.w.ensures.case

pub returns-clause-height : goal.returns-clause-height
returns-clause-height g c =
    let least = rw c.case.ensures at c.rate.ensures.least in
    let greatest = is_greatest c.vectors_are_lowered.ensures.greatest c.rows_at_corners.ensures.numbers c.args.rows.now.case g.spans c.args.lane.now c.args.picks.now c.args.ranks.now c.rate.result c.height.result c.requires.1.0 c.requires.1.1 c.height.ensures.marks least c.rate.ensures.most c.height.ensures.height c.w.ensures.case in
    c.ranks_fit.ensures.greatest c.args.rows.now.case g.spans _ c.w.ensures.case greatest
