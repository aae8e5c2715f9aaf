use Rattle.float_guess.proofs.Parts.{same_both, keeps_of}
use Rattle.float_guess.proofs.guess.guess_part.Goals as goal

pub returns : goal.returns
returns c =
    let d = c.args.rule.ends in
    let k = c.args.case.now in
    let l = c.args.links.now in
    keeps_of c.rows_at_corners.ensures.numbers d k l c.args.low c.args.high c.args.lane.now c.round.new.lane c.requires.numbers
    (same_both d k l c.args.low c.args.high c.args.lane.now c.find-done.new.lane c.round.new.lane
    (same_both d k l c.args.low c.args.high c.args.lane.now c.scale.new.lane c.find-done.new.lane c.scale.ensures c.find-done.ensures)
    c.round.ensures.same)
    c.round.ensures.rounded
