use Rattle.rounded_iter.specs.Rising.{CanTry}
use Rattle.rounded_iter.proofs.Solving.{pair_choice, pair_others}
use Rattle.rounded_iter.proofs.table.Table.rewarded_only_pair.Goals as goal

pub weigh_only_pair-requires : goal.weigh_only_pair-requires
weigh_only_pair-requires g c =
    let can = c.requires.0 in
    let row = c.requires.1.0 in
    (record { read = can.read; row = pair_choice c.args.self.now.case c.args.self.now.links c.args.s c.args.row can.state row; numbers = can.numbers }, row)

pub rewarded_sum-requires : goal.rewarded_sum-requires
rewarded_sum-requires g c =
    let t = c.args.self.now in
    let can = c.requires.0 in
    let row = c.requires.1.0 in
    let one : CanTry t g.spans c.args.lane.now c.args.s 0 = record { read = can.read; row = pair_choice t.case t.links c.args.s c.args.row can.state row; numbers = can.numbers } in
    (record { can = one; other = pair_others t.case.model t.links c.args.s c.args.row row }, (c.in_ok-row.ensures.extreme, (c.in_ok-row.ensures.whole, c.requires.1.1)))
