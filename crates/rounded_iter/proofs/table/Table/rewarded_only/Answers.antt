use Rattle.rounded_iter.proofs.Solving.{only_choice}
use Rattle.rounded_iter.proofs.Lone.{single_others}
use Rattle.rounded_iter.proofs.table.Table.rewarded_only.Goals as goal

pub rewarded_single-requires : goal.rewarded_single-requires
rewarded_single-requires g c =
    let can = rw (← c.self.view_is) at c.requires.0 in
    let rewards = rw (← c.self.view_is) at c.requires.1 in
    let row = c.in-Single.ensures in
    let model = c.self.inside.rows.now.case.model in
    rw (← c.self.view_is) (record { can = record { read = can.read; row = only_choice model c.args.s can.state row.only; numbers = can.numbers }; other = single_others model c.args.s c.in-Single.target row }, (row.targets, rewards))
