use Rattle.rounded_iter.proofs.table.Table.rewarded_pair.Goals as goal

pub rewarded_sum-requires : goal.rewarded_sum-requires
rewarded_sum-requires g c = (c.requires.0, (c.in_ok-row.ensures.extreme, (c.in_ok-row.ensures.whole, c.requires.1)))
