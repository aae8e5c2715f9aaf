use Rattle.rounded_iter.proofs.table.Table.enough_by_weights.Goals as goal

pub enough_for_pair-requires : goal.enough_for_pair-requires
enough_for_pair-requires g c = rw (← c.self.view_is) (record { can = rw (← c.self.view_is) at c.requires; other = c.has_loop.ensures c.if-has_loop.false })

pub enough_for_row-requires : goal.enough_for_row-requires
enough_for_row-requires g c = rw (← c.self.view_is) (record { can = rw (← c.self.view_is) at c.requires; other = c.has_loop.ensures c.if-has_loop.false })
