use Rattle.corner_lift.proofs.lifted.Lifted.only_row.Goals as goal

pub returns : goal.returns
returns c =
    let state = rw (← c.self.view_is) at c.requires in
    rw (← c.self.view_is) (c.only_row.ensures c.self.inside.case.now.model c.self.invariant.links.laid state)
