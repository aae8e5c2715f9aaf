use Rattle.robust_rank.proofs.rows.Rows.rate_of_only.Goals as goal

pub rate_of_single-requires : goal.rate_of_single-requires
rate_of_single-requires g c =
    let row = c.in-Single.ensures c.args.self.now.case.now.model c.requires.0.laid c.requires.1.1.0 in
    (c.requires.1.0.inside, (c.requires.1.1.0, (row, (c.requires.1.1.1.0, (c.requires.1.1.1.1.0 row.only, c.requires.1.1.1.1.1)))))

pub rate_of_pair-requires : goal.rate_of_pair-requires
rate_of_pair-requires g c =
    let row = c.in-Pair.ensures c.args.self.now.case.now.model c.requires.0.laid c.requires.1.1.0 in
    (c.requires.0, (c.requires.1.0, (c.requires.1.1.0, (row, (c.requires.1.1.1.0, (c.requires.1.1.1.1.0 row.only, c.requires.1.1.1.1.1))))))
