use Rattle.std.proofs.Common.{to_z-of_z}
use Rattle.property_tree.proofs.Chains.{above_for_all}
use Rattle.property_tree.proofs.vectors.lower_of_chain.Goals as goal

pub returns-clause-some : goal.returns-clause-some
returns-clause-some g c =
    above_for_all c.chains_have_one_scheduler.ensures.greatest c.args.finder.now.case.now g.spans c.args.limit c.w.ensures.case c.requires.0.table.inside c.requires.1.1.1
    c.greatest_lower_above.new.pools c.greatest_lower_above.result (rw (to_z-of_z c.ranges.limit) at c.greatest_lower_above.ensures.some)

pub returns-clause-none : goal.returns-clause-none
returns-clause-none g c none =
    c.chains_have_one_scheduler.ensures.none c.args.finder.now.case.now g.spans c.args.limit c.w.ensures.case c.requires.1.1.1
    ((rw (to_z-of_z c.ranges.limit) at c.greatest_lower_above.ensures.none) none)
