use Rattle.std.proofs.Common.{rules, ◌≡◌, SFits, w64, to_z, of_z, to_z-of_z}
use Rattle.lift_grid.specs.Rectangle.{spans_of}
use Rattle.region_tree.specs.Decided.{lane}
use Rattle.region_tree.proofs.Verdicts.{is_accepted, none_accepts}
use Rattle.region_tree.proofs.at_most.BoundSought.find_above.Goals as goal

pub returns-clause-found : goal.returns-clause-found
returns-clause-found c done =
    let k = c.args.finder.now.case.now in
    let call = c.least_upper_within in
    let limit = c.greatest_within-limit.result in
    let fits : SFits w64 limit = search rules in
    let same : to_z w64 (of_z w64 limit) ≡ limit = to_z-of_z fits in
    is_accepted k (spans_of c.args.finder.now.sides.now) c.args.self.now limit (lane call.new.pools.values) (rw c.w.ensures.value at c.greatest_within-limit.ensures.within) (call.ensures.least.least done) (rw same at call.ensures.least.first done)

pub returns-clause-none : goal.returns-clause-none
returns-clause-none c stopped =
    let k = c.args.finder.now.case.now in
    let limit = c.greatest_within-limit.result in
    let fits : SFits w64 limit = search rules in
    let same : to_z w64 (of_z w64 limit) ≡ limit = to_z-of_z fits in
    none_accepts k (spans_of c.args.finder.now.sides.now) c.args.self.now limit (rw c.w.ensures.value at c.greatest_within-limit.ensures.beyond) (rw same at c.least_upper_within.ensures.least.past stopped)
