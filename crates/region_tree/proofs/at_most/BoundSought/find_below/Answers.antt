use Rattle.std.proofs.Common.{rules, ◌≡◌, SFits, w64, to_z, of_z, to_z-of_z}
use Rattle.lift_grid.specs.Rectangle.{spans_of}
use Rattle.region_tree.proofs.Verdicts.{greatest_beyond, none_rejects}
use Rattle.region_tree.proofs.at_most.BoundSought.find_below.Goals as goal

pub returns-clause-found : goal.returns-clause-found
returns-clause-found c =
    let k = c.args.finder.now.case.now in
    let call = c.greatest_lower_above in
    let limit = c.greatest_within-limit.result in
    let fits : SFits w64 limit = search rules in
    let same : to_z w64 (of_z w64 limit) ≡ limit = to_z-of_z fits in
    greatest_beyond k (spans_of c.args.finder.now.sides.now) c.args.self.now limit (rw c.w.ensures.value at c.greatest_within-limit.ensures.beyond) call.new.pools call.result (rw same at call.ensures.some)

pub returns-clause-none : goal.returns-clause-none
returns-clause-none c none =
    let k = c.args.finder.now.case.now in
    let limit = c.greatest_within-limit.result in
    let fits : SFits w64 limit = search rules in
    let same : to_z w64 (of_z w64 limit) ≡ limit = to_z-of_z fits in
    none_rejects k (spans_of c.args.finder.now.sides.now) c.args.self.now c.ranks_fit.ensures.any c.w.ensures.case limit (rw c.w.ensures.value at c.greatest_within-limit.ensures.within) (rw same at c.greatest_lower_above.ensures.none none)
