use Rattle.std.proofs.Common.{rules, ◌≡◌, SFits, w64, to_z, of_z, to_z-of_z, sym, ◌∙◌, subst, pos, ◌+ℤ◌}
use Rattle.lift_grid.specs.Rectangle.{spans_of}
use Rattle.lift_dual.specs.Property.{IsLowSide, IsHighSide}
use Rattle.property_tree.proofs.Deciding.{lower_decides, none_below, lower_all_decides, none_below_all}
use Rattle.property_tree.proofs.decision.ComparisonSought.find_below.Goals as goal

pub lower_all_above-requires : goal.lower_all_above-requires
lower_all_above-requires c =
    let limit = c.greatest_low-limit.result in
    let fits : SFits w64 limit = search rules in
    let same : to_z w64 (of_z w64 limit) ≡ limit = to_z-of_z fits in
    (c.requires.asked, (c.requires.filled, (c.requires.pools, rw same c.greatest_low-limit.ensures.least)))

pub returns-then-is_upper-clause-found : goal.returns-then-is_upper-clause-found
returns-then-is_upper-clause-found c =
    let ask = c.args.self.now in
    let k = c.args.finder.now.case.now in
    let limit = c.greatest_low-limit.result in
    let fits : SFits w64 limit = search rules in
    let same : to_z w64 (of_z w64 limit) ≡ limit = to_z-of_z fits in
    let low = subst (λ w. IsLowSide ask.op ask.bound w limit) c.w.ensures.value c.greatest_low-limit.ensures.low in
    let high = subst (λ w. IsHighSide ask.op ask.bound w (limit +ℤ pos 1)) c.w.ensures.value c.greatest_low-limit.ensures.high in
    let kind = sym c.is_upper.ensures ∙ c.if-is_upper.true in
    lower_decides k ask.op ask.bound (spans_of c.args.finder.now.sides.now) limit low high c.sides_are_apart.ensures.apart kind c.greatest_lower_above.new.pools c.greatest_lower_above.result (rw same at c.greatest_lower_above.ensures.some)

pub returns-then-is_upper-clause-none : goal.returns-then-is_upper-clause-none
returns-then-is_upper-clause-none c none =
    let ask = c.args.self.now in
    let k = c.args.finder.now.case.now in
    let limit = c.greatest_low-limit.result in
    let fits : SFits w64 limit = search rules in
    let same : to_z w64 (of_z w64 limit) ≡ limit = to_z-of_z fits in
    let low = subst (λ w. IsLowSide ask.op ask.bound w limit) c.w.ensures.value c.greatest_low-limit.ensures.low in
    let high = subst (λ w. IsHighSide ask.op ask.bound w (limit +ℤ pos 1)) c.w.ensures.value c.greatest_low-limit.ensures.high in
    let kind = sym c.is_upper.ensures ∙ c.if-is_upper.true in
    none_below k ask.op ask.bound (spans_of c.args.finder.now.sides.now) limit low high c.sides_are_apart.ensures.apart kind c.ranks_fit.ensures.any c.w.ensures.case (rw same at c.greatest_lower_above.ensures.none none)

pub returns-else-is_upper-clause-found : goal.returns-else-is_upper-clause-found
returns-else-is_upper-clause-found c =
    let ask = c.args.self.now in
    let k = c.args.finder.now.case.now in
    let limit = c.greatest_low-limit.result in
    let fits : SFits w64 limit = search rules in
    let same : to_z w64 (of_z w64 limit) ≡ limit = to_z-of_z fits in
    let low = subst (λ w. IsLowSide ask.op ask.bound w limit) c.w.ensures.value c.greatest_low-limit.ensures.low in
    let high = subst (λ w. IsHighSide ask.op ask.bound w (limit +ℤ pos 1)) c.w.ensures.value c.greatest_low-limit.ensures.high in
    let kind = sym c.is_upper.ensures ∙ c.if-is_upper.false in
    lower_all_decides k ask.op ask.bound (spans_of c.args.finder.now.sides.now) limit low high c.sides_are_apart.ensures.apart kind c.lower_all_above.new.pools c.lower_all_above.result (rw same at c.lower_all_above.ensures.some)

pub returns-else-is_upper-clause-none : goal.returns-else-is_upper-clause-none
returns-else-is_upper-clause-none c none =
    let ask = c.args.self.now in
    let k = c.args.finder.now.case.now in
    let limit = c.greatest_low-limit.result in
    let fits : SFits w64 limit = search rules in
    let same : to_z w64 (of_z w64 limit) ≡ limit = to_z-of_z fits in
    let low = subst (λ w. IsLowSide ask.op ask.bound w limit) c.w.ensures.value c.greatest_low-limit.ensures.low in
    let high = subst (λ w. IsHighSide ask.op ask.bound w (limit +ℤ pos 1)) c.w.ensures.value c.greatest_low-limit.ensures.high in
    let kind = sym c.is_upper.ensures ∙ c.if-is_upper.false in
    none_below_all k ask.op ask.bound (spans_of c.args.finder.now.sides.now) limit low high c.sides_are_apart.ensures.apart kind (rw same at c.lower_all_above.ensures.none none)
