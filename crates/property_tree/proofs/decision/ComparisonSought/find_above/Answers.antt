use Rattle.std.proofs.Common.{rules, ◌≡◌, SFits, w64, to_z, of_z, to_z-of_z, sym, ◌∙◌, subst, pos, ◌+ℤ◌}
use Rattle.lift_grid.specs.Rectangle.{spans_of}
use Rattle.lift_dual.specs.Property.{IsLowSide, IsHighSide}
use Rattle.property_tree.proofs.Deciding.{upper_decides, none_above, upper_one_decides, none_above_one}
use Rattle.property_tree.proofs.decision.ComparisonSought.find_above.Goals as goal

pub returns-then-is_upper-clause-found : goal.returns-then-is_upper-clause-found
returns-then-is_upper-clause-found c done =
    let ask = c.args.self.now in
    let k = c.args.finder.now.case.now in
    let limit = c.greatest_low-limit.result in
    let fits : SFits w64 limit = search rules in
    let same : to_z w64 (of_z w64 limit) ≡ limit = to_z-of_z fits in
    let low = subst (λ w. IsLowSide ask.op ask.bound w limit) c.w.ensures.value c.greatest_low-limit.ensures.low in
    let high = subst (λ w. IsHighSide ask.op ask.bound w (limit +ℤ pos 1)) c.w.ensures.value c.greatest_low-limit.ensures.high in
    let kind = sym c.is_upper.ensures ∙ c.if-is_upper.true in
    upper_decides k ask.op ask.bound (spans_of c.args.finder.now.sides.now) limit low high c.sides_are_apart.ensures.apart kind c.least_upper_within.new.pools c.least_upper_within.result (rw same at c.least_upper_within.ensures.least) done

pub returns-then-is_upper-clause-none : goal.returns-then-is_upper-clause-none
returns-then-is_upper-clause-none c stopped =
    let ask = c.args.self.now in
    let k = c.args.finder.now.case.now in
    let limit = c.greatest_low-limit.result in
    let fits : SFits w64 limit = search rules in
    let same : to_z w64 (of_z w64 limit) ≡ limit = to_z-of_z fits in
    let low = subst (λ w. IsLowSide ask.op ask.bound w limit) c.w.ensures.value c.greatest_low-limit.ensures.low in
    let high = subst (λ w. IsHighSide ask.op ask.bound w (limit +ℤ pos 1)) c.w.ensures.value c.greatest_low-limit.ensures.high in
    let kind = sym c.is_upper.ensures ∙ c.if-is_upper.true in
    none_above k ask.op ask.bound (spans_of c.args.finder.now.sides.now) limit low high c.sides_are_apart.ensures.apart kind (rw same at c.least_upper_within.ensures.least.past stopped)

pub returns-else-is_upper-clause-found : goal.returns-else-is_upper-clause-found
returns-else-is_upper-clause-found c done =
    let ask = c.args.self.now in
    let k = c.args.finder.now.case.now in
    let limit = c.greatest_low-limit.result in
    let fits : SFits w64 limit = search rules in
    let same : to_z w64 (of_z w64 limit) ≡ limit = to_z-of_z fits in
    let low = subst (λ w. IsLowSide ask.op ask.bound w limit) c.w.ensures.value c.greatest_low-limit.ensures.low in
    let high = subst (λ w. IsHighSide ask.op ask.bound w (limit +ℤ pos 1)) c.w.ensures.value c.greatest_low-limit.ensures.high in
    let kind = sym c.is_upper.ensures ∙ c.if-is_upper.false in
    upper_one_decides k ask.op ask.bound (spans_of c.args.finder.now.sides.now) limit low high c.sides_are_apart.ensures.apart kind c.upper_one_within.new.pools c.upper_one_within.result (rw same at c.upper_one_within.ensures.least) done

pub returns-else-is_upper-clause-none : goal.returns-else-is_upper-clause-none
returns-else-is_upper-clause-none c stopped =
    let ask = c.args.self.now in
    let k = c.args.finder.now.case.now in
    let limit = c.greatest_low-limit.result in
    let fits : SFits w64 limit = search rules in
    let same : to_z w64 (of_z w64 limit) ≡ limit = to_z-of_z fits in
    let low = subst (λ w. IsLowSide ask.op ask.bound w limit) c.w.ensures.value c.greatest_low-limit.ensures.low in
    let high = subst (λ w. IsHighSide ask.op ask.bound w (limit +ℤ pos 1)) c.w.ensures.value c.greatest_low-limit.ensures.high in
    let kind = sym c.is_upper.ensures ∙ c.if-is_upper.false in
    none_above_one k ask.op ask.bound (spans_of c.args.finder.now.sides.now) limit low high c.sides_are_apart.ensures.apart kind (rw same at c.upper_one_within.ensures.least.past stopped)
