use Rattle.std.proofs.Common.{rules, ◌≡◌, ◌<◌, ◌≤◌, ◌*◌, ◌/◌, ◌%◌, ◌^◌, pos, ◌+ℤ◌, ◌-ℤ◌, ◌*ℤ◌, sym, ap, ◌∙◌, subst, w64, to_z, of_z, to_z-of_z, arith}
use Rattle.lift_poly.proofs.Ring.{linear}
use Rattle.lift_dual.specs.Property.{IsLowSide, IsHighSide}
use Rattle.property_tree.proofs.Beside.{IsQuotient, is_quotient, is_whole, quotient_fits, quotient_is, less_fits, and_one, closed_high, apart_high, exact_low, exact_high}
use Rattle.property_tree.proofs.sides.greatest_low.Goals as goal

pub overflow_cast-within : goal.overflow_cast-within
overflow_cast-within c =
    let b = c.bound.inside in
    let w = c.args.w in
    let narrow : b.num < 2 ^ 32 = search rules in
    let is = is_quotient b.num b.den w c.bound.invariant.most c.bound.invariant.positive c.requires in
    let whole = is_whole b.num w narrow c.requires in
    rw (c.from.ensures, c.from-den.ensures, whole) (quotient_fits _ is.fits)

pub returns-then-is_closed-clause-high : goal.returns-then-is_closed-clause-high
returns-then-is_closed-clause-high c =
    let b = c.bound.inside in
    let w = c.args.w in
    let narrow : b.num < 2 ^ 32 = search rules in
    let is = is_quotient b.num b.den w c.bound.invariant.most c.bound.invariant.positive c.requires in
    let whole = is_whole b.num w narrow c.requires in
    let q = b.num * 2 ^ w / b.den in
    let same : to_z w64 (c.from.result * 2 ^ w % 2 ^ 128 / c.from-den.result) ≡ pos q = rw (c.from.ensures, c.from-den.ensures, whole) (quotient_is q is.fits) in
    let num : c.args.bound.num ≡ b.num = search rules in
    let den : c.args.bound.den ≡ b.den = search rules in
    let r = b.num * 2 ^ w % b.den in
    let quotient : IsQuotient c.args.bound.num c.args.bound.den w q r = rw (num, den) is in
    let kind = sym c.is_closed.ensures ∙ c.if-is_closed.true in
    subst (λ z. IsHighSide c.args.op c.args.bound w (z +ℤ pos 1)) (sym same) (closed_high c.args.bound w q r quotient c.args.op kind)

pub returns-then-is_closed-clause-least : goal.returns-then-is_closed-clause-least
returns-then-is_closed-clause-least c =
    let b = c.bound.inside in
    let w = c.args.w in
    let narrow : b.num < 2 ^ 32 = search rules in
    let is = is_quotient b.num b.den w c.bound.invariant.most c.bound.invariant.positive c.requires in
    let whole = is_whole b.num w narrow c.requires in
    let q = b.num * 2 ^ w / b.den in
    let same : to_z w64 (c.from.result * 2 ^ w % 2 ^ 128 / c.from-den.result) ≡ pos q = rw (c.from.ensures, c.from-den.ensures, whole) (quotient_is q is.fits) in
    rw same (omega (arith, linear))

pub overflow_sub-result : goal.overflow_sub-result
overflow_sub-result c =
    let b = c.bound.inside in
    let w = c.args.w in
    let narrow : b.num < 2 ^ 32 = search rules in
    let is = is_quotient b.num b.den w c.bound.invariant.most c.bound.invariant.positive c.requires in
    let whole = is_whole b.num w narrow c.requires in
    let q = b.num * 2 ^ w / b.den in
    let same : to_z w64 (c.from.result * 2 ^ w % 2 ^ 128 / c.from-den.result) ≡ pos q = rw (c.from.ensures, c.from-den.ensures, whole) (quotient_is q is.fits) in
    rw same (less_fits q is.fits)

pub returns-then-scaled-den-eq0-clause-low : goal.returns-then-scaled-den-eq0-clause-low
returns-then-scaled-den-eq0-clause-low c =
    let b = c.bound.inside in
    let w = c.args.w in
    let narrow : b.num < 2 ^ 32 = search rules in
    let is = is_quotient b.num b.den w c.bound.invariant.most c.bound.invariant.positive c.requires in
    let whole = is_whole b.num w narrow c.requires in
    let q = b.num * 2 ^ w / b.den in
    let same : to_z w64 (c.from.result * 2 ^ w % 2 ^ 128 / c.from-den.result) ≡ pos q = rw (c.from.ensures, c.from-den.ensures, whole) (quotient_is q is.fits) in
    let less : to_z w64 (of_z w64 (to_z w64 (c.from.result * 2 ^ w % 2 ^ 128 / c.from-den.result) -ℤ pos 1)) ≡ pos q -ℤ pos 1 = ap (λ z. to_z w64 (of_z w64 (z -ℤ pos 1))) same ∙ to_z-of_z (less_fits q is.fits) in
    let num : c.args.bound.num ≡ b.num = search rules in
    let den : c.args.bound.den ≡ b.den = search rules in
    let r = b.num * 2 ^ w % b.den in
    let quotient : IsQuotient c.args.bound.num c.args.bound.den w q r = rw (num, den) is in
    let kind = sym c.is_closed.ensures ∙ c.if-is_closed.false in
    let none : r ≡ 0 = rw (c.from.ensures, c.from-den.ensures, whole) at c.if-scaled-den-eq0.true in
    let is_bound : (pos q *ℤ pos c.args.bound.den) ≡ (pos c.args.bound.num *ℤ pos (2 ^ w)) = omega (arith, linear, quotient.parts, none) in
    let exact : (((pos q -ℤ pos 1) +ℤ pos 1) *ℤ pos c.args.bound.den) ≡ (pos c.args.bound.num *ℤ pos (2 ^ w)) = ap (λ z. z *ℤ pos c.args.bound.den) (and_one q) ∙ is_bound in
    let positive : 1 ≤ c.args.bound.den = rw den c.bound.invariant.positive in
    subst (λ z. IsLowSide c.args.op c.args.bound w z) (sym less) (exact_low c.args.bound w positive (pos q -ℤ pos 1) exact c.args.op kind)

pub returns-then-scaled-den-eq0-clause-high : goal.returns-then-scaled-den-eq0-clause-high
returns-then-scaled-den-eq0-clause-high c =
    let b = c.bound.inside in
    let w = c.args.w in
    let narrow : b.num < 2 ^ 32 = search rules in
    let is = is_quotient b.num b.den w c.bound.invariant.most c.bound.invariant.positive c.requires in
    let whole = is_whole b.num w narrow c.requires in
    let q = b.num * 2 ^ w / b.den in
    let same : to_z w64 (c.from.result * 2 ^ w % 2 ^ 128 / c.from-den.result) ≡ pos q = rw (c.from.ensures, c.from-den.ensures, whole) (quotient_is q is.fits) in
    let less : to_z w64 (of_z w64 (to_z w64 (c.from.result * 2 ^ w % 2 ^ 128 / c.from-den.result) -ℤ pos 1)) ≡ pos q -ℤ pos 1 = ap (λ z. to_z w64 (of_z w64 (z -ℤ pos 1))) same ∙ to_z-of_z (less_fits q is.fits) in
    let num : c.args.bound.num ≡ b.num = search rules in
    let den : c.args.bound.den ≡ b.den = search rules in
    let r = b.num * 2 ^ w % b.den in
    let quotient : IsQuotient c.args.bound.num c.args.bound.den w q r = rw (num, den) is in
    let kind = sym c.is_closed.ensures ∙ c.if-is_closed.false in
    let none : r ≡ 0 = rw (c.from.ensures, c.from-den.ensures, whole) at c.if-scaled-den-eq0.true in
    let is_bound : (pos q *ℤ pos c.args.bound.den) ≡ (pos c.args.bound.num *ℤ pos (2 ^ w)) = omega (arith, linear, quotient.parts, none) in
    let exact : (((pos q -ℤ pos 1) +ℤ pos 1) *ℤ pos c.args.bound.den) ≡ (pos c.args.bound.num *ℤ pos (2 ^ w)) = ap (λ z. z *ℤ pos c.args.bound.den) (and_one q) ∙ is_bound in
    let positive : 1 ≤ c.args.bound.den = rw den c.bound.invariant.positive in
    subst (λ z. IsHighSide c.args.op c.args.bound w (z +ℤ pos 1)) (sym less) (exact_high c.args.bound w positive (pos q -ℤ pos 1) exact c.args.op kind)

pub returns-then-scaled-den-eq0-clause-least : goal.returns-then-scaled-den-eq0-clause-least
returns-then-scaled-den-eq0-clause-least c =
    let b = c.bound.inside in
    let w = c.args.w in
    let narrow : b.num < 2 ^ 32 = search rules in
    let is = is_quotient b.num b.den w c.bound.invariant.most c.bound.invariant.positive c.requires in
    let whole = is_whole b.num w narrow c.requires in
    let q = b.num * 2 ^ w / b.den in
    let same : to_z w64 (c.from.result * 2 ^ w % 2 ^ 128 / c.from-den.result) ≡ pos q = rw (c.from.ensures, c.from-den.ensures, whole) (quotient_is q is.fits) in
    let less : to_z w64 (of_z w64 (to_z w64 (c.from.result * 2 ^ w % 2 ^ 128 / c.from-den.result) -ℤ pos 1)) ≡ pos q -ℤ pos 1 = ap (λ z. to_z w64 (of_z w64 (z -ℤ pos 1))) same ∙ to_z-of_z (less_fits q is.fits) in
    rw (less, and_one q) (omega (arith, linear))

pub returns-else-scaled-den-eq0-clause-high : goal.returns-else-scaled-den-eq0-clause-high
returns-else-scaled-den-eq0-clause-high c =
    let b = c.bound.inside in
    let w = c.args.w in
    let narrow : b.num < 2 ^ 32 = search rules in
    let is = is_quotient b.num b.den w c.bound.invariant.most c.bound.invariant.positive c.requires in
    let whole = is_whole b.num w narrow c.requires in
    let q = b.num * 2 ^ w / b.den in
    let same : to_z w64 (c.from.result * 2 ^ w % 2 ^ 128 / c.from-den.result) ≡ pos q = rw (c.from.ensures, c.from-den.ensures, whole) (quotient_is q is.fits) in
    let num : c.args.bound.num ≡ b.num = search rules in
    let den : c.args.bound.den ≡ b.den = search rules in
    let r = b.num * 2 ^ w % b.den in
    let quotient : IsQuotient c.args.bound.num c.args.bound.den w q r = rw (num, den) is in
    let kind = sym c.is_closed.ensures ∙ c.if-is_closed.false in
    subst (λ z. IsHighSide c.args.op c.args.bound w (z +ℤ pos 1)) (sym same) (apart_high c.args.bound w q r quotient c.args.op kind)

pub returns-else-scaled-den-eq0-clause-least : goal.returns-else-scaled-den-eq0-clause-least
returns-else-scaled-den-eq0-clause-least c =
    let b = c.bound.inside in
    let w = c.args.w in
    let narrow : b.num < 2 ^ 32 = search rules in
    let is = is_quotient b.num b.den w c.bound.invariant.most c.bound.invariant.positive c.requires in
    let whole = is_whole b.num w narrow c.requires in
    let q = b.num * 2 ^ w / b.den in
    let same : to_z w64 (c.from.result * 2 ^ w % 2 ^ 128 / c.from-den.result) ≡ pos q = rw (c.from.ensures, c.from-den.ensures, whole) (quotient_is q is.fits) in
    rw same (omega (arith, linear))
