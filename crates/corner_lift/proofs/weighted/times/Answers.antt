use Rattle.std.proofs.Common.{rules, ◌≡◌, ◌≤◌, ◌*◌, ◌^◌, ◌*ℤ◌, ℕ, ℤ, pos, length, unsigned_abs, FitsSigned, to_z, of_z, to_z-of_z, SFits, w64, sym, ap, ◌∙◌, arith, mul-le-mul, mul_assoc, le_refl, refl}
use mir.Syntax.{w128}
use Rattle.std.proofs.lemmas.Int.{fits_signed_from_abs, unsigned_abs-mul}
use Rattle.lift_poly.specs.Arithmetic as polynomial
use Rattle.lift_poly.proofs.Ring.{mul-zero}
use Rattle.corner_lift.specs.Ends.{weight_at, greatest_end}
use Rattle.corner_lift.proofs.weighted.times.Goals as goal
use Rattle.corner_lift.proofs.weighted.times.Goals.{After-from}

product_size : (w n : ℤ) (s b : ℕ) → unsigned_abs w ≤ s * b → unsigned_abs (w *ℤ n) ≤ s * (b * unsigned_abs n)
product_size w n s b h = rw (unsigned_abs-mul w n, ← mul_assoc s b (unsigned_abs n)) (mul-le-mul h (le_refl (unsigned_abs n)))

-- the two factors, as the code has them
left_is : (c : After-from) → to_z w128 (of_z w128 c.weight.result) ≡ weight_at c.args.d c.args.ends.now c.args.entry.now.poly
left_is c =
    let d_fits : SFits w64 c.args.d = c.ranges.d in
    let w_fits : SFits w128 c.weight.result = search rules in
    to_z-of_z w_fits ∙ (rw c.deref.ensures at (simp to_z-of_z at c.weight.ensures.value))

right_is : (c : After-from) → to_z w128 (of_z w128 c.from.result) ≡ c.args.number
right_is c =
    let n_fits : SFits w64 c.args.number = c.ranges.number in
    let f_fits : SFits w128 c.from.result = search rules in
    to_z-of_z f_fits ∙ c.from.ensures ∙ to_z-of_z n_fits

size_is : (c : After-from) → unsigned_abs (weight_at c.args.d c.args.ends.now c.args.entry.now.poly *ℤ c.args.number) ≤ polynomial.abs_sum c.args.entry.now.poly * (greatest_end c.args.d c.args.ends.now ^ length c.args.ends.now * unsigned_abs c.args.number)
size_is c =
    let d_fits : SFits w64 c.args.d = c.ranges.d in
    let w_fits : SFits w128 c.weight.result = search rules in
    let size = rw c.deref.ensures at (simp to_z-of_z at c.weight.ensures.size) in
    product_size _ c.args.number (polynomial.abs_sum c.args.entry.now.poly) _ (rw (← left_is c, to_z-of_z w_fits) size)

fits : (c : After-from) → FitsSigned w128 (weight_at c.args.d c.args.ends.now c.args.entry.now.poly *ℤ c.args.number)
fits c = fits_signed_from_abs w128 (weight_at c.args.d c.args.ends.now c.args.entry.now.poly *ℤ c.args.number) (omega (arith, size_is c, c.requires.room))

pub returns-then-number-eq0-clause-value : goal.returns-then-number-eq0-clause-value
returns-then-number-eq0-clause-value c =
    let n_fits : SFits w64 c.args.number = c.ranges.number in
    let none : c.args.number ≡ pos 0 = sym (to_z-of_z n_fits) ∙ ap (to_z w64) c.if-number-eq0.true in
    rw none (sym (mul-zero (weight_at c.args.d c.args.ends.now c.args.entry.now.poly)))

pub overflow_mul-result : goal.overflow_mul-result
overflow_mul-result c = rw (left_is c, right_is c) (fits c)

pub returns : goal.returns
returns c = rw (left_is c, right_is c, to_z-of_z (fits c)) (record { value = refl; size = size_is c })
