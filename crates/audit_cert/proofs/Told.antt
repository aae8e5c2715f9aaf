-- What is told of a mean that isn't met: of two numbers the one that should be at most the other, which it is exactly where the state's number keeps to its side.
use Rattle.std.proofs.Common.{◌≡◌, ◌^◌, ◌≤◌, ℕ, zero, suc, Bool, true, false, ℤ, pos, negsuc, ◌+ℤ◌, ◌-ℤ◌, ◌*ℤ◌, ◌≤ℤ◌, ◌<ℤ◌, int_le, cond, unsigned_abs, refl, arith}
use Rattle.std.specs.Prelude.{◌↔◌}
use Rattle.std.proofs.lemmas.Int.{ints, by_lt_z}
use Rattle.std.proofs.lemmas.Nat.{pow_pos}
use borrow.Author.Differences.{product_is}
use Rattle.lift_poly.proofs.Ring.{linear, mul-le, mul-comm, le_from_test, test_from_le}
use Rattle.lift_model.specs.Process.{power}
use Rattle.corner_lift.specs.Case.{CaseData, IsCase, row_whole, row_parameters}
use Rattle.lift_model.specs.Model.{row_at}
use Rattle.lift_cost.specs.Certificate.{price_over}
use Rattle.audit_cert.specs.Claim.{Kind, KeepsSide}
use Rattle.audit_cert.specs.Claim.Kind.{upper, lower, priced}
use Rattle.audit_cert.specs.Miss.{left_over, lesser, greater}

-- ---- wholes

power-some : (d : ℤ) (n : ℕ) → pos 0 <ℤ d → pos 1 ≤ℤ power d n
power-some d zero h = omega (arith, linear)
power-some d (suc n) h =
    let more = mul-le d (pos 1) (power d n) (omega (arith, linear, h)) (power-some d n h) in
    let one : d *ℤ pos 1 ≡ d = omega (arith, linear, product_is) in
    omega (arith, linear, more, one, h)

-- a row's whole is at least 1
pub whole-some : (k : CaseData) (s a : ℕ) → IsCase k → pos 1 ≤ℤ row_whole k s a
whole-some k s a is =
    let d_power = power-some k.d (row_parameters k (row_at k.model s a)) is.asked.grid.positive in
    let common = is.asked.model.denominator.0 in
    let more = mul-le k.model.common (pos 1) (power k.d (row_parameters k (row_at k.model s a))) (omega (arith, linear, common)) d_power in
    let one : k.model.common *ℤ pos 1 ≡ k.model.common = omega (arith, linear, product_is) in
    omega (arith, linear, more, one, common)

-- ---- prices

minus-one : (a : ℤ) → (negsuc 0 *ℤ a) +ℤ a ≡ pos 0
minus-one a = omega (arith, linear, product_is)

-- a number below its price leaves less than nothing of the whole
sinks : (n price whole : ℤ) → n <ℤ price → pos 1 ≤ℤ whole → ((n -ℤ price) *ℤ whole) <ℤ pos 0
sinks n price whole lt some =
    let less = mul-le whole (n -ℤ price) (negsuc 0) (omega (arith, linear, some)) (omega (arith, linear, lt)) in
    omega (arith, linear, less, some, mul-comm whole (n -ℤ price), mul-comm whole (negsuc 0), minus-one whole)

below_price : (price n : ℤ) → int_le price n ≡ false → n <ℤ price
below_price price n isnt = by_lt_z n price (λ lt. lt) (λ le. let is = test_from_le price n le in absurd (cc (isnt, is)))

module _ (price n sum whole : ℤ) (least : pos 0 ≤ℤ sum) (some : pos 1 ≤ℤ whole) where
  paid_by : (test : Bool) → int_le price n ≡ test → (sum ≤ℤ (cond test (n -ℤ price) (negsuc 0) *ℤ whole)) ↔ (sum ≤ℤ ((n -ℤ price) *ℤ whole))
  paid_by true is = (λ h. h, λ h. h)
  paid_by false isnt = (
    λ h. absurd (omega (arith, linear, h, least, some, minus-one whole)),
    λ h. absurd (omega (arith, linear, h, least, sinks n price whole (below_price price n isnt) some)),
  )

-- what is told is on its side exactly where the state's number is
pub told : (w : ℕ) (kind : Kind) (s : ℕ) (n sum whole : ℤ) → pos 0 ≤ℤ sum → pos 1 ≤ℤ whole
    → (lesser kind sum (left_over w kind s n *ℤ whole) ≤ℤ greater kind sum (left_over w kind s n *ℤ whole)) ↔ KeepsSide w kind s n sum whole
told w upper s n sum whole least some = (λ h. h, λ h. h)
told w lower s n sum whole least some = (λ h. h, λ h. h)
told w (priced costs cap) s n sum whole least some = paid_by (price_over w costs cap s) n sum whole least some (int_le (price_over w costs cap s) n) refl

-- ---- sizes

module _ (w : ℕ) (n : ℤ) (least : pos 0 ≤ℤ n) (most : n ≤ℤ pos (2 ^ w)) where
  size_by : (price : ℕ) (test : Bool) → int_le (pos price) n ≡ test → unsigned_abs (cond test (n -ℤ pos price) (negsuc 0)) ≤ 2 ^ w
  size_by price true is = let le = le_from_test (pos price) n is in omega (arith, ints, le, least, most)
  size_by price false isnt = omega (arith, ints, pow_pos w)

  -- what is left of a number is no longer than that
  pub left-size : (kind : Kind) (s : ℕ) → unsigned_abs (left_over w kind s n) ≤ 2 ^ w
  left-size upper s = omega (arith, ints, least, most)
  left-size lower s = omega (arith, ints, least, most)
  left-size (priced costs cap) s = size_by _ (int_le (price_over w costs cap s) n) refl

  most_by : (price : ℕ) (test : Bool) → int_le (pos price) n ≡ test → cond test (n -ℤ pos price) (negsuc 0) ≤ℤ pos (2 ^ w)
  most_by price true is = omega (arith, linear, most)
  most_by price false isnt = omega (arith, linear)

  pub left-most : (kind : Kind) (s : ℕ) → left_over w kind s n ≤ℤ pos (2 ^ w)
  left-most upper s = most
  left-most lower s = most
  left-most (priced costs cap) s = most_by _ (int_le (price_over w costs cap s) n) refl

  -- where nothing is left, no number of the least keeps to its side
  pub unmet : (kind : Kind) (s : ℕ) (sum whole : ℤ) → left_over w kind s n <ℤ pos 0 → pos 0 ≤ℤ sum → pos 1 ≤ℤ whole → KeepsSide w kind s n sum whole → ⊥
  unmet upper s sum whole less from some keeps = omega (arith, linear, less, least)
  unmet lower s sum whole less from some keeps = omega (arith, linear, less, least)
  unmet (priced costs cap) s sum whole less from some keeps =
      let at = (told w (priced costs cap) s n sum whole from some).1 keeps in
      let product = mul-le whole (left_over w (priced costs cap) s n) (negsuc 0) (omega (arith, linear, some)) (omega (arith, linear, less)) in
      omega (arith, linear, at, product, from, some, mul-comm whole (left_over w (priced costs cap) s n), mul-comm whole (negsuc 0), minus-one whole)
