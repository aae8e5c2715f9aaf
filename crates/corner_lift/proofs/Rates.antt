-- Rates: what the code compares, a quotient of the whole with the weight, says whether the weight is enough.
use Rattle.std.proofs.Common.{◌≡◌, ◌+◌, ◌/◌, ◌*◌, ◌^◌, ◌<◌, ◌≤◌, ℕ, Bool, true, false, ℤ, pos, ◌-ℤ◌, ◌*ℤ◌, ◌≤ℤ◌, unsigned_abs, nat_lt, ltb-true, ltb-false, refl, arith, ⊎_elim, IsTrue}
use Rattle.std.specs.Prelude.{◌↔◌}
use Rattle.std.proofs.lemmas.Int.{ints}
use Rattle.std.proofs.lemmas.Nat.{div_below, le-div, pow_pos}
use Rattle.lift_poly.proofs.Ring.{linear}
use Rattle.corner_lift.proofs.Rows.{in_or_past}

either : {P : Type 0} (b : Bool) → (b ≡ true → P) → (b ≡ false → P) → P
either true f g = f refl
either false f g = g refl

-- a number is below a product exactly where its quotient is below the other factor
below_product : (below weight factor : ℕ) → 0 < factor → IsTrue (nat_lt (below / factor) weight) ↔ below < weight * factor
below_product below weight factor positive = (
  λ less.
      let lt = ltb-true (below / factor) weight less in
      ⊎_elim (λ (l : below < weight * factor). l) (λ (le : weight * factor ≤ below). absurd (omega (arith, lt, le-div weight below factor positive le))) (in_or_past below (weight * factor)),
  λ l.
      let lt = div_below below factor weight positive l in
      either (nat_lt (below / factor) weight) (λ e. e) (λ e. absurd (omega (arith, lt, ltb-false (below / factor) weight e))),
)

-- what the code compares says whether the weight is enough
pub is_enough_lem : (weight all : ℤ) (size below e : ℕ) → pos 0 ≤ℤ weight → pos 1 ≤ℤ all → size ≡ unsigned_abs weight → below ≡ unsigned_abs (all -ℤ pos 1) → IsTrue (nat_lt (below / 2 ^ e) size) ↔ all ≤ℤ (weight *ℤ pos (2 ^ e))
is_enough_lem weight all size below e least one size_is below_is =
    let test = below_product below size (2 ^ e) (pow_pos e) in
    let weight_is : weight ≡ pos size = omega (arith, ints, least, size_is) in
    let all_is : all ≡ pos (below + 1) = omega (arith, ints, one, below_is) in
    rw (weight_is, all_is) (λ less. let lt = test.0 less in omega (arith, linear, lt), λ le. test.1 (omega (arith, linear, le)))
