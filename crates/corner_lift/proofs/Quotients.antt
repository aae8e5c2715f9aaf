-- Quotients that are rounded to a whole number.
use Rattle.std.proofs.Common.{◌≡◌, ⊎_elim, inl, inr, sym, Option, None, Some, IfSome, ◌∙◌, ℕ, ◌+◌, ◌*◌, ◌/◌, ◌^◌, ◌<◌, ◌≤◌, ℤ, pos, negsuc, ◌+ℤ◌, ◌-ℤ◌, ◌*ℤ◌, ◌≤ℤ◌, ◌<ℤ◌, nat_abs, unsigned_abs, SFits, w64, to_z, of_z, to_z-of_z, arith, lt_of_mul-lt-mul_right}
use mir.Syntax.{w128}
use Rattle.std.specs.Int.{div_ceil}
use Rattle.std.proofs.Math.Nat.{lt-div-mul-add, div-lt_iff_lt-mul}
use Rattle.std.proofs.lemmas.Grind.{div_ceil_times}
use Rattle.std.proofs.lemmas.Int.{to_z_pos}
use Rattle.lift_poly.proofs.Ring.{linear, add-mul, one-mul, as_diff, diffs, diff-same, mul-comm, mul-assoc, mul-le, mul-lt}
use Rattle.corner_lift.specs.Quotient.{IsRoundedUp, IsRoundedUpFrom, IsRoundedDown, AtEachScale}

-- ---- rounded down

-- q is the quotient of sum by whole, rounded down
pub record IsFloor (sum whole : ℤ) (q : ℕ) : Type 0 where
  pub fits : q < 2 ^ 41
  pub most : (pos q *ℤ whole) ≤ℤ sum
  pub less : sum <ℤ ((pos q +ℤ pos 1) *ℤ whole)

is_floor : (sum whole : ℤ) → pos 0 ≤ℤ sum → pos 1 ≤ℤ whole → sum <ℤ (pos (2 ^ 41) *ℤ whole) → IsFloor sum whole (unsigned_abs sum / unsigned_abs whole)
is_floor (pos o) (pos l) least some most =
    let l_some : 0 < l = omega (arith, linear) in
    let o_most : o < 2 ^ 41 * l = omega (arith, linear, most) in
    let part : o / l * l ≤ o = omega arith in
    record {
      fits = (div-lt_iff_lt-mul {k = l} {x = o} {y = 2 ^ 41} l_some).1 o_most;
      most = omega (arith, linear, part);
      less = omega (arith, linear, lt-div-mul-add {a = o} {b = l} l_some, add-mul (pos (o / l)) (pos 1) (pos l), one-mul (pos l));
    }
is_floor (negsuc o) whole least some most = absurd (omega (arith, linear))
is_floor (pos o) (negsuc l) least some most = absurd (omega (arith, linear))

-- the same, as the code computes it
pub floor_of : (sum whole : ℤ) → SFits w128 sum → SFits w128 whole → pos 0 ≤ℤ sum → pos 1 ≤ℤ whole → sum <ℤ (pos (2 ^ 41) *ℤ whole) → IsFloor sum whole (unsigned_abs (to_z w128 (of_z w128 sum)) / unsigned_abs (to_z w128 (of_z w128 whole)))
floor_of sum whole sum_fits whole_fits least some most = rw (to_z-of_z sum_fits, to_z-of_z whole_fits) (is_floor sum whole least some most)

pub floor_fits : (q : ℕ) → q < 2 ^ 41 → SFits w64 (pos q)
floor_fits q lt = record { sfits = omega (arith, linear) }

pub floor_is : (q : ℕ) → q < 2 ^ 41 → to_z w64 q ≡ pos q
floor_is q lt = to_z_pos w64 q (omega arith)

-- ---- rounded up

pub less_one-mul : (x c : ℤ) → (x -ℤ pos 1) *ℤ c ≡ x *ℤ c -ℤ c
less_one-mul x c = rw (as_diff x, as_diff c) (simp diffs (diff-same _ _ _ _ (omega arith)))

pub less_one_below : (x c a : ℤ) → (x *ℤ c) <ℤ (a +ℤ c) → ((x -ℤ pos 1) *ℤ c) <ℤ a
less_one_below x c a h = rw less_one-mul (omega (arith, linear, h))

-- q is the quotient of sum by whole, rounded up
pub record IsCeiling (sum whole : ℤ) (q : ℕ) : Type 0 where
  pub fits : q ≤ 2 ^ 40
  pub enough : sum ≤ℤ (pos q *ℤ whole)
  pub least : ((pos q -ℤ pos 1) *ℤ whole) <ℤ sum

pub is_ceiling : (sum whole : ℤ) (q : ℕ) → pos 0 ≤ℤ sum → pos 1 ≤ℤ whole → sum ≤ℤ (pos (2 ^ 40) *ℤ whole) → q ≡ div_ceil (nat_abs sum) (nat_abs whole) → IsCeiling sum whole q
is_ceiling (pos a) (pos b) q least positive most e =
    let bounds = div_ceil_times a b (omega (arith, linear)) in
    let below : q * b < (2 ^ 40 + 1) * b = rw e (omega (arith, linear, bounds.1)) in
    let small : q < 2 ^ 40 + 1 = lt_of_mul-lt-mul_right b below in
    record {
      fits = omega arith;
      enough = rw e (omega (arith, linear, bounds.0));
      least = less_one_below (pos q) (pos b) (pos a) (rw e (omega (arith, linear, bounds.1)));
    }
is_ceiling (negsuc a) whole q least positive most e = absurd (omega (arith, linear))
is_ceiling (pos a) (negsuc b) q least positive most e = absurd (omega (arith, linear))

-- the same, as the code computes it
pub ceiling_of : (sum whole : ℤ) (q : ℕ) → SFits w128 sum → SFits w128 whole → pos 0 ≤ℤ sum → pos 1 ≤ℤ whole → sum ≤ℤ (pos (2 ^ 40) *ℤ whole) → q ≡ div_ceil (nat_abs (to_z w128 (of_z w128 sum))) (nat_abs (to_z w128 (of_z w128 whole))) → IsCeiling sum whole q
ceiling_of sum whole q sum_fits whole_fits least positive most e = is_ceiling sum whole q least positive most (simp to_z-of_z at e)

pub ceiling_fits : (q : ℕ) → q ≤ 2 ^ 40 → SFits w64 (pos q)
ceiling_fits q le = record { sfits = omega (arith, linear) }

pub ceiling_is : (q : ℕ) → q ≤ 2 ^ 40 → to_z w64 q ≡ pos q
ceiling_is q le = to_z_pos w64 q (omega arith)

-- ---- sums and wholes that were divided by the same number

turned : (n whole scale : ℤ) → n *ℤ (whole *ℤ scale) ≡ scale *ℤ (n *ℤ whole)
turned n whole scale = sym (mul-assoc n whole scale) ∙ mul-comm (n *ℤ whole) scale

scaled_enough : (n sum whole scale : ℤ) → pos 1 ≤ℤ scale → sum ≤ℤ (n *ℤ whole) → (sum *ℤ scale) ≤ℤ (n *ℤ (whole *ℤ scale))
scaled_enough n sum whole scale some le = omega (arith, linear, mul-le scale sum (n *ℤ whole) (omega (arith, linear, some)) le, turned n whole scale, mul-comm sum scale)

scaled_less : (n sum whole scale : ℤ) → pos 1 ≤ℤ scale → (n *ℤ whole) <ℤ sum → (n *ℤ (whole *ℤ scale)) <ℤ (sum *ℤ scale)
scaled_less n sum whole scale some lt = omega (arith, linear, mul-lt scale (n *ℤ whole) sum (omega (arith, linear, some)) lt, turned n whole scale, mul-comm sum scale)

scaled_within : (n sum whole scale : ℤ) → pos 1 ≤ℤ scale → (n *ℤ whole) ≤ℤ sum → (n *ℤ (whole *ℤ scale)) ≤ℤ (sum *ℤ scale)
scaled_within n sum whole scale some le = omega (arith, linear, mul-le scale (n *ℤ whole) sum (omega (arith, linear, some)) le, turned n whole scale, mul-comm sum scale)

scaled_above : (n sum whole scale : ℤ) → pos 1 ≤ℤ scale → sum <ℤ (n *ℤ whole) → (sum *ℤ scale) <ℤ (n *ℤ (whole *ℤ scale))
scaled_above n sum whole scale some lt = omega (arith, linear, mul-lt scale sum (n *ℤ whole) (omega (arith, linear, some)) lt, turned n whole scale, mul-comm sum scale)

-- the quotients are the same
pub from_scaled : (n sum whole v scale : ℤ) → pos 1 ≤ℤ scale → IsRoundedUpFrom n sum whole v → IsRoundedUpFrom n (sum *ℤ scale) (whole *ℤ scale) v
from_scaled n sum whole v scale some found = ⊎_elim
    (λ (still : (v ≡ n) × (sum ≤ℤ (n *ℤ whole))). inl (still.0, scaled_enough n sum whole scale some still.1))
    (λ (rose : ((n *ℤ whole) <ℤ sum) × IsRoundedUp sum whole v). inr (scaled_less n sum whole scale some rose.0, (scaled_enough v sum whole scale some rose.1.0, scaled_less (v -ℤ pos 1) sum whole scale some rose.1.1)))
    found

pub some_scaled : (n sum whole : ℤ) (found : Option ℤ) → IfSome found (λ v. IsRoundedUpFrom n sum whole v) → IfSome found (λ v. AtEachScale (λ sum whole. IsRoundedUpFrom n sum whole v) sum whole)
some_scaled n sum whole None h = tt
some_scaled n sum whole (Some v) h = λ scale some. from_scaled n sum whole v scale some h

pub down_scaled : (sum whole q scale : ℤ) → pos 1 ≤ℤ scale → IsRoundedDown sum whole q → IsRoundedDown (sum *ℤ scale) (whole *ℤ scale) q
down_scaled sum whole q scale some down = (scaled_within q sum whole scale some down.0, scaled_above (q +ℤ pos 1) sum whole scale some down.1)
