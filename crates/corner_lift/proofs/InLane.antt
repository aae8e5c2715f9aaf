-- Sums in numbers of 64 bits, as the code forms them.
use Rattle.std.proofs.Common.{◌≡◌, ℕ, ◌+◌, ◌<◌, List, length, take, get_or, ℤ, pos, ◌+ℤ◌, ◌*ℤ◌, FitsSigned, SFits, to_z, of_z, to_z-of_z, sym, ap, ap₂, ◌∙◌, arith}
use mir.Syntax.{w128, w64}
use Rattle.lift_poly.proofs.Ring.{linear, mul-comm, one-mul, mul-zero}
use Rattle.corner_lift.specs.Dot.{dot, CanSum, FitsLane}
use Rattle.corner_lift.proofs.Sums.{dot_more, lane_weight, lane_sum, lane_product}

module _ (z : ℕ → ℤ) (ws : List ℤ) (ts : List ℕ) (can : CanSum z ws ts) (lane : FitsLane z ws ts) (j : ℕ) (inside : j < length ts) where
  has_weight : j < length ws
  has_weight = omega (arith, inside, can.sizes)

  weight_fits : FitsSigned w64 (get_or ws j (pos 0))
  weight_fits = lane_weight z ws ts can lane j (pos 0) has_weight

  module _ (held : SFits w128 (get_or ws j (pos 0))) where
    pub weight_cast : FitsSigned w64 (to_z w128 (of_z w128 (get_or ws j (pos 0))))
    weight_cast = rw (to_z-of_z held) weight_fits

    weight_code : to_z w64 (of_z w64 (to_z w128 (of_z w128 (get_or ws j (pos 0))))) ≡ get_or ws j (pos 0)
    weight_code = ap (λ n. to_z w64 (of_z w64 n)) (to_z-of_z held) ∙ to_z-of_z weight_fits

    -- a target whose number is n: the next product, and the sum with it
    module _ (n : ℤ) (n_fits : SFits w64 n) (is : z (get_or ts j 0) ≡ n) where
      product_code : to_z w64 (of_z w64 (to_z w128 (of_z w128 (get_or ws j (pos 0))))) *ℤ to_z w64 (of_z w64 n) ≡ get_or ws j (pos 0) *ℤ z (get_or ts j 0)
      product_code = ap₂ ◌*ℤ◌ weight_code (to_z-of_z n_fits ∙ sym is)

      pub product_in_lane : FitsSigned w64 (to_z w64 (of_z w64 (to_z w128 (of_z w128 (get_or ws j (pos 0))))) *ℤ to_z w64 (of_z w64 n))
      product_in_lane = rw product_code (lane_product z ws ts can lane j (pos 0) 0 inside)

      sum_code : (sum : ℤ) → sum ≡ dot z (take j ws) (take j ts)
          → sum +ℤ to_z w64 (of_z w64 (to_z w64 (of_z w64 (to_z w128 (of_z w128 (get_or ws j (pos 0))))) *ℤ to_z w64 (of_z w64 n))) ≡ dot z (take (j + 1) ws) (take (j + 1) ts)
      sum_code sum before =
          ap₂ ◌+ℤ◌ before (ap (λ n. to_z w64 (of_z w64 n)) product_code ∙ to_z-of_z (lane_product z ws ts can lane j (pos 0) 0 inside)) ∙ sym (dot_more z ws ts j (pos 0) 0 has_weight inside)

      pub sum_in_lane : (sum : ℤ) → sum ≡ dot z (take j ws) (take j ts)
          → FitsSigned w64 (sum +ℤ to_z w64 (of_z w64 (to_z w64 (of_z w64 (to_z w128 (of_z w128 (get_or ws j (pos 0))))) *ℤ to_z w64 (of_z w64 n))))
      sum_in_lane sum before = rw (sum_code sum before) (lane_sum z ws ts can lane (j + 1))

      pub summed : (sum : ℤ) → sum ≡ dot z (take j ws) (take j ts)
          → to_z w64 (of_z w64 (sum +ℤ to_z w64 (of_z w64 (to_z w64 (of_z w64 (to_z w128 (of_z w128 (get_or ws j (pos 0))))) *ℤ to_z w64 (of_z w64 n))))) ≡ dot z (take (j + 1) ws) (take (j + 1) ts)
      summed sum before = rw (sum_code sum before) (to_z-of_z (lane_sum z ws ts can lane (j + 1)))

    -- a target that counts as 1: the sum with its weight
    module _ (is : z (get_or ts j 0) ≡ pos 1) where
      counted_code : (sum : ℤ) → sum ≡ dot z (take j ws) (take j ts) → sum +ℤ to_z w64 (of_z w64 (to_z w128 (of_z w128 (get_or ws j (pos 0))))) ≡ dot z (take (j + 1) ws) (take (j + 1) ts)
      counted_code sum before =
          let one : get_or ws j (pos 0) ≡ get_or ws j (pos 0) *ℤ z (get_or ts j 0) = sym (ap (λ n. get_or ws j (pos 0) *ℤ n) is ∙ mul-comm (get_or ws j (pos 0)) (pos 1) ∙ one-mul (get_or ws j (pos 0))) in
          ap₂ ◌+ℤ◌ before (weight_code ∙ one) ∙ sym (dot_more z ws ts j (pos 0) 0 has_weight inside)

      pub counted_in_lane : (sum : ℤ) → sum ≡ dot z (take j ws) (take j ts) → FitsSigned w64 (sum +ℤ to_z w64 (of_z w64 (to_z w128 (of_z w128 (get_or ws j (pos 0))))))
      counted_in_lane sum before = rw (counted_code sum before) (lane_sum z ws ts can lane (j + 1))

      pub counted : (sum : ℤ) → sum ≡ dot z (take j ws) (take j ts) → to_z w64 (of_z w64 (sum +ℤ to_z w64 (of_z w64 (to_z w128 (of_z w128 (get_or ws j (pos 0))))))) ≡ dot z (take (j + 1) ws) (take (j + 1) ts)
      counted sum before = rw (counted_code sum before) (to_z-of_z (lane_sum z ws ts can lane (j + 1)))

  -- a target that counts as 0: the sum stays
  pub passed : z (get_or ts j 0) ≡ pos 0 → (sum : ℤ) → sum ≡ dot z (take j ws) (take j ts) → sum ≡ dot z (take (j + 1) ws) (take (j + 1) ts)
  passed is sum before =
      let none : get_or ws j (pos 0) *ℤ z (get_or ts j 0) ≡ pos 0 = ap (λ n. get_or ws j (pos 0) *ℤ n) is ∙ mul-zero (get_or ws j (pos 0)) in
      omega (arith, linear, before, none, dot_more z ws ts j (pos 0) 0 has_weight inside)
