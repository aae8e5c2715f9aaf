-- Costs over their common denominator, and rewards.
use Rattle.std.proofs.Common.{◌≡◌, ℕ, zero, suc, ◌+◌, ◌*◌, ◌/◌, ◌^◌, ◌<◌, ◌≤◌, List, [], ◌∷◌, length, get_or, fold, All, ℤ, pos, ◌*ℤ◌, ◌≤ℤ◌, refl, sym, ap, subst, ◌∙◌, arith, ◌⊎◌, ⊎_elim, mul_comm, mul_assoc, mul-le-mul_left, mul-le-mul_right}
use Rattle.std.specs.Int.{div_ceil, ◌∣◌}
use Rattle.std.proofs.Math.Nat.{div-mul_cancel, le_of_mul-le-mul_left, one-dvd}
use Rattle.std.proofs.lemmas.Grind.{div_ceil_times}
use Rattle.std.proofs.lemmas.List.{get_or_past}
use Rattle.std.proofs.lemmas.Nat.Gcd.{dvd_trans}
use Rattle.lift_poly.proofs.Ring.{linear}
use Rattle.lift_frac.specs.Gcd.{lcm}
use Rattle.lift_frac.specs.Laws.{LcmIsMultiple}
use Rattle.lift_costs.specs.Costs.{CostData, IsCost, no_cost, cost_of}
use Rattle.lift_cost.specs.Expected.{AreCosts, common, charge}
use Rattle.lift_cost.specs.Certificate.{price_over}

in_or_past : (s n : ℕ) → (s < n) ⊎ (n ≤ s)
in_or_past s n = grind arith

-- what divides a number divides each least common multiple made of it
kept : LcmIsMultiple → (x : ℕ) (costs : List CostData) (q : ℕ) → x ∣ q → x ∣ fold (λ q c. lcm q c.den) q costs
kept multiple x [] q h = h
kept multiple x (c ∷ costs) q h = kept multiple x costs (lcm q c.den) (dvd_trans x h (multiple q c.den).0)

each_from : LcmIsMultiple → (costs : List CostData) (q s : ℕ) → s < length costs → (get_or costs s no_cost).den ∣ fold (λ q c. lcm q c.den) q costs
each_from multiple [] q s lt = absurd (omega arith)
each_from multiple (c ∷ costs) q zero lt = kept multiple c.den costs (lcm q c.den) (multiple q c.den).1
each_from multiple (c ∷ costs) q (suc s) lt = each_from multiple costs (lcm q c.den) s (omega (arith, lt))

-- each denominator divides the common one
divides : LcmIsMultiple → (costs : List CostData) (s : ℕ) → (cost_of costs s).den ∣ common costs
divides multiple costs s = ⊎_elim
    (λ (lt : s < length costs). each_from multiple costs 1 s lt)
    (λ (past : length costs ≤ s). subst (λ (c : CostData). c.den ∣ common costs) (sym (get_or_past costs s no_cost past)) (one-dvd (common costs)))
    (in_or_past s (length costs))

den_positive : (costs : List CostData) (s : ℕ) → AreCosts costs → 1 ≤ (cost_of costs s).den
den_positive costs s are = ⊎_elim
    (λ (lt : s < length costs). let one : IsCost (get_or costs s no_cost) = are s no_cost lt in one.positive)
    (λ (past : length costs ≤ s). subst (λ (c : CostData). 1 ≤ c.den) (sym (get_or_past costs s no_cost past)) (omega arith))
    (in_or_past s (length costs))

-- a charge times its denominator
charge_is : LcmIsMultiple → (costs : List CostData) (s : ℕ) → charge costs s * (cost_of costs s).den ≡ (cost_of costs s).num * common costs
charge_is multiple costs s =
    let c = cost_of costs s in
    mul_assoc c.num (common costs / c.den) c.den ∙ ap (λ x. c.num * x) (div-mul_cancel c.den (divides multiple costs s))

times_swapped : (a b c : ℕ) → a * (b * c) ≡ b * (a * c)
times_swapped a b c = sym (mul_assoc a b c) ∙ ap (λ x. x * c) (mul_comm a b) ∙ mul_assoc b a c

-- with D the denominator, R D = n Q and n T ≤ r (D c), so D (R T) ≤ D (r (c Q))
gathered : (n d q t c r charge : ℕ) → charge * d ≡ n * q → n * t ≤ r * (d * c) → d * (charge * t) ≤ d * (r * (c * q))
gathered n d q t c r charge is le =
    let left : d * (charge * t) ≡ (n * t) * q = sym (mul_assoc d charge t) ∙ ap (λ x. x * t) (mul_comm d charge ∙ is) ∙ mul_assoc n q t ∙ ap (λ x. n * x) (mul_comm q t) ∙ sym (mul_assoc n t q) in
    let right : d * (r * (c * q)) ≡ (r * (d * c)) * q = times_swapped d r (c * q) ∙ ap (λ x. r * x) (sym (mul_assoc d c q)) ∙ sym (mul_assoc r (d * c) q) in
    let bound = mul-le-mul_right q le in
    omega (arith, left, right, bound)

-- a charge over the common denominator is at most its reward over 2 ^ w, times the cap
pub reward_covers : LcmIsMultiple → (costs : List CostData) (cap w s : ℕ) → AreCosts costs → 1 ≤ cap → (pos (charge costs s) *ℤ pos (2 ^ w)) ≤ℤ (price_over w costs cap s *ℤ pos (cap * common costs))
reward_covers multiple costs cap w s are some =
    let c = cost_of costs s in
    let den = den_positive costs s are in
    let below : 0 < c.den * cap = omega (arith, mul-le-mul_left c.den some, den) in
    let price : c.num * 2 ^ w ≤ div_ceil (c.num * 2 ^ w) (c.den * cap) * (c.den * cap) = (div_ceil_times (c.num * 2 ^ w) (c.den * cap) below).0 in
    let all = gathered c.num c.den (common costs) (2 ^ w) cap (div_ceil (c.num * 2 ^ w) (c.den * cap)) (charge costs s) (charge_is multiple costs s) price in
    let covered : charge costs s * 2 ^ w ≤ div_ceil (c.num * 2 ^ w) (c.den * cap) * (cap * common costs) = le_of_mul-le-mul_left all den in
    omega (arith, linear, covered)
