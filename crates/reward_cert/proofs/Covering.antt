-- Charges over the common denominator beside rewards in parts of the cap.
use Rattle.std.proofs.Common.{◌≡◌, ℕ, zero, suc, ◌*◌, ◌/◌, ◌^◌, ◌<◌, ◌≤◌, List, [], ◌∷◌, length, get_or, fold, All, ℤ, pos, ◌*ℤ◌, ◌≤ℤ◌, refl, sym, ap, subst, ◌∙◌, arith, ◌⊎◌, ⊎_elim, mul_comm, mul_assoc, mul-le-mul_left, mul-le-mul_right}
use Rattle.std.specs.Int.{div_ceil, ◌∣◌}
use Rattle.std.proofs.Math.Nat.{div-mul_cancel, div-mul-le_self, le_of_mul-le-mul_left, one-dvd}
use Rattle.std.proofs.lemmas.Grind.{div_ceil_times}
use Rattle.std.proofs.lemmas.List.{get_or_past}
use Rattle.std.proofs.lemmas.List.Elements.{All-nil}
use Rattle.std.proofs.lemmas.Nat.Gcd.{dvd_trans}
use Rattle.lift_poly.proofs.Ring.{linear}
use Rattle.lift_frac.specs.Gcd.{lcm}
use Rattle.lift_frac.specs.Laws.{LcmIsMultiple}
use Rattle.lift_costs.specs.Costs.{CostData, IsCost, no_cost}
use Rattle.reward_cert.specs.Charges.{RewardData, AreRewards, choice_cost, common, charge}
use Rattle.reward_cert.specs.Rounded.{reward_up, reward_down}
use Rattle.reward_cert.specs.Said.{unit}

in_or_past : (s n : ℕ) → (s < n) ⊎ (n ≤ s)
in_or_past s n = grind arith

-- ---- what divides the common denominator

module _ (multiple : LcmIsMultiple) where
  row_kept : (x : ℕ) (row : List CostData) (q : ℕ) → x ∣ q → x ∣ fold (λ m c. lcm m c.den) q row
  row_kept x [] q h = h
  row_kept x (c ∷ row) q h = row_kept x row (lcm q c.den) (dvd_trans x h (multiple q c.den).0)

  row_each : (row : List CostData) (q a : ℕ) → a < length row → (get_or row a no_cost).den ∣ fold (λ m c. lcm m c.den) q row
  row_each [] q a lt = absurd (omega arith)
  row_each (c ∷ row) q zero lt = row_kept c.den row (lcm q c.den) (multiple q c.den).1
  row_each (c ∷ row) q (suc a) lt = row_each row (lcm q c.den) a (omega (arith, lt))

  kept : (x : ℕ) (costs : List (List CostData)) (q : ℕ) → x ∣ q → x ∣ fold (λ q row. fold (λ m c. lcm m c.den) q row) q costs
  kept x [] q h = h
  kept x (row ∷ costs) q h = kept x costs (fold (λ m c. lcm m c.den) q row) (row_kept x row q h)

  each : (costs : List (List CostData)) (q s a : ℕ) → a < length (get_or costs s []) → (get_or (get_or costs s []) a no_cost).den ∣ fold (λ q row. fold (λ m c. lcm m c.den) q row) q costs
  each [] q s a lt = absurd (omega (arith, lt))
  each (row ∷ costs) q zero a lt = kept (get_or row a no_cost).den costs (fold (λ m c. lcm m c.den) q row) (row_each row q a lt)
  each (row ∷ costs) q (suc s) a lt = each costs (fold (λ m c. lcm m c.den) q row) s a lt

  divides : (costs : List (List CostData)) (s a : ℕ) → (choice_cost costs s a).den ∣ common costs
  divides costs s a = ⊎_elim
      (λ (lt : a < length (get_or costs s [])). each costs 1 s a lt)
      (λ (past : length (get_or costs s []) ≤ a). subst (λ (c : CostData). c.den ∣ common costs) (sym (get_or_past (get_or costs s []) a no_cost past)) (one-dvd (common costs)))
      (in_or_past a (length (get_or costs s [])))

  -- a charge times its denominator
  charge_is : (costs : List (List CostData)) (s a : ℕ) → charge costs s a * (choice_cost costs s a).den ≡ (choice_cost costs s a).num * common costs
  charge_is costs s a =
      let c = choice_cost costs s a in
      mul_assoc c.num (common costs / c.den) c.den ∙ ap (λ x. c.num * x) (div-mul_cancel c.den (divides costs s a))

all_of : (costs : List (List CostData)) (s : ℕ) → All (All IsCost) costs → All IsCost (get_or costs s [])
all_of costs s are = ⊎_elim
    (λ (lt : s < length costs). are s [] lt)
    (λ (past : length costs ≤ s). subst (λ (row : List CostData). All IsCost row) (sym (get_or_past costs s [] past)) (All-nil IsCost))
    (in_or_past s (length costs))

den_positive : (costs : List (List CostData)) (s a : ℕ) → All (All IsCost) costs → 1 ≤ (choice_cost costs s a).den
den_positive costs s a are = ⊎_elim
    (λ (lt : a < length (get_or costs s [])). let one : IsCost (get_or (get_or costs s []) a no_cost) = all_of costs s are a no_cost lt in one.positive)
    (λ (past : length (get_or costs s []) ≤ a). subst (λ (c : CostData). 1 ≤ c.den) (sym (get_or_past (get_or costs s []) a no_cost past)) (omega arith))
    (in_or_past a (length (get_or costs s [])))

times_swapped : (a b c : ℕ) → a * (b * c) ≡ b * (a * c)
times_swapped a b c = sym (mul_assoc a b c) ∙ ap (λ x. x * c) (mul_comm a b) ∙ mul_assoc b a c

-- both sides times the denominator d: of a charge over the common denominator q, and of a reward r over the cap c
charge_side : (n d q t charge : ℕ) → charge * d ≡ n * q → d * (charge * t) ≡ (n * t) * q
charge_side n d q t charge is = sym (mul_assoc d charge t) ∙ ap (λ x. x * t) (mul_comm d charge ∙ is) ∙ mul_assoc n q t ∙ ap (λ x. n * x) (mul_comm q t) ∙ sym (mul_assoc n t q)

reward_side : (d q c r : ℕ) → d * (r * (c * q)) ≡ (r * (d * c)) * q
reward_side d q c r = times_swapped d r (c * q) ∙ ap (λ x. r * x) (sym (mul_assoc d c q)) ∙ sym (mul_assoc r (d * c) q)

module _ (multiple : LcmIsMultiple) (r : RewardData) (w s a : ℕ) (are : AreRewards r) where
  below_denominator : 0 < (choice_cost r.costs s a).den * r.cap
  below_denominator = omega (arith, mul-le-mul_left (choice_cost r.costs s a).den are.cap, den_positive r.costs s a are.costs)

  -- a charge over the common denominator is at most its reward rounded up, times the cap
  pub up_covers : (pos (charge r.costs s a) *ℤ pos (2 ^ w)) ≤ℤ (pos (reward_up w r s a) *ℤ unit r)
  up_covers =
      let c = choice_cost r.costs s a in
      let q = common r.costs in
      let up = div_ceil (c.num * 2 ^ w) (c.den * r.cap) in
      let price : c.num * 2 ^ w ≤ up * (c.den * r.cap) = (div_ceil_times (c.num * 2 ^ w) (c.den * r.cap) below_denominator).0 in
      let all = mul-le-mul_right q price in
      let sides : c.den * (charge r.costs s a * 2 ^ w) ≤ c.den * (up * (r.cap * q)) = omega (arith, all, charge_side c.num c.den q (2 ^ w) (charge r.costs s a) (charge_is multiple r.costs s a), reward_side c.den q r.cap up) in
      let covered : charge r.costs s a * 2 ^ w ≤ up * (r.cap * q) = le_of_mul-le-mul_left sides (den_positive r.costs s a are.costs) in
      omega (arith, linear, covered)

  -- and at least its reward rounded down, times the cap
  pub down_is_covered : (pos (reward_down w r s a) *ℤ unit r) ≤ℤ (pos (charge r.costs s a) *ℤ pos (2 ^ w))
  down_is_covered =
      let c = choice_cost r.costs s a in
      let q = common r.costs in
      let down = c.num * 2 ^ w / (c.den * r.cap) in
      let price : down * (c.den * r.cap) ≤ c.num * 2 ^ w = div-mul-le_self (c.num * 2 ^ w) (c.den * r.cap) in
      let all = mul-le-mul_right q price in
      let sides : c.den * (down * (r.cap * q)) ≤ c.den * (charge r.costs s a * 2 ^ w) = omega (arith, all, charge_side c.num c.den q (2 ^ w) (charge r.costs s a) (charge_is multiple r.costs s a), reward_side c.den q r.cap down) in
      let covered : down * (r.cap * q) ≤ charge r.costs s a * 2 ^ w = le_of_mul-le-mul_left sides (den_positive r.costs s a are.costs) in
      omega (arith, linear, covered)
