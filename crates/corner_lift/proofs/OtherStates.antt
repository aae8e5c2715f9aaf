-- What weights sum to into other states than one, and at two corners at once.
use Rattle.std.proofs.Common.{◌≡◌, ℕ, ◌+◌, ◌*◌, ◌<◌, List, [], ◌∷◌, length, ℤ, pos, ◌+ℤ◌, ◌-ℤ◌, ◌*ℤ◌, ◌≤ℤ◌, refl, sym, ap, ap₂, ◌∙◌, arith, ◌⊎◌, ⊎_elim, Bool, true, false, cond, nat_eq, eqb-true}
use Rattle.lift_poly.proofs.Ring.{linear, mul-nonneg, mul-comm, one-mul, mul-zero, mul-add}
use Rattle.corner_lift.specs.Case.{IsGreatest, IsLeast}
use Rattle.corner_lift.specs.Dot.{dot, total, only_at, but_at, CanSum, FitsLane}
use Rattle.corner_lift.proofs.Sums.{dot_least}

-- ---- other states

one_least : (b : Bool) → pos 0 ≤ℤ cond b (pos 1) (pos 0)
one_least true = omega (arith, linear)
one_least false = omega (arith, linear)

but_least : (b : Bool) (n : ℤ) → pos 0 ≤ℤ n → pos 0 ≤ℤ cond b (pos 0) n
but_least true n h = omega (arith, linear)
but_least false n h = h

module _ (s : ℕ) (z : ℕ → ℤ) where
  part_by : (b : Bool) (t : ℕ) (w : ℤ) → (b ≡ true → t ≡ s) → w *ℤ z t ≡ (w *ℤ cond b (pos 0) (z t)) +ℤ (z s *ℤ (w *ℤ cond b (pos 1) (pos 0)))
  part_by true t w own =
      let one : w *ℤ pos 1 ≡ w = mul-comm w (pos 1) ∙ one-mul w in
      let same : w *ℤ z t ≡ z s *ℤ (w *ℤ pos 1) = ap (λ u. w *ℤ z u) (own refl) ∙ mul-comm w (z s) ∙ ap (λ n. z s *ℤ n) (sym one) in
      omega (arith, linear, mul-zero w, same)
  part_by false t w own =
      let none : z s *ℤ (w *ℤ pos 0) ≡ pos 0 = ap (λ n. z s *ℤ n) (mul-zero w) ∙ mul-zero (z s) in
      omega (arith, linear, none)

  part : (t : ℕ) (w : ℤ) → w *ℤ z t ≡ (w *ℤ but_at s z t) +ℤ (z s *ℤ (w *ℤ only_at s t))
  part t w = part_by (nat_eq t s) t w (λ e. eqb-true t s e)

  -- all states are the one and the others
  pub dot_parts : (ws : List ℤ) (ts : List ℕ) → dot z ws ts ≡ dot (but_at s z) ws ts +ℤ (z s *ℤ dot (only_at s) ws ts)
  dot_parts [] ts = omega (arith, linear, mul-zero (z s))
  dot_parts (w ∷ ws) [] = omega (arith, linear, mul-zero (z s))
  dot_parts (w ∷ ws) (t ∷ ts) = omega (arith, linear, part t w, dot_parts ws ts, mul-add (z s) (w *ℤ only_at s t) (dot (only_at s) ws ts))

  -- another state keeps its number
  pub but_other : (t : ℕ) → nat_eq t s ≡ false → but_at s z t ≡ z t
  but_other t e = ap (λ b. cond b (pos 0) (z t)) e

  -- and the one counts as 0
  pub but_own : (t : ℕ) → nat_eq t s ≡ true → but_at s z t ≡ pos 0
  but_own t e = ap (λ b. cond b (pos 0) (z t)) e

  module _ (ws : List ℤ) (ts : List ℕ) (can : CanSum z ws ts) where
    others_most : dot (but_at s z) ws ts ≤ℤ dot z ws ts
    others_most =
        let own = dot_least (only_at s) ws ts can.weights_least (λ t. one_least (nat_eq t s)) in
        omega (arith, linear, dot_parts ws ts, mul-nonneg (z s) (dot (only_at s) ws ts) (can.numbers_least s) own)

    pub others_least : pos 0 ≤ℤ dot (but_at s z) ws ts
    others_least = dot_least (but_at s z) ws ts can.weights_least (λ t. but_least (nat_eq t s) (z t) (can.numbers_least t))

    pub others_sum : CanSum (but_at s z) ws ts
    others_sum = record {
      sizes = can.sizes;
      weights_least = can.weights_least;
      numbers_least = λ t. but_least (nat_eq t s) (z t) (can.numbers_least t);
      room = omega (arith, linear, others_most, can.room);
    }

    pub others_fit : FitsLane z ws ts → FitsLane (but_at s z) ws ts
    others_fit lane = record { weights_fit = lane.weights_fit; sum_fits = omega (arith, linear, others_most, lane.sum_fits) }

-- each state counts as 1
abbrev pub one : ℕ → ℤ
one t = pos 1

pub ones_total : (ws : List ℤ) (ts : List ℕ) → length ws ≡ length ts → dot one ws ts ≡ total ws
ones_total [] ts e = refl
ones_total (w ∷ ws) [] e = absurd (omega (arith, e))
ones_total (w ∷ ws) (t ∷ ts) e = ap₂ (λ a b. a +ℤ b) (mul-comm w (pos 1) ∙ one-mul w) (ones_total ws ts (omega (arith, e)))

module _ (z : ℕ → ℤ) (ws : List ℤ) (ts : List ℕ) (can : CanSum z ws ts) (lane : FitsLane z ws ts) where
  pub ones_sum : CanSum one ws ts
  ones_sum = record {
    sizes = can.sizes;
    weights_least = can.weights_least;
    numbers_least = λ t. omega (arith, linear);
    room = omega (arith, linear, ones_total ws ts can.sizes, lane.weights_fit);
  }

  pub ones_fit : FitsLane one ws ts
  ones_fit = record { weights_fit = lane.weights_fit; sum_fits = omega (arith, linear, ones_total ws ts can.sizes, lane.weights_fit) }

-- the weights alone, less those into the one
pub total_parts : (s : ℕ) (ws : List ℤ) (ts : List ℕ) → length ws ≡ length ts → dot (but_at s one) ws ts ≡ total ws -ℤ dot (only_at s) ws ts
total_parts s ws ts e = omega (arith, linear, dot_parts s one ws ts, ones_total ws ts e, one-mul (dot (only_at s) ws ts))

-- ---- two corners at once

module _ (f : ℕ → ℤ) where
  pub greatest_two : (y : ℤ) → f (2 * 0) ≤ℤ y → f (2 * 0 + 1) ≤ℤ y → (y ≡ f (2 * 0)) ⊎ (y ≡ f (2 * 0 + 1)) → IsGreatest f (2 * 1) y
  greatest_two y low high one = record {
    most = λ c lt. ⊎_elim (λ (e : c ≡ 2 * 0). rw e low) (λ (e : c ≡ 2 * 0 + 1). rw e high) (either c lt);
    attained = ⊎_elim (λ (e : y ≡ f (2 * 0)). (2 * 0, (omega arith, e))) (λ (e : y ≡ f (2 * 0 + 1)). (2 * 0 + 1, (omega arith, e))) one;
  }
    where
      either : (c : ℕ) → c < 2 * 1 → (c ≡ 2 * 0) ⊎ (c ≡ 2 * 0 + 1)
      either c lt = grind arith

  pub least_two : (y : ℤ) → y ≤ℤ f (2 * 0) → y ≤ℤ f (2 * 0 + 1) → (y ≡ f (2 * 0)) ⊎ (y ≡ f (2 * 0 + 1)) → IsLeast f (2 * 1) y
  least_two y low high one = record {
    least = λ c lt. ⊎_elim (λ (e : c ≡ 2 * 0). rw e low) (λ (e : c ≡ 2 * 0 + 1). rw e high) (either c lt);
    attained = ⊎_elim (λ (e : y ≡ f (2 * 0)). (2 * 0, (omega arith, e))) (λ (e : y ≡ f (2 * 0 + 1)). (2 * 0 + 1, (omega arith, e))) one;
  }
    where
      either : (c : ℕ) → c < 2 * 1 → (c ≡ 2 * 0) ⊎ (c ≡ 2 * 0 + 1)
      either c lt = grind arith

module _ (f : ℕ → ℤ) (p : ℕ) where
  last_two : (c : ℕ) → c < 2 * (p + 1) → (c < 2 * p) ⊎ ((c ≡ 2 * p) ⊎ (c ≡ 2 * p + 1))
  last_two c lt = grind arith

  pub greatest_two_more : (z y r : ℤ) → IsGreatest f (2 * p) z → f (2 * p) ≤ℤ y → f (2 * p + 1) ≤ℤ y → (y ≡ f (2 * p)) ⊎ (y ≡ f (2 * p + 1)) → z ≤ℤ r → y ≤ℤ r → (r ≡ z) ⊎ (r ≡ y) → IsGreatest f (2 * (p + 1)) r
  greatest_two_more z y r h low high one before next either = record {
    most = λ c lt. ⊎_elim
        (λ (less : c < 2 * p). omega (arith, linear, h.most c less, before))
        (λ (new : (c ≡ 2 * p) ⊎ (c ≡ 2 * p + 1)). ⊎_elim (λ (e : c ≡ 2 * p). rw e (omega (arith, linear, low, next))) (λ (e : c ≡ 2 * p + 1). rw e (omega (arith, linear, high, next))) new)
        (last_two c lt);
    attained = ⊎_elim
        (λ (e : r ≡ z). (h.attained.0, (omega (arith, h.attained.1.0), e ∙ h.attained.1.1)))
        (λ (e : r ≡ y). ⊎_elim (λ (d : y ≡ f (2 * p)). (2 * p, (omega arith, e ∙ d))) (λ (d : y ≡ f (2 * p + 1)). (2 * p + 1, (omega arith, e ∙ d))) one)
        either;
  }

  pub least_two_more : (z y r : ℤ) → IsLeast f (2 * p) z → y ≤ℤ f (2 * p) → y ≤ℤ f (2 * p + 1) → (y ≡ f (2 * p)) ⊎ (y ≡ f (2 * p + 1)) → r ≤ℤ z → r ≤ℤ y → (r ≡ z) ⊎ (r ≡ y) → IsLeast f (2 * (p + 1)) r
  least_two_more z y r h low high one before next either = record {
    least = λ c lt. ⊎_elim
        (λ (less : c < 2 * p). omega (arith, linear, h.least c less, before))
        (λ (new : (c ≡ 2 * p) ⊎ (c ≡ 2 * p + 1)). ⊎_elim (λ (e : c ≡ 2 * p). rw e (omega (arith, linear, low, next))) (λ (e : c ≡ 2 * p + 1). rw e (omega (arith, linear, high, next))) new)
        (last_two c lt);
    attained = ⊎_elim
        (λ (e : r ≡ z). (h.attained.0, (omega (arith, h.attained.1.0), e ∙ h.attained.1.1)))
        (λ (e : r ≡ y). ⊎_elim (λ (d : y ≡ f (2 * p)). (2 * p, (omega arith, e ∙ d))) (λ (d : y ≡ f (2 * p + 1)). (2 * p + 1, (omega arith, e ∙ d))) one)
        either;
  }
