-- What a scheduler's value is at least within n steps, by induction on the steps: numbers of states that each row keeps up bound it.
use Rattle.std.proofs.Common.{◌≡◌, ℕ, zero, suc, Bool, true, false, List, [], ◌∷◌, ℤ, pos, ◌+ℤ◌, ◌*ℤ◌, ◌≤ℤ◌, refl, ap, arith}
use Rattle.lift_poly.proofs.Ring.{linear, mul-comm, mul-assoc, add-mul, zero-mul, mul-le, mul-nonneg, one-mul, as_diff, diffs, diff-same}
use Rattle.lift_model.specs.Process.{Move, power, weighted_sum}
use Rattle.reward_cert.proofs.Steps.{either_way, AreClosed}

pub sum-times : (k : ℤ) (f : ℕ → ℤ) (row : List Move) → weighted_sum (λ t. f t *ℤ k) row ≡ weighted_sum f row *ℤ k
sum-times k f [] = omega (arith, linear, zero-mul k)
sum-times k f (m ∷ row) = omega (arith, linear, sum-times k f row, add-mul (m.1 *ℤ f m.0) (weighted_sum f row) k, mul-assoc m.1 (f m.0) k)

pub power-least : (b : ℤ) (n : ℕ) → pos 0 ≤ℤ b → pos 0 ≤ℤ power b n
power-least b zero h = omega (arith, linear)
power-least b (suc n) h = mul-nonneg b (power b n) h (power-least b n h)

-- One step of some schedulers, `q` standing for the weight of a toss: where what follows is at least its number, and each row that may be chosen makes of these at least b, so is the step. All values times `scale`.
abbrev pub Stepping : (goal : ℕ → Bool) (total : ℤ) (row : ℕ → ℕ → List Move) (may : ℕ → ℕ → Type 0) (P : Type 0) (fits : ℕ → ℕ → P → Type 0) (value : ℕ → ℕ → P → ℤ) (gain : ℕ → ℕ → ℤ) (q : ℕ) (steps : ℕ → ℤ) → Type 0
Stepping goal total row may P fits value gain q steps = (held : ℕ → Bool) (number : ℕ → ℤ) (b scale : ℤ) (n s : ℕ) (p : P) → goal s ≡ false → fits (suc n) s p
    → ((t : ℕ) (r : P) → held t ≡ true → fits n t r → number t ≤ℤ (value n t r *ℤ scale))
    → ((a : ℕ) → may s a → AreClosed held (row s a) × (b ≤ℤ ((gain s a *ℤ scale) *ℤ (total *ℤ steps n) +ℤ weighted_sum number (row s a))))
    → (pos q *ℤ b) ≤ℤ (value (suc n) s p *ℤ scale)

-- the number of steps grows
abbrev pub Growing : ℕ → ℤ → (ℕ → ℤ) → Type 0
Growing q total steps = (steps 0 ≡ pos 1) × (((n : ℕ) → steps (suc n) ≡ (pos q *ℤ total) *ℤ steps n) × ((n : ℕ) → pos 0 ≤ℤ steps n))

pub grown_power : (q : ℕ) (total : ℤ) → pos 0 ≤ℤ total → Growing q total (power (pos q *ℤ total))
grown_power q total least = (refl, ((λ n. refl), λ n. power-least (pos q *ℤ total) n (mul-nonneg (pos q) total (omega (arith, linear)) least)))

regroup : (y n k q : ℤ) → q *ℤ (y *ℤ (n *ℤ k)) ≡ y *ℤ ((q *ℤ n) *ℤ k)
regroup y n k q = rw (as_diff y, as_diff n, as_diff k, as_diff q) (simp diffs (diff-same _ _ _ _ (omega arith)))

spread : (g n w k : ℤ) → (g *ℤ n +ℤ w) *ℤ k ≡ (g *ℤ pos 1) *ℤ (n *ℤ k) +ℤ w *ℤ k
spread g n w k = rw (mul-comm g (pos 1), one-mul g, as_diff g, as_diff n, as_diff w, as_diff k) (simp diffs (diff-same _ _ _ _ (omega arith)))

module _ (goal : ℕ → Bool) (total : ℤ) (row : ℕ → ℕ → List Move) (may : ℕ → ℕ → Type 0) (P : Type 0) (fits : ℕ → ℕ → P → Type 0) (value : ℕ → ℕ → P → ℤ) (gain : ℕ → ℕ → ℤ) (q : ℕ) (steps : ℕ → ℤ) (stepping : Stepping goal total row may P fits value gain q steps) (growing : Growing q total steps) (held : ℕ → Bool) (y : ℕ → ℤ) (start : (s : ℕ) (p : P) → held s ≡ true → y s ≤ℤ value 0 s p) (goals : (n s : ℕ) (p : P) → held s ≡ true → goal s ≡ true → (y s *ℤ steps (suc n)) ≤ℤ value (suc n) s p) (rows : (s a : ℕ) → held s ≡ true → goal s ≡ false → may s a → AreClosed held (row s a) × ((y s *ℤ total) ≤ℤ (gain s a *ℤ total +ℤ weighted_sum y (row s a)))) where
  pub bounded : (n s : ℕ) (p : P) → held s ≡ true → fits n s p → (y s *ℤ steps n) ≤ℤ value n s p
  bounded zero s p h f = omega (arith, linear, start s p h, ap (λ z. y s *ℤ z) growing.0, mul-comm (y s) (pos 1), one-mul (y s))
  bounded (suc n) s p h f = either_way (goal s) (λ g. goals n s p h g) (λ g. moving (λ t r e fit. bounded n t r e fit) g)
    where
      moving : ((t : ℕ) (r : P) → held t ≡ true → fits n t r → (y t *ℤ steps n) ≤ℤ value n t r) → goal s ≡ false → (y s *ℤ steps (suc n)) ≤ℤ value (suc n) s p
      moving before g =
          let k = steps n in
          let b = y s *ℤ (total *ℤ k) in
          let step = stepping held (λ t. y t *ℤ k) b (pos 1) n s p g f
          (λ t r e fit. omega (arith, linear, before t r e fit, mul-comm (value n t r) (pos 1), one-mul (value n t r)))
          (λ a choice.
          let keeps = rows s a h g choice in
          let more = mul-le k (y s *ℤ total) (gain s a *ℤ total +ℤ weighted_sum y (row s a)) (growing.1.1 n) keeps.1 in
          (keeps.0, omega (arith, linear, more, sum-times k y (row s a), mul-comm k (y s *ℤ total), mul-assoc (y s) total k, mul-comm k (gain s a *ℤ total +ℤ weighted_sum y (row s a)), spread (gain s a) total (weighted_sum y (row s a)) k))) in
          omega (arith, linear, step, ap (λ z. y s *ℤ z) (growing.1.0 n), regroup (y s) total k (pos q), mul-comm (value (suc n) s p) (pos 1), one-mul (value (suc n) s p))

-- no value is below 0, where no gain is
module _ (goal : ℕ → Bool) (total : ℤ) (row : ℕ → ℕ → List Move) (may : ℕ → ℕ → Type 0) (P : Type 0) (fits : ℕ → ℕ → P → Type 0) (value : ℕ → ℕ → P → ℤ) (gain : ℕ → ℕ → ℤ) (q : ℕ) (steps : ℕ → ℤ) (stepping : Stepping goal total row may P fits value gain q steps) (growing : Growing q total steps) (total_least : pos 0 ≤ℤ total) (start : (s : ℕ) (p : P) → pos 0 ≤ℤ value 0 s p) (goals : (n s : ℕ) (p : P) → goal s ≡ true → pos 0 ≤ℤ value (suc n) s p) (gains : (s a : ℕ) → pos 0 ≤ℤ gain s a) where
  sum_of_none : (moves : List Move) → weighted_sum (λ t. pos 0) moves ≡ pos 0
  sum_of_none [] = refl
  sum_of_none (m ∷ moves) = omega (arith, linear, sum_of_none moves, mul-comm m.1 (pos 0), zero-mul m.1)

  closed : (moves : List Move) → AreClosed (λ t. true) moves
  closed [] = tt
  closed (m ∷ moves) = (omega (arith, linear, mul-comm m.1 (pos 0), zero-mul m.1), closed moves)

  pub value-least : (n s : ℕ) (p : P) → fits n s p → pos 0 ≤ℤ value n s p
  value-least n s p f =
      let bound = bounded goal total row may P fits value gain q steps stepping growing (λ t. true) (λ t. pos 0)
      (λ s p e. start s p)
      (λ n s p e g. omega (arith, linear, goals n s p g, zero-mul (steps (suc n))))
      (λ s a e g choice. (closed (row s a), omega (arith, linear, mul-nonneg (gain s a) total (gains s a) total_least, sum_of_none (row s a), zero-mul total)))
      n s p refl f in
      omega (arith, linear, bound, zero-mul (steps n))
