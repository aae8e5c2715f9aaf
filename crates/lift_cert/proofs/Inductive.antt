-- A vector that no choice's weighted mean exceeds bounds what every plan reaches, whatever the number of steps.
use Rattle.std.proofs.Common.{◌≡◌, ℕ, zero, suc, Bool, true, false, cond, ℤ, pos, ◌*ℤ◌, ◌≤ℤ◌, refl, arith, ◌⊎◌, inl, inr, IsTrue}
use Rattle.std.specs.List.{AllByRecursion}
use Rattle.lift_poly.proofs.Ring.{linear, mul-comm, zero-mul, one-mul, mul-nonneg, as_diff, diff-mul, diff-same}
use Rattle.lift_model.specs.Process.{Process, power, weighted_sum}
use Rattle.lift_model.specs.Plan.{Plan, Fits}
use Rattle.lift_model.specs.Reach.{reach}
use Rattle.lift_model.specs.Laws.{AreNonNegative}
use Rattle.lift_model.specs.Tossing.{TossesAreBounded}

-- x is top on goal states, and elsewhere at least each choice's weighted mean
pub record IsInductive (process : Process) (top : ℤ) (x : ℕ → ℤ) : Type 0 where
  pub total : pos 0 ≤ℤ process.total
  pub least : (s : ℕ) → pos 0 ≤ℤ x s
  pub goal : (s : ℕ) → process.goal s ≡ true → x s ≡ top
  pub weights : (s : ℕ) → AllByRecursion AreNonNegative (process.choices s)
  pub means : (s : ℕ) → process.goal s ≡ false → AllByRecursion (λ moves. weighted_sum x moves ≤ℤ (x s *ℤ process.total)) (process.choices s)

pub power-least : (b : ℤ) (n : ℕ) → pos 0 ≤ℤ b → pos 0 ≤ℤ power b n
power-least b zero h = omega (arith, linear)
power-least b (suc n) h = mul-nonneg b (power b n) h (power-least b n h)

at_start : (g : Bool) (top x : ℤ) → pos 0 ≤ℤ x → (g ≡ true → x ≡ top) → (cond g (pos 1) (pos 0) *ℤ top) ≤ℤ (x *ℤ pos 1)
at_start true top x l e = omega (arith, linear, one-mul top, mul-comm x (pos 1), one-mul x, e refl)
at_start false top x l e = omega (arith, linear, zero-mul top, mul-comm x (pos 1), one-mul x)

at_step : (g : Bool) (top x p r : ℤ) {F : Type 0} → (g ≡ true → x ≡ top) → (g ≡ false → F → (r *ℤ top) ≤ℤ (x *ℤ p)) → IsTrue g ⊎ F → (cond g p r *ℤ top) ≤ℤ (x *ℤ p)
at_step true top x p r e step f = rw (e refl, mul-comm p top) (omega (arith, linear))
at_step false top x p r e step (inl f) = cc
at_step false top x p r e step (inr f) = step refl f

regroup : (q x n k : ℤ) → (q *ℤ (x *ℤ n)) *ℤ k ≡ x *ℤ ((q *ℤ n) *ℤ k)
regroup q x n k = rw (as_diff q, as_diff x, as_diff n, as_diff k) (simp diff-mul (diff-same _ _ _ _ (omega arith)))

-- what every plan reaches is at most the vector, over top
pub reach_bound : TossesAreBounded → (process : Process) (top : ℤ) (x : ℕ → ℤ) → IsInductive process top x → (q n s : ℕ) (p : Plan) → Fits process q n s p → (reach process q n s p *ℤ top) ≤ℤ (x s *ℤ power (pos q *ℤ process.total) n)
reach_bound tosses process top x h q zero s p f = at_start (process.goal s) top (x s) (h.least s) (h.goal s)
reach_bound tosses process top x h q (suc n) s p f =
    at_step (process.goal s) top (x s) (power (pos q *ℤ process.total) (suc n)) _ (h.goal s)
    (λ e fits.
    let k = power (pos q *ℤ process.total) n in
    let positive : pos 0 ≤ℤ k = power-least (pos q *ℤ process.total) n (mul-nonneg (pos q) process.total (omega (arith, linear)) h.total) in
    let bound = tosses process (reach process q n) x top k (x s *ℤ process.total) q n s p (λ t r g. reach_bound tosses process top x h q n t r g) positive (h.weights s) (h.means s e) fits in
    omega (arith, linear, bound, regroup (pos q) (x s) process.total k))
    f
