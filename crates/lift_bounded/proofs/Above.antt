-- What an accepting certificate by steps shows: by induction on the steps left.
use Rattle.std.proofs.Common.{◌≡◌, ℕ, zero, suc, ◌+◌, ◌<◌, ◌≤◌, ◌^◌, Bool, true, false, cond, List, ℤ, pos, ◌*ℤ◌, ◌≤ℤ◌, ◌<ℤ◌, refl, arith, ◌⊎◌, inl, inr, IsTrue, get_or, subst}
use Rattle.std.specs.List.{AllByRecursion}
use Rattle.std.proofs.lemmas.Nat.{pow_pos}
use Rattle.lift_poly.specs.Polynomial.{Valuation}
use Rattle.lift_poly.proofs.Ring.{linear, mul-comm, zero-mul, one-mul, mul-le, mul-nonneg, mul-le_cancel, as_diff, diffs, diff-same}
use Rattle.lift_model.specs.Process.{Process, power, weighted_sum}
use Rattle.lift_model.specs.Plan.{Plan, Fits}
use Rattle.lift_model.specs.Reach.{reach}
use Rattle.lift_model.specs.Laws.{AreNonNegative}
use Rattle.lift_model.specs.Model.{choices, process_at}
use Rattle.lift_model.specs.Tossing.{TossesAreBounded}
use Rattle.lift_grid.specs.Rectangle.{Spans, Inside}
use Rattle.corner_lift.specs.Case.{CaseData, IsCase, IsInside, number}
use Rattle.corner_lift.specs.Laws.{WeightsInside, MeansAtMostInside}
use Rattle.lift_cert.specs.declared.bound.Bound.{Bound}
use Rattle.lift_bounded.specs.Steps.{nth, AreUppers, AreAccepting}
use Rattle.lift_bounded.specs.Within.{IsBoundedWithin}
use Rattle.lift_bounded.specs.Laws.{AcceptingBoundsWithin}
use Rattle.lift_bounded.proofs.Cases.{all_moves, weights-least, total-positive, power-least}

-- for each number of steps up to h a vector: top on goal states and 0 elsewhere without a step, and later top on goal states and elsewhere at least each choice's weighted mean of the vector of one step less
record IsInductive (process : Process) (top : ℤ) (h : ℕ) (x : ℕ → ℕ → ℤ) : Type 0 where
  total : pos 0 ≤ℤ process.total
  start : (s : ℕ) → x 0 s ≡ cond (process.goal s) top (pos 0)
  goal : (n s : ℕ) → n < h → process.goal s ≡ true → x (n + 1) s ≡ top
  weights : (s : ℕ) → AllByRecursion AreNonNegative (process.choices s)
  means : (n s : ℕ) → n < h → process.goal s ≡ false → AllByRecursion (λ moves. weighted_sum (x n) moves ≤ℤ (x (n + 1) s *ℤ process.total)) (process.choices s)

at_start : (g : Bool) (top x : ℤ) → x ≡ cond g top (pos 0) → (cond g (pos 1) (pos 0) *ℤ top) ≤ℤ (x *ℤ pos 1)
at_start true top x e = omega (arith, linear, one-mul top, mul-comm x (pos 1), one-mul x, e)
at_start false top x e = omega (arith, linear, zero-mul top, mul-comm x (pos 1), one-mul x, e)

at_step : (g : Bool) (top x p r : ℤ) {F : Type 0} → (g ≡ true → x ≡ top) → (g ≡ false → F → (r *ℤ top) ≤ℤ (x *ℤ p)) → IsTrue g ⊎ F → (cond g p r *ℤ top) ≤ℤ (x *ℤ p)
at_step true top x p r e step f = rw (e refl, mul-comm p top) (omega (arith, linear))
at_step false top x p r e step (inl f) = cc
at_step false top x p r e step (inr f) = step refl f

regroup : (q x n k : ℤ) → (q *ℤ (x *ℤ n)) *ℤ k ≡ x *ℤ ((q *ℤ n) *ℤ k)
regroup q x n k = rw (as_diff q, as_diff x, as_diff n, as_diff k) (simp diffs (diff-same _ _ _ _ (omega arith)))

-- what every plan reaches within n steps is at most the vector of n steps, over top
reach_bound : TossesAreBounded → (process : Process) (top : ℤ) (h : ℕ) (x : ℕ → ℕ → ℤ) → IsInductive process top h x → (q n s : ℕ) (p : Plan) → n ≤ h → Fits process q n s p → (reach process q n s p *ℤ top) ≤ℤ (x n s *ℤ power (pos q *ℤ process.total) n)
reach_bound tosses process top h x is q zero s p le f = at_start (process.goal s) top (x 0 s) (is.start s)
reach_bound tosses process top h x is q (suc n) s p le f =
    let lt : n < h = omega (arith, le) in
    let before : n ≤ h = omega (arith, le) in
    let next : n + 1 ≡ suc n = omega arith in
    let k = power (pos q *ℤ process.total) n in
    at_step (process.goal s) top (x (suc n) s) (power (pos q *ℤ process.total) (suc n)) _ (λ g. subst (λ i. x i s ≡ top) next (is.goal n s lt g))
    (λ g fits.
    let least : pos 0 ≤ℤ k = power-least (pos q *ℤ process.total) n (mul-nonneg (pos q) process.total (omega (arith, linear)) is.total) in
    let sums : AllByRecursion (λ moves. weighted_sum (x n) moves ≤ℤ (x (suc n) s *ℤ process.total)) (process.choices s) =
    subst (λ i. AllByRecursion (λ moves. weighted_sum (x n) moves ≤ℤ (x i s *ℤ process.total)) (process.choices s)) next (is.means n s lt g) in
    let bound = tosses process (reach process q n) (x n) top k (x (suc n) s *ℤ process.total) q n s p (λ t r fit. reach_bound tosses process top h x is q n t r before fit) least (is.weights s) sums fits in
    omega (arith, linear, bound, regroup (pos q) (x (suc n) s) process.total k))
    f

swapped : (a r t : ℤ) → a *ℤ (r *ℤ t) ≡ t *ℤ (r *ℤ a)
swapped a r t = rw (as_diff a, as_diff r, as_diff t) (simp diffs (diff-same _ _ _ _ (omega arith)))

shuffled : (a x k : ℤ) → a *ℤ (x *ℤ k) ≡ k *ℤ (x *ℤ a)
shuffled a x k = rw (as_diff a, as_diff x, as_diff k) (simp diffs (diff-same _ _ _ _ (omega arith)))

module _ (tosses : TossesAreBounded) (weights : WeightsInside) (most : MeansAtMostInside) (k : CaseData) (spans : Spans) (is : IsCase k) (within : IsInside k.root spans) (v : Valuation) (inside : Inside k.d spans v) where
  uppers_inductive : (h : ℕ) (xs : List (List ℤ)) → AreUppers k spans h xs → IsInductive (process_at k.model v) (pos (2 ^ k.w)) h (λ n. number (nth xs n))
  uppers_inductive h xs uppers = record {
    total = omega (arith, linear, total-positive weights k spans is within v inside);
    start = uppers.start.value;
    goal = λ n s lt g. (uppers.steps n lt).goal s g;
    weights = weights-least weights k spans is within v inside;
    means = λ n s lt g. all_moves (λ moves. weighted_sum (number (nth xs n)) moves ≤ℤ (number (nth xs (n + 1)) s *ℤ (process_at k.model v).total)) v (choices k.model s)
        (λ a r at. most k spans (get_or (choices k.model s) a r) (nth xs n) (number (nth xs (n + 1)) s) is within ((uppers.steps n lt).means s g a r at) v inside);
  }

  pub bounded : (bound : Bound) (h : ℕ) (xs : List (List ℤ)) → AreAccepting k spans bound h xs → IsBoundedWithin k.model v bound h
  bounded bound h xs accepting q p from_one fits =
      let process = process_at k.model v in
      let top = pos (2 ^ k.w) in
      let n = number (nth xs h) k.model.init in
      let c = power (pos q *ℤ process.total) h in
      let r = reach process q h k.model.init p in
      let c_least : pos 0 ≤ℤ c = power-least (pos q *ℤ process.total) h (mul-nonneg (pos q) process.total (omega (arith, linear)) (omega (arith, linear, total-positive weights k spans is within v inside))) in
      let reached = reach_bound tosses process top h (λ i. number (nth xs i)) (uppers_inductive h xs accepting.uppers) q h k.model.init p (omega arith) fits in
      let first = mul-le (pos bound.den) (r *ℤ top) (n *ℤ c) (omega (arith, linear)) reached in
      let second = mul-le c _ _ c_least accepting.limit in
      let top_positive : pos 0 <ℤ top = omega (arith, linear, pow_pos k.w) in
      mul-le_cancel top (r *ℤ pos bound.den) (pos bound.num *ℤ c) top_positive
      (omega (arith, linear, first, second, swapped (pos bound.den) r top, shuffled (pos bound.den) n c, shuffled c (pos bound.num) top))

pub accepting_bounds_within : TossesAreBounded → WeightsInside → MeansAtMostInside → AcceptingBoundsWithin
accepting_bounds_within tosses weights most k spans bound h xs is within accepting v inside = bounded tosses weights most k spans is within v inside bound h xs accepting
