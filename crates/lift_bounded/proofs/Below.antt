-- What a rejecting certificate by steps shows: by induction on the steps left.
use Rattle.std.proofs.Common.{◌≡◌, ℕ, zero, suc, ◌+◌, ◌<◌, ◌≤◌, ◌^◌, Bool, true, false, cond, List, [], ◌∷◌, ℤ, pos, ◌*ℤ◌, ◌≤ℤ◌, ◌<ℤ◌, length, refl, arith, ◌⊎◌, subst, ⊎_elim}
use Rattle.std.proofs.lemmas.Nat.{pow_pos}
use Rattle.std.proofs.lemmas.List.{get_or_past}
use Rattle.lift_poly.specs.Polynomial.{Valuation}
use Rattle.lift_poly.proofs.Ring.{linear, mul-comm, mul-assoc, zero-mul, mul-zero, one-mul, add-mul, mul-le, mul-lt, as_diff, diffs, diff-same}
use Rattle.lift_model.specs.Process.{Process, Move, power, weighted_sum}
use Rattle.lift_model.specs.Memoryless.{chosen}
use Rattle.lift_model.specs.Laws.{AreNonNegative, WeightedSumsRise}
use Rattle.lift_model.specs.Model.{row_at, process_at}
use Rattle.lift_model.specs.Timed.{timed_reach}
use Rattle.lift_grid.specs.Rectangle.{Spans, Inside}
use Rattle.corner_lift.specs.Case.{CaseData, IsCase, IsInside, number}
use Rattle.corner_lift.specs.Certificate.{mark}
use Rattle.corner_lift.specs.Laws.{WeightsInside, MeansAtLeastInside}
use Rattle.lift_cert.specs.declared.bound.Bound.{Bound}
use Rattle.lift_bounded.specs.Steps.{nth, LowersData, AreLowers, AreRejecting}
use Rattle.lift_bounded.specs.Within.{FollowsTimed}
use Rattle.lift_bounded.specs.Laws.{RejectingReachesWithin}
use Rattle.lift_bounded.proofs.Cases.{chosen-least, chosen_is, chosen_past, total-positive, power-least, power-positive}
use Rattle.lift_bounded.proofs.Inside.{in_or_past}

record IsSupported (process : Process) (top : ℤ) (h : ℕ) (y : ℕ → ℕ → ℤ) (choice : ℕ → ℕ → ℕ) : Type 0 where
  total : pos 0 ≤ℤ process.total
  start : (s : ℕ) → y 0 s ≡ cond (process.goal s) top (pos 0)
  goal : (n s : ℕ) → n < h → process.goal s ≡ true → y (n + 1) s ≡ top
  weights : (n s : ℕ) → AreNonNegative (chosen process (choice n) s)
  means : (n s : ℕ) → n < h → process.goal s ≡ false → (y (n + 1) s *ℤ process.total) ≤ℤ weighted_sum (y n) (chosen process (choice (n + 1)) s)

sum-times : (k : ℤ) (f : ℕ → ℤ) (row : List Move) → weighted_sum (λ t. f t *ℤ k) row ≡ weighted_sum f row *ℤ k
sum-times k f [] = omega (arith, linear, zero-mul k)
sum-times k f (m ∷ row) = omega (arith, linear, sum-times k f row, add-mul (m.1 *ℤ f m.0) (weighted_sum f row) k, mul-assoc m.1 (f m.0) k)

at_start : (g : Bool) (top y : ℤ) → y ≡ cond g top (pos 0) → (y *ℤ pos 1) ≤ℤ (top *ℤ cond g (pos 1) (pos 0))
at_start true top y e = omega (arith, linear, mul-comm y (pos 1), one-mul y, mul-comm top (pos 1), one-mul top, e)
at_start false top y e = omega (arith, linear, mul-comm y (pos 1), one-mul y, mul-zero top, e)

at_step : (g : Bool) (top y p r : ℤ) → (g ≡ true → y ≡ top) → (g ≡ false → (y *ℤ p) ≤ℤ (top *ℤ r)) → (y *ℤ p) ≤ℤ (top *ℤ cond g p r)
at_step true top y p r e step = rw (e refl) (omega (arith, linear))
at_step false top y p r e step = step refl

module _ (rise : WeightedSumsRise) (process : Process) (top : ℤ) (h : ℕ) (y : ℕ → ℕ → ℤ) (choice : ℕ → ℕ → ℕ) (is : IsSupported process top h y choice) where
  -- the choices reach within n steps at least the vector of n steps, over top
  timed_bound : (n s : ℕ) → n ≤ h → (y n s *ℤ power process.total n) ≤ℤ (top *ℤ timed_reach process choice n s)
  timed_bound zero s le = at_start (process.goal s) top (y 0 s) (is.start s)
  timed_bound (suc n) s le =
      let lt : n < h = omega (arith, le) in
      let before : n ≤ h = omega (arith, le) in
      let next : n + 1 ≡ suc n = omega arith in
      let row = chosen process (choice (suc n)) s in
      let reached = timed_reach process choice n in
      let c = power process.total n in
      at_step (process.goal s) top (y (suc n) s) (power process.total (suc n)) (weighted_sum reached row) (λ g. subst (λ i. y i s ≡ top) next (is.goal n s lt g))
      (λ g.
      let mean : (y (suc n) s *ℤ process.total) ≤ℤ weighted_sum (y n) row = subst (λ i. (y i s *ℤ process.total) ≤ℤ weighted_sum (y n) (chosen process (choice i) s)) next (is.means n s lt g) in
      let first = mul-le c (y (suc n) s *ℤ process.total) (weighted_sum (y n) row) (power-least process.total n is.total) mean in
      let second : weighted_sum (λ t. y n t *ℤ c) row ≤ℤ weighted_sum (λ t. reached t *ℤ top) row =
      rise (λ t. y n t *ℤ c) (λ t. reached t *ℤ top) row (λ t. omega (arith, linear, timed_bound n t before, mul-comm (reached t) top)) (is.weights (suc n) s) in
      omega (arith, linear, first, second, sum-times c (y n) row, sum-times top reached row, mul-comm (weighted_sum reached row) top, mul-comm c (weighted_sum (y n) row), mul-comm c (y (suc n) s *ℤ process.total), mul-assoc (y (suc n) s) process.total c))

swapped : (a c b : ℤ) → c *ℤ (a *ℤ b) ≡ b *ℤ (a *ℤ c)
swapped a c b = rw (as_diff a, as_diff c, as_diff b) (simp diffs (diff-same _ _ _ _ (omega arith)))

-- a factor above 0 tells the order
lt_cancel : (t a b : ℤ) → pos 0 <ℤ t → (t *ℤ a) <ℤ (t *ℤ b) → a <ℤ b
lt_cancel t a b positive h = ⊎_elim
    (λ (lt : a <ℤ b). lt)
    (λ (le : b ≤ℤ a). absurd (omega (arith, linear, h, mul-le t b a (omega (arith, linear, positive)) le)))
    (lt_or_le a b)
  where
    lt_or_le : (a b : ℤ) → (a <ℤ b) ⊎ (b ≤ℤ a)
    lt_or_le a b = grind (arith, linear)

module _ (rise : WeightedSumsRise) (weights : WeightsInside) (least : MeansAtLeastInside) (k : CaseData) (spans : Spans) (is : IsCase k) (within : IsInside k.root spans) (v : Valuation) (inside : Inside k.d spans v) (h : ℕ) (r : LowersData) (lowers : AreLowers k spans h r) (choice : ℕ → ℕ → ℕ) (follows : FollowsTimed k.model r.picks choice) where
  means_at : (n s : ℕ) → n < h → (process_at k.model v).goal s ≡ false → (number (nth r.numbers (n + 1)) s *ℤ (process_at k.model v).total) ≤ℤ weighted_sum (number (nth r.numbers n)) (chosen (process_at k.model v) (choice (n + 1)) s)
  means_at n s lt g = ⊎_elim
      (λ (state : s < length k.model.states).
      let held = (lowers.steps n lt).held s state g in
      let a = mark (nth r.picks n) s in
      rw (chosen_is k.model v (choice (n + 1)) s a (follows n s held.in_range)) (least k spans (row_at k.model s a) (number (nth r.numbers n)) (number (nth r.numbers (n + 1)) s) is within held.means v inside))
      (λ (past : length k.model.states ≤ s).
      let none : number (nth r.numbers (n + 1)) s ≡ pos 0 = get_or_past (nth r.numbers (n + 1)) s (pos 0) (omega (arith, past, (lowers.steps n lt).numbers.size)) in
      rw (chosen_past k.model v (choice (n + 1)) s past, none) (omega (arith, linear, zero-mul (process_at k.model v).total)))
      (in_or_past s (length k.model.states))

  lowers_supported : IsSupported (process_at k.model v) (pos (2 ^ k.w)) h (λ n. number (nth r.numbers n)) choice
  lowers_supported = record {
    total = omega (arith, linear, total-positive weights k spans is within v inside);
    start = lowers.start.value;
    goal = λ n s lt g. ((lowers.steps n lt).goal s g).0;
    weights = λ n s. chosen-least weights k spans is within v inside (choice n) s;
    means = means_at;
  }

  pub reached : (bound : Bound) → AreRejecting k spans bound h r → (pos bound.num *ℤ power (process_at k.model v).total h) <ℤ (timed_reach (process_at k.model v) choice h k.model.init *ℤ pos bound.den)
  reached bound rejecting =
      let process = process_at k.model v in
      let top = pos (2 ^ k.w) in
      let c = power process.total h in
      let n = number (nth r.numbers h) k.model.init in
      let t = timed_reach process choice h k.model.init in
      let top_positive : pos 0 <ℤ top = omega (arith, linear, pow_pos k.w) in
      let held = timed_bound rise process top h (λ i. number (nth r.numbers i)) choice lowers_supported h k.model.init (omega arith) in
      let first = mul-lt c _ _ (power-positive process.total h (total-positive weights k spans is within v inside)) rejecting.limit in
      let second = mul-le (pos bound.den) (n *ℤ c) (top *ℤ t) (omega (arith, linear)) held in
      lt_cancel top (pos bound.num *ℤ c) (t *ℤ pos bound.den) top_positive
      (omega (arith, linear, first, second, swapped (pos bound.num) c top, swapped n c (pos bound.den), mul-comm top (t *ℤ pos bound.den), mul-comm (pos bound.den) (top *ℤ t), mul-assoc top t (pos bound.den), mul-comm (t *ℤ pos bound.den) top))

pub rejecting_reaches_within : WeightedSumsRise → WeightsInside → MeansAtLeastInside → RejectingReachesWithin
rejecting_reaches_within rise weights least k spans bound h r is within rejecting v inside choice follows = reached rise weights least k spans is within v inside h r rejecting.lowers choice follows bound rejecting
