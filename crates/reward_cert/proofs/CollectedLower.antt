-- What certificates from below say of what is collected.
use Rattle.std.proofs.Common.{◌≡◌, ℕ, zero, suc, ◌+◌, ◌-◌, ◌*◌, ◌<◌, ◌≤◌, ◌^◌, true, false, List, [], ◌∷◌, length, ℤ, pos, ◌-ℤ◌, ◌*ℤ◌, ◌≤ℤ◌, refl, sym, ap, subst, ◌∙◌, arith, ◌⊎◌, inl, inr, ⊎_elim}
use Rattle.std.proofs.lemmas.Nat.{pow_pos}
use Rattle.lift_poly.specs.Polynomial.{Valuation}
use Rattle.lift_poly.proofs.Ring.{linear, mul-comm, mul-zero, zero-mul, one-mul, mul-le, mul-nonneg, as_diff, diffs, diff-same}
use Rattle.lift_model.specs.Process.{Process, power, weighted_sum}
use Rattle.lift_model.specs.Plan.{Plan, Fits}
use Rattle.lift_model.specs.Reach.{reach}
use Rattle.lift_model.specs.Memoryless.{memoryless_reach}
use Rattle.lift_model.specs.Laws.{WeightedSumsAreNotNegative, WeightedSumsRise}
use Rattle.lift_model.specs.Model.{is_goal, choices, row_at, moves_at, process_at}
use Rattle.lift_grid.specs.Rectangle.{Spans, Inside}
use Rattle.lift_grid.specs.Tree.{RejectData}
use Rattle.lift_frac.specs.Laws.{LcmIsMultiple}
use Rattle.corner_lift.specs.Case.{CaseData, IsCase, IsInside, number}
use Rattle.corner_lift.specs.Certificate.{AreNumbers, mark, unmarked}
use Rattle.corner_lift.specs.Laws.{NumbersAreInRange, WeightsInside, MeansAtLeastInside}
use Rattle.reward_cert.specs.Charges.{RewardData, AreRewards, charge}
use Rattle.reward_cert.specs.Expected.{expected_cost, memoryless_cost}
use Rattle.reward_cert.specs.Rounded.{reward_down, IsPaying}
use Rattle.reward_cert.specs.Rows.{LeadsOn}
use Rattle.reward_cert.specs.Collected.{ArePayingRanks, IsPushed}
use Rattle.reward_cert.specs.Said.{unit}
use Rattle.reward_cert.specs.Laws.{CollectedLowerAllBounds, CollectedLowerOneBounds}
use Rattle.reward_cert.proofs.Steps.{plan_value, choice_value}
use Rattle.reward_cert.proofs.Bounding.{grown_power, value-least, sum-times}
use Rattle.reward_cert.proofs.Covering.{down_is_covered}
use Rattle.reward_cert.proofs.Pushing.{IsPushing, reaches}
use Rattle.reward_cert.proofs.Leading.{leads_inside}
use Rattle.reward_cert.proofs.Powers.{all_parts, all_left}
use Rattle.reward_cert.proofs.Valuations.{in_or_past, row_of, plan_stepping, choice_stepping, grown_plain, total-positive, weights-least, row_weights, row_is, choice_count}

pub said : (y u all t h top cost reached : ℤ) → (((y *ℤ u) *ℤ (t -ℤ h)) *ℤ all) ≤ℤ ((cost *ℤ top -ℤ reached *ℤ pos 0) *ℤ t) → (y *ℤ (u *ℤ (all *ℤ (t -ℤ h)))) ≤ℤ (top *ℤ (t *ℤ cost))
said y u all t h top cost reached le = omega (arith, linear, le, left, right)
  where
    left : ((y *ℤ u) *ℤ (t -ℤ h)) *ℤ all ≡ y *ℤ (u *ℤ (all *ℤ (t -ℤ h)))
    left = rw (as_diff y, as_diff u, as_diff t, as_diff h, as_diff all) (simp diffs (diff-same _ _ _ _ (omega arith)))

    right : (cost *ℤ top -ℤ reached *ℤ pos 0) *ℤ t ≡ top *ℤ (t *ℤ cost)
    right = rw (mul-zero reached, as_diff cost, as_diff top, as_diff t) (simp diffs (diff-same _ _ _ _ (omega arith)))

module _ (multiple : LcmIsMultiple) (nonnegative : WeightedSumsAreNotNegative) (rise : WeightedSumsRise) (numbers : NumbersAreInRange) (weights : WeightsInside) (means : MeansAtLeastInside) (k : CaseData) (spans : Spans) (r : RewardData) (c : RejectData) (is : IsCase k) (within : IsInside k.root spans) (are : AreRewards r) (are_numbers : AreNumbers k c.numbers) (ranks : ArePayingRanks k c) (v : Valuation) (inside : Inside k.d spans v) where
  abbrev process : Process
  process = process_at k.model v

  abbrev top : ℤ
  top = pos (2 ^ k.w)

  -- numbers over the common denominator
  abbrev large : ℕ → ℤ
  large s = number c.numbers s *ℤ unit r

  total-least : pos 0 ≤ℤ process.total
  total-least = omega (arith, linear, total-positive k spans is within v inside)

  pushing : (s a : ℕ) → IsPushed k spans r c s a → IsPushing process.total large (mark c.ranks) (unit r) (pos (2 ^ c.e)) (pos (charge r.costs s a) *ℤ top) s (row_of process s a)
  pushing s a pushed =
      let down = pos (reward_down k.w r s a) in
      let mean = means k spans (row_at k.model s a) (number c.numbers) (number c.numbers s -ℤ down) is within pushed.backed v inside in
      let more = mul-le (unit r) _ _ (omega (arith, linear)) mean in
      record {
        spent = down *ℤ unit r;
        least = mul-nonneg down (unit r) (omega (arith, linear)) (omega (arith, linear));
        gain = down_is_covered multiple r k.w s a are;
        mean = omega (arith, linear, more, sum-times (unit r) (number c.numbers) (row_of process s a), ap (weighted_sum (number c.numbers)) (row_is k spans is within v inside s a), mul-comm (unit r) (weighted_sum (number c.numbers) (moves_at v (row_at k.model s a))), ap (λ moves. weighted_sum (number c.numbers) moves *ℤ unit r) (row_is k spans is within v inside s a), opened (number c.numbers s) down (unit r) process.total);
        on = ⊎_elim
            (λ (pays : IsPaying k.w r s a). inl (let one : pos 1 ≤ℤ down = omega (arith, linear, pays) in omega (arith, linear, mul-le (unit r) (pos 1) down (omega (arith, linear)) one, mul-comm (unit r) (pos 1), one-mul (unit r), mul-comm (unit r) down)))
            (λ (leads : LeadsOn k spans c s a). inr (leads_inside means k spans c is within v inside s a leads))
            pushed.on;
      }
    where
      opened : (y d u n : ℤ) → u *ℤ ((y -ℤ d) *ℤ n) ≡ (y *ℤ u -ℤ d *ℤ u) *ℤ n
      opened y d u n = rw (as_diff y, as_diff d, as_diff u, as_diff n) (simp diffs (diff-same _ _ _ _ (omega arith)))

  most : (s : ℕ) → large s ≤ℤ (unit r *ℤ top)
  most s = omega (arith, linear, mul-le (unit r) (number c.numbers s) top (omega (arith, linear)) (numbers k c.numbers s are_numbers).1, mul-comm (unit r) (number c.numbers s))

  none : (s : ℕ) → number c.numbers s ≡ pos 0 → large s ≡ pos 0
  none s e = ap (λ z. z *ℤ unit r) e ∙ zero-mul (unit r)

  far : (s : ℕ) → is_goal k.model s ≡ false → c.k < mark c.ranks s → large s ≤ℤ pos 0
  far s g lt = ⊎_elim
      (λ (near : mark c.ranks s < unmarked). absurd (omega (arith, lt, (ranks.range s near).1)))
      (λ (past : unmarked ≤ mark c.ranks s). omega (arith, linear, none s (ranks.unranked s past)))
      (in_or_past (mark c.ranks s) unmarked)

  later : (s : ℕ) → is_goal k.model s ≡ false → 1 ≤ mark c.ranks s
  later s g = ⊎_elim
      (λ (near : mark c.ranks s < unmarked). (ranks.range s near).0)
      (λ (past : unmarked ≤ mark c.ranks s). omega (arith, past))
      (in_or_past (mark c.ranks s) unmarked)

  ranked : (s : ℕ) → mark c.ranks s ≤ c.k → mark c.ranks s < unmarked
  ranked s le = omega (arith, le, ranks.bounds.2)

  at_goal : (s : ℕ) (kn cost reached : ℤ) → is_goal k.model s ≡ true → cost ≡ pos 0 → ((large s *ℤ kn) ≤ℤ (cost *ℤ top -ℤ reached *ℤ pos 0)) × (mark c.ranks s ≤ c.k → (unit r *ℤ kn) ≤ℤ (cost *ℤ top -ℤ reached *ℤ pos 0))
  at_goal s kn cost reached g e =
      let has = ranks.goal s g in (
        omega (arith, linear, ap (λ z. z *ℤ kn) (none s has.0), zero-mul kn, ap (λ z. z *ℤ top) e, zero-mul top, mul-zero reached),
        (λ le. absurd (omega (arith, le, has.1, ranks.bounds.2))),
      )

  nothing : (cost reached : ℤ) → cost ≡ pos 0 → pos 0 ≤ℤ (cost *ℤ top -ℤ reached *ℤ pos 0)
  nothing cost reached e = omega (arith, linear, ap (λ z. z *ℤ top) e, zero-mul top, mul-zero reached)

  gains : (s a : ℕ) → pos 0 ≤ℤ (pos (charge r.costs s a) *ℤ top)
  gains s a = mul-nonneg (pos (charge r.costs s a)) top (omega (arith, linear)) (omega (arith, linear))

  -- ---- plans

  goal-plan : (q n s : ℕ) (p : Plan) → is_goal k.model s ≡ true → expected_cost process (charge r.costs) q n s p ≡ pos 0
  goal-plan q zero s p g = refl
  goal-plan q (suc n) s p g = rw g refl

  pub for_all : ((s a : ℕ) → mark c.ranks s < unmarked → a < length (choices k.model s) → IsPushed k spans r c s a) → (q j s : ℕ) (p : Plan) → Fits process q (c.k * j) s p
      → let m = power (pos (2 ^ c.e)) c.k *ℤ top in
      ((large s *ℤ (power m j -ℤ power (m -ℤ pos 1) j)) *ℤ power (pos q *ℤ process.total) (c.k * j)) ≤ℤ (plan_value process (charge r.costs) q top (pos 0) (c.k * j) s p *ℤ power m j)
  for_all rows q j s p fits =
      let stepping = plan_stepping process (charge r.costs) q top (pos 0) (weights-least k spans is within v inside weights) in
      let grown = grown_power q process.total total-least in
      reaches process.goal process.total (row_of process) (λ s a. a < length (process.choices s)) Plan (Fits process q) (plan_value process (charge r.costs) q top (pos 0)) (λ s a. pos (charge r.costs s a) *ℤ top) q (power (pos q *ℤ process.total))
      stepping grown nonnegative rise (row_weights k spans is within v inside weights) total-least large (mark c.ranks) (unit r) (pos (2 ^ c.e)) top c.k
      (omega (arith, linear)) (omega (arith, linear, pow_pos c.e)) (omega (arith, linear, pow_pos k.w)) most
      (value-least process.goal process.total (row_of process) (λ s a. a < length (process.choices s)) Plan (Fits process q) (plan_value process (charge r.costs) q top (pos 0)) (λ s a. pos (charge r.costs s a) *ℤ top) q (power (pos q *ℤ process.total)) stepping grown total-least
      (λ s p. nothing (expected_cost process (charge r.costs) q 0 s p) (reach process q 0 s p) refl)
      (λ n s p g. nothing (expected_cost process (charge r.costs) q (suc n) s p) (reach process q (suc n) s p) (goal-plan q (suc n) s p g))
      gains)
      (λ n s p g. at_goal s (power (pos q *ℤ process.total) n) (expected_cost process (charge r.costs) q n s p) (reach process q n s p) g (goal-plan q n s p g))
      far later
      (λ s a g le lt. pushing s a (rows s a (ranked s le) (omega (arith, lt, choice_count k spans is within v inside s))))
      j s p fits

  -- ---- memoryless schedulers

  goal-choice : (choice : ℕ → ℕ) (n s : ℕ) → is_goal k.model s ≡ true → memoryless_cost process (charge r.costs) choice n s ≡ pos 0
  goal-choice choice zero s g = refl
  goal-choice choice (suc n) s g = rw g refl

  pub for_one : (choice : ℕ → ℕ) → ((s : ℕ) → mark c.ranks s < unmarked → IsPushed k spans r c s (choice s)) → (j s : ℕ)
      → let m = power (pos (2 ^ c.e)) c.k *ℤ top in
      ((large s *ℤ (power m j -ℤ power (m -ℤ pos 1) j)) *ℤ power process.total (c.k * j)) ≤ℤ (choice_value process (charge r.costs) choice top (pos 0) (c.k * j) s *ℤ power m j)
  for_one choice rows j s =
      let stepping = choice_stepping process (charge r.costs) choice top (pos 0) (weights-least k spans is within v inside weights) in
      let grown = grown_plain process.total total-least in
      reaches process.goal process.total (row_of process) (λ s a. choice s ≡ a) (Unit {0}) (λ n s p. Unit {0}) (λ n s p. choice_value process (charge r.costs) choice top (pos 0) n s) (λ s a. pos (charge r.costs s a) *ℤ top) 1 (power process.total)
      stepping grown nonnegative rise (row_weights k spans is within v inside weights) total-least large (mark c.ranks) (unit r) (pos (2 ^ c.e)) top c.k
      (omega (arith, linear)) (omega (arith, linear, pow_pos c.e)) (omega (arith, linear, pow_pos k.w)) most
      (value-least process.goal process.total (row_of process) (λ s a. choice s ≡ a) (Unit {0}) (λ n s p. Unit {0}) (λ n s p. choice_value process (charge r.costs) choice top (pos 0) n s) (λ s a. pos (charge r.costs s a) *ℤ top) 1 (power process.total) stepping grown total-least
      (λ s p. nothing (memoryless_cost process (charge r.costs) choice 0 s) (memoryless_reach process choice 0 s) refl)
      (λ n s p g. nothing (memoryless_cost process (charge r.costs) choice (suc n) s) (memoryless_reach process choice (suc n) s) (goal-choice choice (suc n) s g))
      gains)
      (λ n s p g. at_goal s (power process.total n) (memoryless_cost process (charge r.costs) choice n s) (memoryless_reach process choice n s) g (goal-choice choice n s g))
      far later
      (λ s a g le chosen. subst (λ a. IsPushing process.total large (mark c.ranks) (unit r) (pos (2 ^ c.e)) (pos (charge r.costs s a) *ℤ top) s (row_of process s a)) chosen (pushing s (choice s) (rows s (ranked s le))))
      j s tt tt

-- as it is said
pub in_words : (w e h j : ℕ) (y u all cost reached : ℤ) → let m = power (pos (2 ^ e)) h *ℤ pos (2 ^ w) in
    (((y *ℤ u) *ℤ (power m j -ℤ power (m -ℤ pos 1) j)) *ℤ all) ≤ℤ ((cost *ℤ pos (2 ^ w) -ℤ reached *ℤ pos 0) *ℤ power m j)
    → (y *ℤ (u *ℤ (all *ℤ (pos (2 ^ ((w + e * h) * j)) -ℤ pos ((2 ^ (w + e * h) - 1) ^ j))))) ≤ℤ (pos (2 ^ w) *ℤ (pos (2 ^ ((w + e * h) * j)) *ℤ cost))
in_words w e h j y u all cost reached le =
    let m = power (pos (2 ^ e)) h *ℤ pos (2 ^ w) in
    subst (λ z. (y *ℤ (u *ℤ (all *ℤ (z -ℤ pos ((2 ^ (w + e * h) - 1) ^ j))))) ≤ℤ (pos (2 ^ w) *ℤ (z *ℤ cost))) (all_parts w e h j)
    (subst (λ z. (y *ℤ (u *ℤ (all *ℤ (power m j -ℤ z)))) ≤ℤ (pos (2 ^ w) *ℤ (power m j *ℤ cost))) (all_left w e h j)
    (said y u all (power m j) (power (m -ℤ pos 1) j) (pos (2 ^ w)) cost reached le))

pub collected_lower_all_bounds : LcmIsMultiple → WeightedSumsAreNotNegative → WeightedSumsRise → NumbersAreInRange → WeightsInside → MeansAtLeastInside → CollectedLowerAllBounds
collected_lower_all_bounds multiple nonnegative rise numbers weights means k spans r c is within are lower v inside s q j p fits =
    let process = process_at k.model v in
    in_words k.w c.e c.k j (number c.numbers s) (unit r) (power (pos q *ℤ process.total) (c.k * j)) (expected_cost process (charge r.costs) q (c.k * j) s p) (reach process q (c.k * j) s p)
    (for_all multiple nonnegative rise numbers weights means k spans r c is within are lower.numbers lower.ranks v inside lower.rows q j s p fits)

pub collected_lower_one_bounds : LcmIsMultiple → WeightedSumsAreNotNegative → WeightedSumsRise → NumbersAreInRange → WeightsInside → MeansAtLeastInside → CollectedLowerOneBounds
collected_lower_one_bounds multiple nonnegative rise numbers weights means k spans r c is within are lower v inside s choice j follows =
    let process = process_at k.model v in
    in_words k.w c.e c.k j (number c.numbers s) (unit r) (power process.total (c.k * j)) (memoryless_cost process (charge r.costs) choice (c.k * j) s) (memoryless_reach process choice (c.k * j) s)
    (for_one multiple nonnegative rise numbers weights means k spans r c is within are lower.numbers lower.ranks v inside choice
    (λ s near. subst (λ a. IsPushed k spans r c s a) (sym (follows s (lower.picked s near))) (lower.rows s near)) j s)

-- a ranked state is one of the model's
pub ranked_inside : (ranks : List ℕ) (s : ℕ) → mark ranks s < unmarked → s < length ranks
ranked_inside [] s lt = absurd (omega (arith, lt))
ranked_inside (rank ∷ ranks) zero lt = omega arith
ranked_inside (rank ∷ ranks) (suc s) lt = omega (arith, ranked_inside ranks s lt)
