-- By ranks that lead to the goal, it is reached in the end.
use Rattle.std.proofs.Common.{◌≡◌, ℕ, zero, suc, ◌+◌, ◌-◌, ◌*◌, ◌<◌, ◌≤◌, ◌^◌, Bool, true, false, cond, List, length, ℤ, pos, negsuc, ◌+ℤ◌, ◌-ℤ◌, ◌*ℤ◌, ◌≤ℤ◌, refl, sym, ap, subst, arith, inr}
use Rattle.std.proofs.lemmas.Nat.{pow_pos}
use Rattle.lift_poly.specs.Polynomial.{Valuation}
use Rattle.lift_poly.proofs.Ring.{linear, mul-comm, mul-zero, one-mul, mul-le, as_diff, diffs, diff-same}
use Rattle.lift_model.specs.Process.{Process, power, weighted_sum}
use Rattle.lift_model.specs.Plan.{Plan, Fits}
use Rattle.lift_model.specs.Reach.{reach}
use Rattle.lift_model.specs.Memoryless.{memoryless_reach}
use Rattle.lift_model.specs.Laws.{WeightedSumsAreNotNegative, WeightedSumsRise}
use Rattle.lift_model.specs.Model.{is_goal, choices, row_at, process_at}
use Rattle.lift_grid.specs.Rectangle.{Spans, Inside}
use Rattle.lift_grid.specs.Tree.{RejectData}
use Rattle.corner_lift.specs.Case.{CaseData, IsCase, IsInside}
use Rattle.corner_lift.specs.Certificate.{MeansAtLeast, mark}
use Rattle.corner_lift.specs.Laws.{WeightsInside, MeansAtLeastInside}
use Rattle.reward_cert.specs.Charges.{RewardData, charge}
use Rattle.reward_cert.specs.Expected.{expected_cost, memoryless_cost}
use Rattle.reward_cert.specs.Rows.{has_number, numbered, LeadsOn}
use Rattle.reward_cert.specs.Reaching.{AreGoalRanks}
use Rattle.reward_cert.specs.Laws.{ReachingUpperAllReaches, ReachingUpperOneReaches}
use Rattle.reward_cert.proofs.Steps.{either_way, plan_value, choice_value}
use Rattle.reward_cert.proofs.Bounding.{grown_power, value-least}
use Rattle.reward_cert.proofs.Pushing.{IsPushing, reaches}
use Rattle.reward_cert.proofs.Leading.{leads_inside}
use Rattle.reward_cert.proofs.Powers.{all_parts, all_left}
use Rattle.reward_cert.proofs.Valuations.{row_of, plan_stepping, choice_stepping, grown_plain, total-positive, weights-least, row_weights, row_is, choice_count}

-- what is reached alone
alone : (cost reached : ℤ) → cost *ℤ pos 0 -ℤ reached *ℤ negsuc 0 ≡ reached
alone cost reached = omega (arith, linear, mul-zero cost, turned)
  where
    turned : reached *ℤ negsuc 0 ≡ pos 0 -ℤ reached
    turned = rw (as_diff reached) (simp diffs (diff-same _ _ _ _ (omega arith)))

pub said : (all t h reached : ℤ) → ((pos 1 *ℤ (t -ℤ h)) *ℤ all) ≤ℤ (reached *ℤ t) → (t *ℤ all) ≤ℤ (t *ℤ reached +ℤ h *ℤ all)
said all t h reached le = omega (arith, linear, le, mul-comm reached t, parted)
  where
    parted : (pos 1 *ℤ (t -ℤ h)) *ℤ all ≡ t *ℤ all -ℤ h *ℤ all
    parted = rw (one-mul (t -ℤ h), as_diff t, as_diff h, as_diff all) (simp diffs (diff-same _ _ _ _ (omega arith)))

numbered-range : (z : List ℤ) (s : ℕ) → (pos 0 ≤ℤ numbered z s) × (numbered z s ≤ℤ pos 1)
numbered-range z s = either_way (has_number z s) (λ e. rw e (omega (arith, linear), omega (arith, linear))) (λ e. rw e (omega (arith, linear), omega (arith, linear)))

yes_no : {A : Type 0} (b : Bool) → b ≡ true → b ≡ false → A
yes_no true e f = cc
yes_no false e f = cc

module _ (nonnegative : WeightedSumsAreNotNegative) (rise : WeightedSumsRise) (weights : WeightsInside) (means : MeansAtLeastInside) (k : CaseData) (spans : Spans) (r : RewardData) (c : RejectData) (is : IsCase k) (within : IsInside k.root spans) (ranks : AreGoalRanks k c) (v : Valuation) (inside : Inside k.d spans v) where
  abbrev process : Process
  process = process_at k.model v

  total-least : pos 0 ≤ℤ process.total
  total-least = omega (arith, linear, total-positive k spans is within v inside)

  -- the row of a state that has a number leads to such states, and to lower ranks
  abbrev Leads : ℕ → ℕ → Type 0
  Leads s a = MeansAtLeast k spans (row_at k.model s a) (numbered c.numbers) (pos 1) × LeadsOn k spans c s a

  pushing : (s a : ℕ) → has_number c.numbers s ≡ true → Leads s a → IsPushing process.total (numbered c.numbers) (mark c.ranks) (pos 1) (pos (2 ^ c.e)) (pos (charge r.costs s a) *ℤ pos 0) s (row_of process s a)
  pushing s a has leads =
      let all = means k spans (row_at k.model s a) (numbered c.numbers) (pos 1) is within leads.0 v inside in
      record {
        spent = pos 0;
        least = omega (arith, linear);
        gain = omega (arith, linear, mul-zero (pos (charge r.costs s a)));
        mean = rw has (omega (arith, linear, all, ap (weighted_sum (numbered c.numbers)) (row_is k spans is within v inside s a)));
        on = inr (leads_inside means k spans c is within v inside s a leads.1);
      }

  number_of : (s : ℕ) → is_goal k.model s ≡ false → mark c.ranks s ≤ c.k → has_number c.numbers s ≡ true
  number_of s g le = either_way (has_number c.numbers s) (λ e. e) (λ e. absurd (omega (arith, le, ranks.none s e, ranks.bounds.2)))

  far : (s : ℕ) → is_goal k.model s ≡ false → c.k < mark c.ranks s → numbered c.numbers s ≤ℤ pos 0
  far s g lt = either_way (has_number c.numbers s) (λ e. absurd (omega (arith, lt, (ranks.range s g e).1))) (λ e. rw e (omega (arith, linear)))

  later : (s : ℕ) → is_goal k.model s ≡ false → 1 ≤ mark c.ranks s
  later s g = either_way (has_number c.numbers s) (λ e. (ranks.range s g e).0) (λ e. omega (arith, ranks.none s e))

  at_goal : (s : ℕ) (kn cost reached : ℤ) → pos 0 ≤ℤ kn → reached ≡ kn → ((numbered c.numbers s *ℤ kn) ≤ℤ (cost *ℤ pos 0 -ℤ reached *ℤ negsuc 0)) × (mark c.ranks s ≤ c.k → (pos 1 *ℤ kn) ≤ℤ (cost *ℤ pos 0 -ℤ reached *ℤ negsuc 0))
  at_goal s kn cost reached least same = (
    omega (arith, linear, alone cost reached, same, mul-le kn (numbered c.numbers s) (pos 1) least (numbered-range c.numbers s).1, mul-comm kn (numbered c.numbers s), mul-comm kn (pos 1), one-mul kn),
    (λ le. omega (arith, linear, alone cost reached, same, one-mul kn)),
  )

  one-most : (s : ℕ) → numbered c.numbers s ≤ℤ (pos 1 *ℤ pos (2 ^ 0))
  one-most s = omega (arith, linear, (numbered-range c.numbers s).1, one-mul (pos (2 ^ 0)), pow_pos 0)

  first-least : (g : Bool) (cost : ℤ) → pos 0 ≤ℤ (cost *ℤ pos 0 -ℤ cond g (pos 1) (pos 0) *ℤ negsuc 0)
  first-least true cost = omega (arith, linear, alone cost (pos 1))
  first-least false cost = omega (arith, linear, alone cost (pos 0))

  no-gain : (s a : ℕ) → pos 0 ≤ℤ (pos (charge r.costs s a) *ℤ pos 0)
  no-gain s a = omega (arith, linear, mul-zero (pos (charge r.costs s a)))

  -- ---- plans

  goal-plan : (q n s : ℕ) (p : Plan) → is_goal k.model s ≡ true → reach process q n s p ≡ power (pos q *ℤ process.total) n
  goal-plan q zero s p g = rw g refl
  goal-plan q (suc n) s p g = rw g refl

  pub for_all : ((s a : ℕ) → is_goal k.model s ≡ false → has_number c.numbers s ≡ true → a < length (choices k.model s) → Leads s a) → (q j s : ℕ) (p : Plan) → Fits process q (c.k * j) s p
      → let m = power (pos (2 ^ c.e)) c.k *ℤ pos (2 ^ 0) in
      ((numbered c.numbers s *ℤ (power m j -ℤ power (m -ℤ pos 1) j)) *ℤ power (pos q *ℤ process.total) (c.k * j)) ≤ℤ (plan_value process (charge r.costs) q (pos 0) (negsuc 0) (c.k * j) s p *ℤ power m j)
  for_all rows q j s p fits =
      let stepping = plan_stepping process (charge r.costs) q (pos 0) (negsuc 0) (weights-least k spans is within v inside weights) in
      let grown = grown_power q process.total total-least in
      reaches process.goal process.total (row_of process) (λ s a. a < length (process.choices s)) Plan (Fits process q) (plan_value process (charge r.costs) q (pos 0) (negsuc 0)) (λ s a. pos (charge r.costs s a) *ℤ pos 0) q (power (pos q *ℤ process.total))
      stepping grown nonnegative rise (row_weights k spans is within v inside weights) total-least (numbered c.numbers) (mark c.ranks) (pos 1) (pos (2 ^ c.e)) (pos (2 ^ 0)) c.k
      (omega (arith, linear)) (omega (arith, linear, pow_pos c.e)) (omega (arith, linear, pow_pos 0)) one-most
      (value-least process.goal process.total (row_of process) (λ s a. a < length (process.choices s)) Plan (Fits process q) (plan_value process (charge r.costs) q (pos 0) (negsuc 0)) (λ s a. pos (charge r.costs s a) *ℤ pos 0) q (power (pos q *ℤ process.total)) stepping grown total-least
      (λ s p. first-least (is_goal k.model s) (pos 0))
      (λ n s p g. omega (arith, linear, alone (expected_cost process (charge r.costs) q (suc n) s p) (reach process q (suc n) s p), goal-plan q (suc n) s p g, grown.1.1 (suc n)))
      no-gain)
      (λ n s p g. at_goal s (power (pos q *ℤ process.total) n) (expected_cost process (charge r.costs) q n s p) (reach process q n s p) (grown.1.1 n) (goal-plan q n s p g))
      far later
      (λ s a g le lt. let has = number_of s g le in pushing s a has (rows s a g has (omega (arith, lt, choice_count k spans is within v inside s))))
      j s p fits

  -- ---- memoryless schedulers

  goal-choice : (choice : ℕ → ℕ) (n s : ℕ) → is_goal k.model s ≡ true → memoryless_reach process choice n s ≡ power process.total n
  goal-choice choice zero s g = rw g refl
  goal-choice choice (suc n) s g = rw g refl

  pub for_one : (choice : ℕ → ℕ) → ((s : ℕ) → is_goal k.model s ≡ false → has_number c.numbers s ≡ true → Leads s (choice s)) → (j s : ℕ)
      → let m = power (pos (2 ^ c.e)) c.k *ℤ pos (2 ^ 0) in
      ((numbered c.numbers s *ℤ (power m j -ℤ power (m -ℤ pos 1) j)) *ℤ power process.total (c.k * j)) ≤ℤ (choice_value process (charge r.costs) choice (pos 0) (negsuc 0) (c.k * j) s *ℤ power m j)
  for_one choice rows j s =
      let stepping = choice_stepping process (charge r.costs) choice (pos 0) (negsuc 0) (weights-least k spans is within v inside weights) in
      let grown = grown_plain process.total total-least in
      reaches process.goal process.total (row_of process) (λ s a. choice s ≡ a) (Unit {0}) (λ n s p. Unit {0}) (λ n s p. choice_value process (charge r.costs) choice (pos 0) (negsuc 0) n s) (λ s a. pos (charge r.costs s a) *ℤ pos 0) 1 (power process.total)
      stepping grown nonnegative rise (row_weights k spans is within v inside weights) total-least (numbered c.numbers) (mark c.ranks) (pos 1) (pos (2 ^ c.e)) (pos (2 ^ 0)) c.k
      (omega (arith, linear)) (omega (arith, linear, pow_pos c.e)) (omega (arith, linear, pow_pos 0)) one-most
      (value-least process.goal process.total (row_of process) (λ s a. choice s ≡ a) (Unit {0}) (λ n s p. Unit {0}) (λ n s p. choice_value process (charge r.costs) choice (pos 0) (negsuc 0) n s) (λ s a. pos (charge r.costs s a) *ℤ pos 0) 1 (power process.total) stepping grown total-least
      (λ s p. first-least (is_goal k.model s) (pos 0))
      (λ n s p g. omega (arith, linear, alone (memoryless_cost process (charge r.costs) choice (suc n) s) (memoryless_reach process choice (suc n) s), goal-choice choice (suc n) s g, grown.1.1 (suc n)))
      no-gain)
      (λ n s p g. at_goal s (power process.total n) (memoryless_cost process (charge r.costs) choice n s) (memoryless_reach process choice n s) (grown.1.1 n) (goal-choice choice n s g))
      far later
      (λ s a g le chosen. let has = number_of s g le in subst (λ a. IsPushing process.total (numbered c.numbers) (mark c.ranks) (pos 1) (pos (2 ^ c.e)) (pos (charge r.costs s a) *ℤ pos 0) s (row_of process s a)) chosen (pushing s (choice s) has (rows s g has)))
      j s tt tt

  -- ---- as it is said

  pub in_words : (e h j : ℕ) (s : ℕ) (all cost reached : ℤ) → has_number c.numbers s ≡ true → let m = power (pos (2 ^ e)) h *ℤ pos (2 ^ 0) in
      ((numbered c.numbers s *ℤ (power m j -ℤ power (m -ℤ pos 1) j)) *ℤ all) ≤ℤ ((cost *ℤ pos 0 -ℤ reached *ℤ negsuc 0) *ℤ power m j)
      → (pos (2 ^ ((0 + e * h) * j)) *ℤ all) ≤ℤ (pos (2 ^ ((0 + e * h) * j)) *ℤ reached +ℤ pos ((2 ^ (0 + e * h) - 1) ^ j) *ℤ all)
  in_words e h j s all cost reached has le =
      let m = power (pos (2 ^ e)) h *ℤ pos (2 ^ 0) in
      let one : numbered c.numbers s ≡ pos 1 = rw has refl in
      let bare : ((pos 1 *ℤ (power m j -ℤ power (m -ℤ pos 1) j)) *ℤ all) ≤ℤ (reached *ℤ power m j) = subst (λ z. ((pos 1 *ℤ (power m j -ℤ power (m -ℤ pos 1) j)) *ℤ all) ≤ℤ (z *ℤ power m j)) (alone cost reached) (subst (λ z. ((z *ℤ (power m j -ℤ power (m -ℤ pos 1) j)) *ℤ all) ≤ℤ ((cost *ℤ pos 0 -ℤ reached *ℤ negsuc 0) *ℤ power m j)) one le) in
      subst (λ z. (z *ℤ all) ≤ℤ (z *ℤ reached +ℤ pos ((2 ^ (0 + e * h) - 1) ^ j) *ℤ all)) (all_parts 0 e h j)
      (subst (λ z. (power m j *ℤ all) ≤ℤ (power m j *ℤ reached +ℤ z *ℤ all)) (all_left 0 e h j) (said all (power m j) (power (m -ℤ pos 1) j) reached bare))

pub without : (P : ℕ → Type 0) (n : ℕ) → P (0 + n) → P n
without P n p = let same : 0 + n ≡ n = omega arith in subst P same p

pub reaching_upper_all_reaches : WeightedSumsAreNotNegative → WeightedSumsRise → WeightsInside → MeansAtLeastInside → ReachingUpperAllReaches
reaching_upper_all_reaches nonnegative rise weights means k spans r c is within upper v inside s has q j p fits =
    let process = process_at k.model v in
    let n = c.k * j in
    let all = power (pos q *ℤ process.total) n in
    without (λ m. (pos (2 ^ (m * j)) *ℤ all) ≤ℤ (pos (2 ^ (m * j)) *ℤ reach process q n s p +ℤ pos ((2 ^ m - 1) ^ j) *ℤ all)) (c.e * c.k)
    (in_words nonnegative rise weights means k spans r c is within upper.ranks v inside c.e c.k j s all (expected_cost process (charge r.costs) q n s p) (reach process q n s p) has
    (for_all nonnegative rise weights means k spans r c is within upper.ranks v inside (λ s a g e lt. ((upper.collected.rows s a g e lt).numbers, upper.leads s a g e lt)) q j s p fits))

pub reaching_upper_one_reaches : WeightedSumsAreNotNegative → WeightedSumsRise → WeightsInside → MeansAtLeastInside → ReachingUpperOneReaches
reaching_upper_one_reaches nonnegative rise weights means k spans r c is within upper v inside s has choice j follows =
    let process = process_at k.model v in
    let n = c.k * j in
    let all = power process.total n in
    without (λ m. (pos (2 ^ (m * j)) *ℤ all) ≤ℤ (pos (2 ^ (m * j)) *ℤ memoryless_reach process choice n s +ℤ pos ((2 ^ m - 1) ^ j) *ℤ all)) (c.e * c.k)
    (in_words nonnegative rise weights means k spans r c is within upper.ranks v inside c.e c.k j s all (memoryless_cost process (charge r.costs) choice n s) (memoryless_reach process choice n s) has
    (for_one nonnegative rise weights means k spans r c is within upper.ranks v inside choice
    (λ s g e. let same = follows s (upper.collected.picked s g e) in
    subst (λ a. MeansAtLeast k spans (row_at k.model s a) (numbered c.numbers) (pos 1) × LeadsOn k spans c s a) (sym same) ((upper.collected.rows s g e).numbers, upper.leads s g e)) j s))
