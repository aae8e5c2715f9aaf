-- What certificates from above say of what is collected.
use Rattle.std.proofs.Common.{◌≡◌, ℕ, zero, suc, ◌<◌, ◌≤◌, ◌^◌, Bool, true, false, cond, List, [], ◌∷◌, length, get_or, ℤ, pos, negsuc, ◌+ℤ◌, ◌-ℤ◌, ◌*ℤ◌, neg_ℤ, ◌≤ℤ◌, int_le, refl, sym, ap, subst, arith}
use Rattle.lift_poly.specs.Polynomial.{Valuation}
use Rattle.lift_poly.proofs.Ring.{linear, mul-comm, mul-le, mul-nonneg, mul-zero, zero-mul, one-mul, as_diff, diffs, diff-same, le_from_test}
use Rattle.lift_model.specs.Process.{Process, Move, power, weighted_sum}
use Rattle.lift_model.specs.Plan.{Plan, Fits}
use Rattle.lift_model.specs.Reach.{reach}
use Rattle.lift_model.specs.Memoryless.{memoryless_reach}
use Rattle.lift_model.specs.Laws.{AreNonNegative}
use Rattle.lift_model.specs.Model.{is_goal, choices, row_at, process_at}
use Rattle.lift_grid.specs.Rectangle.{Spans, Inside}
use Rattle.lift_frac.specs.Laws.{LcmIsMultiple}
use Rattle.corner_lift.specs.Case.{CaseData, IsCase, IsInside, number}
use Rattle.corner_lift.specs.Laws.{WeightsInside, SumsAreTotals, MeansAtMostInside, MeansAtLeastInside}
use Rattle.reward_cert.specs.Charges.{RewardData, AreRewards, charge}
use Rattle.reward_cert.specs.Expected.{expected_cost, memoryless_cost}
use Rattle.reward_cert.specs.Rounded.{reward_up}
use Rattle.reward_cert.specs.Rows.{has_number, numbered, IsCovered}
use Rattle.reward_cert.specs.Said.{unit}
use Rattle.reward_cert.specs.Laws.{CollectedUpperAllBounds, CollectedUpperOneBounds}
use Rattle.reward_cert.proofs.Steps.{either_way, AreClosed, plan_value, choice_value}
use Rattle.reward_cert.proofs.Bounding.{bounded, grown_power}
use Rattle.reward_cert.proofs.Covering.{up_covers}
use Rattle.reward_cert.proofs.Valuations.{row_of, plan_stepping, choice_stepping, grown_plain, total-positive, weights-least, row_weights, row_is, row_total, choice_count}

-- ---- states without number

pub number_least : (z : List ℤ) (s : ℕ) → int_le (pos 0) (get_or z s (negsuc 0)) ≡ true → pos 0 ≤ℤ get_or z s (pos 0)
number_least [] s e = omega (arith, linear)
number_least (n ∷ z) zero e = le_from_test (pos 0) n e
number_least (n ∷ z) (suc s) e = number_least z s e

one_lost : (held : ℕ → Bool) (m : Move) → pos 0 ≤ℤ m.1 → pos 0 ≤ℤ (m.1 *ℤ cond (held m.0) (pos 0) (pos 1))
one_lost held m h = either_way (held m.0) (λ e. rw e (omega (arith, linear, mul-zero m.1))) (λ e. rw e (omega (arith, linear, h, mul-comm m.1 (pos 1), one-mul m.1)))

lost-least : (held : ℕ → Bool) (moves : List Move) → AreNonNegative moves → pos 0 ≤ℤ weighted_sum (λ t. cond (held t) (pos 0) (pos 1)) moves
lost-least held [] h = omega (arith, linear)
lost-least held (m ∷ moves) h = omega (arith, linear, lost-least held moves h.1, one_lost held m h.0)

none_lost : (held : ℕ → Bool) (moves : List Move) → AreNonNegative moves → weighted_sum (λ t. cond (held t) (pos 0) (pos 1)) moves ≤ℤ pos 0 → AreClosed held moves
none_lost held [] h le = tt
none_lost held (m ∷ moves) h le = (omega (arith, linear, le, lost-least held moves h.1), none_lost held moves h.1 (omega (arith, linear, le, one_lost held m h.0)))

-- what is lost and what isn't is all
lost_or_not : (held : ℕ → Bool) (moves : List Move) → weighted_sum (λ t. cond (held t) (pos 0) (pos 1)) moves +ℤ weighted_sum (λ t. cond (held t) (pos 1) (pos 0)) moves ≡ weighted_sum (λ t. pos 1) moves
lost_or_not held [] = omega (arith, linear)
lost_or_not held (m ∷ moves) = either_way (held m.0) (λ e. rw e (omega (arith, linear, lost_or_not held moves, mul-zero m.1))) (λ e. rw e (omega (arith, linear, lost_or_not held moves, mul-zero m.1)))

pub closed_row : (held : ℕ → Bool) (moves : List Move) (total : ℤ) → AreNonNegative moves → weighted_sum (λ t. pos 1) moves ≡ total → (pos 1 *ℤ total) ≤ℤ weighted_sum (λ t. cond (held t) (pos 1) (pos 0)) moves → AreClosed held moves
closed_row held moves total weights sum le = none_lost held moves weights (omega (arith, linear, le, sum, one-mul total, lost_or_not held moves))

-- ---- rows

negated : (u : ℤ) (z : ℕ → ℤ) (moves : List Move) → weighted_sum (λ t. neg_ℤ (z t *ℤ u)) moves ≡ neg_ℤ (weighted_sum z moves *ℤ u)
negated u z [] = omega (arith, linear, zero-mul u)
negated u z (m ∷ moves) = omega (arith, linear, negated u z moves, parted m.1 (z m.0) (weighted_sum z moves) u)
  where
    parted : (w z s u : ℤ) → w *ℤ neg_ℤ (z *ℤ u) +ℤ neg_ℤ (s *ℤ u) ≡ neg_ℤ ((w *ℤ z +ℤ s) *ℤ u)
    parted w z s u = rw (as_diff w, as_diff z, as_diff s, as_diff u) (simp diffs (diff-same _ _ _ _ (omega arith)))

row_keeps : (u h t d n : ℤ) (z : ℕ → ℤ) (zs : ℤ) (moves : List Move) → pos 0 ≤ℤ u → pos 0 ≤ℤ n → weighted_sum z moves ≤ℤ ((zs -ℤ d) *ℤ n) → (h *ℤ t) ≤ℤ (d *ℤ u)
    → (neg_ℤ (zs *ℤ u) *ℤ n) ≤ℤ ((h *ℤ neg_ℤ t) *ℤ n +ℤ weighted_sum (λ t. neg_ℤ (z t *ℤ u)) moves)
row_keeps u h t d n z zs moves u_least n_least mean pays =
    omega (arith, linear, mul-le u (weighted_sum z moves) ((zs -ℤ d) *ℤ n) u_least mean, mul-le n (h *ℤ t) (d *ℤ u) n_least pays, negated u z moves, mul-comm u (weighted_sum z moves), left, right)
  where
    left : neg_ℤ (zs *ℤ u) *ℤ n ≡ neg_ℤ (u *ℤ ((zs -ℤ d) *ℤ n) +ℤ n *ℤ (d *ℤ u))
    left = rw (as_diff zs, as_diff u, as_diff n, as_diff d) (simp diffs (diff-same _ _ _ _ (omega arith)))

    right : (h *ℤ neg_ℤ t) *ℤ n ≡ neg_ℤ (n *ℤ (h *ℤ t))
    right = rw (as_diff h, as_diff t, as_diff n) (simp diffs (diff-same _ _ _ _ (omega arith)))

pub said : (z u k t cost reached : ℤ) → (neg_ℤ (z *ℤ u) *ℤ k) ≤ℤ (cost *ℤ neg_ℤ t -ℤ reached *ℤ pos 0) → (cost *ℤ t) ≤ℤ (z *ℤ (u *ℤ k))
said z u k t cost reached le = omega (arith, linear, le, mul-zero reached, left, right)
  where
    left : neg_ℤ (z *ℤ u) *ℤ k ≡ neg_ℤ (z *ℤ (u *ℤ k))
    left = rw (as_diff z, as_diff u, as_diff k) (simp diffs (diff-same _ _ _ _ (omega arith)))

    right : cost *ℤ neg_ℤ t ≡ neg_ℤ (cost *ℤ t)
    right = rw (as_diff cost, as_diff t) (simp diffs (diff-same _ _ _ _ (omega arith)))

nothing_yet : (z u t reached : ℤ) → pos 0 ≤ℤ (z *ℤ u) → neg_ℤ (z *ℤ u) ≤ℤ (pos 0 *ℤ neg_ℤ t -ℤ reached *ℤ pos 0)
nothing_yet z u t reached least = omega (arith, linear, least, zero-mul (neg_ℤ t), mul-zero reached)

at_goal : (u k t reached : ℤ) → (neg_ℤ (pos 0 *ℤ u) *ℤ k) ≤ℤ (pos 0 *ℤ neg_ℤ t -ℤ reached *ℤ pos 0)
at_goal u k t reached = omega (arith, linear, zero-mul (neg_ℤ t), mul-zero reached, none)
  where
    none : neg_ℤ (pos 0 *ℤ u) *ℤ k ≡ pos 0
    none = rw (zero-mul u) (zero-mul k)

module _ (multiple : LcmIsMultiple) (weights : WeightsInside) (sums : SumsAreTotals) (most : MeansAtMostInside) (means : MeansAtLeastInside) (k : CaseData) (spans : Spans) (r : RewardData) (z : List ℤ) (is : IsCase k) (within : IsInside k.root spans) (are : AreRewards r) (goal_is : (s : ℕ) → is_goal k.model s ≡ true → number z s ≡ pos 0) (v : Valuation) (inside : Inside k.d spans v) where
  abbrev process : Process
  process = process_at k.model v

  abbrev top : ℤ
  top = neg_ℤ (pos (2 ^ k.w))

  abbrev turned : ℕ → ℤ
  turned s = neg_ℤ (number z s *ℤ unit r)

  total-least : pos 0 ≤ℤ process.total
  total-least = omega (arith, linear, total-positive k spans is within v inside)

  covered_row : (s a : ℕ) → a < length (choices k.model s) → IsCovered k spans r z s a
      → AreClosed (has_number z) (row_of process s a) × ((turned s *ℤ process.total) ≤ℤ ((pos (charge r.costs s a) *ℤ top) *ℤ process.total +ℤ weighted_sum turned (row_of process s a)))
  covered_row s a lt covered =
      let mean = most k spans (row_at k.model s a) z (number z s -ℤ pos (reward_up k.w r s a)) is within covered.means v inside in
      let all = means k spans (row_at k.model s a) (numbered z) (pos 1) is within covered.numbers v inside in (
        closed_row (has_number z) (row_of process s a) process.total (row_weights k spans is within v inside weights s a) (row_total k spans is within v inside sums s a lt)
            (omega (arith, linear, all, ap (weighted_sum (numbered z)) (row_is k spans is within v inside s a))),
        row_keeps (unit r) (pos (charge r.costs s a)) (pos (2 ^ k.w)) (pos (reward_up k.w r s a)) process.total (number z) (number z s) (row_of process s a) (omega (arith, linear)) total-least
            (omega (arith, linear, mean, ap (weighted_sum (number z)) (row_is k spans is within v inside s a)))
            (up_covers multiple r k.w s a are),
      )

  from_none : (s : ℕ) → has_number z s ≡ true → pos 0 ≤ℤ (number z s *ℤ unit r)
  from_none s e = mul-nonneg (number z s) (unit r) (number_least z s e) (omega (arith, linear))

  pub for_all : ((s a : ℕ) → is_goal k.model s ≡ false → has_number z s ≡ true → a < length (choices k.model s) → IsCovered k spans r z s a) → (q n s : ℕ) (p : Plan) → has_number z s ≡ true → Fits process q n s p
      → (turned s *ℤ power (pos q *ℤ process.total) n) ≤ℤ plan_value process (charge r.costs) q top (pos 0) n s p
  for_all rows q n s p has fits =
      bounded process.goal process.total (row_of process) (λ s a. a < length (process.choices s)) Plan (Fits process q) (plan_value process (charge r.costs) q top (pos 0)) (λ s a. pos (charge r.costs s a) *ℤ top) q (power (pos q *ℤ process.total))
      (plan_stepping process (charge r.costs) q top (pos 0) (weights-least k spans is within v inside weights))
      (grown_power q process.total total-least)
      (has_number z) turned
      (λ s p e. nothing_yet (number z s) (unit r) (pos (2 ^ k.w)) (reach process q 0 s p) (from_none s e))
      (λ n s p e g. rw (goal_is s g, g) (at_goal (unit r) (power (pos q *ℤ process.total) (suc n)) (pos (2 ^ k.w)) (power (pos q *ℤ process.total) (suc n))))
      (λ s a e g lt. let there : a < length (choices k.model s) = omega (arith, lt, choice_count k spans is within v inside s) in covered_row s a there (rows s a g e there))
      n s p has fits

  pub for_one : (choice : ℕ → ℕ) → ((s : ℕ) → is_goal k.model s ≡ false → has_number z s ≡ true → (choice s < length (choices k.model s)) × IsCovered k spans r z s (choice s)) → (n s : ℕ) → has_number z s ≡ true
      → (turned s *ℤ power process.total n) ≤ℤ choice_value process (charge r.costs) choice top (pos 0) n s
  for_one choice rows n s has =
      bounded process.goal process.total (row_of process) (λ s a. choice s ≡ a) (Unit {0}) (λ n s p. Unit {0}) (λ n s p. choice_value process (charge r.costs) choice top (pos 0) n s) (λ s a. pos (charge r.costs s a) *ℤ top) 1 (power process.total)
      (choice_stepping process (charge r.costs) choice top (pos 0) (weights-least k spans is within v inside weights))
      (grown_plain process.total total-least)
      (has_number z) turned
      (λ s p e. nothing_yet (number z s) (unit r) (pos (2 ^ k.w)) (memoryless_reach process choice 0 s) (from_none s e))
      (λ n s p e g. rw (goal_is s g, g) (at_goal (unit r) (power process.total (suc n)) (pos (2 ^ k.w)) (power process.total (suc n))))
      (λ s a e g chosen. subst (λ a. AreClosed (has_number z) (row_of process s a) × ((turned s *ℤ process.total) ≤ℤ ((pos (charge r.costs s a) *ℤ top) *ℤ process.total +ℤ weighted_sum turned (row_of process s a)))) chosen (let row = rows s g e in covered_row s (choice s) row.0 row.1))
      n s tt has tt

pub collected_upper_all_bounds : LcmIsMultiple → WeightsInside → SumsAreTotals → MeansAtMostInside → MeansAtLeastInside → CollectedUpperAllBounds
collected_upper_all_bounds multiple weights sums most means k spans r z is within are upper v inside s has q n p fits =
    let process = process_at k.model v in
    said (number z s) (unit r) (power (pos q *ℤ process.total) n) (pos (2 ^ k.w)) (expected_cost process (charge r.costs) q n s p) (reach process q n s p)
    (for_all multiple weights sums most means k spans r z is within are upper.goal v inside upper.rows q n s p has fits)

pub collected_upper_one_bounds : LcmIsMultiple → WeightsInside → SumsAreTotals → MeansAtMostInside → MeansAtLeastInside → CollectedUpperOneBounds
collected_upper_one_bounds multiple weights sums most means k spans r z picks is within are upper v inside s has choice n follows =
    let process = process_at k.model v in
    said (number z s) (unit r) (power process.total n) (pos (2 ^ k.w)) (memoryless_cost process (charge r.costs) choice n s) (memoryless_reach process choice n s)
    (for_one multiple weights sums most means k spans r z is within are (λ s g. (upper.goal s g).0) v inside choice
    (λ s g e. let lt = upper.picked s g e in let same = follows s lt in (omega (arith, lt, same), subst (λ a. IsCovered k spans r z s a) (sym same) (upper.rows s g e))) n s has)
