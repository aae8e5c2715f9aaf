-- What certificates from below say of the cost to reach the goal.
use Rattle.std.proofs.Common.{◌≡◌, ℕ, suc, ◌<◌, ◌≤◌, ◌^◌, Bool, true, false, cond, List, [], ◌∷◌, length, ℤ, pos, ◌+ℤ◌, ◌-ℤ◌, ◌*ℤ◌, ◌≤ℤ◌, refl, sym, ap, subst, arith, ◌⊎◌, ⊎_elim}
use Rattle.lift_poly.specs.Polynomial.{Valuation}
use Rattle.lift_poly.proofs.Ring.{linear, mul-comm, mul-le, mul-nonneg, zero-mul, one-mul, as_diff, diffs, diff-same}
use Rattle.lift_model.specs.Process.{Process, Move, power, weighted_sum}
use Rattle.lift_model.specs.Plan.{Plan, Fits}
use Rattle.lift_model.specs.Model.{is_goal, choices, row_at, process_at}
use Rattle.lift_grid.specs.Rectangle.{Spans, Inside}
use Rattle.lift_frac.specs.Laws.{LcmIsMultiple}
use Rattle.corner_lift.specs.Case.{CaseData, IsCase, IsInside, number}
use Rattle.corner_lift.specs.Certificate.{AreNumbers}
use Rattle.corner_lift.specs.Laws.{NumbersAreInRange, WeightsInside, SumsAreTotals, MeansAtLeastInside}
use Rattle.reward_cert.specs.Charges.{RewardData, AreRewards, charge}
use Rattle.reward_cert.specs.Rounded.{reward_down}
use Rattle.reward_cert.specs.Rows.{IsBacked}
use Rattle.reward_cert.specs.Said.{unit}
use Rattle.reward_cert.specs.Laws.{ReachingLowerAllBounds, ReachingLowerOneBounds}
use Rattle.reward_cert.proofs.Steps.{AreClosed, plan_value, choice_value}
use Rattle.reward_cert.proofs.Bounding.{bounded, grown_power}
use Rattle.reward_cert.proofs.Covering.{down_is_covered}
use Rattle.reward_cert.proofs.Valuations.{in_or_past, every, all_closed, row_of, plan_stepping, choice_stepping, grown_plain, total-positive, weights-least, row_is, row_total, row_past, choice_count}

-- a vector times u, less c
sum-shift : (u c : ℤ) (y : ℕ → ℤ) (moves : List Move) → weighted_sum (λ t. u *ℤ y t -ℤ c) moves ≡ u *ℤ weighted_sum y moves -ℤ c *ℤ weighted_sum (λ t. pos 1) moves
sum-shift u c y [] = omega (arith, linear, mul-comm u (pos 0), zero-mul u, mul-comm c (pos 0), zero-mul c)
sum-shift u c y (m ∷ moves) = omega (arith, linear, sum-shift u c y moves, parted m.1 u (y m.0) c (weighted_sum y moves) (weighted_sum (λ t. pos 1) moves))
  where
    parted : (w u y c s o : ℤ) → w *ℤ (u *ℤ y -ℤ c) +ℤ (u *ℤ s -ℤ c *ℤ o) ≡ u *ℤ (w *ℤ y +ℤ s) -ℤ c *ℤ (w *ℤ pos 1 +ℤ o)
    parted w u y c s o = rw (mul-comm w (pos 1), one-mul w, as_diff w, as_diff u, as_diff y, as_diff c, as_diff s, as_diff o) (simp diffs (diff-same _ _ _ _ (omega arith)))

owed : (u y c d n : ℤ) → (u *ℤ y -ℤ c) *ℤ n ≡ u *ℤ ((y -ℤ d) *ℤ n) +ℤ (n *ℤ (d *ℤ u) -ℤ c *ℤ n)
owed u y c d n = rw (as_diff u, as_diff y, as_diff c, as_diff d, as_diff n) (simp diffs (diff-same _ _ _ _ (omega arith)))

row_keeps : (u c g d n : ℤ) (y : ℕ → ℤ) (ys : ℤ) (moves : List Move) → pos 0 ≤ℤ u → pos 0 ≤ℤ n → weighted_sum (λ t. pos 1) moves ≡ n → ((ys -ℤ d) *ℤ n) ≤ℤ weighted_sum y moves → (d *ℤ u) ≤ℤ g
    → ((u *ℤ ys -ℤ c) *ℤ n) ≤ℤ (g *ℤ n +ℤ weighted_sum (λ t. u *ℤ y t -ℤ c) moves)
row_keeps u c g d n y ys moves u_least n_least sum mean pays =
    omega (arith, linear, mul-le u ((ys -ℤ d) *ℤ n) (weighted_sum y moves) u_least mean, mul-le n (d *ℤ u) g n_least pays, mul-comm n g, owed u ys c d n, sum-shift u c y moves, ap (λ z. c *ℤ z) sum)

-- what is bounded by the induction, as it is said
pub said : (y u k t cost reached : ℤ) → ((u *ℤ y -ℤ t *ℤ u) *ℤ k) ≤ℤ (cost *ℤ t -ℤ reached *ℤ (t *ℤ u)) → (y *ℤ (u *ℤ k)) ≤ℤ (t *ℤ (cost +ℤ u *ℤ (k -ℤ reached)))
said y u k t cost reached le = omega (arith, linear, le, left, right)
  where
    left : (u *ℤ y -ℤ t *ℤ u) *ℤ k ≡ y *ℤ (u *ℤ k) -ℤ (t *ℤ u) *ℤ k
    left = rw (as_diff y, as_diff u, as_diff k, as_diff t) (simp diffs (diff-same _ _ _ _ (omega arith)))

    right : t *ℤ (cost +ℤ u *ℤ (k -ℤ reached)) ≡ (cost *ℤ t -ℤ reached *ℤ (t *ℤ u)) +ℤ (t *ℤ u) *ℤ k
    right = rw (as_diff t, as_diff cost, as_diff u, as_diff k, as_diff reached) (simp diffs (diff-same _ _ _ _ (omega arith)))

at_goal : (u c k t : ℤ) → ((u *ℤ pos 0 -ℤ c) *ℤ k) ≤ℤ (pos 0 *ℤ t -ℤ k *ℤ c)
at_goal u c k t = omega (arith, linear, zero-mul t, turned)
  where
    turned : (u *ℤ pos 0 -ℤ c) *ℤ k ≡ pos 0 -ℤ k *ℤ c
    turned = rw (mul-comm u (pos 0), zero-mul u, as_diff c, as_diff k) (simp diffs (diff-same _ _ _ _ (omega arith)))

module _ (multiple : LcmIsMultiple) (numbers : NumbersAreInRange) (weights : WeightsInside) (sums : SumsAreTotals) (means : MeansAtLeastInside) (k : CaseData) (spans : Spans) (r : RewardData) (y : List ℤ) (is : IsCase k) (within : IsInside k.root spans) (are : AreRewards r) (are_numbers : AreNumbers k y) (goal_is : (s : ℕ) → is_goal k.model s ≡ true → number y s ≡ pos 0) (v : Valuation) (inside : Inside k.d spans v) where
  abbrev process : Process
  process = process_at k.model v

  abbrev top : ℤ
  top = pos (2 ^ k.w)

  abbrev whole_cap : ℤ
  whole_cap = top *ℤ unit r

  abbrev shifted : ℕ → ℤ
  shifted s = unit r *ℤ number y s -ℤ whole_cap

  total-least : pos 0 ≤ℤ process.total
  total-least = omega (arith, linear, total-positive k spans is within v inside)

  shifted-most : (s : ℕ) → shifted s ≤ℤ pos 0
  shifted-most s = omega (arith, linear, mul-le (unit r) (number y s) top (omega (arith, linear)) (numbers k y s are_numbers).1, mul-comm (unit r) top)

  backed_row : (s a : ℕ) → a < length (choices k.model s) → IsBacked k spans r y s a
      → AreClosed every (row_of process s a) × ((shifted s *ℤ process.total) ≤ℤ ((pos (charge r.costs s a) *ℤ top) *ℤ process.total +ℤ weighted_sum shifted (row_of process s a)))
  backed_row s a lt backed =
      let mean = means k spans (row_at k.model s a) (number y) (number y s -ℤ pos (reward_down k.w r s a)) is within backed v inside in (
        all_closed (row_of process s a),
        row_keeps (unit r) whole_cap (pos (charge r.costs s a) *ℤ top) (pos (reward_down k.w r s a)) process.total (number y) (number y s) (row_of process s a) (omega (arith, linear)) total-least
            (row_total k spans is within v inside sums s a lt)
            (omega (arith, linear, mean, ap (weighted_sum (number y)) (row_is k spans is within v inside s a)))
            (down_is_covered multiple r k.w s a are),
      )

  start_at : (g : Bool) (s : ℕ) → is_goal k.model s ≡ g → shifted s ≤ℤ (pos 0 *ℤ top -ℤ cond g (pos 1) (pos 0) *ℤ whole_cap)
  start_at true s e = rw (goal_is s e) (omega (arith, linear, zero-mul top, one-mul whole_cap, mul-comm (unit r) (pos 0), zero-mul (unit r)))
  start_at false s e = omega (arith, linear, shifted-most s, zero-mul top, zero-mul whole_cap)

  pub for_all : ((s a : ℕ) → is_goal k.model s ≡ false → a < length (choices k.model s) → IsBacked k spans r y s a) → (q n s : ℕ) (p : Plan) → Fits process q n s p
      → (shifted s *ℤ power (pos q *ℤ process.total) n) ≤ℤ plan_value process (charge r.costs) q top whole_cap n s p
  for_all rows q n s p fits =
      bounded process.goal process.total (row_of process) (λ s a. a < length (process.choices s)) Plan (Fits process q) (plan_value process (charge r.costs) q top whole_cap) (λ s a. pos (charge r.costs s a) *ℤ top) q (power (pos q *ℤ process.total))
      (plan_stepping process (charge r.costs) q top whole_cap (weights-least k spans is within v inside weights))
      (grown_power q process.total total-least)
      every shifted
      (λ s p e. start_at (is_goal k.model s) s refl)
      (λ n s p e g. rw (goal_is s g, g) (at_goal (unit r) whole_cap (power (pos q *ℤ process.total) (suc n)) top))
      (λ s a e g lt. let there : a < length (choices k.model s) = omega (arith, lt, choice_count k spans is within v inside s) in backed_row s a there (rows s a g there))
      n s p refl fits

  pub for_one : (choice : ℕ → ℕ) → ((s : ℕ) → s < length k.model.states → is_goal k.model s ≡ false → (choice s < length (choices k.model s)) × IsBacked k spans r y s (choice s)) → (n s : ℕ)
      → (shifted s *ℤ power process.total n) ≤ℤ choice_value process (charge r.costs) choice top whole_cap n s
  for_one choice rows n s =
      bounded process.goal process.total (row_of process) (λ s a. choice s ≡ a) (Unit {0}) (λ n s p. Unit {0}) (λ n s p. choice_value process (charge r.costs) choice top whole_cap n s) (λ s a. pos (charge r.costs s a) *ℤ top) 1 (power process.total)
      (choice_stepping process (charge r.costs) choice top whole_cap (weights-least k spans is within v inside weights))
      (grown_plain process.total total-least)
      every shifted
      (λ s p e. start_at (is_goal k.model s) s refl)
      (λ n s p e g. rw (goal_is s g, g) (at_goal (unit r) whole_cap (power process.total (suc n)) top))
      (λ s a e g chosen. subst (λ a. AreClosed every (row_of process s a) × ((shifted s *ℤ process.total) ≤ℤ ((pos (charge r.costs s a) *ℤ top) *ℤ process.total +ℤ weighted_sum shifted (row_of process s a)))) chosen (row s g))
      n s tt refl tt
    where
      row : (s : ℕ) → is_goal k.model s ≡ false → AreClosed every (row_of process s (choice s)) × ((shifted s *ℤ process.total) ≤ℤ ((pos (charge r.costs s (choice s)) *ℤ top) *ℤ process.total +ℤ weighted_sum shifted (row_of process s (choice s))))
      row s g = ⊎_elim
          (λ (lt : s < length k.model.states). let has = rows s lt g in backed_row s (choice s) has.0 has.1)
          (λ (past : length k.model.states ≤ s). (
            all_closed (row_of process s (choice s)),
            rw (row_past k spans is within v inside s (choice s) past)
                (let gain : pos 0 ≤ℤ ((pos (charge r.costs s (choice s)) *ℤ top) *ℤ process.total) = mul-nonneg (pos (charge r.costs s (choice s)) *ℤ top) process.total (mul-nonneg (pos (charge r.costs s (choice s))) top (omega (arith, linear)) (omega (arith, linear))) total-least in
                omega (arith, linear, gain, mul-le process.total (shifted s) (pos 0) total-least (shifted-most s), mul-comm process.total (shifted s), mul-comm process.total (pos 0), zero-mul process.total)),
          ))
          (in_or_past s (length k.model.states))

pub reaching_lower_all_bounds : LcmIsMultiple → NumbersAreInRange → WeightsInside → SumsAreTotals → MeansAtLeastInside → ReachingLowerAllBounds
reaching_lower_all_bounds multiple numbers weights sums means k spans r y is within are lower v inside s q n p fits =
    said (number y s) (unit r) (power (pos q *ℤ (process_at k.model v).total) n) (pos (2 ^ k.w)) _ _
    (for_all multiple numbers weights sums means k spans r y is within are lower.numbers lower.goal v inside lower.rows q n s p fits)

pub reaching_lower_one_bounds : LcmIsMultiple → NumbersAreInRange → WeightsInside → SumsAreTotals → MeansAtLeastInside → ReachingLowerOneBounds
reaching_lower_one_bounds multiple numbers weights sums means k spans r y picks is within are lower v inside s choice n follows =
    said (number y s) (unit r) (power (process_at k.model v).total n) (pos (2 ^ k.w)) _ _
    (for_one multiple numbers weights sums means k spans r y is within are lower.numbers (λ s g. (lower.goal s g).0) v inside choice
    (λ s lt g. let has = lower.picked s lt g in let same = follows s has in (omega (arith, has, same), subst (λ a. IsBacked k spans r y s a) (sym same) (lower.rows s lt g))) n s)
