-- What a rejecting certificate shows.
use Rattle.std.proofs.Common.{◌≡◌, ℕ, zero, suc, ◌-◌, ◌*◌, ◌^◌, ◌<◌, ◌≤◌, Bool, true, false, not, ◌&&◌, List, [], ◌∷◌, length, map, get_or, pos, ◌+ℤ◌, ◌-ℤ◌, ◌*ℤ◌, ◌≤ℤ◌, refl, sym, ap, ◌∙◌, arith, nat_lt, ltb-true, ltb-false, pow-suc, pow-add, mul-suc, mul_comm, mul-zero as mul-zero_nat}
use Rattle.std.proofs.lemmas.Nat.{pow_pos}
use Rattle.std.proofs.Math.Nat.{pow-zero}
use Rattle.lift_poly.specs.Polynomial.{Valuation, denominator}
use Rattle.lift_poly.proofs.Ring.{linear, one-mul, mul-nonneg, mul-add}
use Rattle.lift_grid.specs.Rectangle.{Spans, Inside}
use Rattle.lift_grid.specs.Tree.{RejectData}
use Rattle.lift_model.specs.declared.entry.Entry.{Entry}
use Rattle.lift_model.specs.Process.{Move, power, weighted_sum}
use Rattle.lift_model.specs.Memoryless.{chosen, memoryless_reach, undecided}
use Rattle.lift_model.specs.Laws.{AreNonNegative, WeightedSumsAreNotNegative, WeightedSumsRise}
use Rattle.lift_model.specs.Model.{support, is_goal, choices, moves_at, process_at}
use Rattle.corner_lift.specs.Corner.{corner, whole}
use Rattle.corner_lift.specs.Case.{CaseData, IsCase, IsInside, number}
use Rattle.corner_lift.specs.Certificate.{unmarked, mark, ranked_below, chosen_row, IsHeld, IsLower, MeansAtLeast}
use Rattle.corner_lift.specs.Laws.{NumbersAreInRange, WeightsInside, SumsAreTotals, MeansAtLeastInside}
use Rattle.lift_cert.specs.Reached.{Follows}
use Rattle.lift_cert.specs.Laws.{is_open, LowerBounds, RejectingReaches}
use Rattle.lift_cert.proofs.Accepting.{denominator-least, moves_least}
use Rattle.lift_cert.proofs.Holding.{IsSupported, sum-times, held_bound, hold_bound, undecided_at}

moves_of : (v : Valuation) (rows : List (List Entry)) (i : ℕ) → get_or (map (moves_at v) rows) i [] ≡ moves_at v (get_or rows i [])
moves_of v [] i = refl
moves_of v (row ∷ rows) zero = refl
moves_of v (row ∷ rows) (suc i) = moves_of v rows i

power-pos_is : (b n : ℕ) → power (pos b) n ≡ pos (b ^ n)
power-pos_is b zero = ap pos (sym (pow-zero b))
power-pos_is b (suc n) = ap (λ z. pos b *ℤ z) (power-pos_is b n) ∙ ap pos (mul_comm b (b ^ n) ∙ sym (pow-suc b n))

pow-times : (a n : ℕ) → 2 ^ (a * n) ≡ (2 ^ a) ^ n
pow-times a zero = rw (mul-zero_nat, pow-zero (2 ^ a)) refl
pow-times a (suc n) = rw mul-suc (pow-add 2 (a * n) a ∙ ap (λ z. z * 2 ^ a) (pow-times a n) ∙ sym (pow-suc (2 ^ a) n))

open_parts : (g : Bool) (r : ℕ) → (not g && nat_lt r unmarked) ≡ true → (g ≡ false) × (r < unmarked)
open_parts true r e = cc
open_parts false r e = (refl, ltb-true r unmarked e)

-- P holds of a row of a list, or of no moves beyond the last
row_of_list : (P : List Move → Type 0) (v : Valuation) (rows : List (List Entry)) (i : ℕ) → P [] → ((d : List Entry) → i < length rows → P (moves_at v (get_or rows i d))) → P (get_or (map (moves_at v) rows) i [])
row_of_list P v [] i none some = none
row_of_list P v (row ∷ rows) zero none some = some row (omega arith)
row_of_list P v (row ∷ rows) (suc i) none some = row_of_list P v rows i none (λ d lt. some d (omega (arith, lt)))

module _ (least : WeightedSumsAreNotNegative) (rise : WeightedSumsRise) (numbers : NumbersAreInRange) (weights : WeightsInside) (sums : SumsAreTotals) (means : MeansAtLeastInside) (k : CaseData) (spans : Spans) (r : RejectData) (is : IsCase k) (within : IsInside k.root spans) (h : IsLower k spans r) (follow : ℕ → ℕ) (follows : Follows k.model r.picks follow) (v : Valuation) (inside : Inside k.d spans v) where
  held_at : (s : ℕ) → is_open k r s ≡ true → IsHeld k spans r s
  held_at s o = let parts = open_parts (is_goal k.model s) (mark r.ranks s) o in h.held s parts.0 parts.1

  chosen_is : (s : ℕ) → mark r.picks s < length (choices k.model s) → chosen (process_at k.model v) follow s ≡ moves_at v (chosen_row k r s)
  chosen_is s lt = ap (λ a. get_or (map (moves_at v) (choices k.model s)) a []) (follows s lt) ∙ moves_of v (choices k.model s) (mark r.picks s)

  state_of : (s a : ℕ) → a < length (choices k.model s) → s < length k.model.states
  state_of s a lt = elim (nat_lt s (length k.model.states)) as (λ b. nat_lt s (length k.model.states) ≡ b → s < length k.model.states) [ true ↦ λ e. ltb-true s (length k.model.states) e | false ↦ λ e. absurd (past_end k.model.states s a (ltb-false s (length k.model.states) e) lt) ] refl
    where
      past_end : (states : List (List (List Entry))) (s a : ℕ) → length states ≤ s → a < length (get_or states s []) → ⊥
      past_end [] s a le lt = omega (arith, lt)
      past_end (state ∷ states) zero a le lt = omega (arith, le)
      past_end (state ∷ states) (suc s) a le lt = past_end states s a (omega (arith, le)) lt

  sums_at : (s : ℕ) → is_open k r s ≡ true → weighted_sum (λ t. pos 1) (chosen (process_at k.model v) follow s) ≤ℤ (process_at k.model v).total
  sums_at s o =
      let lt = (held_at s o).pick in
      let admitted = is.admitted s [] (state_of s (mark r.picks s) lt) (mark r.picks s) [] lt in
      rw (chosen_is s lt) (omega (arith, linear, sums k.model (chosen_row k r s) v admitted.sum))

  means_at : (s : ℕ) → is_open k r s ≡ true → (number r.numbers s *ℤ (process_at k.model v).total) ≤ℤ weighted_sum (number r.numbers) (chosen (process_at k.model v) follow s)
  means_at s o =
      let held = held_at s o in
      rw (chosen_is s held.pick) (means k spans (chosen_row k r s) (number r.numbers) (number r.numbers s) is within held.means v inside)

  rates_at : (s : ℕ) → is_open k r s ≡ true → (process_at k.model v).total ≤ℤ (weighted_sum (ranked_below (mark r.ranks) (mark r.ranks s)) (chosen (process_at k.model v) follow s) *ℤ pos (2 ^ r.e))
  rates_at s o =
      let held = held_at s o in
      let row = chosen_row k r s in
      let low = ranked_below (mark r.ranks) (mark r.ranks s) in
      let rate = pos (2 ^ r.e) in
      let scaled : MeansAtLeast k spans row (λ t. low t *ℤ rate) (pos 1) = λ c lt. let at = held.rates c lt in omega (arith, linear, at, sum-times rate low (moves_at (corner k.d spans (support row) c) row), one-mul (whole k.model k.d spans row)) in
      let bound = means k spans row (λ t. low t *ℤ rate) (pos 1) is within scaled v inside in
      rw (chosen_is s held.pick) (omega (arith, linear, bound, sum-times rate low (moves_at v row), one-mul (process_at k.model v).total))

  pub lower_supported : IsSupported (process_at k.model v) (pos (2 ^ k.w)) (number r.numbers) follow (is_open k r) (mark r.ranks) (pos (2 ^ r.e)) r.k
  lower_supported =
      let common_least : pos 0 ≤ℤ k.model.common = omega (arith, linear, is.asked.model.denominator.0) in
      record {
        total = mul-nonneg k.model.common (denominator v) common_least (denominator-least k.d spans v inside);
        top_least = omega (arith, linear);
        rate_least = omega (arith, linear, pow_pos r.e);
        most = λ s. (numbers k r.numbers s h.numbers).1;
        weights = λ s. row_of_list AreNonNegative v (choices k.model s) (follow s) tt (λ d lt. moves_least v (get_or (choices k.model s) (follow s) d) (weights k spans v is within inside s [] (state_of s (follow s) lt) (follow s) d lt));
        sums = sums_at;
        goal = λ s g. ((h.goal s g).0, ap (λ b. not b && nat_lt (mark r.ranks s) unmarked) g);
        apart = λ s g o. unranked_at s g o;
        ranks = λ s o. (held_at s o).rank;
        means = means_at;
        rates = rates_at;
      }
    where
      unranked_at : (s : ℕ) → is_goal k.model s ≡ false → is_open k r s ≡ false → number r.numbers s ≡ pos 0
      unranked_at s g o =
          let test : nat_lt (mark r.ranks s) unmarked ≡ false = ap (λ b. not b && nat_lt (mark r.ranks s) unmarked) (sym g) ∙ o in
          (h.unranked s g (ltb-false (mark r.ranks s) unmarked test)).0

  pub lower_holds : (n s : ℕ) → (number r.numbers s *ℤ power (process_at k.model v).total n) ≤ℤ (pos (2 ^ k.w) *ℤ (memoryless_reach (process_at k.model v) follow n s +ℤ undecided (process_at k.model v) follow (is_open k r) n s))
  lower_holds = hold_bound least rise (process_at k.model v) (pos (2 ^ k.w)) (number r.numbers) follow (is_open k r) (mark r.ranks) (pos (2 ^ r.e)) r.k lower_supported

  rate_is : power (pos (2 ^ r.e)) r.k ≡ pos (2 ^ (r.e * r.k))
  rate_is = power-pos_is (2 ^ r.e) r.k ∙ ap pos (sym (pow-times r.e r.k))

  all_parts : (j : ℕ) → power (power (pos (2 ^ r.e)) r.k) j ≡ pos (2 ^ (r.e * r.k * j))
  all_parts j = ap (λ b. power b j) rate_is ∙ power-pos_is (2 ^ (r.e * r.k)) j ∙ ap pos (sym (pow-times (r.e * r.k) j))

  all_left : (j : ℕ) → power (power (pos (2 ^ r.e)) r.k -ℤ pos 1) j ≡ pos ((2 ^ (r.e * r.k) - 1) ^ j)
  all_left j =
      let one : power (pos (2 ^ r.e)) r.k -ℤ pos 1 ≡ pos (2 ^ (r.e * r.k) - 1) = ap (λ b. b -ℤ pos 1) rate_is ∙ omega (arith, linear, pow_pos (r.e * r.k)) in
      ap (λ b. power b j) one ∙ power-pos_is (2 ^ (r.e * r.k) - 1) j

  -- what the choices reach in j blocks of k steps, at least
  pub reaches : (j s : ℕ) → (number r.numbers s *ℤ (pos (2 ^ (r.e * r.k * j)) *ℤ power (process_at k.model v).total (r.k * j))) ≤ℤ (pos (2 ^ k.w) *ℤ (pos (2 ^ (r.e * r.k * j)) *ℤ memoryless_reach (process_at k.model v) follow (r.k * j) s +ℤ pos ((2 ^ (r.e * r.k) - 1) ^ j) *ℤ power (process_at k.model v).total (r.k * j)))
  reaches j s =
      let bound = held_bound least rise (process_at k.model v) (pos (2 ^ k.w)) (number r.numbers) follow (is_open k r) (mark r.ranks) (pos (2 ^ r.e)) r.k lower_supported j s in
      rw (← all_parts j, ← all_left j, mul-add) bound

  -- in each block of k steps the undecided runs lose at least one part in 2 ^ (e k)
  pub undecided_falls : (j s : ℕ) → (undecided (process_at k.model v) follow (is_open k r) (r.k * j) s *ℤ pos (2 ^ (r.e * r.k * j))) ≤ℤ (pos ((2 ^ (r.e * r.k) - 1) ^ j) *ℤ power (process_at k.model v).total (r.k * j))
  undecided_falls j s =
      let bound = undecided_at least rise (process_at k.model v) (pos (2 ^ k.w)) (number r.numbers) follow (is_open k r) (mark r.ranks) (pos (2 ^ r.e)) r.k lower_supported j s in
      rw (← all_parts j, ← all_left j) bound

pub lower_bounds : WeightedSumsAreNotNegative → WeightedSumsRise → NumbersAreInRange → WeightsInside → SumsAreTotals → MeansAtLeastInside → LowerBounds
lower_bounds least rise numbers weights sums means k spans r is within lower v inside choice follows = (
  lower_holds least rise numbers weights sums means k spans r is within lower choice follows v inside,
  undecided_falls least rise numbers weights sums means k spans r is within lower choice follows v inside,
)

pub rejecting_reaches : WeightedSumsAreNotNegative → WeightedSumsRise → NumbersAreInRange → WeightsInside → SumsAreTotals → MeansAtLeastInside → RejectingReaches
rejecting_reaches least rise numbers weights sums means k spans bound r is within rejecting v inside choice j follows =
    reaches least rise numbers weights sums means k spans r is within rejecting.holds choice follows v inside j k.model.init
