-- What certificates over every choice, and over one, say at a valuation inside their rectangle.
use Rattle.std.proofs.Common.{◌≡◌, ℕ, zero, suc, ◌-◌, ◌*◌, ◌^◌, ◌<◌, ◌≤◌, false, List, [], ◌∷◌, length, map, get_or, All, pos, ℤ, ◌-ℤ◌, ◌*ℤ◌, ◌≤ℤ◌, refl, sym, ap, ◌∙◌, arith, pow-suc, pow-add, mul-suc, mul_comm, mul-zero as mul-zero_nat, ◌⊎◌, ⊎_elim}
use Rattle.std.specs.List.{AllByRecursion}
use Rattle.std.proofs.lemmas.List.{get_or_past}
use Rattle.std.proofs.lemmas.List.Elements.{All-head, All-tail}
use Rattle.std.proofs.lemmas.Nat.{pow_pos}
use Rattle.std.proofs.Math.Nat.{pow-zero}
use Rattle.lift_poly.specs.Polynomial.{Valuation, weight, denominator}
use Rattle.lift_poly.proofs.Ring.{linear, mul-comm, mul-assoc, one-mul, zero-mul, mul-le, mul-nonneg}
use Rattle.lift_grid.specs.Rectangle.{Spans, Inside}
use Rattle.lift_grid.specs.Tree.{RejectData}
use Rattle.lift_model.specs.declared.entry.Entry.{Entry}
use Rattle.lift_model.specs.Process.{Process, Move, power, weighted_sum}
use Rattle.lift_model.specs.Memoryless.{chosen, memoryless_reach}
use Rattle.lift_model.specs.Laws.{AreNonNegative, WeightedSumsRise}
use Rattle.lift_model.specs.Model.{support, is_goal, choices, row_at, moves_at, process_at}
use Rattle.corner_lift.specs.Corner.{corner, whole}
use Rattle.corner_lift.specs.Case.{CaseData, IsCase, IsInside, IsAdmittedRow, number}
use Rattle.corner_lift.specs.Certificate.{unmarked, mark, ranked_below, MeansAtLeast}
use Rattle.corner_lift.specs.Laws.{NumbersAreInRange, WeightsInside, SumsAreTotals, MeansAtLeastInside, MeansAtMostInside}
use Rattle.lift_cert.specs.Reached.{Follows}
use Rattle.lift_dual.specs.Supported.{ranked_under, Supports, IsSupportedByAll}
use Rattle.lift_dual.specs.Laws.{SupportedPlansReach}
use Rattle.lift_dual.specs.Sides.{RowHolds, IsLowerAll, IsUpperOne}
use Rattle.lift_dual.specs.Laws.{LowerAllReaches, UpperOneBounds}
use Rattle.lift_dual.proofs.Inside.{in_or_past, either_way}
use Rattle.lift_dual.proofs.Sums.{sum-same, sum-times}

power-pos_is : (b n : ℕ) → power (pos b) n ≡ pos (b ^ n)
power-pos_is b zero = ap pos (sym (pow-zero b))
power-pos_is b (suc n) = ap (λ z. pos b *ℤ z) (power-pos_is b n) ∙ ap pos (mul_comm b (b ^ n) ∙ sym (pow-suc b n))

pow-times : (a n : ℕ) → 2 ^ (a * n) ≡ (2 ^ a) ^ n
pow-times a zero = rw (mul-zero_nat, pow-zero (2 ^ a)) refl
pow-times a (suc n) = rw mul-suc (pow-add 2 (a * n) a ∙ ap (λ z. z * 2 ^ a) (pow-times a n) ∙ sym (pow-suc (2 ^ a) n))

denominator-least : (d : ℤ) (ss : Spans) (v : Valuation) → Inside d ss v → pos 0 ≤ℤ denominator v
denominator-least d [] [] h = omega (arith, linear)
denominator-least d (s ∷ ss) (x ∷ v) h = mul-nonneg x.1 (denominator v) (omega (arith, linear, h.0)) (denominator-least d ss v h.3)
denominator-least d [] (x ∷ v) h = absurd h
denominator-least d (s ∷ ss) [] h = absurd h

moves_least : (v : Valuation) (row : List Entry) → All (λ entry. pos 0 ≤ℤ weight v entry.poly) row → AreNonNegative (moves_at v row)
moves_least v [] h = tt
moves_least v (e ∷ row) h = let least : Entry → Type 0 = λ entry. pos 0 ≤ℤ weight v entry.poly in (All-head least e row h, moves_least v row (All-tail least e row h))

-- P holds of the moves of each row
all_moves : (P : List Move → Type 0) (v : Valuation) (rows : List (List Entry)) → All (λ row. P (moves_at v row)) rows → AllByRecursion P (map (moves_at v) rows)
all_moves P v [] h = tt
all_moves P v (row ∷ rows) h = let Holds : List Entry → Type 0 = λ (r : List Entry). P (moves_at v r) in (All-head Holds row rows h, all_moves P v rows (All-tail Holds row rows h))

-- P holds of what stands at a place, or beyond the last one
at_place : (P : List (List Entry) → Type 0) (states : List (List (List Entry))) (s : ℕ) → P [] → All P states → P (get_or states s [])
at_place P [] s none h = none
at_place P (state ∷ states) zero none h = All-head P state states h
at_place P (state ∷ states) (suc s) none h = at_place P states s none (All-tail P state states h)

-- P holds of a row of a list, or of no moves beyond the last
row_of_list : (P : List Move → Type 0) (v : Valuation) (rows : List (List Entry)) (i : ℕ) → P [] → ((d : List Entry) → i < length rows → P (moves_at v (get_or rows i d))) → P (get_or (map (moves_at v) rows) i [])
row_of_list P v [] i none some = none
row_of_list P v (row ∷ rows) zero none some = some row (omega arith)
row_of_list P v (row ∷ rows) (suc i) none some = row_of_list P v rows i none (λ d lt. some d (omega (arith, lt)))

moves_of : (v : Valuation) (rows : List (List Entry)) (i : ℕ) → get_or (map (moves_at v) rows) i [] ≡ moves_at v (get_or rows i [])
moves_of v [] i = refl
moves_of v (row ∷ rows) zero = refl
moves_of v (row ∷ rows) (suc i) = moves_of v rows i

module _ (k : CaseData) (spans : Spans) (is : IsCase k) (within : IsInside k.root spans) (v : Valuation) (inside : Inside k.d spans v) where
  abbrev process : Process
  process = process_at k.model v

  pub total-least : pos 0 ≤ℤ process.total
  total-least = let common_least : pos 0 ≤ℤ k.model.common = omega (arith, linear, is.asked.model.denominator.0) in mul-nonneg k.model.common (denominator v) common_least (denominator-least k.d spans v inside)

  pub all-weights : WeightsInside → (s : ℕ) → AllByRecursion AreNonNegative (process.choices s)
  all-weights weights s = at_place (λ rows. AllByRecursion AreNonNegative (map (moves_at v) rows)) k.model.states s tt
      (λ i d lt. all_moves AreNonNegative v (get_or k.model.states i d) (λ a r at. moves_least v (get_or (get_or k.model.states i d) a r) (weights k spans v is within inside i d lt a r at)))

  -- ---- below, for all

  module _ (numbers : NumbersAreInRange) (weights : WeightsInside) (sums : SumsAreTotals) (means : MeansAtLeastInside) (reaching : SupportedPlansReach) (r : RejectData) (h : IsLowerAll k spans r) where
    supported_row : (s : ℕ) (row : List Entry) → IsAdmittedRow k row → RowHolds k spans r s row → Supports process.total (number r.numbers) (mark r.ranks) (pos (2 ^ r.e)) s (moves_at v row)
    supported_row s row admitted holds =
        let low = ranked_below (mark r.ranks) (mark r.ranks s) in
        let rate = pos (2 ^ r.e) in
        let scaled : MeansAtLeast k spans row (λ t. low t *ℤ rate) (pos 1) = λ c lt. let at = holds.rates c lt in omega (arith, linear, at, sum-times rate low (moves_at (corner k.d spans (support row) c) row), one-mul (whole k.model k.d spans row)) in
        let bound = means k spans row (λ t. low t *ℤ rate) (pos 1) is within scaled v inside in
        record {
          sum = omega (arith, linear, sums k.model row v admitted.sum);
          mean = means k spans row (number r.numbers) (number r.numbers s) is within holds.means v inside;
          lead = omega (arith, linear, bound, sum-times rate low (moves_at v row), one-mul process.total, ap (λ z. z *ℤ rate) (sum-same low (ranked_under (mark r.ranks) (mark r.ranks s)) (moves_at v row) (λ t. refl)));
        }

    supported_rows : (s : ℕ) → is_goal k.model s ≡ false → mark r.ranks s ≤ r.k → AllByRecursion (Supports process.total (number r.numbers) (mark r.ranks) (pos (2 ^ r.e)) s) (process.choices s)
    supported_rows s g le = all_moves (Supports process.total (number r.numbers) (mark r.ranks) (pos (2 ^ r.e)) s) v (choices k.model s)
        (λ a d lt. supported_row s (get_or (choices k.model s) a d) (admitted a d lt) ((h.held s g (omega (arith, le, h.bounds.2))).rows a d lt))
      where
        admitted : (a : ℕ) (d : List Entry) → a < length (choices k.model s) → IsAdmittedRow k (get_or (choices k.model s) a d)
        admitted a d lt = ⊎_elim
            (λ (state : s < length k.model.states). is.admitted s [] state a d lt)
            (λ (past : length k.model.states ≤ s). absurd (let none = get_or_past k.model.states s [] past in omega (arith, lt, ap (length {A = List Entry}) none)))
            (in_or_past s (length k.model.states))

    pub supported : IsSupportedByAll process (pos (2 ^ k.w)) (number r.numbers) (mark r.ranks) (pos (2 ^ r.e)) r.k
    supported = record {
      total = total-least;
      top_least = omega (arith, linear);
      rate_least = omega (arith, linear, pow_pos r.e);
      most = λ s. (numbers k r.numbers s h.numbers).1;
      weights = all-weights weights;
      apart = λ s g far. apart_at s g far;
      later = λ s g. later_at s g;
      supports = supported_rows;
    }
      where
        by_mark : {P : Type 0} (n : ℕ) → (n < unmarked → P) → (unmarked ≤ n → P) → P
        by_mark n f g = ⊎_elim f g (in_or_past n unmarked)

        apart_at : (s : ℕ) → is_goal k.model s ≡ false → r.k < mark r.ranks s → number r.numbers s ≤ℤ pos 0
        apart_at s g far = by_mark (mark r.ranks s)
            (λ lt. absurd (omega (arith, far, (h.held s g lt).rank.1)))
            (λ le. omega (arith, linear, h.unranked s g le))

        later_at : (s : ℕ) → is_goal k.model s ≡ false → 1 ≤ mark r.ranks s
        later_at s g = by_mark (mark r.ranks s) (λ lt. (h.held s g lt).rank.0) (λ le. omega (arith, le))

    rate_is : power (pos (2 ^ r.e)) r.k ≡ pos (2 ^ (r.e * r.k))
    rate_is = power-pos_is (2 ^ r.e) r.k ∙ ap pos (sym (pow-times r.e r.k))

    all_parts : (j : ℕ) → power (power (pos (2 ^ r.e)) r.k) j ≡ pos (2 ^ (r.e * r.k * j))
    all_parts j = ap (λ b. power b j) rate_is ∙ power-pos_is (2 ^ (r.e * r.k)) j ∙ ap pos (sym (pow-times (r.e * r.k) j))

    all_left : (j : ℕ) → power (power (pos (2 ^ r.e)) r.k -ℤ pos 1) j ≡ pos ((2 ^ (r.e * r.k) - 1) ^ j)
    all_left j =
        let one : power (pos (2 ^ r.e)) r.k -ℤ pos 1 ≡ pos (2 ^ (r.e * r.k) - 1) = ap (λ b. b -ℤ pos 1) rate_is ∙ omega (arith, linear, pow_pos (r.e * r.k)) in
        ap (λ b. power b j) one ∙ power-pos_is (2 ^ (r.e * r.k) - 1) j

  -- ---- above, for one

  module _ (rise : WeightedSumsRise) (numbers : NumbersAreInRange) (weights : WeightsInside) (means : MeansAtMostInside) (x : List ℤ) (picks : List ℕ) (h : IsUpperOne k spans x picks) (choice : ℕ → ℕ) (follows : Follows k.model picks choice) where
    abbrev top : ℤ
    top = pos (2 ^ k.w)

    power-least : (n : ℕ) → pos 0 ≤ℤ power process.total n
    power-least zero = omega (arith, linear)
    power-least (suc n) = mul-nonneg process.total (power process.total n) total-least (power-least n)

    pub chosen-weights : (s : ℕ) → AreNonNegative (chosen process choice s)
    chosen-weights s = at_place (λ rows. AreNonNegative (get_or (map (moves_at v) rows) (choice s) [])) k.model.states s tt
        (λ i d lt. row_of_list AreNonNegative v (get_or k.model.states i d) (choice s) tt (λ e at. moves_least v (get_or (get_or k.model.states i d) (choice s) e) (weights k spans v is within inside i d lt (choice s) e at)))

    pub chosen-mean : (s : ℕ) → is_goal k.model s ≡ false → weighted_sum (number x) (chosen process choice s) ≤ℤ (number x s *ℤ process.total)
    chosen-mean s g = ⊎_elim
        (λ (state : s < length k.model.states).
        let lt = h.pick s state g in
        let same : chosen process choice s ≡ moves_at v (row_at k.model s (mark picks s)) = ap (λ a. get_or (map (moves_at v) (choices k.model s)) a []) (follows s lt) ∙ moves_of v (choices k.model s) (mark picks s) in
        rw same (means k spans (row_at k.model s (mark picks s)) x (number x s) is within (h.means s state g) v inside))
        (λ (past : length k.model.states ≤ s).
        let none : chosen process choice s ≡ [] = ap (λ rows. get_or (map (moves_at v) rows) (choice s) []) (get_or_past k.model.states s [] past) in
        rw none (mul-nonneg (number x s) process.total ((numbers k x s h.numbers).0) total-least))
        (in_or_past s (length k.model.states))

    step : (n s : ℕ) → is_goal k.model s ≡ false → ((t : ℕ) → (memoryless_reach process choice n t *ℤ top) ≤ℤ (number x t *ℤ power process.total n)) → (weighted_sum (memoryless_reach process choice n) (chosen process choice s) *ℤ top) ≤ℤ (number x s *ℤ power process.total (suc n))
    step n s g before =
        let row = chosen process choice s in
        let p = power process.total n in
        let all = rise (λ t. memoryless_reach process choice n t *ℤ top) (λ t. number x t *ℤ p) row before (chosen-weights s) in
        let mean = mul-le p (weighted_sum (number x) row) (number x s *ℤ process.total) (power-least n) (chosen-mean s g) in
        omega (arith, linear, all, mean, sum-times top (memoryless_reach process choice n) row, sum-times p (number x) row, mul-comm p (weighted_sum (number x) row), mul-comm p (number x s *ℤ process.total), mul-assoc (number x s) process.total p)

    bounded : (n s : ℕ) → (memoryless_reach process choice n s *ℤ top) ≤ℤ (number x s *ℤ power process.total n)
    bounded zero s = either_way (is_goal k.model s)
        (λ e. rw (e, (h.goal s e).0) (omega (arith, linear, one-mul top, mul-comm top (pos 1))))
        (λ e. rw e (omega (arith, linear, zero-mul top, mul-comm (number x s) (pos 1), one-mul (number x s), (numbers k x s h.numbers).0)))
    bounded (suc n) s = either_way (is_goal k.model s)
        (λ e. rw (e, (h.goal s e).0) (omega (arith, linear, mul-comm top (power process.total (suc n)))))
        (λ e. rw e (step n s e (λ t. bounded n t)))

pub lower_all_reaches : NumbersAreInRange → WeightsInside → SumsAreTotals → MeansAtLeastInside → SupportedPlansReach → LowerAllReaches
lower_all_reaches numbers weights sums means reaching k spans r is within lower v inside q j p fits =
    let bound = reaching (process_at k.model v) (pos (2 ^ k.w)) (number r.numbers) (mark r.ranks) (pos (2 ^ r.e)) r.k (supported k spans is within v inside numbers weights sums means reaching r lower) q j k.model.init p fits in
    rw (← all_parts k spans is within v inside numbers weights sums means reaching r lower j, ← all_left k spans is within v inside numbers weights sums means reaching r lower j) bound

pub upper_one_bounds : WeightedSumsRise → NumbersAreInRange → WeightsInside → MeansAtMostInside → UpperOneBounds
upper_one_bounds rise numbers weights means k spans x picks is within upper v inside choice n follows = bounded k spans is within v inside rise numbers weights means x picks upper choice follows n k.model.init
