-- The greatest lower vector for every scheduler, by its other side.
use Rattle.std.proofs.Common.{◌≡◌, ℕ, zero, suc, ◌^◌, ◌<◌, ◌≤◌, true, false, List, [], ◌∷◌, length, All, ℤ, pos, ◌-ℤ◌, ◌*ℤ◌, ◌≤ℤ◌, ◌<ℤ◌, nat_lt, refl, sym, ap, subst, ◌∙◌, arith, ltb-true, ltb-false, ◌⊎◌, ⊎_elim}
use Rattle.std.proofs.lemmas.Int.{by_lt_z}
use Rattle.std.proofs.lemmas.List.{get_or_default, get_or_past}
use Rattle.std.proofs.lemmas.List.Elements.{All-from_get_or, All-head, All-tail}
use Rattle.lift_poly.proofs.Ring.{linear, mul-add, mul-comm, mul-zero, one-mul, mul-le, as_diff, diffs, diff-same}
use Rattle.lift_poly.specs.Polynomial.{Valuation, weight}
use Rattle.lift_grid.specs.Rectangle.{Spans}
use Rattle.lift_grid.specs.Tree.{RejectData}
use Rattle.lift_model.specs.declared.entry.Entry.{Entry}
use Rattle.lift_model.specs.Process.{Move, power, weighted_sum}
use Rattle.lift_model.specs.Model.{is_goal, choices, row_at, support, moves_at}
use Rattle.lift_model.specs.Valid.{IsEntry}
use Rattle.corner_lift.specs.Corner.{corner, parameter_count, corner_sum, whole}
use Rattle.corner_lift.specs.Case.{CaseData, IsCase, IsInside, number, row_whole}
use Rattle.corner_lift.specs.Certificate.{AreNumbers, AtMost, MeansAtMost, MeansAtLeast, unmarked, mark, ranked_below}
use Rattle.corner_lift.specs.Stages.{LeadsBelow}
use Rattle.corner_lift.specs.Laws.{NumbersAreInRange, ParametersAreTheRoots, SumsAreInRange, SumsRise, WeightsSumToWhole}
use Rattle.lift_dual.specs.Sides.{RowHolds, IsLowerAll}
use Rattle.lift_dual.proofs.Joining.{listed, listed-length, listed-at}
use Rattle.lift_dual.specs.Avoiding.{AreStagesOfAll, IsAvoiding, IsLeastAvoiding, IsRest, HasLeast, StagesAreLeast, RestIsAvoiding, RestIsGreatest}
use Rattle.lift_dual.proofs.Inside.{in_or_past, choice_inside, goal_inside, has_row, either_way}

-- the sum of what is left of a number
rest_sum : (v : ℤ) (f g : ℕ → ℤ) (row : List Move) → ((t : ℕ) → g t ≡ v -ℤ f t) → weighted_sum g row ≡ v *ℤ weighted_sum (λ t. pos 1) row -ℤ weighted_sum f row
rest_sum v f g [] h = omega (arith, linear, mul-zero v)
rest_sum v f g (m ∷ row) h = omega (arith, linear, ap (λ z. m.1 *ℤ z) (h m.0), turned m.1 v (f m.0), rest_sum v f g row h, mul-add v (m.1 *ℤ pos 1) (weighted_sum (λ t. pos 1) row), one v m.1)
  where
    turned : (a v f : ℤ) → a *ℤ (v -ℤ f) ≡ v *ℤ a -ℤ a *ℤ f
    turned a v f = rw (as_diff a, as_diff v, as_diff f) (simp diffs (diff-same _ _ _ _ (omega arith)))

    one : (v a : ℤ) → v *ℤ (a *ℤ pos 1) ≡ v *ℤ a
    one v a = rw (as_diff a, as_diff v) (simp diffs (diff-same _ _ _ _ (omega arith)))

-- the same where places past the last have number 0 in both
spread : (v z w : ℤ) → (v -ℤ z) *ℤ w ≡ v *ℤ w -ℤ z *ℤ w
spread v z w = rw (as_diff v, as_diff z, as_diff w) (simp diffs (diff-same _ _ _ _ (omega arith)))

product-positive : (a b : ℤ) → pos 1 ≤ℤ a → pos 1 ≤ℤ b → pos 1 ≤ℤ (a *ℤ b)
product-positive a b ha hb = omega (arith, linear, ha, mul-le a (pos 1) b (omega (arith, linear)) hb, mul-comm a (pos 1), one-mul a)

module _ (k : CaseData) (spans : Spans) (is : IsCase k) where
  abbrev n : ℕ
  n = length k.model.states

  power-positive : (b : ℤ) (m : ℕ) → pos 1 ≤ℤ b → pos 1 ≤ℤ power b m
  power-positive b zero h = omega (arith, linear)
  power-positive b (suc m) h = product-positive b (power b m) h (power-positive b m h)

  whole-positive : (row : List Entry) → pos 1 ≤ℤ whole k.model k.d spans row
  whole-positive row = product-positive k.model.common (power k.d (parameter_count spans (support row))) is.asked.model.denominator.0 (power-positive k.d (parameter_count spans (support row)) (omega (arith, linear, is.asked.grid.positive)))

  positive_part : (a b q : ℤ) → pos 0 ≤ℤ q → pos 1 ≤ℤ b → b ≤ℤ (a *ℤ q) → pos 0 <ℤ a
  positive_part a b q h positive le = by_lt_z (pos 0) a (λ l. l) (λ m. let f = mul-le q a (pos 0) h m in absurd (omega (arith, linear, f, positive, le, mul-comm q a, mul-zero q)))

  -- ---- stages

  module _ (rise : SumsRise) (within : IsInside k.root spans) (rank : ℕ → ℕ) (o : RejectData) (stages : AreStagesOfAll k spans rank) (ho : IsLowerAll k spans o) where
    -- a rate asks for positive weight
    leads : (s a : ℕ) → a < length (choices k.model s) → is_goal k.model s ≡ false → mark o.ranks s < unmarked → ((t : ℕ) → mark o.ranks t < mark o.ranks s → rank t < mark o.ranks s) → LeadsBelow k spans rank (mark o.ranks s) s a
    leads s a lt g ranked below c at =
        let row = row_at k.model s a in
        let r = mark o.ranks s in
        let old = ranked_below (mark o.ranks) r in
        let new = ranked_below rank r in
        let holds : RowHolds k spans o s row = (ho.held s g ranked).rows a [] lt in
        let some = positive_part (corner_sum k.d spans row c old) (whole k.model k.d spans row) (pos (2 ^ o.e)) (omega (arith, linear)) (whole-positive row) (holds.rates c at) in
        let each : (t : ℕ) → old t ≤ℤ new t = λ t. either_way (nat_lt (mark o.ranks t) r)
        (λ yes_o. rw (yes_o, test_of_lt (rank t) r (below t (ltb-true (mark o.ranks t) r yes_o))) (omega (arith, linear)))
        (λ no_o. rw no_o (either_way (nat_lt (rank t) r) (λ e. rw e (omega (arith, linear))) (λ e. rw e (omega (arith, linear))))) in
        omega (arith, linear, some, rise k spans s a c old new is within (has_row k s a lt) each)
      where
        test_of_lt : (i j : ℕ) → i < j → nat_lt i j ≡ true
        test_of_lt i j lt = either_way (nat_lt i j) (λ e. e) (λ e. absurd (omega (arith, lt, ltb-false i j e)))

    upto : (m s : ℕ) → s < n → mark o.ranks s < unmarked → mark o.ranks s ≤ m → rank s ≤ mark o.ranks s
    upto zero s state ranked le = either_way (is_goal k.model s)
        (λ g. omega (arith, stages.goal s g))
        (λ g. absurd (omega (arith, le, (ho.held s g ranked).rank.0)))
    upto (suc m) s state ranked le = either_way (is_goal k.model s)
        (λ g. omega (arith, stages.goal s g))
        (λ g. stages.first s state g (mark o.ranks s) ranked (λ a lt. leads s a lt g ranked
        (λ t lower. ⊎_elim
        (λ (inside : t < n). omega (arith, lower, upto m t inside (omega (arith, lower, ranked)) (omega (arith, lower, le))))
        (λ (past : n ≤ t). absurd (omega (arith, lower, ranked, get_or_past o.ranks t unmarked (omega (arith, ho.sizes.1, past)))))
        (in_or_past t n))))

  -- ---- vectors

  module _ (numbers : NumbersAreInRange) (parameters : ParametersAreTheRoots) (range : SumsAreInRange) (sum : WeightsSumToWhole) (within : IsInside k.root spans) where
    same_whole : (s a : ℕ) → whole k.model k.d spans (row_at k.model s a) ≡ row_whole k s a
    same_whole s a = ap (λ m. k.model.common *ℤ power k.d m) (parameters k spans (row_at k.model s a) within.within)

    -- what is left of the sums
    rest_at : (s a : ℕ) → a < length (choices k.model s) → (c : ℕ) → c < 2 ^ parameter_count spans (support (row_at k.model s a)) → (f g : ℕ → ℤ) → ((t : ℕ) → g t ≡ pos (2 ^ k.w) -ℤ f t)
        → corner_sum k.d spans (row_at k.model s a) c g ≡ pos (2 ^ k.w) *ℤ whole k.model k.d spans (row_at k.model s a) -ℤ corner_sum k.d spans (row_at k.model s a) c f
    rest_at s a lt c at f g h =
        let row = row_at k.model s a in
        omega (arith, linear, rest_sum (pos (2 ^ k.w)) f g (moves_at (corner k.d spans (support row) c) row) h, ap (λ z. pos (2 ^ k.w) *ℤ z) (sum k spans s a is within (has_row k s a lt) c at ∙ sym (same_whole s a)))

    -- targets are states
    on_targets : (s a : ℕ) → a < length (choices k.model s) → (c : ℕ) (f g : ℕ → ℤ) → ((t : ℕ) → t < n → f t ≡ g t) → corner_sum k.d spans (row_at k.model s a) c f ≡ corner_sum k.d spans (row_at k.model s a) c g
    on_targets s a lt c f g same = sum_targets (corner k.d spans (support (row_at k.model s a)) c) (row_at k.model s a) f g (is.asked.model.rows s [] (choice_inside k s a lt) a [] lt).entries same
      where
        sum_targets : (v : Valuation) (row : List Entry) (f g : ℕ → ℤ) → All (IsEntry n (length k.model.names)) row → ((t : ℕ) → t < n → f t ≡ g t) → weighted_sum f (moves_at v row) ≡ weighted_sum g (moves_at v row)
        sum_targets v [] f g h same = refl
        sum_targets v (entry ∷ row) f g h same =
            omega (arith, linear, ap (λ z. weight v entry.poly *ℤ z) (same entry.target (All-head (IsEntry n (length k.model.names)) entry row h).target), sum_targets v row f g (All-tail (IsEntry n (length k.model.names)) entry row h) same)

    rows_of : (P : List Entry → Type 0) (s : ℕ) → ((a : ℕ) → a < length (choices k.model s) → P (row_at k.model s a)) → All P (choices k.model s)
    rows_of P s h = All-from_get_or P (choices k.model s) [] h

    past_number : (x : List ℤ) (s : ℕ) → length x ≡ n → n ≤ s → number x s ≡ pos 0
    past_number x s size le = get_or_past x s (pos 0) (omega (arith, size, le))

    -- ---- what is left of a lower vector

    module _ (rise : SumsRise) (rank : ℕ → ℕ) (stages : AreStagesOfAll k spans rank) (o : RejectData) (ho : IsLowerAll k spans o) where
      other : List ℤ
      other = listed n (λ s. pos (2 ^ k.w) -ℤ number o.numbers s)

      other_size : length other ≡ n
      unfolding other
      other_size = listed-length n (λ s. pos (2 ^ k.w) -ℤ number o.numbers s)

      other_at : (s : ℕ) → s < n → number other s ≡ pos (2 ^ k.w) -ℤ number o.numbers s
      unfolding other
      other_at s lt = listed-at n (λ s. pos (2 ^ k.w) -ℤ number o.numbers s) s (pos 0) lt

      other_range : (s : ℕ) → (pos 0 ≤ℤ number other s) × (number other s ≤ℤ pos (2 ^ k.w))
      other_range s = ⊎_elim
          (λ (lt : s < n). let at = numbers k o.numbers s ho.numbers in (omega (arith, linear, other_at s lt, at.1), omega (arith, linear, other_at s lt, at.0)))
          (λ (past : n ≤ s). let at = past_number other s other_size past in (omega (arith, linear, at), omega (arith, linear, at)))
          (in_or_past s n)

      other_numbers : AreNumbers k other
      other_numbers = record { size = other_size; range = λ i d lt. subst (λ v. (pos 0 ≤ℤ v) × (v ≤ℤ pos (2 ^ k.w))) (sym (get_or_default other i d (pos 0) lt)) (other_range i) }

      other_means : (s a : ℕ) → a < length (choices k.model s) → is_goal k.model s ≡ false → MeansAtMost k spans (row_at k.model s a) other (number other s)
      other_means s a lt g c at =
          let row = row_at k.model s a in
          let full = whole k.model k.d spans row in
          let left : ℕ → ℤ = λ t. pos (2 ^ k.w) -ℤ number o.numbers t in
          let state = choice_inside k s a lt in
          let sums = on_targets s a lt c (number other) left other_at in
          let value = ap (λ v. v *ℤ full) (other_at s state) in
          ⊎_elim
          (λ (ranked : mark o.ranks s < unmarked).
          let holds : RowHolds k spans o s row = (ho.held s g ranked).rows a [] lt in
          omega (arith, linear, sums, value, rest_at s a lt c at (number o.numbers) left (λ t. refl), holds.means c at, spread (pos (2 ^ k.w)) (number o.numbers s) full))
          (λ (off : unmarked ≤ mark o.ranks s).
          let most = (range k spans s a c other is within (has_row k s a lt) other_numbers).1 in
          let top : number other s ≡ pos (2 ^ k.w) = omega (arith, linear, other_at s state, ho.unranked s g off) in
          omega (arith, linear, most, ap (λ v. v *ℤ full) top, ap (λ v. pos (2 ^ k.w) *ℤ v) (same_whole s a)))
          (in_or_past (mark o.ranks s) unmarked)

      avoids : IsAvoiding k spans rank other
      avoids = record {
        numbers = other_numbers;
        goal = λ s g. omega (arith, linear, other_at s (goal_inside k s is g), (ho.goal s g).0);
        lost = λ s lt g off. omega (arith, linear, other_at s lt, ho.unranked s g (none_of s lt off));
        means = λ s g ranked. rows_of (λ row. MeansAtMost k spans row other (number other s)) s (λ a lt. other_means s a lt g);
      }
        where
          none_of : (s : ℕ) → s < n → unmarked ≤ rank s → unmarked ≤ mark o.ranks s
          none_of s lt off = ⊎_elim
              (λ (ranked : mark o.ranks s < unmarked). absurd (omega (arith, off, ranked, upto rise within rank o stages ho (mark o.ranks s) s lt ranked (omega arith))))
              (λ (le : unmarked ≤ mark o.ranks s). le)
              (in_or_past (mark o.ranks s) unmarked)

    -- ---- what is left of a least vector

    module _ (z : List ℤ) (r : RejectData) (none : r.picks ≡ []) (size : length r.ranks ≡ n) (marks : All (λ rank. rank ≤ unmarked) r.ranks) (stages : AreStagesOfAll k spans (mark r.ranks)) (has : HasLeast k spans r) (h : IsLeastAvoiding k spans (mark r.ranks) z) (rest : IsRest k z r.numbers) where
      range_at : (s : ℕ) → (pos 0 ≤ℤ number r.numbers s) × (number r.numbers s ≤ℤ pos (2 ^ k.w))
      range_at s = ⊎_elim
          (λ (lt : s < n). let at = numbers k z s h.avoiding.numbers in (omega (arith, linear, rest.each s lt, at.1), omega (arith, linear, rest.each s lt, at.0)))
          (λ (past : n ≤ s). let at = past_number r.numbers s rest.size past in (omega (arith, linear, at), omega (arith, linear, at)))
          (in_or_past s n)

      means_at : (s a : ℕ) → a < length (choices k.model s) → is_goal k.model s ≡ false → mark r.ranks s < unmarked → MeansAtLeast k spans (row_at k.model s a) (number r.numbers) (number r.numbers s)
      means_at s a lt g ranked c at =
          let row = row_at k.model s a in
          let left : ℕ → ℤ = λ t. pos (2 ^ k.w) -ℤ number z t in
          let full = whole k.model k.d spans row in
          omega (
            arith,
            linear,
            on_targets s a lt c (number r.numbers) left rest.each,
            rest_at s a lt c at (number z) left (λ t. refl),
            h.avoiding.means s g ranked a [] lt c at,
            ap (λ v. v *ℤ full) (rest.each s (choice_inside k s a lt)),
            spread (pos (2 ^ k.w)) (number z s) full,
          )

      is_lower : IsLowerAll k spans r
      is_lower = record {
        numbers = record { size = rest.size; range = λ i d lt. subst (λ v. (pos 0 ≤ℤ v) × (v ≤ℤ pos (2 ^ k.w))) (sym (get_or_default r.numbers i d (pos 0) lt)) (range_at i) };
        sizes = (none, size);
        marks = marks;
        bounds = (has.rate.0, has.height.0, has.height.1);
        goal = λ s g. (let lt = goal_inside k s is g in omega (arith, linear, rest.each s lt, h.avoiding.goal s g), stages.goal s g);
        unranked = λ s g off. ⊎_elim
            (λ (lt : s < n). omega (arith, linear, rest.each s lt, h.avoiding.lost s lt g off))
            (λ (past : n ≤ s). past_number r.numbers s rest.size past)
            (in_or_past s n);
        held = λ s g ranked. record {
          rank = ((stages.reached s g ranked).0, has.height.2 s ranked);
          rows = rows_of (RowHolds k spans r s) s (λ a lt. record { means = means_at s a lt g ranked; rates = has.rate.1 s g ranked a [] lt });
        };
      }

      under : (rise : SumsRise) (o : RejectData) → IsLowerAll k spans o → AtMost o.numbers r.numbers
      under rise o ho s = ⊎_elim
          (λ (lt : s < n). omega (arith, linear, h.least (other rise (mark r.ranks) stages o ho) (avoids rise (mark r.ranks) stages o ho) s, other_at rise (mark r.ranks) stages o ho s lt, rest.each s lt))
          (λ (past : n ≤ s). omega (arith, linear, past_number o.numbers s ho.numbers.size past, past_number r.numbers s rest.size past))
          (in_or_past s n)

pub stages_are_least : SumsRise → StagesAreLeast
stages_are_least rise k spans rank o is within stages ho s state ranked = upto k spans is rise within rank o stages ho (mark o.ranks s) s state ranked (omega arith)

pub rest_is_avoiding : NumbersAreInRange → ParametersAreTheRoots → SumsAreInRange → SumsRise → WeightsSumToWhole → RestIsAvoiding
rest_is_avoiding numbers parameters range rise sum k spans rank o is within stages ho = (
  other k spans is numbers parameters range sum within rise rank stages o ho,
  (
    avoids k spans is numbers parameters range sum within rise rank stages o ho,
    record { size = other_size k spans is numbers parameters range sum within rise rank stages o ho; each = other_at k spans is numbers parameters range sum within rise rank stages o ho },
  ),
)

pub rest_is_greatest : NumbersAreInRange → ParametersAreTheRoots → SumsAreInRange → SumsRise → WeightsSumToWhole → RestIsGreatest
rest_is_greatest numbers parameters range rise sum k spans z r is within none size marks stages has h rest = record {
  holds = is_lower k spans is numbers parameters range sum within z r none size marks stages has h rest;
  greatest = λ o ho. under k spans is numbers parameters range sum within z r none size marks stages has h rest rise o ho;
  stages = stages;
  has_least = has;
}
