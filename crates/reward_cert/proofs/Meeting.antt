-- Of two certificates from above of what is collected there is one at or below both, where none is above all numbers.
use Rattle.std.proofs.Common.{◌≡◌, ◌≤◌, ◌+◌, ◌^◌, ◌<◌, ◌&&◌, ◌||◌, not, ℕ, zero, suc, Bool, true, false, cond, List, [], ◌∷◌, length, get_or, ℤ, pos, negsuc, ◌+ℤ◌, ◌-ℤ◌, ◌*ℤ◌, ◌≤ℤ◌, int_le, refl, sym, ap, subst, ◌∙◌, arith, ⊎_elim}
use Rattle.std.proofs.lemmas.List.{get_or_default, get_or_past}
use Rattle.std.proofs.lemmas.Bool.{both_ways}
use Rattle.lift_poly.proofs.Ring.{linear, mul-comm, mul-zero, mul-le, one-mul, le_from_test, as_diff, diffs, diff-same}
use Rattle.lift_grid.specs.Rectangle.{Spans}
use Rattle.lift_model.specs.Process.{Move, power, weighted_sum}
use Rattle.lift_model.specs.Model.{is_goal, choices, row_at, support, moves_at}
use Rattle.corner_lift.specs.Corner.{AtCorners, corner, corner_sum, whole}
use Rattle.corner_lift.specs.Case.{CaseData, IsCase, IsInside, number, row_whole}
use Rattle.corner_lift.specs.Certificate.{unmarked, mark}
use Rattle.corner_lift.specs.Laws.{ParametersAreTheRoots, SumsRise, WeightsSumToWhole}
use Rattle.reward_cert.specs.Charges.{RewardData}
use Rattle.reward_cert.specs.Rounded.{reward_up}
use Rattle.reward_cert.specs.Rows.{has_number, no_number, numbered, AreNumbersOrNone, IsCovered}
use Rattle.reward_cert.specs.Collected.{IsCollectedUpperOne}
use Rattle.reward_cert.specs.Laws.{IsAtOrBelow, CollectedUpperAllsMeet, CollectedUpperOnesMeet}
use Rattle.reward_cert.proofs.Steps.{either_way}
use Rattle.reward_cert.proofs.Valuations.{in_or_past}
use Rattle.reward_cert.proofs.Joining.{listed, listed-length, listed-at, listed-past, row_there, more_from_test}

-- the number of a state, or none past the end
abbrev value : List ℤ → ℕ → ℤ
value z s = get_or z s (negsuc 0)

value_is : (z : List ℤ) (s : ℕ) → s < length z → value z s ≡ number z s
value_is [] s lt = absurd (omega (arith, lt))
value_is (n ∷ z) zero lt = refl
value_is (n ∷ z) (suc s) lt = value_is z s (omega (arith, lt))

-- what each number is at most, where some are none
raised : (b : ℤ) (z : ℕ → ℤ) (o : ℕ → ℤ) (moves : List Move) → weighted_sum (λ t. z t +ℤ (pos 1 -ℤ o t) *ℤ b) moves ≡ weighted_sum z moves +ℤ (weighted_sum (λ t. pos 1) moves -ℤ weighted_sum o moves) *ℤ b
raised b z o [] = omega (arith, linear, mul-comm (pos 0) b, mul-zero b)
raised b z o (m ∷ moves) = omega (arith, linear, raised b z o moves, parted m.1 (z m.0) (o m.0) b (weighted_sum z moves) (weighted_sum (λ t. pos 1) moves) (weighted_sum o moves))
  where
    parted : (w z o b s a l : ℤ) → w *ℤ (z +ℤ (pos 1 -ℤ o) *ℤ b) +ℤ (s +ℤ (a -ℤ l) *ℤ b) ≡ (w *ℤ z +ℤ s) +ℤ ((w *ℤ pos 1 +ℤ a) -ℤ (w *ℤ o +ℤ l)) *ℤ b
    parted w z o b s a l = rw (as_diff w, as_diff z, as_diff o, as_diff b, as_diff s, as_diff a, as_diff l) (simp diffs (diff-same _ _ _ _ (omega arith)))

module _ (parameters : ParametersAreTheRoots) (rise : SumsRise) (to_whole : WeightsSumToWhole) (k : CaseData) (spans : Spans) (r : RewardData) (is : IsCase k) (within : IsInside k.root spans) (x y : List ℤ) (are_x : AreNumbersOrNone k x) (are_y : AreNumbersOrNone k y) where
  abbrev n : ℕ
  n = length k.model.states

  -- whether the second has the lesser number
  abbrev second : ℕ → Bool
  second s = has_number y s && (not (has_number x s) || int_le (value y s) (value x s))

  met : List ℤ
  met = listed n (λ s. cond (second s) (value y s) (value x s))

  past_value : (z : List ℤ) (s : ℕ) → AreNumbersOrNone k z → n ≤ s → value z s ≡ negsuc 0
  past_value z s are le = get_or_past z s (negsuc 0) (omega (arith, are.size, le))

  met_size : length met ≡ n
  unfolding met
  met_size = listed-length n (λ s. cond (second s) (value y s) (value x s))

  met_is : (s : ℕ) → value met s ≡ cond (second s) (value y s) (value x s)
  unfolding met
  met_is s = ⊎_elim
      (λ (lt : s < n). listed-at n (λ s. cond (second s) (value y s) (value x s)) s (negsuc 0) lt)
      (λ (past : n ≤ s).
      let none = listed-past n (λ s. cond (second s) (value y s) (value x s)) s (negsuc 0) past in
      let none_x = past_value x s are_x past in
      let none_y = past_value y s are_y past in
      none ∙ sym (either_way (second s) (λ e. ap (λ b. cond b (value y s) (value x s)) e ∙ none_y) (λ e. ap (λ b. cond b (value y s) (value x s)) e ∙ none_x)))
      (in_or_past s n)

  from_second : (s : ℕ) → second s ≡ true → value met s ≡ value y s
  from_second s e = met_is s ∙ ap (λ b. cond b (value y s) (value x s)) e

  from_first : (s : ℕ) → second s ≡ false → value met s ≡ value x s
  from_first s e = met_is s ∙ ap (λ b. cond b (value y s) (value x s)) e

  second_has : (s : ℕ) → second s ≡ true → has_number y s ≡ true
  second_has s e = by_test (has_number y s) (not (has_number x s) || int_le (value y s) (value x s)) e
    where
      by_test : (h t : Bool) → (h && t) ≡ true → h ≡ true
      by_test true t e = refl
      by_test false t e = cc

  second_if : (s : ℕ) → has_number x s ≡ true → has_number y s ≡ true → second s ≡ int_le (value y s) (value x s)
  second_if s in_x in_y = by_test (has_number x s) (has_number y s) (int_le (value y s) (value x s)) in_x in_y
    where
      by_test : (a b t : Bool) → a ≡ true → b ≡ true → (b && (not a || t)) ≡ t
      by_test true true t e f = refl
      by_test false b t e f = cc
      by_test true false t e f = cc

  second_alone : (s : ℕ) → has_number x s ≡ false → has_number y s ≡ true → second s ≡ true
  second_alone s in_x in_y = by_test (has_number x s) (has_number y s) (int_le (value y s) (value x s)) in_x in_y
    where
      by_test : (a b t : Bool) → a ≡ false → b ≡ true → (b && (not a || t)) ≡ true
      by_test false true t e f = refl
      by_test true b t e f = cc
      by_test false false t e f = cc

  inside : (z : List ℤ) (s : ℕ) → length z ≡ n → has_number z s ≡ true → s < n
  inside z s size h = ⊎_elim
      (λ (lt : s < n). lt)
      (λ (past : n ≤ s). absurd (none z s (omega (arith, size, past)) h))
      (in_or_past s n)
    where
      none : (z : List ℤ) (s : ℕ) → length z ≤ s → int_le (pos 0) (get_or z s (negsuc 0)) ≡ true → ⊥
      none z s past h = both_ways (int_le (pos 0) (get_or z s (negsuc 0))) (ap (int_le (pos 0)) (get_or_past z s (negsuc 0) past)) h

  number_of : (z : List ℤ) (s : ℕ) → length z ≡ n → s < n → number z s ≡ value z s
  number_of z s size lt = sym (value_is z s (omega (arith, size, lt)))

  under_x : IsAtOrBelow met x
  under_x s h =
      let lt = inside x s are_x.size h in
      either_way (second s)
      (λ e.
      let in_y = second_has s e in
      let le = le_from_test (value y s) (value x s) (sym (second_if s h in_y) ∙ e) in
      (ap (int_le (pos 0)) (from_second s e) ∙ in_y, omega (arith, linear, le, from_second s e, number_of met s met_size lt, number_of x s are_x.size lt)))
      (λ e. (ap (int_le (pos 0)) (from_first s e) ∙ h, omega (arith, linear, from_first s e, number_of met s met_size lt, number_of x s are_x.size lt)))

  under_y : IsAtOrBelow met y
  under_y s h =
      let lt = inside y s are_y.size h in
      either_way (second s)
      (λ e. (ap (int_le (pos 0)) (from_second s e) ∙ h, omega (arith, linear, from_second s e, number_of met s met_size lt, number_of y s are_y.size lt)))
      (λ e. either_way (has_number x s)
      (λ in_x. (ap (int_le (pos 0)) (from_first s e) ∙ in_x, omega (arith, linear, more_from_test (value y s) (value x s) (sym (second_if s in_x h) ∙ e), from_first s e, number_of met s met_size lt, number_of y s are_y.size lt)))
      (λ none. absurd (both_ways (second s) e (second_alone s none h))))

  range_at : (z : List ℤ) (s : ℕ) → AreNumbersOrNone k z → (no_number ≤ℤ number z s) × (number z s ≤ℤ pos (2 ^ k.w))
  range_at z s are = ⊎_elim
      (λ (lt : s < length z). are.range s (pos 0) lt)
      (λ (past : length z ≤ s). let none = get_or_past z s (pos 0) past in (omega (arith, linear, none), omega (arith, linear, none)))
      (in_or_past s (length z))

  met_numbers : AreNumbersOrNone k met
  met_numbers = record {
    size = met_size;
    range = λ i d lt. let there : i < n = omega (arith, lt, met_size) in
        subst (λ z. (no_number ≤ℤ z) × (z ≤ℤ pos (2 ^ k.w))) (sym (get_or_default met i d (pos 0) lt ∙ number_of met i met_size there)) (either_way (second i)
        (λ e. subst (λ z. (no_number ≤ℤ z) × (z ≤ℤ pos (2 ^ k.w))) (number_of y i are_y.size there ∙ sym (from_second i e)) (range_at y i are_y))
        (λ e. subst (λ z. (no_number ≤ℤ z) × (z ≤ℤ pos (2 ^ k.w))) (number_of x i are_x.size there ∙ sym (from_first i e)) (range_at x i are_x)));
  }

  met_goal : (s : ℕ) → number x s ≡ pos 0 → number y s ≡ pos 0 → number met s ≡ pos 0
  met_goal s in_x in_y = ⊎_elim
      (λ (lt : s < n). number_of met s met_size lt ∙ either_way (second s)
      (λ e. from_second s e ∙ sym (number_of y s are_y.size lt) ∙ in_y)
      (λ e. from_first s e ∙ sym (number_of x s are_x.size lt) ∙ in_x))
      (λ (past : n ≤ s). get_or_past met s (pos 0) (omega (arith, met_size, past)))
      (in_or_past s n)

  -- above each number
  abbrev high : ℤ
  high = pos (2 ^ k.w) +ℤ pos 1

  -- what is covered stays so with the same number over lesser ones
  kept : (o : List ℤ) (s a : ℕ) → AreNumbersOrNone k o → a < length (choices k.model s) → IsAtOrBelow met o → number met s ≡ number o s → IsCovered k spans r o s a → IsCovered k spans r met s a
  kept o s a are lt under same covered = record { numbers = all; means = means }
    where
      more : (t : ℕ) → numbered o t ≤ℤ numbered met t
      more t = either_way (has_number o t)
          (λ e. rw (e, (under t e).0) (omega (arith, linear)))
          (λ e. rw e (either_way (has_number met t) (λ f. rw f (omega (arith, linear))) (λ f. rw f (omega (arith, linear)))))

      all : AtCorners spans (row_at k.model s a) (λ c. (pos 1 *ℤ whole k.model k.d spans (row_at k.model s a)) ≤ℤ corner_sum k.d spans (row_at k.model s a) c (numbered met))
      all c at = omega (arith, linear, covered.numbers c at, rise k spans s a c (numbered o) (numbered met) is within (row_there k s a lt) more)

      each : (t : ℕ) → number met t ≤ℤ (number o t +ℤ (pos 1 -ℤ numbered o t) *ℤ high)
      each t = either_way (has_number o t)
          (λ e. rw e (omega (arith, linear, (under t e).1, mul-comm (pos 1 -ℤ pos 1) high, mul-zero high)))
          (λ e. rw e (omega (arith, linear, (range_at met t met_numbers).1, (range_at o t are).0, one-mul high)))

      means : AtCorners spans (row_at k.model s a) (λ c. corner_sum k.d spans (row_at k.model s a) c (number met) ≤ℤ ((number met s -ℤ pos (reward_up k.w r s a)) *ℤ whole k.model k.d spans (row_at k.model s a)))
      means c at =
          let row = row_at k.model s a in
          let moves = moves_at (corner k.d spans (support row) c) row in
          let sum = rise k spans s a c (number met) (λ t. number o t +ℤ (pos 1 -ℤ numbered o t) *ℤ high) is within (row_there k s a lt) each in
          let ones = to_whole k spans s a is within (row_there k s a lt) c at in
          let wholes : row_whole k s a ≡ whole k.model k.d spans row = ap (λ p. k.model.common *ℤ power k.d p) (sym (parameters k spans row within.within)) in
          let lost = mul-le high (weighted_sum (λ t. pos 1) moves -ℤ weighted_sum (numbered o) moves) (pos 0) (omega (arith, linear)) (omega (arith, linear, ones, wholes, covered.numbers c at, one-mul (whole k.model k.d spans row))) in
          omega (arith, linear, sum, raised high (number o) (numbered o) moves, lost, mul-comm high (weighted_sum (λ t. pos 1) moves -ℤ weighted_sum (numbered o) moves), mul-zero high, covered.means c at, ap (λ z. (z -ℤ pos (reward_up k.w r s a)) *ℤ whole k.model k.d spans row) same)

  covered_second : (s a : ℕ) → second s ≡ true → a < length (choices k.model s) → IsCovered k spans r y s a → IsCovered k spans r met s a
  covered_second s a e lt by_y =
      let there = inside y s are_y.size (second_has s e) in
      kept y s a are_y lt under_y (number_of met s met_size there ∙ from_second s e ∙ sym (number_of y s are_y.size there)) by_y

  first_has : (s : ℕ) → second s ≡ false → has_number met s ≡ true → has_number x s ≡ true
  first_has s e h = ap (int_le (pos 0)) (sym (from_first s e)) ∙ h

  covered_first : (s a : ℕ) → second s ≡ false → has_number met s ≡ true → a < length (choices k.model s) → IsCovered k spans r x s a → IsCovered k spans r met s a
  covered_first s a e h lt by_x =
      let there = inside x s are_x.size (first_has s e h) in
      kept x s a are_x lt under_x (number_of met s met_size there ∙ from_first s e ∙ sym (number_of x s are_x.size there)) by_x

pub collected_upper_alls_meet : ParametersAreTheRoots → SumsRise → WeightsSumToWhole → CollectedUpperAllsMeet
collected_upper_alls_meet parameters rise to_whole k spans r x y is within in_x in_y = (
  met parameters rise to_whole k spans r is within x y in_x.numbers in_y.numbers,
  (
    record {
      numbers = met_numbers parameters rise to_whole k spans r is within x y in_x.numbers in_y.numbers;
      goal = λ s g. met_goal parameters rise to_whole k spans r is within x y in_x.numbers in_y.numbers s (in_x.goal s g) (in_y.goal s g);
      rows = λ s a g h lt. either_way (second parameters rise to_whole k spans r is within x y in_x.numbers in_y.numbers s)
          (λ e. covered_second parameters rise to_whole k spans r is within x y in_x.numbers in_y.numbers s a e lt (in_y.rows s a g (second_has parameters rise to_whole k spans r is within x y in_x.numbers in_y.numbers s e) lt))
          (λ e. covered_first parameters rise to_whole k spans r is within x y in_x.numbers in_y.numbers s a e h lt (in_x.rows s a g (first_has parameters rise to_whole k spans r is within x y in_x.numbers in_y.numbers s e h) lt));
    },
    under_x parameters rise to_whole k spans r is within x y in_x.numbers in_y.numbers,
    under_y parameters rise to_whole k spans r is within x y in_x.numbers in_y.numbers,
  ),
)

-- ---- over one choice

module _ (parameters : ParametersAreTheRoots) (rise : SumsRise) (to_whole : WeightsSumToWhole) (k : CaseData) (spans : Spans) (r : RewardData) (is : IsCase k) (within : IsInside k.root spans) (x y : List ℤ) (p q : List ℕ) (in_x : IsCollectedUpperOne k spans r x p) (in_y : IsCollectedUpperOne k spans r y q) where
  abbrev taken : ℕ → Bool
  taken s = second parameters rise to_whole k spans r is within x y in_x.numbers in_y.numbers s

  abbrev least : List ℤ
  least = met parameters rise to_whole k spans r is within x y in_x.numbers in_y.numbers

  picks : List ℕ
  picks = listed (length k.model.states) (λ s. cond (taken s) (mark q s) (mark p s))

  picks_size : length picks ≡ length k.model.states
  unfolding picks
  picks_size = listed-length (length k.model.states) (λ s. cond (taken s) (mark q s) (mark p s))

  picks_is : (s : ℕ) → s < length k.model.states → mark picks s ≡ cond (taken s) (mark q s) (mark p s)
  unfolding picks
  picks_is s lt = listed-at (length k.model.states) (λ s. cond (taken s) (mark q s) (mark p s)) s unmarked lt

  picks_past : (s : ℕ) → length k.model.states ≤ s → mark picks s ≡ unmarked
  unfolding picks
  picks_past s past = listed-past (length k.model.states) (λ s. cond (taken s) (mark q s) (mark p s)) s unmarked past

  pick_second : (s : ℕ) → s < length k.model.states → taken s ≡ true → mark picks s ≡ mark q s
  pick_second s lt e = picks_is s lt ∙ ap (λ b. cond b (mark q s) (mark p s)) e

  pick_first : (s : ℕ) → s < length k.model.states → taken s ≡ false → mark picks s ≡ mark p s
  pick_first s lt e = picks_is s lt ∙ ap (λ b. cond b (mark q s) (mark p s)) e

  -- where both pick none, so does it
  unpicked : (s : ℕ) → (taken s ≡ true → mark q s ≡ unmarked) → (taken s ≡ false → mark p s ≡ unmarked) → mark picks s ≡ unmarked
  unpicked s f g = ⊎_elim
      (λ (lt : s < length k.model.states). either_way (taken s) (λ e. pick_second s lt e ∙ f e) (λ e. pick_first s lt e ∙ g e))
      (λ (past : length k.model.states ≤ s). picks_past s past)
      (in_or_past s (length k.model.states))

  one_of : (s : ℕ) → is_goal k.model s ≡ false → has_number least s ≡ true → (mark picks s < length (choices k.model s)) × IsCovered k spans r least s (mark picks s)
  one_of s g h = either_way (taken s)
      (λ e.
      let has = second_has parameters rise to_whole k spans r is within x y in_x.numbers in_y.numbers s e in
      let lt = in_y.picked s g has in
      let same = pick_second s (inside parameters rise to_whole k spans r is within x y in_x.numbers in_y.numbers y s in_y.numbers.size has) e in
      (omega (arith, lt, same), subst (λ a. IsCovered k spans r least s a) (sym same) (covered_second parameters rise to_whole k spans r is within x y in_x.numbers in_y.numbers s (mark q s) e lt (in_y.rows s g has))))
      (λ e.
      let has = first_has parameters rise to_whole k spans r is within x y in_x.numbers in_y.numbers s e h in
      let lt = in_x.picked s g has in
      let same = pick_first s (inside parameters rise to_whole k spans r is within x y in_x.numbers in_y.numbers x s in_x.numbers.size has) e in
      (omega (arith, lt, same), subst (λ a. IsCovered k spans r least s a) (sym same) (covered_first parameters rise to_whole k spans r is within x y in_x.numbers in_y.numbers s (mark p s) e h lt (in_x.rows s g has))))

  none_first : (s : ℕ) → has_number least s ≡ false → taken s ≡ false → has_number x s ≡ false
  none_first s h e = ap (int_le (pos 0)) (sym (from_first parameters rise to_whole k spans r is within x y in_x.numbers in_y.numbers s e)) ∙ h

  none_second : (s : ℕ) → has_number least s ≡ false → taken s ≡ true → has_number y s ≡ false
  none_second s h e = ap (int_le (pos 0)) (sym (from_second parameters rise to_whole k spans r is within x y in_x.numbers in_y.numbers s e)) ∙ h

  met_by_one : IsCollectedUpperOne k spans r least picks
  met_by_one = record {
    numbers = met_numbers parameters rise to_whole k spans r is within x y in_x.numbers in_y.numbers;
    size = picks_size;
    goal = λ s g. (met_goal parameters rise to_whole k spans r is within x y in_x.numbers in_y.numbers s (in_x.goal s g).0 (in_y.goal s g).0, unpicked s (λ e. (in_y.goal s g).1) (λ e. (in_x.goal s g).1));
    none = λ s h. unpicked s (λ e. in_y.none s (none_second s h e)) (λ e. in_x.none s (none_first s h e));
    picked = λ s g h. (one_of s g h).0;
    rows = λ s g h. (one_of s g h).1;
  }

pub collected_upper_ones_meet : ParametersAreTheRoots → SumsRise → WeightsSumToWhole → CollectedUpperOnesMeet
collected_upper_ones_meet parameters rise to_whole k spans r x y p q is within in_x in_y = (
  met parameters rise to_whole k spans r is within x y in_x.numbers in_y.numbers,
  (
    picks parameters rise to_whole k spans r is within x y p q in_x in_y,
    (
      met_by_one parameters rise to_whole k spans r is within x y p q in_x in_y,
      under_x parameters rise to_whole k spans r is within x y in_x.numbers in_y.numbers,
      under_y parameters rise to_whole k spans r is within x y in_x.numbers in_y.numbers,
    ),
  ),
)
