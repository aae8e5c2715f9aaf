-- The tests of an accepting certificate: the first that fails is one, and a vector that passes all is an accepting certificate.
use Rattle.std.proofs.Common.{◌≡◌, ◌+◌, ◌*◌, ◌^◌, ◌<◌, ◌≤◌, ℕ, true, false, List, [], length, ℤ, pos, ◌*ℤ◌, ◌≤ℤ◌, unsigned_abs, refl, sym, ap, subst, ◌∙◌, arith, ◌⊎◌, ⊎_elim, le_refl, Result, Ok, Err}
use Rattle.std.specs.Prelude.{◌↔◌, IsOk, IsErr, MatchResult}
use Rattle.std.proofs.lemmas.Int.{ints, unsigned_abs-mul}
use Rattle.std.proofs.lemmas.List.{get_or_past, get_or_default}
use Rattle.lift_poly.proofs.Ring.{linear}
use Rattle.lift_grid.specs.Rectangle.{Spans, spans_of}
use Rattle.lift_model.specs.declared.entry.Entry.{Entry}
use Rattle.lift_model.specs.Process.{power}
use Rattle.lift_model.specs.Model.{support, is_goal, choices, row_at}
use Rattle.corner_lift.specs.Corner.{parameter_count, whole}
use Rattle.corner_lift.specs.Case.{CaseData, IsCase, Within, AreSidesInside, number, row_value, row_whole, engine_limit}
use Rattle.corner_lift.specs.Certificate.{AreNumbers, MeansAtMost, IsUpper}
use Rattle.corner_lift.specs.Laws.{ParametersAreTheRoots, NumbersAreInRange, SumsAreInRange}
use Rattle.lift_cert.specs.Certificate.{IsAccepting, IsWithin}
use Rattle.lift_cert.specs.Laws.{FirstAcceptMissIsOne, AcceptingMissesNone}
use Rattle.lift_cert.specs.Miss.{IsAcceptedCorner, IsAcceptedRow, IsAcceptedState, AreAcceptedBefore, IsGoalMiss, IsRowMiss, IsFirstAcceptMiss, IsSmall, IsStateMiss, IsBoundMiss}
use Rattle.lift_cert.specs.declared.bound.Bound.{Bound}
use Rattle.lift_cert.specs.declared.miss.Miss.{Miss}
use Rattle.lift_cert.specs.declared.miss.Miss.TheVariants.{Goal, Unranked, Row, Rate, Limit}

-- ---- one first

neither_less : (m n : ℕ) → (m < n → ⊥) → (n < m → ⊥) → m ≡ n
neither_less m n f g = omega arith

-- two numbers, each the first at which P doesn't hold
pub first_is_one : (P : ℕ → Type 0) (m n : ℕ) → ((i : ℕ) → i < m → P i) → (P m → ⊥) → ((i : ℕ) → i < n → P i) → (P n → ⊥) → m ≡ n
first_is_one P m n before_one not_one before_two not_two = neither_less m n (λ lt. not_one (before_two m lt)) (λ lt. not_two (before_one n lt))

module _ (k : CaseData) (spans : Spans) (x : List ℤ) where
  goal_refused : (s : ℕ) (value : ℤ) → IsGoalMiss k x s value → IsAcceptedState k spans x s → ⊥
  goal_refused s value miss accepted = miss.wrong (miss.value_is ∙ accepted.goal miss.goal)

  corner_refused : (s a c : ℕ) (left right : ℤ) → IsRowMiss k spans x s a c left right → IsAcceptedCorner k spans x s a c → ⊥
  corner_refused s a c left right miss accepted = omega (arith, linear, accepted, miss.left_is, miss.right_is, miss.wrong)

  row_refused : (s a c : ℕ) (left right : ℤ) → IsRowMiss k spans x s a c left right → IsAcceptedRow k spans x s a → ⊥
  row_refused s a c left right miss accepted = corner_refused s a c left right miss (accepted c miss.corner)

  state_refused : (s a c : ℕ) (left right : ℤ) → IsRowMiss k spans x s a c left right → IsAcceptedState k spans x s → ⊥
  state_refused s a c left right miss accepted = row_refused s a c left right miss (accepted.rows miss.inner a miss.choice)

  same_corner : (s a c d : ℕ) (left right more above : ℤ) → IsRowMiss k spans x s a c left right → IsRowMiss k spans x s a d more above → Row s a c left right ≡ Row s a d more above
  same_corner s a c d left right more above f g =
      let e : c ≡ d = first_is_one (IsAcceptedCorner k spans x s a) c d f.corners (corner_refused s a c left right f) g.corners (corner_refused s a d more above g) in
      cc (f.left_is, f.right_is, g.left_is, g.right_is)

  same_row : (s a b c d : ℕ) (left right more above : ℤ) → IsRowMiss k spans x s a c left right → IsRowMiss k spans x s b d more above → Row s a c left right ≡ Row s b d more above
  same_row s a b c d left right more above f g =
      let e : a ≡ b = first_is_one (IsAcceptedRow k spans x s) a b f.rows (row_refused s a c left right f) g.rows (row_refused s b d more above g) in
      same_corner s a c d left right more above f (rw e g) ∙ ap (λ n. Row s n d more above) e

  same_state : (s t a b c d : ℕ) (left right more above : ℤ) → s ≡ t → IsRowMiss k spans x s a c left right → IsRowMiss k spans x t b d more above → Row s a c left right ≡ Row t b d more above
  same_state s t a b c d left right more above e f g = same_row s a b c d left right more above f (rw e g) ∙ ap (λ n. Row n b d more above) e

  not_both : (s t : ℕ) → s ≡ t → is_goal k.model s ≡ true → is_goal k.model t ≡ false → ⊥
  not_both s t e is not = let wrong : true ≡ false = cc in absurd (cc wrong)

  module _ (bound : Bound) where
    one_miss : (m n : Miss) → IsFirstAcceptMiss k spans bound x m → IsFirstAcceptMiss k spans bound x n → m ≡ n
    one_miss (Goal s value) (Goal t other) f g =
        let e : s ≡ t = first_is_one (IsAcceptedState k spans x) s t f.0 (goal_refused s value f.1) g.0 (goal_refused t other g.1) in
        cc (f.1.value_is, g.1.value_is)
    one_miss (Goal s value) (Row t a c left right) f g =
        absurd (not_both s t (first_is_one (IsAcceptedState k spans x) s t f.0 (goal_refused s value f.1) g.0 (state_refused t a c left right g.1)) f.1.goal g.1.inner)
    one_miss (Row t a c left right) (Goal s value) f g =
        absurd (not_both s t (first_is_one (IsAcceptedState k spans x) s t g.0 (goal_refused s value g.1) f.0 (state_refused t a c left right f.1)) g.1.goal f.1.inner)
    one_miss (Row s a c left right) (Row t b d more above) f g =
        same_state s t a b c d left right more above
        (first_is_one (IsAcceptedState k spans x) s t f.0 (state_refused s a c left right f.1) g.0 (state_refused t b d more above g.1)) f.1 g.1
    one_miss (Goal s value) (Limit left right) f g = absurd (goal_refused s value f.1 (g.0 s f.1.state))
    one_miss (Limit left right) (Goal s value) f g = absurd (goal_refused s value g.1 (f.0 s g.1.state))
    one_miss (Row s a c left right) (Limit more above) f g = absurd (state_refused s a c left right f.1 (g.0 s f.1.state))
    one_miss (Limit more above) (Row s a c left right) f g = absurd (state_refused s a c left right g.1 (f.0 s g.1.state))
    one_miss (Limit left right) (Limit more above) f g = cc (f.1.left_is, f.1.right_is, g.1.left_is, g.1.right_is)
    one_miss (Unranked s value) n f g = absurd f
    one_miss (Rate s a c weight e whole) n f g = absurd f
    one_miss m (Unranked s value) f g = absurd g
    one_miss m (Rate s a c weight e whole) f g = absurd g

pub first_accept_miss_is_one : FirstAcceptMissIsOne
first_accept_miss_is_one k spans bound x = one_miss k spans x bound

-- ---- tests and certificates

-- a miss of a state, where those before it pass
pub first_at_state : (k : CaseData) (spans : Spans) (bound : Bound) (x : List ℤ) (s : ℕ) (m : Miss) → AreAcceptedBefore k spans x s → IsStateMiss k spans x s m → IsFirstAcceptMiss k spans bound x m
first_at_state k spans bound x s (Goal t value) before miss = (rw miss.0 before, rw miss.0 miss.1)
first_at_state k spans bound x s (Row t a c left right) before miss = (rw miss.0 before, rw miss.0 miss.1)
first_at_state k spans bound x s (Limit left right) before miss = absurd miss
first_at_state k spans bound x s (Unranked t value) before miss = absurd miss
first_at_state k spans bound x s (Rate t a c weight e whole) before miss = absurd miss

-- a miss of the bound, where all states pass
pub first_at_bound : (k : CaseData) (spans : Spans) (bound : Bound) (x : List ℤ) (m : Miss) → AreAcceptedBefore k spans x (length k.model.states) → IsBoundMiss k bound x m → IsFirstAcceptMiss k spans bound x m
first_at_bound k spans bound x (Limit left right) before miss = (before, miss)
first_at_bound k spans bound x (Goal s value) before miss = absurd miss
first_at_bound k spans bound x (Row s a c left right) before miss = absurd miss
first_at_bound k spans bound x (Unranked s value) before miss = absurd miss
first_at_bound k spans bound x (Rate s a c weight e whole) before miss = absurd miss

-- whether a state is one of so many
pub in_or_past : (s count : ℕ) → (s < count) ⊎ (count ≤ s)
in_or_past s count = grind arith

-- a row has as many parameters over a rectangle inside the root as over the root
module _ (parameters : ParametersAreTheRoots) (k : CaseData) (spans : Spans) (within : Within spans k.root) where
  pub same_parameters : (s a : ℕ) → parameter_count spans (support (row_at k.model s a)) ≡ parameter_count k.root (support (row_at k.model s a))
  same_parameters s a = parameters k spans (row_at k.model s a) within

  pub same_whole : (s a : ℕ) → whole k.model k.d spans (row_at k.model s a) ≡ row_whole k s a
  same_whole s a = ap (λ n. k.model.common *ℤ power k.d n) (same_parameters s a)

module _ (parameters : ParametersAreTheRoots) (k : CaseData) (spans : Spans) (within : Within spans k.root) (x : List ℤ) where
  -- at the corners of the rectangle, or of the root, which are as many
  pub row_from_means : (s a : ℕ) → MeansAtMost k spans (row_at k.model s a) x (number x s) → IsAcceptedRow k spans x s a
  row_from_means s a means c lt =
      let here = means c (subst (λ n. c < 2 ^ n) (sym (same_parameters parameters k spans within s a)) lt) in
      omega (arith, linear, here, ap (λ n. number x s *ℤ n) (same_whole parameters k spans within s a))

  pub means_from_row : (s a : ℕ) → IsAcceptedRow k spans x s a → MeansAtMost k spans (row_at k.model s a) x (number x s)
  means_from_row s a accepted c lt =
      let here = accepted c (subst (λ n. c < 2 ^ n) (same_parameters parameters k spans within s a) lt) in
      omega (arith, linear, here, ap (λ n. number x s *ℤ n) (same_whole parameters k spans within s a))

  misses_none : (bound : Bound) (m : Miss) → IsAccepting k spans bound x → IsFirstAcceptMiss k spans bound x m → ⊥
  misses_none bound (Goal s value) accepting miss = miss.1.wrong (miss.1.value_is ∙ accepting.upper.goal s miss.1.goal)
  misses_none bound (Row s a c left right) accepting miss =
      row_refused k spans x s a c left right miss.1 (row_from_means s a (accepting.upper.means s miss.1.inner a [] miss.1.choice))
  misses_none bound (Limit left right) accepting miss = omega (arith, linear, accepting.limit, miss.1.left_is, miss.1.right_is, miss.1.wrong)
  misses_none bound (Unranked s value) accepting miss = miss
  misses_none bound (Rate s a c weight e whole) accepting miss = miss

  -- a vector whose states all pass is an upper vector
  pub upper_from_states : IsCase k → AreNumbers k x → AreAcceptedBefore k spans x (length k.model.states) → IsUpper k spans x
  upper_from_states is numbers accepted = record {
    numbers = numbers;
    goal =
        λ s e. ⊎_elim (λ (lt : s < length k.model.states). (accepted s lt).goal e)
        (λ (le : length k.model.states ≤ s). let past : length k.model.goal ≤ s = omega (arith, is.asked.model.goals) in absurd (not_both k spans x s s refl e (get_or_past k.model.goal s false past)))
        (in_or_past s (length k.model.states));
    means = λ s e a row lt. ⊎_elim
        (λ (state : s < length k.model.states). rw (get_or_default (choices k.model s) a row [] lt) (means_from_row s a ((accepted s state).rows e a lt)))
        (λ (le : length k.model.states ≤ s). let none : choices k.model s ≡ [] = get_or_past k.model.states s [] le in absurd (omega (arith, lt, ap (λ (l : List (List Entry)). length l) none)))
        (in_or_past s (length k.model.states));
  }

  -- the answer says whether the vector is an accepting certificate
  pub answers_at_state : {T : Type 0} (r : Result T Miss) (bound : Bound) (s : ℕ) (m : Miss) → IsErr r → AreAcceptedBefore k spans x s → IsStateMiss k spans x s m → IsOk r ↔ IsAccepting k spans bound x
  answers_at_state (Ok u) bound s m refused before miss = absurd (cc refused)
  answers_at_state (Err e) bound s m refused before miss = (λ ok. absurd (cc ok), λ accepting. absurd (misses_none bound m accepting (first_at_state k spans bound x s m before miss)))

  pub answers_at_bound : {T : Type 0} (r : Result T Miss) (bound : Bound) → IsCase k → AreNumbers k x → AreAcceptedBefore k spans x (length k.model.states) → MatchResult r (λ u. IsWithin bound k.w (number x k.model.init)) (IsBoundMiss k bound x) → IsOk r ↔ IsAccepting k spans bound x
  answers_at_bound (Ok u) bound is numbers before limit = (λ ok. record { upper = upper_from_states is numbers before; limit = limit }, λ accepting. refl)
  answers_at_bound (Err m) bound is numbers before miss = (λ ok. absurd (cc ok), λ accepting. absurd (misses_none bound m accepting (first_at_bound k spans bound x m before miss)))

pub accepting_misses_none : ParametersAreTheRoots → AcceptingMissesNone
accepting_misses_none parameters k spans bound x m within = misses_none parameters k spans within x bound m

-- ---- one more of them

last : (i n : ℕ) → i < n + 1 → (i ≡ n) ⊎ (i < n)
last i n lt = grind arith

pub one_more : (P : ℕ → Type 0) (n : ℕ) → ((i : ℕ) → i < n → P i) → P n → (i : ℕ) → i < n + 1 → P i
one_more P n before here i lt = ⊎_elim (λ (e : i ≡ n). subst P (sym e) here) (λ (less : i < n). before i less) (last i n lt)

-- ---- sizes

-- a size below that of a product with a number of at most 2 ^ w
module _ (k : CaseData) (s a : ℕ) (room : (n : ℕ) → n ≤ 2 ^ k.w → n * unsigned_abs (row_whole k s a) < engine_limit) where
  pub sum_small : (z : ℤ) → pos 0 ≤ℤ z → z ≤ℤ (pos (2 ^ k.w) *ℤ row_whole k s a) → IsSmall z
  sum_small z least most =
      let size : unsigned_abs (pos (2 ^ k.w) *ℤ row_whole k s a) ≡ 2 ^ k.w * unsigned_abs (row_whole k s a) = unsigned_abs-mul (pos (2 ^ k.w)) (row_whole k s a) in
      omega (arith, ints, least, most, size, room (2 ^ k.w) (le_refl (2 ^ k.w)))

  pub product_small : (n : ℤ) → unsigned_abs n ≤ 2 ^ k.w → IsSmall (n *ℤ row_whole k s a)
  product_small n le = rw (unsigned_abs-mul n (row_whole k s a)) (room (unsigned_abs n) le)

-- a number of a vector
pub number_size : NumbersAreInRange → (k : CaseData) (x : List ℤ) (s : ℕ) → AreNumbers k x → unsigned_abs (number x s) ≤ 2 ^ k.w
number_size numbers k x s are = let range = numbers k x s are in omega (arith, ints, range.0, range.1)

-- what a vector's weighted sum over a row is at a corner of a rectangle inside the root
pub value_small : SumsAreInRange → (k : CaseData) (sides : List ℤ) (s a c : ℕ) (x : List ℤ) → IsCase k → AreSidesInside k.root sides → s < length k.model.states → a < length (choices k.model s) → AreNumbers k x
    → ((n : ℕ) → n ≤ 2 ^ k.w → n * unsigned_abs (row_whole k s a) < engine_limit) → IsSmall (row_value k (spans_of sides) s a x c)
value_small sums k sides s a c x is inside state choice are room =
    let range = sums k (spans_of sides) s a c x is (record { rectangle = inside.rectangle.spans; within = inside.within }) (record { state = state; choice = choice }) are in
    sum_small k s a room (row_value k (spans_of sides) s a x c) range.0 range.1
