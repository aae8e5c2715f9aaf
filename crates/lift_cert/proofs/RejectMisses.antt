-- The tests of a rejecting certificate: the first that fails is one, and a certificate that passes all is a rejecting one.
use Rattle.std.proofs.Common.{◌≡◌, ◌^◌, ◌<◌, ◌≤◌, ℕ, Bool, true, false, List, [], ◌∷◌, length, All, ℤ, pos, ◌*ℤ◌, ◌≤ℤ◌, ◌<ℤ◌, nat_lt, cond, refl, sym, ap, subst, ◌∙◌, arith, ⊎_elim, Result, Ok, Err}
use Rattle.std.specs.Prelude.{◌↔◌, IsOk, IsErr, MatchResult}
use Rattle.std.proofs.lemmas.List.{get_or_past, get_or_default}
use Rattle.lift_poly.proofs.Ring.{linear, mul-zero}
use Rattle.lift_grid.specs.Rectangle.{Spans}
use Rattle.lift_grid.specs.Tree.{RejectData}
use Rattle.lift_model.specs.Process.{Move, weighted_sum}
use Rattle.lift_model.specs.Model.{support, is_goal, choices, row_at, moves_at}
use Rattle.corner_lift.specs.Corner.{corner, corner_sum, parameter_count}
use Rattle.corner_lift.specs.Case.{CaseData, IsCase, IsInside, Within, number, row_whole, corner_count}
use Rattle.corner_lift.specs.Certificate.{unmarked, mark, ranked_below, IsLower, IsHeld}
use Rattle.corner_lift.specs.Laws.{ParametersAreTheRoots, SumsRise, WeightsSumToWhole}
use Rattle.lift_cert.specs.Certificate.{IsRejecting, IsBeyond}
use Rattle.lift_cert.specs.Laws.{FirstRejectMissIsOne, RejectingMissesNone}
use Rattle.lift_cert.specs.Miss.{IsGoalMiss}
use Rattle.lift_cert.specs.RejectMiss.{HasRejectForm, IsUnmarked, IsMarked, IsSupported, weight_below, IsHeldCorner, IsHeldRow, IsHeldState, AreHeldBefore, IsUnrankedMiss, IsAtCorner, IsMeanMiss, IsRateMiss, IsFirstRejectMiss, IsHeldMiss, IsUnderBoundMiss}
use Rattle.lift_cert.specs.declared.bound.Bound.{Bound}
use Rattle.lift_cert.specs.declared.miss.Miss.{Miss}
use Rattle.lift_cert.specs.declared.miss.Miss.TheVariants.{Goal, Unranked, Row, Rate, Limit}
use Rattle.lift_cert.proofs.Misses.{first_is_one, in_or_past, same_parameters, same_whole}
use Rattle.lift_cert.proofs.Holding.{either_way}

-- ---- one first

module _ (k : CaseData) (spans : Spans) (r : RejectData) where
  -- what a miss of a state says of that state
  goal_refused : (s : ℕ) (value : ℤ) → IsGoalMiss k r.numbers s value → IsHeldState k spans r s → ⊥
  goal_refused s value miss held = miss.wrong (miss.value_is ∙ held.goal miss.goal)

  unranked_refused : (s : ℕ) (value : ℤ) → IsUnrankedMiss k r s value → IsHeldState k spans r s → ⊥
  unranked_refused s value miss held = miss.wrong (miss.value_is ∙ held.unranked miss.inner miss.none)

  mean_refused : (s a c : ℕ) (left right : ℤ) → IsMeanMiss k spans r s a c left right → IsHeldCorner k spans r s a c → ⊥
  mean_refused s a c left right miss held = omega (arith, linear, held.mean, miss.left_is, miss.right_is, miss.wrong)

  rate_refused : (s a c : ℕ) (weight : ℤ) (e : ℕ) (all : ℤ) → IsRateMiss k spans r s a c weight e all → IsHeldCorner k spans r s a c → ⊥
  rate_refused s a c weight e all miss held =
      let wrong : (weight_below k spans r s a c *ℤ pos (2 ^ r.e)) <ℤ row_whole k s a = rw (← miss.weight_is, ← miss.e_is, ← miss.whole_is) miss.wrong in
      omega (arith, linear, held.rate, wrong)

  corner_refused : (s a c : ℕ) → IsAtCorner k spans r s a c → (IsHeldCorner k spans r s a c → ⊥) → IsHeldState k spans r s → ⊥
  corner_refused s a c here wrong held = wrong (subst (λ b. IsHeldRow k spans r s b) (sym here.pick) (held.row here.inner here.ranked) c here.corner)

  -- the place of a miss: its state, and whether it is a goal state or ranked
  same_place : (s t a b c d : ℕ) → IsAtCorner k spans r s a c → (IsHeldCorner k spans r s a c → ⊥) → IsAtCorner k spans r t b d → (IsHeldCorner k spans r t b d → ⊥) → s ≡ t → (a ≡ b) × (c ≡ d)
  same_place s t a b c d f wrong g other e =
      let picks : a ≡ b = f.pick ∙ ap (λ n. mark r.picks n) e ∙ sym g.pick in
      let here : IsAtCorner k spans r s a d = rw (e, picks) g in
      let refused : IsHeldCorner k spans r s a d → ⊥ = rw (e, picks) other in
      (picks, first_is_one (IsHeldCorner k spans r s a) c d f.corners wrong here.corners refused)

  module _ (bound : Bound) where
    mean_place : (s a c : ℕ) (left right : ℤ) → IsMeanMiss k spans r s a c left right → IsHeldState k spans r s → ⊥
    mean_place s a c left right miss = corner_refused s a c miss.at (mean_refused s a c left right miss)

    rate_place : (s a c : ℕ) (weight : ℤ) (e : ℕ) (all : ℤ) → IsRateMiss k spans r s a c weight e all → IsHeldState k spans r s → ⊥
    rate_place s a c weight e all miss = corner_refused s a c miss.at (rate_refused s a c weight e all miss)

    -- two states, each the first that doesn't pass
    same_first : (s t : ℕ) → AreHeldBefore k spans r s → (IsHeldState k spans r s → ⊥) → AreHeldBefore k spans r t → (IsHeldState k spans r t → ⊥) → s ≡ t
    same_first s t = first_is_one (IsHeldState k spans r) s t

    no_goal : (s t : ℕ) → s ≡ t → is_goal k.model s ≡ true → is_goal k.model t ≡ false → ⊥
    no_goal s t e is not = let wrong : true ≡ false = cc in absurd (cc wrong)

    no_rank : (s t : ℕ) → s ≡ t → mark r.ranks s ≡ unmarked → mark r.ranks t < unmarked → ⊥
    no_rank s t e none lt = omega (arith, none, lt, ap (λ n. mark r.ranks n) e)

    same_mean : (s t a b c d : ℕ) (left right more above : ℤ) → s ≡ t → a ≡ b → c ≡ d → IsMeanMiss k spans r s a c left right → IsMeanMiss k spans r t b d more above → Row s a c left right ≡ Row t b d more above
    same_mean s t a b c d left right more above e f g miss other =
        let same : IsMeanMiss k spans r s a c more above = rw (e, f, g) other in cc (e, f, g, miss.left_is, miss.right_is, same.left_is, same.right_is)

    same_rate : (s t a b c d : ℕ) (weight : ℤ) (i : ℕ) (all less : ℤ) (j : ℕ) (most : ℤ) → s ≡ t → a ≡ b → c ≡ d → IsRateMiss k spans r s a c weight i all → IsRateMiss k spans r t b d less j most → Rate s a c weight i all ≡ Rate t b d less j most
    same_rate s t a b c d weight i all less j most e f g miss other =
        let same : IsRateMiss k spans r s a c less j most = rw (e, f, g) other in cc (e, f, g, miss.weight_is, miss.e_is, miss.whole_is, same.weight_is, same.e_is, same.whole_is)

    -- at one corner the mean doesn't both fail and pass
    not_both_tests : (s t a b c d : ℕ) (left right weight : ℤ) (e : ℕ) (all : ℤ) → s ≡ t → IsMeanMiss k spans r s a c left right → IsRateMiss k spans r t b d weight e all → ⊥
    not_both_tests s t a b c d left right weight e all same miss other =
        let place = same_place s t a b c d miss.at (mean_refused s a c left right miss) other.at (rate_refused t b d weight e all other) same in
        let passes : IsSupported k spans r s a c = rw (same, place.0, place.1) other.mean in
        omega (arith, linear, passes, miss.left_is, miss.right_is, miss.wrong)

    one_miss : (m n : Miss) → IsFirstRejectMiss k spans bound r m → IsFirstRejectMiss k spans bound r n → m ≡ n
    one_miss (Goal s value) (Goal t other) f g =
        let e = same_first s t f.0 (goal_refused s value f.1) g.0 (goal_refused t other g.1) in
        cc (e, f.1.value_is, g.1.value_is)
    one_miss (Goal s value) (Unranked t other) f g = absurd (no_goal s t (same_first s t f.0 (goal_refused s value f.1) g.0 (unranked_refused t other g.1)) f.1.goal g.1.inner)
    one_miss (Goal s value) (Row t a c left right) f g = absurd (no_goal s t (same_first s t f.0 (goal_refused s value f.1) g.0 (mean_place t a c left right g.1)) f.1.goal g.1.at.inner)
    one_miss (Goal s value) (Rate t a c weight e all) f g = absurd (no_goal s t (same_first s t f.0 (goal_refused s value f.1) g.0 (rate_place t a c weight e all g.1)) f.1.goal g.1.at.inner)
    one_miss (Unranked s value) (Goal t other) f g = absurd (no_goal t s (same_first t s g.0 (goal_refused t other g.1) f.0 (unranked_refused s value f.1)) g.1.goal f.1.inner)
    one_miss (Unranked s value) (Unranked t other) f g =
        let e = same_first s t f.0 (unranked_refused s value f.1) g.0 (unranked_refused t other g.1) in
        cc (e, f.1.value_is, g.1.value_is)
    one_miss (Unranked s value) (Row t a c left right) f g = absurd (no_rank s t (same_first s t f.0 (unranked_refused s value f.1) g.0 (mean_place t a c left right g.1)) f.1.none g.1.at.ranked)
    one_miss (Unranked s value) (Rate t a c weight e all) f g = absurd (no_rank s t (same_first s t f.0 (unranked_refused s value f.1) g.0 (rate_place t a c weight e all g.1)) f.1.none g.1.at.ranked)
    one_miss (Row s a c left right) (Goal t other) f g = absurd (no_goal t s (same_first t s g.0 (goal_refused t other g.1) f.0 (mean_place s a c left right f.1)) g.1.goal f.1.at.inner)
    one_miss (Row s a c left right) (Unranked t other) f g = absurd (no_rank t s (same_first t s g.0 (unranked_refused t other g.1) f.0 (mean_place s a c left right f.1)) g.1.none f.1.at.ranked)
    one_miss (Row s a c left right) (Row t b d more above) f g =
        let e = same_first s t f.0 (mean_place s a c left right f.1) g.0 (mean_place t b d more above g.1) in
        let place = same_place s t a b c d f.1.at (mean_refused s a c left right f.1) g.1.at (mean_refused t b d more above g.1) e in
        same_mean s t a b c d left right more above e place.0 place.1 f.1 g.1
    one_miss (Row s a c left right) (Rate t b d weight e all) f g =
        absurd (not_both_tests s t a b c d left right weight e all (same_first s t f.0 (mean_place s a c left right f.1) g.0 (rate_place t b d weight e all g.1)) f.1 g.1)
    one_miss (Rate s a c weight e all) (Goal t other) f g = absurd (no_goal t s (same_first t s g.0 (goal_refused t other g.1) f.0 (rate_place s a c weight e all f.1)) g.1.goal f.1.at.inner)
    one_miss (Rate s a c weight e all) (Unranked t other) f g = absurd (no_rank t s (same_first t s g.0 (unranked_refused t other g.1) f.0 (rate_place s a c weight e all f.1)) g.1.none f.1.at.ranked)
    one_miss (Rate s a c weight e all) (Row t b d left right) f g =
        absurd (not_both_tests t s b a d c left right weight e all (same_first t s g.0 (mean_place t b d left right g.1) f.0 (rate_place s a c weight e all f.1)) g.1 f.1)
    one_miss (Rate s a c weight i all) (Rate t b d less j most) f g =
        let e = same_first s t f.0 (rate_place s a c weight i all f.1) g.0 (rate_place t b d less j most g.1) in
        let place = same_place s t a b c d f.1.at (rate_refused s a c weight i all f.1) g.1.at (rate_refused t b d less j most g.1) e in
        same_rate s t a b c d weight i all less j most e place.0 place.1 f.1 g.1
    one_miss (Goal s value) (Limit left right) f g = absurd (goal_refused s value f.1 (g.0 s f.1.state))
    one_miss (Unranked s value) (Limit left right) f g = absurd (unranked_refused s value f.1 (g.0 s f.1.state))
    one_miss (Row s a c left right) (Limit more above) f g = absurd (mean_place s a c left right f.1 (g.0 s f.1.at.state))
    one_miss (Rate s a c weight e all) (Limit more above) f g = absurd (rate_place s a c weight e all f.1 (g.0 s f.1.at.state))
    one_miss (Limit left right) (Goal s value) f g = absurd (goal_refused s value g.1 (f.0 s g.1.state))
    one_miss (Limit left right) (Unranked s value) f g = absurd (unranked_refused s value g.1 (f.0 s g.1.state))
    one_miss (Limit more above) (Row s a c left right) f g = absurd (mean_place s a c left right g.1 (f.0 s g.1.at.state))
    one_miss (Limit more above) (Rate s a c weight e all) f g = absurd (rate_place s a c weight e all g.1 (f.0 s g.1.at.state))
    one_miss (Limit left right) (Limit more above) f g = cc (f.1.left_is, f.1.right_is, g.1.left_is, g.1.right_is)

pub first_reject_miss_is_one : FirstRejectMissIsOne
first_reject_miss_is_one k spans bound r = one_miss k spans r bound

-- ---- tests and certificates

-- a miss of a state, where those before it pass
pub first_at_state : (k : CaseData) (spans : Spans) (bound : Bound) (r : RejectData) (s : ℕ) (m : Miss) → AreHeldBefore k spans r s → IsHeldMiss k spans r s m → IsFirstRejectMiss k spans bound r m
first_at_state k spans bound r s (Goal t value) before miss = (rw miss.0 before, rw miss.0 miss.1)
first_at_state k spans bound r s (Unranked t value) before miss = (rw miss.0 before, rw miss.0 miss.1)
first_at_state k spans bound r s (Row t a c left right) before miss = (rw miss.0 before, rw miss.0 miss.1)
first_at_state k spans bound r s (Rate t a c weight e all) before miss = (rw miss.0 before, rw miss.0 miss.1)
first_at_state k spans bound r s (Limit left right) before miss = absurd miss

-- a miss of the bound, where all states pass
pub first_at_bound : (k : CaseData) (spans : Spans) (bound : Bound) (r : RejectData) (m : Miss) → AreHeldBefore k spans r (length k.model.states) → IsUnderBoundMiss k bound r m → IsFirstRejectMiss k spans bound r m
first_at_bound k spans bound r (Limit left right) before miss = (before, miss)
first_at_bound k spans bound r (Goal s value) before miss = absurd miss
first_at_bound k spans bound r (Row s a c left right) before miss = absurd miss
first_at_bound k spans bound r (Unranked s value) before miss = absurd miss
first_at_bound k spans bound r (Rate s a c weight e all) before miss = absurd miss

-- by its form, a ranked state that is no goal state has a rank from 1 to k and a chosen row
pub marked_at : (k : CaseData) (r : RejectData) (s : ℕ) → HasRejectForm k r → is_goal k.model s ≡ false → mark r.ranks s < unmarked → IsMarked k r s
marked_at k r s form inner lt = ⊎_elim (λ (none : IsUnmarked r s). absurd (omega (arith, none.0, lt))) (λ (is : IsMarked k r s). is) (form.others s inner)

-- and one without rank has no chosen row
pub unmarked_at : (k : CaseData) (r : RejectData) (s : ℕ) → HasRejectForm k r → is_goal k.model s ≡ false → unmarked ≤ mark r.ranks s → IsUnmarked r s
unmarked_at k r s form inner le = ⊎_elim (λ (none : IsUnmarked r s). none) (λ (is : IsMarked k r s). absurd (omega (arith, is.rank.1, form.bounds.2, le))) (form.others s inner)

-- by its form no rank is beyond what stands for none
form_marks : (k : CaseData) (r : RejectData) → HasRejectForm k r → All (λ rank. rank ≤ unmarked) r.ranks
form_marks k r form s d lt =
    rw (get_or_default r.ranks s d unmarked lt)
    (either_way (is_goal k.model s)
    (λ e. omega (arith, (form.goal s e).0))
    (λ e. ⊎_elim (λ (none : IsUnmarked r s). omega (arith, none.0)) (λ (is : IsMarked k r s). omega (arith, is.rank.1, form.bounds.2)) (form.others s e)))

module _ (parameters : ParametersAreTheRoots) (k : CaseData) (spans : Spans) (within : Within spans k.root) (r : RejectData) where
  -- at the corners of the rectangle, or of the root, which are as many
  row_from_held : (s : ℕ) → IsHeld k spans r s → IsHeldRow k spans r s (mark r.picks s)
  row_from_held s held c lt =
      let a = mark r.picks s in
      let in_range = subst (λ n. c < 2 ^ n) (sym (same_parameters parameters k spans within s a)) lt in
      let mean = held.means c in_range in
      let rate = held.rates c in_range in
      record { mean = omega (arith, linear, mean, ap (λ n. number r.numbers s *ℤ n) (same_whole parameters k spans within s a)); rate = omega (arith, linear, rate, same_whole parameters k spans within s a) }

  held_from_row : (s : ℕ) → IsMarked k r s → IsHeldRow k spans r s (mark r.picks s) → IsHeld k spans r s
  held_from_row s marked row =
      let a = mark r.picks s in
      let at : (c : ℕ) → c < 2 ^ parameter_count spans (support (row_at k.model s a)) → IsHeldCorner k spans r s a c = λ c lt. row c (subst (λ n. c < 2 ^ n) (same_parameters parameters k spans within s a) lt) in
      record {
        rank = marked.rank;
        pick = marked.pick;
        means = λ c lt. let mean = (at c lt).mean in omega (arith, linear, mean, ap (λ n. number r.numbers s *ℤ n) (same_whole parameters k spans within s a));
        rates = λ c lt. let rate = (at c lt).rate in omega (arith, linear, rate, same_whole parameters k spans within s a);
      }

  pub state_from_lower : IsLower k spans r → (s : ℕ) → IsHeldState k spans r s
  state_from_lower lower s = record {
    goal = λ e. (lower.goal s e).0;
    unranked = λ e none. (lower.unranked s e (omega (arith, none))).0;
    row = λ e lt. row_from_held s (lower.held s e lt);
  }

  -- what passes all states is a lower vector
  pub lower_from_states : IsCase k → HasRejectForm k r → AreHeldBefore k spans r (length k.model.states) → IsLower k spans r
  lower_from_states is form held = record {
    numbers = form.numbers;
    sizes = form.sizes;
    marks = form_marks k r form;
    bounds = (form.bounds.0, form.bounds.1, omega (arith, form.bounds.2));
    goal = λ s e. ⊎_elim (λ (lt : s < length k.model.states). ((held s lt).goal e, (form.goal s e).0, (form.goal s e).1)) (λ (le : length k.model.states ≤ s). absurd (past_goal s e le)) (in_or_past s (length k.model.states));
    unranked = λ s e none. let is_none = unmarked_at k r s form e none in (⊎_elim (λ (lt : s < length k.model.states). (held s lt).unranked e is_none.0) (λ (le : length k.model.states ≤ s). get_or_past r.numbers s (pos 0) (omega (arith, form.numbers.size, le))) (in_or_past s (length k.model.states)), is_none.1);
    held = λ s e lt. held_from_row s (marked_at k r s form e lt)
        (⊎_elim (λ (state : s < length k.model.states). (held s state).row e lt)
        (λ (le : length k.model.states ≤ s). let past : mark r.ranks s ≡ unmarked = get_or_past r.ranks s unmarked (omega (arith, form.sizes.1, le)) in absurd (omega (arith, past, lt)))
        (in_or_past s (length k.model.states)));
  }
    where
      past_goal : (s : ℕ) → is_goal k.model s ≡ true → length k.model.states ≤ s → ⊥
      past_goal s e le =
          let none : is_goal k.model s ≡ false = get_or_past k.model.goal s false (omega (arith, is.asked.model.goals, le)) in
          let wrong : true ≡ false = sym e ∙ none in cc wrong

  misses_none : (bound : Bound) (m : Miss) → IsRejecting k spans bound r → IsFirstRejectMiss k spans bound r m → ⊥
  misses_none bound (Goal s value) rejecting miss = goal_refused k spans r s value miss.1 (state_from_lower rejecting.holds s)
  misses_none bound (Unranked s value) rejecting miss = unranked_refused k spans r s value miss.1 (state_from_lower rejecting.holds s)
  misses_none bound (Row s a c left right) rejecting miss = mean_place k spans r bound s a c left right miss.1 (state_from_lower rejecting.holds s)
  misses_none bound (Rate s a c weight e all) rejecting miss = rate_place k spans r bound s a c weight e all miss.1 (state_from_lower rejecting.holds s)
  misses_none bound (Limit left right) rejecting miss = omega (arith, linear, rejecting.limit, miss.1.left_is, miss.1.right_is, miss.1.wrong)

  -- the answer says whether it is a rejecting certificate
  pub answers_at_state : {T : Type 0} (result : Result T Miss) (bound : Bound) (s : ℕ) (m : Miss) → IsErr result → AreHeldBefore k spans r s → IsHeldMiss k spans r s m → IsOk result ↔ IsRejecting k spans bound r
  answers_at_state (Ok u) bound s m refused before miss = absurd (cc refused)
  answers_at_state (Err e) bound s m refused before miss = (λ ok. absurd (cc ok), λ rejecting. absurd (misses_none bound m rejecting (first_at_state k spans bound r s m before miss)))

  pub answers_at_bound : {T : Type 0} (result : Result T Miss) (bound : Bound) → IsCase k → HasRejectForm k r → AreHeldBefore k spans r (length k.model.states) → MatchResult result (λ u. IsBeyond bound k.w (number r.numbers k.model.init)) (IsUnderBoundMiss k bound r) → IsOk result ↔ IsRejecting k spans bound r
  answers_at_bound (Ok u) bound is form before limit = (λ ok. record { holds = lower_from_states is form before; limit = limit }, λ rejecting. refl)
  answers_at_bound (Err m) bound is form before miss = (λ ok. absurd (cc ok), λ rejecting. absurd (misses_none bound m rejecting (first_at_bound k spans bound r m before miss)))

pub rejecting_misses_none : ParametersAreTheRoots → RejectingMissesNone
rejecting_misses_none parameters k spans bound r m within = misses_none parameters k spans within r bound m

-- ---- the weight into lower ranks

-- the weight of a row into states of lower rank lies from 0 to the whole, at each corner
module _ (rise : SumsRise) (sums : WeightsSumToWhole) (parameters : ParametersAreTheRoots) (k : CaseData) (spans : Spans) (s a c : ℕ) (is : IsCase k) (inside : IsInside k.root spans) (state : s < length k.model.states) (choice : a < length (choices k.model s)) (rank : ℕ → ℕ) (below : ℕ) where
  zero_sum : (moves : List Move) → weighted_sum (λ t. pos 0) moves ≡ pos 0
  zero_sum [] = refl
  zero_sum (move ∷ moves) = omega (arith, linear, zero_sum moves, mul-zero move.1)

  pub weight_least : pos 0 ≤ℤ corner_sum k.d spans (row_at k.model s a) c (ranked_below rank below)
  weight_least =
      let row = row_at k.model s a in
      let from_zero = rise k spans s a c (λ t. pos 0) (ranked_below rank below) is inside (record { state = state; choice = choice }) (λ t. at_least (nat_lt (rank t) below)) in
      omega (arith, linear, from_zero, zero_sum (moves_at (corner k.d spans (support row) c) row))
    where
      at_least : (b : Bool) → pos 0 ≤ℤ cond b (pos 1) (pos 0)
      at_least true = omega (arith, linear)
      at_least false = omega (arith, linear)

  pub weight_most : c < corner_count k s a → corner_sum k.d spans (row_at k.model s a) c (ranked_below rank below) ≤ℤ row_whole k s a
  weight_most lt =
      let row = row_at k.model s a in
      let to_one = rise k spans s a c (ranked_below rank below) (λ t. pos 1) is inside (record { state = state; choice = choice }) (λ t. at_most (nat_lt (rank t) below)) in
      let all = sums k spans s a is inside (record { state = state; choice = choice }) c (subst (λ n. c < 2 ^ n) (sym (parameters k spans row inside.within)) lt) in
      omega (arith, linear, to_one, all)
    where
      at_most : (b : Bool) → cond b (pos 1) (pos 0) ≤ℤ pos 1
      at_most true = omega (arith, linear)
      at_most false = omega (arith, linear)

-- ---- the rate's test
