-- Certificates of a chain, each of whose states has one choice.
use Rattle.std.proofs.Common.{◌≡◌, ℕ, ◌^◌, ◌<◌, ◌≤◌, true, false, cond, nat_lt, List, [], length, get_or, All, ℤ, pos, ◌*ℤ◌, ◌≤ℤ◌, refl, sym, ap, subst, ◌∙◌, arith, lt-ltb, le-ltb, ◌⊎◌, ⊎_elim}
use Rattle.std.proofs.lemmas.List.{get_or_past}
use Rattle.std.proofs.lemmas.List.Elements.{All-from_get_or}
use Rattle.lift_poly.proofs.Ring.{linear, mul-zero, mul-comm}
use Rattle.lift_grid.specs.Rectangle.{Spans}
use Rattle.lift_grid.specs.Tree.{RejectData}
use Rattle.lift_model.specs.declared.entry.Entry.{Entry}
use Rattle.lift_model.specs.declared.kind.Kind.TheVariants.{Dtmc}
use Rattle.lift_model.specs.Process.{power}
use Rattle.lift_model.specs.Model.{is_goal, choices, row_at}
use Rattle.corner_lift.specs.Corner.{corner_sum, whole}
use Rattle.corner_lift.specs.Case.{CaseData, IsCase, IsInside, number, row_whole}
use Rattle.corner_lift.specs.Certificate.{AreNumbers, MeansAtMost, MeansAtLeast, IsUpper, IsLeastUpper, IsLower, unmarked, mark}
use Rattle.corner_lift.specs.Stages.{IsAllowed, LeadsBelow, IsGreatestLower}
use Rattle.corner_lift.specs.Laws.{ParametersAreTheRoots, SumsAreInRange}
use Rattle.lift_dual.specs.Sides.{RowHolds, IsLowerAll, IsUpperOne}
use Rattle.lift_dual.specs.Choosing.{IsLowestSatisfied, IsLeastUpperOne}
use Rattle.lift_dual.specs.Avoiding.{AreStagesOfAll, IsRateOf, HasLeast, IsGreatestLowerAll}
use Rattle.lift_dual.specs.Chains.{AreFirstChoices, LeastWithinIsForOne, GreatestAboveIsForAll, NoneAboveIsForAll}
use Rattle.lift_dual.proofs.Joining.{listed, listed-length, listed-at, listed-past}
use Rattle.lift_dual.proofs.Inside.{in_or_past, choice_inside, goal_inside, either_way}

-- ---- an upper vector of any case

-- 2 ^ w at each state
ones : CaseData → List ℤ
ones k = listed (length k.model.states) (λ s. pos (2 ^ k.w))

ones_at : (k : CaseData) (s : ℕ) → s < length k.model.states → number (ones k) s ≡ pos (2 ^ k.w)
unfolding ones
ones_at k s lt = listed-at (length k.model.states) (λ s. pos (2 ^ k.w)) s (pos 0) lt

ones_size : (k : CaseData) → length (ones k) ≡ length k.model.states
unfolding ones
ones_size k = listed-length (length k.model.states) (λ s. pos (2 ^ k.w))

ones_are_numbers : (k : CaseData) → AreNumbers k (ones k)
unfolding ones
ones_are_numbers k = record { size = ones_size k; range = λ i d lt. in_range i d (omega (arith, lt, ones_size k)) }
  where
    in_range : (i : ℕ) (d : ℤ) → i < length k.model.states → (pos 0 ≤ℤ get_or (ones k) i d) × (get_or (ones k) i d ≤ℤ pos (2 ^ k.w))
    in_range i d lt = let at : get_or (ones k) i d ≡ pos (2 ^ k.w) = listed-at (length k.model.states) (λ s. pos (2 ^ k.w)) i d lt in (omega (arith, linear, at), omega (arith, linear, at))

ones_are_upper : ParametersAreTheRoots → SumsAreInRange → (k : CaseData) (spans : Spans) → IsCase k → IsInside k.root spans → IsUpper k spans (ones k)
ones_are_upper parameters range k spans is within = record {
  numbers = ones_are_numbers k;
  goal = λ s g. ones_at k s (goal_inside k s is g);
  means = λ s g. All-from_get_or (λ row. MeansAtMost k spans row (ones k) (number (ones k) s)) (choices k.model s) [] (λ a lt c at. means s a lt c);
}
  where
    means : (s a : ℕ) → a < length (choices k.model s) → (c : ℕ) → corner_sum k.d spans (row_at k.model s a) c (number (ones k)) ≤ℤ (number (ones k) s *ℤ whole k.model k.d spans (row_at k.model s a))
    means s a lt c =
        let state = choice_inside k s a lt in
        let full = whole k.model k.d spans (row_at k.model s a) in
        let same : full ≡ row_whole k s a = ap (λ m. k.model.common *ℤ power k.d m) (parameters k spans (row_at k.model s a) within.within) in
        omega (arith, linear, (range k spans s a c (ones k) is within (record { state = state; choice = lt }) (ones_are_numbers k)).1, ap (λ v. pos (2 ^ k.w) *ℤ v) same, ap (λ v. v *ℤ full) (ones_at k s state))

-- ---- chains

module _ (k : CaseData) (spans : Spans) (is : IsCase k) (chain : k.model.kind ≡ Dtmc) where
  abbrev n : ℕ
  n = length k.model.states

  -- the first choice holds the state, by these numbers, ranks and rate
  abbrev Holds : RejectData → ℕ → ℕ → Type 0
  Holds r s a = RowHolds k spans r s (row_at k.model s a)

  only : (s : ℕ) → s < n → length (choices k.model s) ≡ 1
  only s lt = is.asked.model.one_choice chain s [] lt

  has : (s : ℕ) → s < n → 0 < length (choices k.model s)
  has s lt = omega (arith, only s lt)

  first : (s a : ℕ) → s < n → a < length (choices k.model s) → a ≡ 0
  first s a lt choice = omega (arith, choice, only s lt)

  ranked_inside : (ranks : List ℕ) (s : ℕ) → length ranks ≡ n → mark ranks s < unmarked → s < n
  ranked_inside ranks s size ranked = ⊎_elim (λ (lt : s < n). lt) (λ (past : n ≤ s). absurd (omega (arith, ranked, get_or_past ranks s unmarked (omega (arith, size, past))))) (in_or_past s n)

  rows_of : (P : List Entry → Type 0) (s : ℕ) → (s < n → P (row_at k.model s 0)) → All P (choices k.model s)
  rows_of P s h = All-from_get_or P (choices k.model s) [] (λ a choice. let lt = choice_inside k s a choice in subst (λ b. P (row_at k.model s b)) (sym (first s a lt choice)) (h lt))

  -- ---- from above

  upper_of : (x : List ℤ) (picks : List ℕ) → IsUpperOne k spans x picks → IsUpper k spans x
  upper_of x picks h = record {
    numbers = h.numbers;
    goal = λ s g. (h.goal s g).0;
    means = λ s g. rows_of (λ row. MeansAtMost k spans row x (number x s)) s (λ lt. subst (λ a. MeansAtMost k spans (row_at k.model s a) x (number x s)) (first s (mark picks s) lt (h.pick s lt g)) (h.means s lt g));
  }

  module _ (x : List ℤ) (picks : List ℕ) (h : IsLeastUpper k spans x) (p : AreFirstChoices k.model picks) where
    none : (s : ℕ) → is_goal k.model s ≡ true → mark picks s ≡ unmarked
    none s g = p.each s (goal_inside k s is g) ∙ rw g refl

    at_first : (s : ℕ) → s < n → is_goal k.model s ≡ false → mark picks s ≡ 0
    at_first s lt g = p.each s lt ∙ rw g refl

    satisfied : (s : ℕ) → s < n → is_goal k.model s ≡ false → IsLowestSatisfied k spans x s (mark picks s)
    satisfied s lt g = subst (λ a. IsLowestSatisfied k spans x s a) (sym (at_first s lt g)) (record { in_range = has s lt; holds = h.upper.means s g 0 [] (has s lt); least = λ b less. absurd (omega (arith, less)) })

    least_one_of : IsLeastUpperOne k spans x picks
    least_one_of = record {
      upper = record {
        numbers = h.upper.numbers;
        size = p.size;
        goal = λ s g. (h.upper.goal s g, none s g);
        pick = λ s lt g. (satisfied s lt g).in_range;
        means = λ s lt g. (satisfied s lt g).holds;
      };
      least = λ y others upper. h.least y (upper_of y others upper);
      lowest = record { size = p.size; each = λ s lt. record { chosen = λ g. satisfied s lt g; none = λ g. none s g } };
    }

  -- ---- from below

  module _ (o : RejectData) (ho : IsLowerAll k spans o) where
    pick : ℕ → ℕ
    pick s = cond (is_goal k.model s) unmarked (cond (nat_lt (mark o.ranks s) unmarked) 0 unmarked)

    choices_of : List ℕ
    choices_of = listed n pick

    -- a state past the last one has none
    none_of : (s : ℕ) → (s < n → pick s ≡ unmarked) → mark choices_of s ≡ unmarked
    unfolding choices_of
    none_of s h = ⊎_elim
        (λ (lt : s < n). listed-at n pick s unmarked lt ∙ h lt)
        (λ (past : n ≤ s). listed-past n pick s unmarked past)
        (in_or_past s n)

    goal_none : (s : ℕ) → is_goal k.model s ≡ true → pick s ≡ unmarked
    unfolding pick
    goal_none s g = rw g refl

    unranked_none : (s : ℕ) → is_goal k.model s ≡ false → unmarked ≤ mark o.ranks s → pick s ≡ unmarked
    unfolding pick
    unranked_none s g off = let test = le-ltb (mark o.ranks s) unmarked off in rw (g, test) refl

    chosen : (s : ℕ) → s < n → is_goal k.model s ≡ false → mark o.ranks s < unmarked → mark choices_of s ≡ 0
    unfolding choices_of pick
    chosen s lt g ranked = let test = lt-ltb (mark o.ranks s) unmarked ranked in listed-at n pick s unmarked lt ∙ (rw (g, test) refl)

    choices_size : length choices_of ≡ n
    unfolding choices_of
    choices_size = listed-length n pick

    lower_of : IsLower k spans (record o { picks = choices_of })
    lower_of = record {
      numbers = ho.numbers;
      sizes = (choices_size, ho.sizes.1);
      marks = ho.marks;
      bounds = ho.bounds;
      goal = λ s g. ((ho.goal s g).0, (ho.goal s g).1, none_of s (λ lt. goal_none s g));
      unranked = λ s g off. (ho.unranked s g off, none_of s (λ lt. unranked_none s g off));
      held = λ s g ranked.
          let lt = ranked_inside o.ranks s ho.sizes.1 ranked in
          let at = chosen s lt g ranked in
          let all = ho.held s g ranked in
          let row : Holds o s 0 = all.rows 0 [] (has s lt) in
          record {
            rank = all.rank;
            pick = omega (arith, at, only s lt);
            means = subst (λ a. MeansAtLeast k spans (row_at k.model s a) (number o.numbers) (number o.numbers s)) (sym at) row.means;
            rates = subst (λ a. IsRateOf k spans (mark o.ranks) o.e s (row_at k.model s a)) (sym at) row.rates;
          };
    }

  module _ (range : SumsAreInRange) (within : IsInside k.root spans) (r : RejectData) (h : IsGreatestLower k spans r) where
    inside : (s : ℕ) → mark r.ranks s < unmarked → s < n
    inside s ranked = ranked_inside r.ranks s h.holds.sizes.1 ranked

    at_zero : (s : ℕ) → is_goal k.model s ≡ false → mark r.ranks s < unmarked → mark r.picks s ≡ 0
    at_zero s g ranked = first s (mark r.picks s) (inside s ranked) (h.holds.held s g ranked).pick

    row_holds : (s : ℕ) → is_goal k.model s ≡ false → mark r.ranks s < unmarked → RowHolds k spans (record r { picks = [] }) s (row_at k.model s 0)
    row_holds s g ranked =
        let held = h.holds.held s g ranked in
        let zero = at_zero s g ranked in
        record {
          means = subst (λ a. MeansAtLeast k spans (row_at k.model s a) (number r.numbers) (number r.numbers s)) zero held.means;
          rates = subst (λ a. IsRateOf k spans (mark r.ranks) r.e s (row_at k.model s a)) zero held.rates;
        }

    lower_all : IsLowerAll k spans (record r { picks = [] })
    lower_all = record {
      numbers = h.holds.numbers;
      sizes = (refl, h.holds.sizes.1);
      marks = h.holds.marks;
      bounds = h.holds.bounds;
      goal = λ s g. ((h.holds.goal s g).0, (h.holds.goal s g).1);
      unranked = λ s g off. (h.holds.unranked s g off).0;
      held = λ s g ranked. record { rank = (h.holds.held s g ranked).rank; rows = rows_of (RowHolds k spans (record r { picks = [] }) s) s (λ lt. row_holds s g ranked) };
    }

    -- a state without rank has number 0, which each choice holds
    allowed : (s : ℕ) → s < n → is_goal k.model s ≡ false → IsAllowed k spans (number r.numbers) s 0
    allowed s lt g = ⊎_elim
        (λ (ranked : mark r.ranks s < unmarked). (row_holds s g ranked).means)
        (λ (off : unmarked ≤ mark r.ranks s). λ c at. none c (h.holds.unranked s g off).0)
        (in_or_past (mark r.ranks s) unmarked)
      where
        none : (c : ℕ) → number r.numbers s ≡ pos 0 → (number r.numbers s *ℤ whole k.model k.d spans (row_at k.model s 0)) ≤ℤ corner_sum k.d spans (row_at k.model s 0) c (number r.numbers)
        none c e =
            let full = whole k.model k.d spans (row_at k.model s 0) in
            omega (arith, linear, (range k spans s 0 c r.numbers is within (record { state = lt; choice = has s lt }) h.holds.numbers).0, ap (λ v. v *ℤ full) e, mul-zero full, mul-comm full (pos 0))

    stages_of_all : AreStagesOfAll k spans (mark r.ranks)
    stages_of_all = record {
      goal = h.stages.goal;
      reached = λ s g ranked.
          let by = h.stages.chosen s g ranked in
          let lt = inside s ranked in
          (by.later, λ a choice. subst (λ b. LeadsBelow k spans (mark r.ranks) (mark r.ranks s) s b) (at_zero s g ranked ∙ sym (first s a lt choice)) by.leads);
      first = λ s lt g rank less all. h.stages.first s g 0 rank (has s lt) (allowed s lt g) less (all 0 (has s lt));
    }

    has_least : HasLeast k spans (record r { picks = [] })
    has_least = record {
      rate = (h.holds.bounds.0, λ s g ranked. rows_of (IsRateOf k spans (mark r.ranks) r.e s) s (λ lt. (row_holds s g ranked).rates));
      least_rate = λ e all. h.least_rate e (λ s g ranked. subst (λ a. IsRateOf k spans (mark r.ranks) e s (row_at k.model s a)) (sym (at_zero s g ranked)) (all s g ranked 0 [] (has s (inside s ranked))));
      height = (h.holds.bounds.1, h.holds.bounds.2, λ s ranked. either_way (is_goal k.model s) (λ g. omega (arith, (h.holds.goal s g).1)) (λ g. (h.holds.held s g ranked).rank.1));
      least_height = h.least_height;
    }

    greatest_of : IsGreatestLowerAll k spans (record r { picks = [] })
    greatest_of = record {
      holds = lower_all;
      greatest = λ o ho. h.greatest (record o { picks = choices_of o ho }) (lower_of o ho);
      stages = stages_of_all;
      has_least = has_least;
    }

pub least_is_for_one : ParametersAreTheRoots → SumsAreInRange → LeastWithinIsForOne
least_is_for_one parameters range k spans limit x picks within is inside chain h p = record {
  least = λ done. least_one_of k spans is chain x picks (h.least done) (p done);
  first = h.first;
  past = λ stopped y others upper. h.past stopped y (upper_of k spans is chain y others upper);
  always = λ le. either_way within
      (λ done. done)
      (λ stopped. absurd (omega (arith, linear, le, h.past stopped (ones k) (ones_are_upper parameters range k spans is inside), ones_at k k.model.init is.asked.model.first)));
}

pub none_is_for_all : NoneAboveIsForAll
none_is_for_all k spans limit is chain none r h = none (record r { picks = choices_of k spans is chain r h }) (lower_of k spans is chain r h)

pub greatest_is_for_all : SumsAreInRange → GreatestAboveIsForAll
greatest_is_for_all range k spans limit r is within chain h = record {
  greatest = greatest_of k spans is chain range within r h.greatest;
  height = h.height;
  above = h.above;
}
