-- A rectangle inside the root has least upper vectors and greatest lower ones for each number of steps: each state has a least number that covers its choices, and a greatest one that a choice holds.
use Rattle.std.proofs.Common.{◌≡◌, ℕ, zero, suc, ◌+◌, ◌-◌, ◌^◌, ◌<◌, ◌≤◌, ◌⊎◌, inl, inr, ⊎_elim, true, false, cond, List, [], length, ℤ, pos, negsuc, set, ◌*ℤ◌, ◌≤ℤ◌, refl, subst, arith}
use Rattle.std.proofs.lemmas.Bool.{both_ways}
use Rattle.std.proofs.lemmas.Nat.{pow_pos}
use Rattle.lift_poly.proofs.Ring.{linear, mul-comm, mul-le_cancel, zero-mul}
use Rattle.lift_grid.specs.Rectangle.{Spans}
use Rattle.lift_model.specs.Model.{choices, is_goal, row_at}
use Rattle.corner_lift.specs.Case.{CaseData, IsCase, IsInside, number, row_value, row_whole, corner_count, row_parameters}
use Rattle.corner_lift.specs.Certificate.{AreNumbers, unmarked}
use Rattle.corner_lift.specs.Laws.{NumbersAreInRange, ParametersAreTheRoots, SumsAreInRange, SumsRise}
use Rattle.lift_bounded.specs.Steps.{nth, IsStart, IsLeastStep, IsGreatestStep, LowersData, AreLeastUppers, AreGreatestLowers}
use Rattle.lift_bounded.specs.Stepping.{StepsRise, Covers, IsLeastFor, IsUpperAt, Holds, IsGreatestFor, IsLowerAt}
use Rattle.lift_bounded.specs.Lanes.{HasVectors, HaveRisen, HasChoices, HaveSunk}
use Rattle.lift_bounded.proofs.Filling.{start_of, risen_none, risen_more, sunk_none, sunk_more}
use Rattle.lift_bounded.proofs.Inside.{state_of, true_or_false}
use Rattle.lift_bounded.proofs.Making.{least_steps_are_least, greatest_steps_are_greatest}
use Rattle.lift_bounded.proofs.Searches.{at_most_or_not, both_or_not, all_or_not, first_or_none, first, IsFirst, filled}
use Rattle.lift_bounded.proofs.Stepping.{whole_positive, least_step_of, greatest_step_of}

-- an integer from 0 on is a natural number
natural : (u : ℤ) → pos 0 ≤ℤ u → (n : ℕ) × (u ≡ pos n)
natural (pos n) least = (n, refl)
natural (negsuc n) least = absurd (omega (arith, linear, least))

-- ---- a state

module _ (in_range : NumbersAreInRange) (sums : SumsAreInRange) (k : CaseData) (spans : Spans) (is : IsCase k) (within : IsInside k.root spans) (x : List ℤ) (numbers : AreNumbers k x) (s : ℕ) where
  abbrev count : ℕ
  count = length (choices k.model s)

  sum_in_range : (a c : ℕ) → a < count → (pos 0 ≤ℤ row_value k spans s a x c) × (row_value k spans s a x c ≤ℤ (pos (2 ^ k.w) *ℤ row_whole k s a))
  sum_in_range a c lt = sums k spans s a c x is within (record { state = state_of k.model.states s a lt; choice = lt }) numbers

  -- ---- above

  -- the number is at least the state's own, and covers all its choices
  abbrev IsEnough : ℕ → Type 0
  IsEnough n = (number x s ≤ℤ pos n) × ((a : ℕ) → a < count → Covers k spans x s a (pos n))

  enough_or_not : (n : ℕ) → IsEnough n ⊎ (IsEnough n → ⊥)
  enough_or_not n =
      both_or_not (at_most_or_not (number x s) (pos n))
      (all_or_not (λ a. Covers k spans x s a (pos n))
      (λ a. all_or_not (λ c. row_value k spans s a x c ≤ℤ (pos n *ℤ row_whole k s a)) (λ c. at_most_or_not (row_value k spans s a x c) (pos n *ℤ row_whole k s a)) (corner_count k s a))
      count)

  top_is_enough : IsEnough (2 ^ k.w)
  top_is_enough = ((in_range k x s numbers).1, λ a lt c corner. (sum_in_range a c lt).1)

  least_for : (v : ℤ) × IsLeastFor k spans x s count v
  least_for =
      let own = in_range k x s numbers in
      let found = first IsEnough enough_or_not (2 ^ k.w) top_is_enough in
      let small = found.1.least (2 ^ k.w) top_is_enough in (
        pos found.0,
        record {
          range = (omega (arith, linear), omega (arith, linear, small));
          covers = found.1.holds.1;
          least = λ u above all.
              let n = natural u (omega (arith, linear, own.0, above)) in
              let most = found.1.least n.0 (subst (λ i. number x s ≤ℤ i) n.1 above, λ a lt. subst (λ i. Covers k spans x s a i) n.1 (all a lt)) in
              omega (arith, linear, n.1, most);
        },
      )

  pub upper_at : (v : ℤ) × IsUpperAt k spans x s v
  upper_at =
      ⊎_elim
      (λ (g : is_goal k.model s ≡ true).
      let goal : (v : ℤ) × IsUpperAt k spans x s v = (pos (2 ^ k.w), record { goal = λ e. refl; other = λ f. absurd (both_ways (is_goal k.model s) f g) }) in goal)
      (λ (f : is_goal k.model s ≡ false).
      let other : (v : ℤ) × IsUpperAt k spans x s v = (least_for.0, record { goal = λ g. absurd (both_ways (is_goal k.model s) f g); other = λ e. least_for.1 }) in other)
      (true_or_false (is_goal k.model s))

  -- ---- below

  -- the choice holds the number
  abbrev IsHolding : ℕ → ℕ → Type 0
  IsHolding n a = (a < count) × Holds k spans x s a (pos n)

  holding_or_not : (n a : ℕ) → IsHolding n a ⊎ (IsHolding n a → ⊥)
  holding_or_not n a =
      both_or_not (less_or_not a count)
      (all_or_not (λ c. (pos n *ℤ row_whole k s a) ≤ℤ row_value k spans s a x c) (λ c. at_most_or_not (pos n *ℤ row_whole k s a) (row_value k spans s a x c)) (corner_count k s a))
    where
      less_or_not : (a b : ℕ) → (a < b) ⊎ (a < b → ⊥)
      less_or_not a b = grind arith

  -- a choice holds the number that is so much below 2 ^ w, the lowest that does
  abbrev IsHeldAt : ℕ → Type 0
  IsHeldAt below = (a : ℕ) × IsFirst (IsHolding (2 ^ k.w - below)) a

  held_or_not : (below : ℕ) → IsHeldAt below ⊎ (IsHeldAt below → ⊥)
  held_or_not below =
      ⊎_elim
      (λ (none : (a : ℕ) → a < count → IsHolding (2 ^ k.w - below) a → ⊥).
      let no : IsHeldAt below ⊎ (IsHeldAt below → ⊥) = inr (λ held. none held.0 held.1.holds.0 held.1.holds) in no)
      (λ (found : IsHeldAt below). let yes : IsHeldAt below ⊎ (IsHeldAt below → ⊥) = inl found in yes)
      (first_or_none (IsHolding (2 ^ k.w - below)) (holding_or_not (2 ^ k.w - below)) count)

  held_by : (n a : ℕ) → n ≤ 2 ^ k.w → IsHolding n a → IsHeldAt (2 ^ k.w - n)
  held_by n a small holding =
      let same : n ≡ 2 ^ k.w - (2 ^ k.w - n) = omega (arith, small) in
      first (IsHolding (2 ^ k.w - (2 ^ k.w - n))) (holding_or_not (2 ^ k.w - (2 ^ k.w - n))) a (subst (λ i. IsHolding i a) same holding)

  -- what a choice holds is at most 2 ^ w
  held_most : (n a : ℕ) → IsHolding n a → n ≤ 2 ^ k.w
  held_most n a holding =
      let full = row_whole k s a in
      let corner : 0 < corner_count k s a = pow_pos (row_parameters k (row_at k.model s a)) in
      let le : pos n ≤ℤ pos (2 ^ k.w) = mul-le_cancel full (pos n) (pos (2 ^ k.w)) (omega (arith, linear, whole_positive k s a is))
      (omega (arith, linear, holding.1 0 corner, (sum_in_range a 0 holding.0).1, mul-comm full (pos n), mul-comm full (pos (2 ^ k.w)))) in
      omega (arith, linear, le)

  greatest_for : 0 < count → (p : ℤ) × ((pick : ℕ) × IsGreatestFor k spans x s count (record { number = p; pick = pick }))
  greatest_for some =
      let zero_held : IsHolding 0 0 = (some, λ c corner. omega (arith, linear, (sum_in_range 0 c some).0, zero-mul (row_whole k s 0))) in
      let found = first IsHeldAt held_or_not (2 ^ k.w - 0) (held_by 0 0 (omega arith) zero_held) in
      let n = 2 ^ k.w - found.0 in
      let pick = found.1.holds in
      let most : (m a : ℕ) → IsHolding m a → m ≤ n = λ m a holding.
      (let small = held_most m a holding in let least = found.1.least (2 ^ k.w - m) (held_by m a small holding) in omega (arith, small, least)) in (
        pos n,
        (
          pick.0,
          record {
            range = (omega (arith, linear), omega (arith, linear));
            in_range = pick.1.holds.0;
            holds = pick.1.holds.1;
            greatest = λ a u lt holds. at_most_of n u (λ m e. most m a (lt, subst (λ i. Holds k spans x s a i) e holds));
            lowest = λ a lower holds. let least = pick.1.least a (omega (arith, lower, pick.1.holds.0), holds) in omega (arith, lower, least);
          },
        ),
      )
    where
      at_most_of : (n : ℕ) (u : ℤ) → ((m : ℕ) → u ≡ pos m → m ≤ n) → u ≤ℤ pos n
      at_most_of n (pos m) most = let le = most m refl in omega (arith, linear, le)
      at_most_of n (negsuc m) most = omega (arith, linear)

  pub lower_at : s < length k.model.states → (v : ℤ) × ((pick : ℕ) × IsLowerAt k spans x s v pick)
  lower_at lt =
      ⊎_elim
      (λ (g : is_goal k.model s ≡ true).
      let goal : (v : ℤ) × ((pick : ℕ) × IsLowerAt k spans x s v pick) = (pos (2 ^ k.w), (unmarked, record { goal = λ e. (refl, refl); other = λ f. absurd (both_ways (is_goal k.model s) f g) })) in goal)
      (λ (f : is_goal k.model s ≡ false).
      let best = greatest_for (is.asked.model.some_choice s [] lt) in
      let other : (v : ℤ) × ((pick : ℕ) × IsLowerAt k spans x s v pick) = (best.0, (best.1.0, record { goal = λ g. absurd (both_ways (is_goal k.model s) f g); other = λ e. best.1.1 })) in other)
      (true_or_false (is_goal k.model s))

-- ---- all states, and all steps

module _ (in_range : NumbersAreInRange) (sums : SumsAreInRange) (parameters : ParametersAreTheRoots) (rise : SumsRise) (k : CaseData) (spans : Spans) (is : IsCase k) (within : IsInside k.root spans) where
  least_step : (x : List ℤ) → AreNumbers k x → StepsRise k spans x → (z : List ℤ) × IsLeastStep k spans x z
  least_step x numbers rises =
      let z = filled (pos 0) (λ s v. IsUpperAt k spans x s v) (length k.model.states) (λ s lt. upper_at in_range sums k spans is within x numbers s) in
      (z.0, least_step_of parameters k spans is within x z.0 rises z.1.0 z.1.1)

  greatest_step : (y : List ℤ) → AreNumbers k y → (z : List ℤ) × ((picks : List ℕ) × IsGreatestStep k spans y z picks)
  greatest_step y numbers =
      let z = filled (pos 0) (λ s v. (pick : ℕ) × IsLowerAt k spans y s v pick) (length k.model.states) (λ s lt. lower_at in_range sums k spans is within y numbers s lt) in
      let picks = filled unmarked (λ s pick. IsLowerAt k spans y s (number z.0 s) pick) (length k.model.states) z.1.1 in
      (z.0, (picks.0, greatest_step_of parameters k spans is within y z.0 picks.0 z.1.0 picks.1.0 picks.1.1))

  start : (x : List ℤ) × IsStart k x
  start =
      let x = filled (pos 0) (λ s v. v ≡ cond (is_goal k.model s) (pos (2 ^ k.w)) (pos 0)) (length k.model.states) (λ s lt. (cond (is_goal k.model s) (pos (2 ^ k.w)) (pos 0), refl)) in
      (x.0, start_of k x.0 is.asked.model.goals x.1.0 x.1.1)

  -- as many lanes as there are numbers of steps
  lanes_for : (h : ℕ) → (lanes : List (List ℤ)) × HasVectors k h lanes
  lanes_for h =
      let lanes = filled [] (λ i x. length x ≡ length k.model.states) (h + 1) (λ i lt. (start.0, start.1.numbers.size)) in
      (lanes.0, record { count = lanes.1.0; sizes = λ n le. lanes.1.1 n (omega (arith, le)) })

  picks_for : (h : ℕ) → (picks : List (List ℕ)) × HasChoices k h picks
  picks_for h =
      let fill = filled unmarked (λ s pick. pick ≡ unmarked) (length k.model.states) (λ s lt. (unmarked, refl)) in
      let picks = filled [] (λ i p. length p ≡ length k.model.states) h (λ i lt. (fill.0, fill.1.0)) in
      (picks.0, record { count = picks.1.0; sizes = picks.1.1 })

  abbrev Risen : ℕ → ℕ → Type 0
  Risen h n = (xs : List (List ℤ)) × HaveRisen k spans h n xs

  risen : (h n : ℕ) → n ≤ h → Risen h n
  risen h zero le = let lanes = lanes_for h in (set lanes.0 0 start.0, risen_none k spans h lanes.0 start.0 lanes.1 start.1)
  risen h (suc n) le =
      let before = risen h n (omega (arith, le)) in
      let z = least_step (nth before.0 n) before.1.numbers before.1.rises in
      let more : Risen h (n + 1) = (set before.0 (n + 1) z.0, risen_more rise k spans h n before.0 z.0 is within (omega (arith, le)) before.1 z.1) in
      let next : n + 1 ≡ suc n = omega arith in
      subst (λ i. Risen h i) next more

  abbrev Sunk : ℕ → ℕ → Type 0
  Sunk h n = (ys : List (List ℤ)) × ((picks : List (List ℕ)) × HaveSunk k spans h n ys picks)

  sunk : (h n : ℕ) → n ≤ h → Sunk h n
  sunk h zero le = let lanes = lanes_for h in let picks = picks_for h in (set lanes.0 0 start.0, (picks.0, sunk_none k spans h lanes.0 picks.0 start.0 lanes.1 picks.1 start.1))
  sunk h (suc n) le =
      let before = sunk h n (omega (arith, le)) in
      let z = greatest_step (nth before.0 n) before.1.1.numbers in
      let more : Sunk h (n + 1) = (set before.0 (n + 1) z.0, (set before.1.0 n z.1.0, sunk_more k spans h n before.0 before.1.0 z.0 z.1.0 (omega (arith, le)) before.1.1 z.1.1)) in
      let next : n + 1 ≡ suc n = omega arith in
      subst (λ i. Sunk h i) next more

  pub least_uppers : (h : ℕ) → (xs : List (List ℤ)) × AreLeastUppers k spans h xs
  least_uppers h =
      let xs = risen h h (omega arith) in
      (xs.0, least_steps_are_least rise k spans h xs.0 is within xs.1.has.count xs.1.start xs.1.steps)

  pub greatest_lowers : (h : ℕ) → (r : LowersData) × AreGreatestLowers k spans h r
  greatest_lowers h =
      let ys = sunk h h (omega arith) in
      let r : LowersData = record { numbers = ys.0; picks = ys.1.0 } in
      let are : AreGreatestLowers k spans h r = greatest_steps_are_greatest rise k spans h r is within (ys.1.1.has.count, ys.1.1.has_choices.count) ys.1.1.start ys.1.1.steps in
      (r, are)
