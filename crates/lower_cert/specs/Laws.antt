-- What keeps a vector at or above every lower vector of a rectangle, and when it is the greatest.
use Rattle.std.specs.Prelude.{◌≡◌, ℕ, suc, ◌^◌, ◌<◌, ◌≤◌, ◌⊎◌, ◌&&◌, not, nat_lt, Bool, true, false, ℤ, pos, ◌+ℤ◌, ◌-ℤ◌, ◌*ℤ◌, ◌≤ℤ◌, ◌<ℤ◌, length, All}
use Rattle.lift_grid.specs.Tree.{RejectData}
use Rattle.lift_grid.specs.Rectangle.{Spans}
use Rattle.lift_model.specs.Model.{support, is_goal, choices, row_at}
use Rattle.corner_lift.specs.Corner.{parameter_count, corner_sum, whole}
use Rattle.corner_lift.specs.Case.{CaseData, IsCase, IsInside}
use Rattle.corner_lift.specs.Case.{number}
use Rattle.corner_lift.specs.Certificate.{most_rate, unmarked, mark, AreNumbers, IsLower, IsRate}
use Rattle.corner_lift.specs.Stages.{IsAllowed, AreStages, IsAboveLower, IsGreatestLower}
use Rattle.lift_cert.specs.Certificate.{IsWithin, IsRejecting}
use Rattle.lift_cert.specs.declared.bound.Bound.{Bound}
use Rattle.lower_cert.specs.Capping.{into, beyond, CapsAt, IsCapped, IsClosed, HasNoGoal, IsAboveLowerOn, IsAboveLowerUnder}
use Rattle.lower_cert.specs.Lowering.{Run}
use Rattle.lower_cert.specs.Holding.{holding, IsAboveAt}

-- The best exit: where no choice holds v or more in the set, every lower vector is below v there.
abbrev pub CappedIsBelow : Type 0
CappedIsBelow = (k : CaseData) (spans : Spans) (inside : ℕ → Bool) (z : ℕ → ℤ) (v : ℤ) → IsCase k → IsInside k.root spans → HasNoGoal k inside → pos 0 <ℤ v
    → IsAboveLower k spans z → IsCapped k spans inside z v
    → (y : RejectData) → IsLower k spans y → (s : ℕ) → inside s ≡ true → number y.numbers s <ℤ v

-- so the numbers of the set may be lowered to v - 1
abbrev pub CappingKeeps : Type 0
CappingKeeps = (k : CaseData) (spans : Spans) (inside : ℕ → Bool) (z : ℕ → ℤ) (v : ℤ) (lowered : ℕ → ℤ) → IsCase k → IsInside k.root spans → HasNoGoal k inside → pos 0 <ℤ v
    → IsAboveLower k spans z → IsCapped k spans inside z v
    → ((s : ℕ) → (z s ≤ℤ lowered s) ⊎ ((inside s ≡ true) × ((v -ℤ pos 1) ≤ℤ lowered s)))
    → IsAboveLower k spans lowered

-- a corner by its quotient: what comes from outside the set is less than v times what leaves it; this is the rounded quotient's test, without a division
abbrev pub QuotientCaps : Type 0
QuotientCaps = (k : CaseData) (spans : Spans) (inside : ℕ → Bool) (z : ℕ → ℤ) (v : ℤ) (s a c : ℕ)
    → let row = row_at k.model s a in
    (corner_sum k.d spans row c (beyond inside z) <ℤ (v *ℤ (whole k.model k.d spans row -ℤ corner_sum k.d spans row c (into inside))))
    → CapsAt k spans inside z v row c

-- a corner at which all weight stays in the set
abbrev pub StayingCaps : Type 0
StayingCaps = (k : CaseData) (spans : Spans) (inside : ℕ → Bool) (z : ℕ → ℤ) (v : ℤ) (s a c : ℕ) → IsCase k → IsInside k.root spans → a < length (choices k.model s) → c < 2 ^ parameter_count spans (support (row_at k.model s a))
    → let row = row_at k.model s a in
    (whole k.model k.d spans row ≤ℤ corner_sum k.d spans row c (into inside))
    → CapsAt k spans inside z v row c

-- what caps at v caps at any greater number: so one greatest quotient will do for the whole set
abbrev pub CapsMore : Type 0
CapsMore = (k : CaseData) (spans : Spans) (inside : ℕ → Bool) (z : ℕ → ℤ) (u v : ℤ) (s a c : ℕ) → IsCase k → IsInside k.root spans → a < length (choices k.model s) → c < 2 ^ parameter_count spans (support (row_at k.model s a)) → u ≤ℤ v
    → CapsAt k spans inside z u (row_at k.model s a) c → CapsAt k spans inside z v (row_at k.model s a) c

-- The start: where each choice of the set has a corner that keeps u from rising, and u is at or above every lower vector outside the set, it is so in the set too.
abbrev pub ClosedIsAbove : Type 0
ClosedIsAbove = (k : CaseData) (spans : Spans) (inside : ℕ → Bool) (u : ℕ → ℤ) → IsCase k → IsInside k.root spans → HasNoGoal k inside
    → ((s : ℕ) → pos 0 ≤ℤ u s)
    → IsAboveLowerOn k spans (λ s. inside s ≡ false) u
    → IsClosed k spans inside u
    → IsAboveLower k spans u

-- the states that are no goal states and have no rank
abbrev pub is_stuck : CaseData → (ℕ → ℕ) → ℕ → Bool
is_stuck k rank s = not (is_goal k.model s) && not (nat_lt (rank s) unmarked)

-- the states that can't be ranked are capped by the greatest of their numbers
abbrev pub StuckAreCapped : Type 0
StuckAreCapped = (k : CaseData) (spans : Spans) (z : ℕ → ℤ) (v : ℤ) (pick rank : ℕ → ℕ) (height : ℕ) → IsCase k → IsInside k.root spans → suc height < unmarked
    → AreStages k spans (IsAllowed k spans z) pick rank
    → ((s : ℕ) → rank s < unmarked → rank s ≤ height)
    → ((s : ℕ) → is_stuck k rank s ≡ true → z s ≤ℤ v)
    → IsCapped k spans (is_stuck k rank) z v

-- a vector at or above every lower vector, of whose states without rank none has a number above 0, is the greatest with the ranks and choices of its stages
abbrev pub StagesAreGreatest : Type 0
StagesAreGreatest = (k : CaseData) (spans : Spans) (r : RejectData) → AreNumbers k r.numbers
    → (length r.picks ≡ length k.model.states) × (length r.ranks ≡ length k.model.states)
    → All (λ rank. rank ≤ unmarked) r.ranks
    → (r.e ≤ most_rate) × (1 ≤ r.k) × (r.k < unmarked)
    → ((s : ℕ) → is_goal k.model s ≡ true → (number r.numbers s ≡ pos (2 ^ k.w)) × (mark r.picks s ≡ unmarked))
    → ((s : ℕ) → is_goal k.model s ≡ false → unmarked ≤ mark r.ranks s → (number r.numbers s ≡ pos 0) × (mark r.picks s ≡ unmarked))
    → AreStages k spans (IsAllowed k spans (number r.numbers)) (mark r.picks) (mark r.ranks)
    → ((s : ℕ) → mark r.ranks s < unmarked → mark r.ranks s ≤ r.k)
    → ((s : ℕ) → is_goal k.model s ≡ false → mark r.ranks s < unmarked → IsRate k spans r r.e s)
    → ((e : ℕ) → ((s : ℕ) → is_goal k.model s ≡ false → mark r.ranks s < unmarked → IsRate k spans r e s) → r.e ≤ e)
    → ((j : ℕ) → 1 ≤ j → ((s : ℕ) → mark r.ranks s < unmarked → mark r.ranks s ≤ j) → r.k ≤ j)
    → IsAboveLower k spans (number r.numbers)
    → IsGreatestLower k spans r

-- two greatest lower vectors have the same numbers
abbrev pub GreatestIsOne : Type 0
GreatestIsOne = (k : CaseData) (spans : Spans) (r q : RejectData) → IsGreatestLower k spans r → IsGreatestLower k spans q → (s : ℕ) → number r.numbers s ≡ number q.numbers s

-- Capping from a start a of which nothing is known: what holds of the lower vectors at most a stays so.
abbrev pub CappingKeepsUnder : Type 0
CappingKeepsUnder = (k : CaseData) (spans : Spans) (inside : ℕ → Bool) (a z : ℕ → ℤ) (v : ℤ) (lowered : ℕ → ℤ) → IsCase k → IsInside k.root spans → HasNoGoal k inside → pos 0 <ℤ v
    → IsAboveLowerUnder k spans a z → IsCapped k spans inside z v
    → ((s : ℕ) → (z s ≤ℤ lowered s) ⊎ ((inside s ≡ true) × ((v -ℤ pos 1) ≤ℤ lowered s)))
    → IsAboveLowerUnder k spans a lowered

-- A guess that was lowered at each state where it wasn't known to be at or above every lower vector was a good one: what it was lowered to is at or above every lower vector.
abbrev pub GuessIsAbove : Type 0
GuessIsAbove = (k : CaseData) (spans : Spans) (a z : ℕ → ℤ) → IsCase k → IsInside k.root spans
    → ((s : ℕ) → pos 0 ≤ℤ z s)
    → ((s : ℕ) → is_goal k.model s ≡ true → pos (2 ^ k.w) ≤ℤ z s)
    → IsAboveLowerUnder k spans a z
    → ((s : ℕ) → (z s <ℤ a s) ⊎ ((y : RejectData) → IsLower k spans y → number y.numbers s ≤ℤ a s))
    → IsAboveLower k spans z

-- where a vector at or above every lower vector has at most the bound at the initial state, there is no rejecting certificate
abbrev pub SmallRefutes : Type 0
SmallRefutes = (k : CaseData) (spans : Spans) (bound : Bound) (z : ℕ → ℤ) → IsAboveLower k spans z → IsWithin bound k.w (z k.model.init)
    → (r : RejectData) → IsRejecting k spans bound r → ⊥

-- The quotient's test on a set whose numbers are all m, as those of a level are, and that of a single state: the row's sum and the weight into the set are enough.
abbrev pub LevelCaps : Type 0
LevelCaps = (k : CaseData) (spans : Spans) (inside : ℕ → Bool) (z : ℕ → ℤ) (m v : ℤ) (s a c : ℕ)
    → ((t : ℕ) → inside t ≡ true → z t ≡ m)
    → let row = row_at k.model s a in
    ((corner_sum k.d spans row c z -ℤ corner_sum k.d spans row c (into inside) *ℤ m) <ℤ (v *ℤ (whole k.model k.d spans row -ℤ corner_sum k.d spans row c (into inside))))
    → CapsAt k spans inside z v row c

-- A held state that fell was held too high: what the others were lowered to beside it is at or above every lower vector under the ceiling, whatever that has there.
abbrev pub HeldThatFell : Type 0
HeldThatFell = (k : CaseData) (run : Run) (f : ℕ) (c : ℤ) (z : ℕ → ℤ) → IsCase k → IsInside k.root run.spans → is_goal k.model f ≡ false
    → pos 0 ≤ℤ z f → z f <ℤ c
    → IsAboveLowerUnder k run.spans (holding run f c).ceiling z
    → IsAboveLowerUnder k run.spans run.ceiling z

-- what is at or above every lower vector with a state held is so, with more, where the state is held at so much more
abbrev pub HeldHigher : Type 0
HeldHigher = (k : CaseData) (run : Run) (f : ℕ) (c more : ℤ) (s : ℕ) (v : ℤ) → IsCase k → IsInside k.root run.spans → is_goal k.model f ≡ false
    → pos 0 ≤ℤ c → pos 0 ≤ℤ more
    → IsAboveAt k (holding run f c) s v
    → IsAboveAt k (holding run f (c +ℤ more)) s (v +ℤ more)
