-- Steps that keep a vector at or above every lower vector: what code looks for at the corners of rows before it lowers the numbers of a set of states.
use Rattle.std.specs.Prelude.{◌≡◌, ℕ, ◌^◌, ◌<◌, ◌⊎◌, Bool, true, false, ℤ, pos, ◌*ℤ◌, ◌≤ℤ◌, ◌<ℤ◌, List, length, nat_lt, if◌then◌else◌}
use Rattle.lift_grid.specs.Tree.{RejectData}
use Rattle.lift_grid.specs.Rectangle.{Spans}
use Rattle.lift_model.specs.declared.entry.Entry.{Entry}
use Rattle.lift_model.specs.Model.{support, is_goal, choices, row_at}
use Rattle.corner_lift.specs.Corner.{parameter_count, corner_sum, whole}
use Rattle.corner_lift.specs.Case.{CaseData}
use Rattle.corner_lift.specs.Case.{number}
use Rattle.corner_lift.specs.Certificate.{IsLower, mark}

-- 1 for the states of the set, and 0 for the others
abbrev pub into : (ℕ → Bool) → ℕ → ℤ
into inside t = if inside t then pos 1 else pos 0

-- 0 for the states of the set, and 1 for the others
abbrev pub out : (ℕ → Bool) → ℕ → ℤ
out inside t = if inside t then pos 0 else pos 1

-- 0 for the states of the set, and z for the others
abbrev pub beyond : (ℕ → Bool) → (ℕ → ℤ) → ℕ → ℤ
beyond inside z t = if inside t then pos 0 else z t

-- v for the states of the set, and z for the others
abbrev pub filled : (ℕ → Bool) → ℤ → (ℕ → ℤ) → ℕ → ℤ
filled inside v z t = if inside t then v else z t

-- some corner of the state's choice has the property
abbrev pub AtSomeCorner : CaseData → Spans → ℕ → ℕ → (ℕ → Type 0) → Type 0
AtSomeCorner k spans s a P = (c : ℕ) × ((c < 2 ^ parameter_count spans (support (row_at k.model s a))) × P c)

-- At that corner the choice holds no number of v or more in the set: with v in the whole set the mean is below v, or nothing leaves the set, or z's own mean is below v.
abbrev pub CapsAt : CaseData → Spans → (ℕ → Bool) → (ℕ → ℤ) → ℤ → List Entry → ℕ → Type 0
CapsAt k spans inside z v row c =
    (corner_sum k.d spans row c (filled inside v z) <ℤ (v *ℤ whole k.model k.d spans row))
    ⊎ ((corner_sum k.d spans row c (out inside) ≤ℤ pos 0)
    ⊎ (corner_sum k.d spans row c z <ℤ (v *ℤ whole k.model k.d spans row)))

-- no choice of a state of the set holds a number of v or more
abbrev pub IsCapped : CaseData → Spans → (ℕ → Bool) → (ℕ → ℤ) → ℤ → Type 0
IsCapped k spans inside z v = (s a : ℕ) → inside s ≡ true → a < length (choices k.model s) → AtSomeCorner k spans s a (CapsAt k spans inside z v (row_at k.model s a))

-- each choice of a state of the set has a corner at which the mean of u is at most the state's own
abbrev pub IsClosed : CaseData → Spans → (ℕ → Bool) → (ℕ → ℤ) → Type 0
IsClosed k spans inside u = (s a : ℕ) → inside s ≡ true → a < length (choices k.model s) → AtSomeCorner k spans s a (λ c. corner_sum k.d spans (row_at k.model s a) c u ≤ℤ (u s *ℤ whole k.model k.d spans (row_at k.model s a)))

-- no state of the set is a goal state
abbrev pub HasNoGoal : CaseData → (ℕ → Bool) → Type 0
HasNoGoal k inside = (s : ℕ) → inside s ≡ true → is_goal k.model s ≡ false

-- every lower vector is at most z at each state with the property
abbrev pub IsAboveLowerOn : CaseData → Spans → (ℕ → Type 0) → (ℕ → ℤ) → Type 0
IsAboveLowerOn k spans P z = (y : RejectData) → IsLower k spans y → (s : ℕ) → P s → number y.numbers s ≤ℤ z s

-- every lower vector that is at most a is at most z
abbrev pub IsAboveLowerUnder : CaseData → Spans → (ℕ → ℤ) → (ℕ → ℤ) → Type 0
IsAboveLowerUnder k spans a z = (y : RejectData) → IsLower k spans y → ((t : ℕ) → number y.numbers t ≤ℤ a t) → (s : ℕ) → number y.numbers s ≤ℤ z s

-- the states that are marked by 0
abbrev pub marked : List ℕ → ℕ → Bool
marked marks t = nat_lt (mark marks t) 1

-- the marked states all have the number m
abbrev pub IsLevel : List ℕ → List ℤ → ℤ → Type 0
IsLevel marks lane m = (t : ℕ) → marked marks t ≡ true → number lane t ≡ m
