-- The tests of an accepting certificate, and the first that fails. States are tested in ascending order, and so are a state's choices and a row's corners. The bound comes last.
use Rattle.std.specs.Prelude.{◌≡◌, ◌≢◌, ◌^◌, ◌<◌, ℕ, true, false, List, ℤ, pos, ◌*ℤ◌, ◌≤ℤ◌, ◌<ℤ◌, unsigned_abs, length}
use Rattle.lift_grid.specs.Rectangle.{Spans}
use Rattle.lift_model.specs.Model.{is_goal, choices}
use Rattle.corner_lift.specs.Case.{CaseData, number, row_value, row_whole, corner_count, engine_limit}
use Rattle.lift_cert.specs.declared.bound.Bound.{Bound}
use Rattle.lift_cert.specs.declared.miss.Miss.{Miss}
use Rattle.lift_cert.specs.declared.miss.Miss.TheVariants.{Goal, Unranked, Row, Rate, Limit}

-- ---- what is tested

-- at that corner of the row the weighted mean of x is at most the state's number
abbrev pub IsAcceptedCorner : CaseData → Spans → List ℤ → ℕ → ℕ → ℕ → Type 0
IsAcceptedCorner k spans x s a c = row_value k spans s a x c ≤ℤ (number x s *ℤ row_whole k s a)

-- so it is at each corner of the row
abbrev pub IsAcceptedRow : CaseData → Spans → List ℤ → ℕ → ℕ → Type 0
IsAcceptedRow k spans x s a = (c : ℕ) → c < corner_count k s a → IsAcceptedCorner k spans x s a c

-- what a state is tested for: a goal state's number is 2 ^ w, and any other state's is at least the weighted mean of each row, at each corner
pub record IsAcceptedState (k : CaseData) (spans : Spans) (x : List ℤ) (s : ℕ) : Type 0 where
  pub goal : is_goal k.model s ≡ true → number x s ≡ pos (2 ^ k.w)
  pub rows : is_goal k.model s ≡ false → (a : ℕ) → a < length (choices k.model s) → IsAcceptedRow k spans x s a

-- every state before that one passes
abbrev pub AreAcceptedBefore : CaseData → Spans → List ℤ → ℕ → Type 0
AreAcceptedBefore k spans x s = (t : ℕ) → t < s → IsAcceptedState k spans x t

-- ---- what fails

-- a goal state whose number isn't 2 ^ w
pub record IsGoalMiss (k : CaseData) (x : List ℤ) (s : ℕ) (value : ℤ) : Type 0 where
  pub state : s < length k.model.states
  pub goal : is_goal k.model s ≡ true
  pub value_is : value ≡ number x s
  pub wrong : value ≢ pos (2 ^ k.w)

-- The first failing corner of a state: its earlier rows pass, and so do the row's earlier corners. There the weighted sum, left, is above the state's number times the whole, right.
pub record IsRowMiss (k : CaseData) (spans : Spans) (x : List ℤ) (s a c : ℕ) (left right : ℤ) : Type 0 where
  pub state : s < length k.model.states
  pub inner : is_goal k.model s ≡ false
  pub choice : a < length (choices k.model s)
  pub rows : (b : ℕ) → b < a → IsAcceptedRow k spans x s b
  pub corner : c < corner_count k s a
  pub corners : (b : ℕ) → b < c → IsAcceptedCorner k spans x s a b
  pub left_is : left ≡ row_value k spans s a x c
  pub right_is : right ≡ number x s *ℤ row_whole k s a
  pub wrong : right <ℤ left

-- the initial state's number over 2 ^ w, times both denominators left, is above the bound, right
pub record IsLimitMiss (k : CaseData) (bound : Bound) (x : List ℤ) (left right : ℤ) : Type 0 where
  pub left_is : left ≡ number x k.model.init *ℤ pos bound.den
  pub right_is : right ≡ pos bound.num *ℤ pos (2 ^ k.w)
  pub wrong : right <ℤ left

-- the first test that fails of those that an accepting certificate passes: every state before passes, and the bound's test comes behind all states
abbrev pub IsFirstAcceptMiss : CaseData → Spans → Bound → List ℤ → Miss → Type 0
IsFirstAcceptMiss k spans bound x (Goal s value) = AreAcceptedBefore k spans x s × IsGoalMiss k x s value
IsFirstAcceptMiss k spans bound x (Row s a c left right) = AreAcceptedBefore k spans x s × IsRowMiss k spans x s a c left right
IsFirstAcceptMiss k spans bound x (Limit left right) = AreAcceptedBefore k spans x (length k.model.states) × IsLimitMiss k bound x left right
IsFirstAcceptMiss k spans bound x (Unranked s value) = ⊥
IsFirstAcceptMiss k spans bound x (Rate s a c weight e whole) = ⊥

-- above -engine_limit and below engine_limit
abbrev pub IsSmall : ℤ → Type 0
IsSmall n = unsigned_abs n < engine_limit

-- so is every number that the miss keeps
abbrev pub HasSmallNumbers : Miss → Type 0
HasSmallNumbers (Goal s value) = IsSmall value
HasSmallNumbers (Unranked s value) = IsSmall value
HasSmallNumbers (Row s a c left right) = IsSmall left × IsSmall right
HasSmallNumbers (Rate s a c weight e whole) = IsSmall weight × IsSmall whole
HasSmallNumbers (Limit left right) = IsSmall left × IsSmall right

-- ---- for the contracts of single tests

-- a miss of that state
abbrev pub IsStateMiss : CaseData → Spans → List ℤ → ℕ → Miss → Type 0
IsStateMiss k spans x s (Goal t value) = (t ≡ s) × IsGoalMiss k x s value
IsStateMiss k spans x s (Row t a c left right) = (t ≡ s) × IsRowMiss k spans x s a c left right
IsStateMiss k spans x s (Limit left right) = ⊥
IsStateMiss k spans x s (Unranked t value) = ⊥
IsStateMiss k spans x s (Rate t a c weight e whole) = ⊥

-- a miss of the bound
abbrev pub IsBoundMiss : CaseData → Bound → List ℤ → Miss → Type 0
IsBoundMiss k bound x (Limit left right) = IsLimitMiss k bound x left right
IsBoundMiss k bound x (Goal s value) = ⊥
IsBoundMiss k bound x (Row s a c left right) = ⊥
IsBoundMiss k bound x (Unranked s value) = ⊥
IsBoundMiss k bound x (Rate s a c weight e whole) = ⊥
