-- Certificates by steps of a rectangle of a case: for each number of steps left a vector of numbers over 2 ^ w, one for each state. Each vector bounds what is reached within so many steps, by the vector of one step less at the corners of each row.
use Rattle.std.specs.Prelude.{◌≡◌, ℕ, ◌+◌, ◌^◌, ◌<◌, ◌≤◌, true, false, List, [], ℤ, pos, All, length, slice_index_or, if◌then◌else◌}
use Rattle.lift_grid.specs.Rectangle.{Spans}
use Rattle.lift_model.specs.Model.{is_goal, choices, row_at}
use Rattle.corner_lift.specs.Case.{CaseData, number}
use Rattle.corner_lift.specs.Certificate.{AreNumbers, AtMost, MeansAtMost, MeansAtLeast, mark, unmarked}
use Rattle.lift_cert.specs.Certificate.{IsWithin, IsBeyond}
use Rattle.lift_cert.specs.declared.bound.Bound.{Bound}

-- the list of that number
abbrev pub nth : {T : Type 0} → List (List T) → ℕ → List T
nth lists n = slice_index_or lists n []

-- the vector of no step: 2 ^ w on goal states and 0 elsewhere
pub record IsStart (k : CaseData) (x : List ℤ) : Type 0 where
  pub numbers : AreNumbers k x
  pub value : (s : ℕ) → number x s ≡ if is_goal k.model s then pos (2 ^ k.w) else pos 0

-- ---- above

-- z is an upper vector of one step more than x: 2 ^ w on goal states, and elsewhere at least the weighted mean of x, for each choice and at each corner
pub record IsUpperStep (k : CaseData) (spans : Spans) (x z : List ℤ) : Type 0 where
  pub numbers : AreNumbers k z
  pub goal : (s : ℕ) → is_goal k.model s ≡ true → number z s ≡ pos (2 ^ k.w)
  pub means : (s : ℕ) → is_goal k.model s ≡ false → All (λ row. MeansAtMost k spans row x (number z s)) (choices k.model s)

-- upper vectors of 0 to h steps
pub record AreUppers (k : CaseData) (spans : Spans) (h : ℕ) (xs : List (List ℤ)) : Type 0 where
  pub count : length xs ≡ h + 1
  pub start : IsStart k (nth xs 0)
  pub steps : (n : ℕ) → n < h → IsUpperStep k spans (nth xs n) (nth xs (n + 1))

-- those that are least at each state, for each number of steps
pub record AreLeastUppers (k : CaseData) (spans : Spans) (h : ℕ) (xs : List (List ℤ)) : Type 0 where
  pub uppers : AreUppers k spans h xs
  pub least : (ys : List (List ℤ)) → AreUppers k spans h ys → (n : ℕ) → n ≤ h → AtMost (nth xs n) (nth ys n)

-- an accepting certificate by steps: upper vectors of which the last is within the bound at the initial state
pub record AreAccepting (k : CaseData) (spans : Spans) (bound : Bound) (h : ℕ) (xs : List (List ℤ)) : Type 0 where
  pub uppers : AreUppers k spans h xs
  pub limit : IsWithin bound k.w (number (nth xs h) k.model.init)

-- ---- below

-- a state's chosen row holds its number z over y: at each corner of the row the weighted mean of y is at least z
pub record IsHeldBy (k : CaseData) (spans : Spans) (y : List ℤ) (s a : ℕ) (z : ℤ) : Type 0 where
  pub in_range : a < length (choices k.model s)
  pub means : MeansAtLeast k spans (row_at k.model s a) (number y) z

-- z is a lower vector of one step more than y, with these choices: 2 ^ w on goal states, which have no chosen row, and each other state is held by its chosen row
pub record IsLowerStep (k : CaseData) (spans : Spans) (y z : List ℤ) (picks : List ℕ) : Type 0 where
  pub numbers : AreNumbers k z
  pub size : length picks ≡ length k.model.states
  pub goal : (s : ℕ) → is_goal k.model s ≡ true → (number z s ≡ pos (2 ^ k.w)) × (mark picks s ≡ unmarked)
  pub held : (s : ℕ) → s < length k.model.states → is_goal k.model s ≡ false → IsHeldBy k spans y s (mark picks s) (number z s)

-- the vectors of a rejecting certificate by steps, from that of no step on, and the choices, from those of one step on
pub record LowersData : Type 0 where
  pub numbers : List (List ℤ)
  pub picks : List (List ℕ)

-- lower vectors of 0 to h steps, with their choices
pub record AreLowers (k : CaseData) (spans : Spans) (h : ℕ) (r : LowersData) : Type 0 where
  pub counts : (length r.numbers ≡ h + 1) × (length r.picks ≡ h)
  pub start : IsStart k (nth r.numbers 0)
  pub steps : (n : ℕ) → n < h → IsLowerStep k spans (nth r.numbers n) (nth r.numbers (n + 1)) (nth r.picks n)

-- those that are greatest at each state, for each number of steps, each with the lowest pick that holds it
pub record AreGreatestLowers (k : CaseData) (spans : Spans) (h : ℕ) (r : LowersData) : Type 0 where
  pub lowers : AreLowers k spans h r
  pub greatest : (q : LowersData) → AreLowers k spans h q → (n : ℕ) → n ≤ h → AtMost (nth q.numbers n) (nth r.numbers n)
  pub lowest : (n s a : ℕ) → n < h → is_goal k.model s ≡ false → a < mark (nth r.picks n) s → IsHeldBy k spans (nth r.numbers n) s a (number (nth r.numbers (n + 1)) s) → ⊥

-- a rejecting certificate by steps: lower vectors of which the last is beyond the bound at the initial state
pub record AreRejecting (k : CaseData) (spans : Spans) (bound : Bound) (h : ℕ) (r : LowersData) : Type 0 where
  pub lowers : AreLowers k spans h r
  pub limit : IsBeyond bound k.w (number (nth r.numbers h) k.model.init)

-- no accepting certificate by steps exists
abbrev pub NoneAccept : CaseData → Spans → Bound → ℕ → Type 0
NoneAccept k spans bound h = (xs : List (List ℤ)) → AreAccepting k spans bound h xs → ⊥

-- nor a rejecting one
abbrev pub NoneReject : CaseData → Spans → Bound → ℕ → Type 0
NoneReject k spans bound h = (r : LowersData) → AreRejecting k spans bound h r → ⊥

-- ---- one step of the code

-- the upper vector of one step more than x that is least at each state
pub record IsLeastStep (k : CaseData) (spans : Spans) (x z : List ℤ) : Type 0 where
  pub upper : IsUpperStep k spans x z
  pub least : (y : List ℤ) → IsUpperStep k spans x y → AtMost z y

-- the lower vector of one step more than y that is greatest at each state, with the lowest choices
pub record IsGreatestStep (k : CaseData) (spans : Spans) (y z : List ℤ) (picks : List ℕ) : Type 0 where
  pub lower : IsLowerStep k spans y z picks
  pub greatest : (x : List ℤ) (others : List ℕ) → IsLowerStep k spans y x others → AtMost x z
  pub lowest : (s a : ℕ) → is_goal k.model s ≡ false → a < mark picks s → IsHeldBy k spans y s a (number z s) → ⊥
