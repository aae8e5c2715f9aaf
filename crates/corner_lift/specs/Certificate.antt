-- Certificates of a rectangle of a case: for each state a number over 2 ^ w, w being the precision. An upper vector bounds from above what any scheduler reaches, and a lower vector from below what some scheduler reaches. Finite tests at the corners of each row show it: that the vector is inductive, as the textbook has it for one Markov decision process.
use Rattle.std.specs.Prelude.{◌≡◌, ℕ, ◌-◌, ◌^◌, ◌<◌, ◌≤◌, true, false, List, ℤ, pos, ◌*ℤ◌, ◌≤ℤ◌, All, length, slice_index_or, nat_lt, if◌then◌else◌}
use Rattle.lift_model.specs.declared.entry.Entry.{Entry}
use Rattle.lift_model.specs.Model.{is_goal, choices, row_at}
use Rattle.lift_grid.specs.Rectangle.{Spans}
use Rattle.lift_grid.specs.Tree.{RejectData}
use Rattle.corner_lift.specs.Corner.{AtCorners, corner_sum, whole}
use Rattle.corner_lift.specs.Case.{CaseData, number}

-- one number from 0 to 2 ^ w for each state
pub record AreNumbers (k : CaseData) (x : List ℤ) : Type 0 where
  pub size : length x ≡ length k.model.states
  pub range : All (λ n. (pos 0 ≤ℤ n) × (n ≤ℤ pos (2 ^ k.w))) x

-- at each corner of the row its weighted mean of x is at most the number. Multiplied out, as the weights stand over the whole.
abbrev pub MeansAtMost : CaseData → Spans → List Entry → List ℤ → ℤ → Type 0
MeansAtMost k spans row x n = AtCorners spans row (λ c. corner_sum k.d spans row c (number x) ≤ℤ (n *ℤ whole k.model k.d spans row))

-- at each corner of the row its weighted mean of y is at least the number
abbrev pub MeansAtLeast : CaseData → Spans → List Entry → (ℕ → ℤ) → ℤ → Type 0
MeansAtLeast k spans row y n = AtCorners spans row (λ c. (n *ℤ whole k.model k.d spans row) ≤ℤ corner_sum k.d spans row c y)

-- an upper vector: 2 ^ w on goal states, and elsewhere at least the weighted mean of the targets' numbers, for each choice and at each corner
pub record IsUpper (k : CaseData) (spans : Spans) (x : List ℤ) : Type 0 where
  pub numbers : AreNumbers k x
  pub goal : (s : ℕ) → is_goal k.model s ≡ true → number x s ≡ pos (2 ^ k.w)
  pub means : (s : ℕ) → is_goal k.model s ≡ false → All (λ row. MeansAtMost k spans row x (number x s)) (choices k.model s)

-- x is at most y at each state
abbrev pub AtMost : List ℤ → List ℤ → Type 0
AtMost x y = (s : ℕ) → number x s ≤ℤ number y s

-- the upper vector that is least at each state
pub record IsLeastUpper (k : CaseData) (spans : Spans) (x : List ℤ) : Type 0 where
  pub upper : IsUpper k spans x
  pub least : (y : List ℤ) → IsUpper k spans y → AtMost x y

-- in place of a rank or of a chosen row where a state has none; far above the number of states, so that ranks can always be numbered below it
abbrev pub unmarked : ℕ
unmarked = 2 ^ 32 - 1

-- the rank or the chosen row of a state
abbrev pub mark : List ℕ → ℕ → ℕ
mark marks s = slice_index_or marks s unmarked

-- 1 for the states whose rank is below r, and 0 for the others
abbrev pub ranked_below : (ℕ → ℕ) → ℕ → ℕ → ℤ
ranked_below rank r s = if nat_lt (rank s) r then pos 1 else pos 0

-- the row that a state picks
abbrev pub chosen_row : CaseData → RejectData → ℕ → List Entry
chosen_row k r s = row_at k.model s (mark r.picks s)

-- at each corner of the picked row the weight into states of lower rank, times 2 ^ e, is at least the whole
abbrev pub IsRate : CaseData → Spans → RejectData → ℕ → ℕ → Type 0
IsRate k spans r e s = let row = chosen_row k r s in
    AtCorners spans row (λ c. whole k.model k.d spans row ≤ℤ (corner_sum k.d spans row c (ranked_below (mark r.ranks) (mark r.ranks s)) *ℤ pos (2 ^ e)))

-- A ranked state's chosen row holds it: at each corner of the row the weighted mean is at least the state's number, and the weight into states of lower rank is enough.
pub record IsHeld (k : CaseData) (spans : Spans) (r : RejectData) (s : ℕ) : Type 0 where
  pub rank : (1 ≤ mark r.ranks s) × (mark r.ranks s ≤ r.k)
  pub pick : mark r.picks s < length (choices k.model s)
  pub means : MeansAtLeast k spans (chosen_row k r s) (number r.numbers) (number r.numbers s)
  pub rates : IsRate k spans r r.e s

-- the greatest e, by our own profile: a weight that isn't 0 is at least 1, and the whole is below 2 ^ 126
abbrev pub most_rate : ℕ
most_rate = 126

-- A lower vector: 2 ^ w on goal states, whose rank is 0; 0 on states without rank; and each other state is held by its chosen row.
pub record IsLower (k : CaseData) (spans : Spans) (r : RejectData) : Type 0 where
  pub numbers : AreNumbers k r.numbers
  pub sizes : (length r.picks ≡ length k.model.states) × (length r.ranks ≡ length k.model.states)
  pub marks : All (λ rank. rank ≤ unmarked) r.ranks
  pub bounds : (r.e ≤ most_rate) × (1 ≤ r.k) × (r.k < unmarked)
  pub goal : (s : ℕ) → is_goal k.model s ≡ true → (number r.numbers s ≡ pos (2 ^ k.w)) × (mark r.ranks s ≡ 0) × (mark r.picks s ≡ unmarked)
  pub unranked : (s : ℕ) → is_goal k.model s ≡ false → unmarked ≤ mark r.ranks s → (number r.numbers s ≡ pos 0) × (mark r.picks s ≡ unmarked)
  pub held : (s : ℕ) → is_goal k.model s ≡ false → mark r.ranks s < unmarked → IsHeld k spans r s
