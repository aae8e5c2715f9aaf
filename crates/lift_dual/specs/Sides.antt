-- Certificates for the scheduler that reaches the least: from below over every choice, and from above over one choice of each state.
use Rattle.std.specs.Prelude.{◌≡◌, ℕ, ◌^◌, ◌<◌, ◌≤◌, true, false, List, [], ℤ, pos, ◌*ℤ◌, ◌≤ℤ◌, All, length}
use Rattle.lift_grid.specs.Rectangle.{Spans}
use Rattle.lift_grid.specs.Tree.{RejectData}
use Rattle.lift_model.specs.declared.entry.Entry.{Entry}
use Rattle.lift_model.specs.Model.{is_goal, choices, row_at}
use Rattle.corner_lift.specs.Corner.{AtCorners, corner_sum, whole}
use Rattle.corner_lift.specs.Case.{CaseData, number}
use Rattle.corner_lift.specs.Certificate.{AreNumbers, MeansAtMost, MeansAtLeast, unmarked, mark, ranked_below, most_rate}

-- A row holds a state: at each of its corners the weighted mean is at least the state's number, and the weight into states of lower rank, times 2 ^ e, is at least the whole.
pub record RowHolds (k : CaseData) (spans : Spans) (r : RejectData) (s : ℕ) (row : List Entry) : Type 0 where
  pub means : MeansAtLeast k spans row (number r.numbers) (number r.numbers s)
  pub rates : AtCorners spans row (λ c. whole k.model k.d spans row ≤ℤ (corner_sum k.d spans row c (ranked_below (mark r.ranks) (mark r.ranks s)) *ℤ pos (2 ^ r.e)))

-- a ranked state is held by each of its choices
pub record IsHeldByAll (k : CaseData) (spans : Spans) (r : RejectData) (s : ℕ) : Type 0 where
  pub rank : (1 ≤ mark r.ranks s) × (mark r.ranks s ≤ r.k)
  pub rows : All (RowHolds k spans r s) (choices k.model s)

-- A lower vector for every scheduler: 2 ^ w on goal states, whose rank is 0; 0 on states without rank; and each other state is held by each of its choices. It picks none.
pub record IsLowerAll (k : CaseData) (spans : Spans) (r : RejectData) : Type 0 where
  pub numbers : AreNumbers k r.numbers
  pub sizes : (r.picks ≡ []) × (length r.ranks ≡ length k.model.states)
  pub marks : All (λ rank. rank ≤ unmarked) r.ranks
  pub bounds : (r.e ≤ most_rate) × (1 ≤ r.k) × (r.k < unmarked)
  pub goal : (s : ℕ) → is_goal k.model s ≡ true → (number r.numbers s ≡ pos (2 ^ k.w)) × (mark r.ranks s ≡ 0)
  pub unranked : (s : ℕ) → is_goal k.model s ≡ false → unmarked ≤ mark r.ranks s → number r.numbers s ≡ pos 0
  pub held : (s : ℕ) → is_goal k.model s ≡ false → mark r.ranks s < unmarked → IsHeldByAll k spans r s

-- An upper vector for one scheduler, with its choices: 2 ^ w on goal states, which have none, and elsewhere at least the weighted mean of the picked row at each of its corners.
pub record IsUpperOne (k : CaseData) (spans : Spans) (x : List ℤ) (picks : List ℕ) : Type 0 where
  pub numbers : AreNumbers k x
  pub size : length picks ≡ length k.model.states
  pub goal : (s : ℕ) → is_goal k.model s ≡ true → (number x s ≡ pos (2 ^ k.w)) × (mark picks s ≡ unmarked)
  pub pick : (s : ℕ) → s < length k.model.states → is_goal k.model s ≡ false → mark picks s < length (choices k.model s)
  pub means : (s : ℕ) → s < length k.model.states → is_goal k.model s ≡ false → MeansAtMost k spans (row_at k.model s (mark picks s)) x (number x s)
