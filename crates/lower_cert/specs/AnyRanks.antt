-- Lower vectors whose ranks have no bound: that ranks are at most the number of states leaves none of them out.
use Rattle.std.specs.Prelude.{◌≡◌, ℕ, ◌^◌, ◌≤◌, ◌<◌, true, false, List, ℤ, pos, ◌*ℤ◌, ◌≤ℤ◌, Option, Some, None, length, nat_lt, if◌then◌else◌}
use Rattle.lift_grid.specs.Rectangle.{Spans}
use Rattle.lift_grid.specs.Tree.{RejectData}
use Rattle.lift_model.specs.Model.{is_goal, choices, row_at}
use Rattle.corner_lift.specs.Corner.{AtCorners, corner_sum, whole}
use Rattle.corner_lift.specs.Case.{CaseData, IsCase, number}
use Rattle.corner_lift.specs.Certificate.{most_rate, AreNumbers, MeansAtLeast, IsLower}
use Rattle.corner_lift.specs.Stages.{IsGreatestLower}

-- what a rejecting certificate consists of whose ranks have no bound: a number for each state, a chosen row and a rank for those that have one, a rate and a height
pub record UnboundedReject : Type 0 where
  pub numbers : List ℤ
  pub pick : ℕ → Option ℕ
  pub rank : ℕ → Option ℕ
  pub e : ℕ
  pub k : ℕ

-- 1 for the states that have a rank below r, and 0 for the others
abbrev pub some_below : (ℕ → Option ℕ) → ℕ → ℕ → ℤ
some_below rank r s = elim (rank s) [ Some n ↦ if nat_lt n r then pos 1 else pos 0 | None ↦ pos 0 ]

-- The chosen row of a state of rank r holds it: at each corner of the row the weighted mean is at least the state's number, and the weight into states of lower rank is enough.
pub record IsHeldAtRank (k : CaseData) (spans : Spans) (u : UnboundedReject) (r s : ℕ) : Type 0 where
  pub range : (1 ≤ r) × (r ≤ u.k)
  pub choice : ℕ
  pub is_choice : u.pick s ≡ Some choice
  pub in_range : choice < length (choices k.model s)
  pub means : MeansAtLeast k spans (row_at k.model s choice) (number u.numbers) (number u.numbers s)
  pub rates : let row = row_at k.model s choice in AtCorners spans row (λ c. whole k.model k.d spans row ≤ℤ (corner_sum k.d spans row c (some_below u.rank r) *ℤ pos (2 ^ u.e)))

-- a lower vector, whatever its height: 2 ^ w on goal states, whose rank is 0; 0 on states without rank; and each other state is held by its chosen row
pub record IsUnboundedLower (k : CaseData) (spans : Spans) (u : UnboundedReject) : Type 0 where
  pub numbers : AreNumbers k u.numbers
  pub bounds : (u.e ≤ most_rate) × (1 ≤ u.k)
  pub goal : (s : ℕ) → is_goal k.model s ≡ true → (number u.numbers s ≡ pos (2 ^ k.w)) × (u.rank s ≡ Some 0) × (u.pick s ≡ None)
  pub unranked : (s : ℕ) → is_goal k.model s ≡ false → u.rank s ≡ None → (number u.numbers s ≡ pos 0) × (u.pick s ≡ None)
  pub held : (s r : ℕ) → is_goal k.model s ≡ false → u.rank s ≡ Some r → IsHeldAtRank k spans u r s

-- such numbers and such a rate also have a lower vector with ranks of at most the number of states
abbrev pub RanksFit : Type 0
RanksFit = (k : CaseData) (spans : Spans) (u : UnboundedReject) → IsCase k → IsUnboundedLower k spans u
    → (r : RejectData) × ((r.numbers ≡ u.numbers) × (r.e ≡ u.e) × (r.k ≡ length k.model.states) × IsLower k spans r)

-- the k of the greatest lower vector is at most the number of states
abbrev pub HeightFits : Type 0
HeightFits = (k : CaseData) (spans : Spans) (r : RejectData) → IsCase k → IsGreatestLower k spans r → r.k ≤ length k.model.states
