-- Lower vectors for every scheduler whose ranks have no bound: that ranks are at most the number of states leaves none of them out.
use Rattle.std.specs.Prelude.{◌≡◌, ℕ, ◌^◌, ◌≤◌, true, false, List, ℤ, pos, ◌*ℤ◌, ◌≤ℤ◌, Some, None, length, All}
use Rattle.lift_grid.specs.Rectangle.{Spans}
use Rattle.lift_grid.specs.Tree.{RejectData}
use Rattle.lift_model.specs.declared.entry.Entry.{Entry}
use Rattle.lift_model.specs.Model.{is_goal, choices}
use Rattle.corner_lift.specs.Corner.{AtCorners, corner_sum, whole}
use Rattle.corner_lift.specs.Case.{CaseData, IsCase, number}
use Rattle.corner_lift.specs.Certificate.{most_rate, AreNumbers, MeansAtLeast}
use Rattle.lower_cert.specs.AnyRanks.{UnboundedReject, some_below}
use Rattle.lift_dual.specs.Sides.{IsLowerAll}
use Rattle.lift_dual.specs.Greatest.{NoneOfAllIsAbove}

-- A row holds a state of rank n: at each of its corners the weighted mean is at least the state's number, and the weight into states of lower rank, times 2 ^ e, is at least the whole.
pub record RowHoldsAtRank (k : CaseData) (spans : Spans) (u : UnboundedReject) (n s : ℕ) (row : List Entry) : Type 0 where
  pub means : MeansAtLeast k spans row (number u.numbers) (number u.numbers s)
  pub rates : AtCorners spans row (λ c. whole k.model k.d spans row ≤ℤ (corner_sum k.d spans row c (some_below u.rank n) *ℤ pos (2 ^ u.e)))

-- a lower vector for every scheduler, whatever its height: 2 ^ w on goal states, whose rank is 0; 0 on states without rank; and each other state is held by each of its choices
pub record IsUnboundedLowerAll (k : CaseData) (spans : Spans) (u : UnboundedReject) : Type 0 where
  pub numbers : AreNumbers k u.numbers
  pub bounds : (u.e ≤ most_rate) × (1 ≤ u.k)
  pub goal : (s : ℕ) → is_goal k.model s ≡ true → (number u.numbers s ≡ pos (2 ^ k.w)) × (u.rank s ≡ Some 0)
  pub unranked : (s : ℕ) → is_goal k.model s ≡ false → u.rank s ≡ None → number u.numbers s ≡ pos 0
  pub beyond : (s : ℕ) → length k.model.states ≤ s → u.rank s ≡ None
  pub range : (s n : ℕ) → is_goal k.model s ≡ false → u.rank s ≡ Some n → (1 ≤ n) × (n ≤ u.k)
  pub held : (s n : ℕ) → is_goal k.model s ≡ false → u.rank s ≡ Some n → All (RowHoldsAtRank k spans u n s) (choices k.model s)

-- such numbers and such a rate also have a lower vector for every scheduler with ranks of at most the number of states
abbrev pub RanksOfAllFit : Type 0
RanksOfAllFit = (k : CaseData) (spans : Spans) (u : UnboundedReject) → IsCase k → IsUnboundedLowerAll k spans u
    → (r : RejectData) × ((r.numbers ≡ u.numbers) × (r.e ≡ u.e) × (r.k ≡ length k.model.states) × IsLowerAll k spans r)

-- so where no lower vector for every scheduler is above the limit, none is with any ranks and any k
abbrev pub NoneOfAllWithAnyRanks : Type 0
NoneOfAllWithAnyRanks = (k : CaseData) (spans : Spans) (limit : ℤ) → IsCase k → NoneOfAllIsAbove k spans limit → (u : UnboundedReject) → IsUnboundedLowerAll k spans u → number u.numbers k.model.init ≤ℤ limit
