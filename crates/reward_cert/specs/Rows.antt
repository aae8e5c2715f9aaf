-- What certificates of expected costs ask of a row, at each of its corners. Their numbers are parts of the cap, over 2 ^ w; an upper one may leave a state without number.
use Rattle.std.specs.Prelude.{◌≡◌, ℕ, ◌^◌, ◌≤◌, Bool, List, ℤ, pos, negsuc, ◌-ℤ◌, ◌*ℤ◌, ◌≤ℤ◌, All, length, slice_index_or, int_le, if◌then◌else◌}
use Rattle.lift_grid.specs.Rectangle.{Spans}
use Rattle.lift_grid.specs.Tree.{RejectData}
use Rattle.lift_model.specs.Model.{row_at}
use Rattle.corner_lift.specs.Corner.{AtCorners, corner_sum, whole}
use Rattle.corner_lift.specs.Case.{CaseData, number}
use Rattle.corner_lift.specs.Certificate.{MeansAtMost, MeansAtLeast, mark, ranked_below}
use Rattle.reward_cert.specs.Charges.{RewardData}
use Rattle.reward_cert.specs.Rounded.{reward_up, reward_down}

-- stands in the place of a number where a state has none: no bound on its cost is claimed
abbrev pub no_number : ℤ
no_number = negsuc 0

-- whether the state has a number; none has past the end
abbrev pub has_number : List ℤ → ℕ → Bool
has_number z s = int_le (pos 0) (slice_index_or z s no_number)

-- 1 for the states that have a number, and 0 for the others
abbrev pub numbered : List ℤ → ℕ → ℤ
numbered z s = if has_number z s then pos 1 else pos 0

-- for each state a number from 0 to 2 ^ w, or none
pub record AreNumbersOrNone (k : CaseData) (z : List ℤ) : Type 0 where
  pub size : length z ≡ length k.model.states
  pub range : All (λ n. (no_number ≤ℤ n) × (n ≤ℤ pos (2 ^ k.w))) z

-- The choice is covered from above: all of its weight leads to states that have a number, and the state's number is at least the choice's reward, rounded up, and the weighted mean of these.
pub record IsCovered (k : CaseData) (spans : Spans) (r : RewardData) (z : List ℤ) (s a : ℕ) : Type 0 where
  pub numbers : MeansAtLeast k spans (row_at k.model s a) (numbered z) (pos 1)
  pub means : MeansAtMost k spans (row_at k.model s a) z (number z s -ℤ pos (reward_up k.w r s a))

-- it is backed from below: the state's number is at most the choice's reward, rounded down, and the weighted mean of the targets' numbers
abbrev pub IsBacked : CaseData → Spans → RewardData → List ℤ → ℕ → ℕ → Type 0
IsBacked k spans r y s a = MeansAtLeast k spans (row_at k.model s a) (number y) (number y s -ℤ pos (reward_down k.w r s a))

-- it leads on: the weight into states of lower rank, times 2 ^ e, is at least the whole
abbrev pub LeadsOn : CaseData → Spans → RejectData → ℕ → ℕ → Type 0
LeadsOn k spans c s a = let row = row_at k.model s a in
    AtCorners spans row (λ b. whole k.model k.d spans row ≤ℤ (corner_sum k.d spans row b (ranked_below (mark c.ranks) (mark c.ranks s)) *ℤ pos (2 ^ c.e)))
