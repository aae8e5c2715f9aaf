-- Priced vectors: for each state a number over 2 ^ w, where 2 ^ w stands for a cost, the cap. It bounds from above what any scheduler pays before the goal.
use Rattle.std.specs.Prelude.{◌≡◌, ℕ, ◌^◌, ◌<◌, true, false, List, ℤ, pos, ◌-ℤ◌, ◌*ℤ◌, ◌≤ℤ◌, ◌<ℤ◌, length, All}
use Rattle.lift_grid.specs.Rectangle.{Spans}
use Rattle.lift_model.specs.Model.{is_goal, choices}
use Rattle.corner_lift.specs.Case.{CaseData, number, row_value, row_whole, corner_count}
use Rattle.corner_lift.specs.Certificate.{AreNumbers, AtMost, MeansAtMost}
use Rattle.float_guess.specs.declared.rule.Extreme.TheVariants.{Greatest}
use Rattle.float_guess.specs.declared.rule.Ends.TheVariants.{Rewarded}
use Rattle.float_guess.specs.declared.rule.Rule.{Rule}
use Rattle.float_guess.specs.declared.reward.Rewards.{Rewards}
use Rattle.float_guess.specs.Reward.{reward}

-- what a visit of a state costs
abbrev pub price : ℕ → Rewards → ℕ → ℤ
price w t s = pos (reward w t.costs.now t.cap s)

-- a priced vector: 0 on goal states, and elsewhere at least the price and the weighted mean of the targets' numbers, for each choice and at each corner
pub record IsPriced (k : CaseData) (spans : Spans) (prices : ℕ → ℤ) (z : List ℤ) : Type 0 where
  pub numbers : AreNumbers k z
  pub goal : (s : ℕ) → is_goal k.model s ≡ true → number z s ≡ pos 0
  pub means : (s : ℕ) → is_goal k.model s ≡ false → All (λ row. MeansAtMost k spans row z (number z s -ℤ prices s)) (choices k.model s)

-- the priced vector that is least at each state
pub record IsLeastPriced (k : CaseData) (spans : Spans) (prices : ℕ → ℤ) (z : List ℤ) : Type 0 where
  pub priced : IsPriced k spans prices z
  pub least : (y : List ℤ) → IsPriced k spans prices y → AtMost z y

-- the rule of costs
abbrev pub paying : Rewards → Rule
paying t = record { choice = Greatest; corner = Greatest; ends = Rewarded t }

-- at 2 ^ w, at which numbers are cut off, a choice is truly paid for
abbrev pub IsPaidFor : CaseData → Spans → (ℕ → ℤ) → List ℤ → ℕ → ℕ → Type 0
IsPaidFor k spans prices x s a = (c : ℕ) → c < corner_count k s a → row_value k spans s a x c ≤ℤ ((pos (2 ^ k.w) -ℤ prices s) *ℤ row_whole k s a)

-- it is not, at some corner
abbrev pub IsBeyond : CaseData → Spans → (ℕ → ℤ) → List ℤ → ℕ → ℕ → Type 0
IsBeyond k spans prices x s a = (c : ℕ) × ((c < corner_count k s a) × (((pos (2 ^ k.w) -ℤ prices s) *ℤ row_whole k s a) <ℤ row_value k spans s a x c))

-- each choice of a state is paid for
abbrev pub IsPaid : CaseData → Spans → (ℕ → ℤ) → List ℤ → ℕ → Type 0
IsPaid k spans prices x s = (a : ℕ) → a < length (choices k.model s) → IsPaidFor k spans prices x s a

-- some choice of a state is not
abbrev pub IsUnpaid : CaseData → Spans → (ℕ → ℤ) → List ℤ → ℕ → Type 0
IsUnpaid k spans prices x s = (a : ℕ) × ((a < length (choices k.model s)) × IsBeyond k spans prices x s a)

-- the state's number is cut off, if it is no goal state
abbrev pub IsCutOff : CaseData → List ℤ → ℕ → Type 0
IsCutOff k x s = (is_goal k.model s ≡ false) × (number x s ≡ pos (2 ^ k.w))

-- of the first states, so many, each that is cut off is paid for
abbrev pub ArePaid : CaseData → Spans → (ℕ → ℤ) → List ℤ → ℕ → Type 0
ArePaid k spans prices x n = (s : ℕ) → s < n → IsCutOff k x s → IsPaid k spans prices x s

-- some state that is cut off is not
abbrev pub SomeUnpaid : CaseData → Spans → (ℕ → ℤ) → List ℤ → Type 0
SomeUnpaid k spans prices x = (s : ℕ) × ((s < length k.model.states) × (IsCutOff k x s × IsUnpaid k spans prices x s))
