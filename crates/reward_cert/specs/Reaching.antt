-- Certificates of the cost to reach the goal, as R=?[F goal] of PRISM and Storm: what is collected where the goal is reached with probability 1, and endless elsewhere. From above, ranks lead to the goal.
use Rattle.std.specs.Prelude.{◌≡◌, ℕ, ◌<◌, ◌≤◌, true, false, List, [], ℤ, pos, All, length}
use Rattle.lift_grid.specs.Rectangle.{Spans}
use Rattle.lift_grid.specs.Tree.{RejectData}
use Rattle.lift_model.specs.Model.{is_goal, choices}
use Rattle.corner_lift.specs.Case.{CaseData, number}
use Rattle.corner_lift.specs.Certificate.{AreNumbers, unmarked, mark, most_rate}
use Rattle.reward_cert.specs.Charges.{RewardData}
use Rattle.reward_cert.specs.Rows.{has_number, IsBacked, LeadsOn}
use Rattle.reward_cert.specs.Collected.{IsCollectedUpperAll, IsCollectedUpperOne}

-- ---- from below

-- For all: what every scheduler pays at least, unless it misses the goal. A goal state has 0, and each choice of any other state is backed.
pub record IsReachingLowerAll (k : CaseData) (spans : Spans) (r : RewardData) (y : List ℤ) : Type 0 where
  pub numbers : AreNumbers k y
  pub goal : (s : ℕ) → is_goal k.model s ≡ true → number y s ≡ pos 0
  pub rows : (s a : ℕ) → is_goal k.model s ≡ false → a < length (choices k.model s) → IsBacked k spans r y s a

-- For one: exactly the states that are no goal states have a pick, which is backed.
pub record IsReachingLowerOne (k : CaseData) (spans : Spans) (r : RewardData) (y : List ℤ) (picks : List ℕ) : Type 0 where
  pub numbers : AreNumbers k y
  pub size : length picks ≡ length k.model.states
  pub goal : (s : ℕ) → is_goal k.model s ≡ true → (number y s ≡ pos 0) × (mark picks s ≡ unmarked)
  pub picked : (s : ℕ) → s < length k.model.states → is_goal k.model s ≡ false → mark picks s < length (choices k.model s)
  pub rows : (s : ℕ) → s < length k.model.states → is_goal k.model s ≡ false → IsBacked k spans r y s (mark picks s)

-- ---- from above

-- Ranks of exactly the states that have a number: 0 on goal states, and from 1 to k on the others.
pub record AreGoalRanks (k : CaseData) (c : RejectData) : Type 0 where
  pub size : length c.ranks ≡ length k.model.states
  pub marks : All (λ rank. rank ≤ unmarked) c.ranks
  pub bounds : (c.e ≤ most_rate) × (1 ≤ c.k) × (c.k < unmarked)
  pub goal : (s : ℕ) → is_goal k.model s ≡ true → mark c.ranks s ≡ 0
  pub none : (s : ℕ) → has_number c.numbers s ≡ false → mark c.ranks s ≡ unmarked
  pub range : (s : ℕ) → is_goal k.model s ≡ false → has_number c.numbers s ≡ true → (1 ≤ mark c.ranks s) × (mark c.ranks s ≤ c.k)

-- For all: every scheduler reaches the goal, and it bounds what is paid. Besides what bounds the collected cost, each choice of a state that has a number leads on.
pub record IsReachingUpperAll (k : CaseData) (spans : Spans) (r : RewardData) (c : RejectData) : Type 0 where
  pub collected : IsCollectedUpperAll k spans r c.numbers
  pub picks : c.picks ≡ []
  pub ranks : AreGoalRanks k c
  pub leads : (s a : ℕ) → is_goal k.model s ≡ false → has_number c.numbers s ≡ true → a < length (choices k.model s) → LeadsOn k spans c s a

-- For one: each pick leads on.
pub record IsReachingUpperOne (k : CaseData) (spans : Spans) (r : RewardData) (c : RejectData) : Type 0 where
  pub collected : IsCollectedUpperOne k spans r c.numbers c.picks
  pub ranks : AreGoalRanks k c
  pub leads : (s : ℕ) → is_goal k.model s ≡ false → has_number c.numbers s ≡ true → LeadsOn k spans c s (mark c.picks s)
