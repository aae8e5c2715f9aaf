-- Certificates of what is collected: what is paid up to the goal, or for ever where it is missed. From below, ranks lead to choices that pay.
use Rattle.std.specs.Prelude.{◌≡◌, ℕ, ◌<◌, ◌≤◌, ◌⊎◌, true, false, List, [], ℤ, pos, All, length}
use Rattle.lift_grid.specs.Rectangle.{Spans}
use Rattle.lift_grid.specs.Tree.{RejectData}
use Rattle.lift_model.specs.Model.{is_goal, choices}
use Rattle.corner_lift.specs.Case.{CaseData, number}
use Rattle.corner_lift.specs.Certificate.{AreNumbers, unmarked, mark, most_rate}
use Rattle.reward_cert.specs.Charges.{RewardData}
use Rattle.reward_cert.specs.Rounded.{IsPaying}
use Rattle.reward_cert.specs.Rows.{has_number, AreNumbersOrNone, IsCovered, IsBacked, LeadsOn}

-- ---- from above

-- For all: it bounds what every scheduler collects. A goal state has 0, and each choice of any other state that has a number is covered.
pub record IsCollectedUpperAll (k : CaseData) (spans : Spans) (r : RewardData) (z : List ℤ) : Type 0 where
  pub numbers : AreNumbersOrNone k z
  pub goal : (s : ℕ) → is_goal k.model s ≡ true → number z s ≡ pos 0
  pub rows : (s a : ℕ) → is_goal k.model s ≡ false → has_number z s ≡ true → a < length (choices k.model s) → IsCovered k spans r z s a

-- For one: the schedulers that follow its picks. Exactly the states that have a number and are no goal states have a pick, which is covered.
pub record IsCollectedUpperOne (k : CaseData) (spans : Spans) (r : RewardData) (z : List ℤ) (picks : List ℕ) : Type 0 where
  pub numbers : AreNumbersOrNone k z
  pub size : length picks ≡ length k.model.states
  pub goal : (s : ℕ) → is_goal k.model s ≡ true → (number z s ≡ pos 0) × (mark picks s ≡ unmarked)
  pub none : (s : ℕ) → has_number z s ≡ false → mark picks s ≡ unmarked
  pub picked : (s : ℕ) → is_goal k.model s ≡ false → has_number z s ≡ true → mark picks s < length (choices k.model s)
  pub rows : (s : ℕ) → is_goal k.model s ≡ false → has_number z s ≡ true → IsCovered k spans r z s (mark picks s)

-- ---- from below

-- Ranks from 1 to k: a goal state has none, and a state without rank has the number 0.
pub record ArePayingRanks (k : CaseData) (c : RejectData) : Type 0 where
  pub size : length c.ranks ≡ length k.model.states
  pub marks : All (λ rank. rank ≤ unmarked) c.ranks
  pub bounds : (c.e ≤ most_rate) × (1 ≤ c.k) × (c.k < unmarked)
  pub goal : (s : ℕ) → is_goal k.model s ≡ true → (number c.numbers s ≡ pos 0) × (mark c.ranks s ≡ unmarked)
  pub unranked : (s : ℕ) → unmarked ≤ mark c.ranks s → number c.numbers s ≡ pos 0
  pub range : (s : ℕ) → mark c.ranks s < unmarked → (1 ≤ mark c.ranks s) × (mark c.ranks s ≤ c.k)

-- the choice is backed, and it pays or leads on
pub record IsPushed (k : CaseData) (spans : Spans) (r : RewardData) (c : RejectData) (s a : ℕ) : Type 0 where
  pub backed : IsBacked k spans r c.numbers s a
  pub on : IsPaying k.w r s a ⊎ LeadsOn k spans c s a

-- For all: what every scheduler collects at least. Each choice of a ranked state is pushed.
pub record IsCollectedLowerAll (k : CaseData) (spans : Spans) (r : RewardData) (c : RejectData) : Type 0 where
  pub numbers : AreNumbers k c.numbers
  pub picks : c.picks ≡ []
  pub ranks : ArePayingRanks k c
  pub rows : (s a : ℕ) → mark c.ranks s < unmarked → a < length (choices k.model s) → IsPushed k spans r c s a

-- For one: exactly the ranked states have a pick, which is pushed.
pub record IsCollectedLowerOne (k : CaseData) (spans : Spans) (r : RewardData) (c : RejectData) : Type 0 where
  pub numbers : AreNumbers k c.numbers
  pub size : length c.picks ≡ length k.model.states
  pub ranks : ArePayingRanks k c
  pub none : (s : ℕ) → unmarked ≤ mark c.ranks s → mark c.picks s ≡ unmarked
  pub picked : (s : ℕ) → mark c.ranks s < unmarked → mark c.picks s < length (choices k.model s)
  pub rows : (s : ℕ) → mark c.ranks s < unmarked → IsPushed k spans r c s (mark c.picks s)
