-- Ranks in one pass over an order of the states, where the targets of each state come before it, but for itself.
use Rattle.std.specs.Prelude.{◌≡◌, ◌≢◌, ℕ, suc, ◌-◌, ◌<◌, ◌≤◌, ◌⊎◌, true, false, List, All, length}
use Rattle.lift_grid.specs.Rectangle.{Spans}
use Rattle.lift_model.specs.Model.{ModelData, is_goal, choices, row_at}
use Rattle.lift_model.specs.Links.{LinksData, targets_of, position}
use Rattle.corner_lift.specs.Case.{CaseData}
use Rattle.corner_lift.specs.Certificate.{unmarked, mark}
use Rattle.robust_rank.specs.Staging.{HasLeading, HasNoLeading}

-- ---- ranks

-- The rank of a state that is no goal state, as the ranks of its targets have it: the least r such that an allowed choice leads below r, and none where there is no such r.
pub record IsRankBy (k : CaseData) (spans : Spans) (allowed : List ℕ) (rank : ℕ → ℕ) (s r : ℕ) : Type 0 where
  pub reached : r < unmarked → HasLeading k spans allowed rank r s
  pub first : (q : ℕ) → q < unmarked → HasLeading k spans allowed rank q s → r ≤ q

-- each state has its rank, as the ranks of its targets have it, and goal states have rank 0
abbrev pub AreRanks : CaseData → Spans → List ℕ → List ℕ → Type 0
AreRanks k spans allowed ranks = (s : ℕ) → s < length k.model.states
    → (is_goal k.model s ≡ true → mark ranks s ≡ 0) × (is_goal k.model s ≡ false → IsRankBy k spans allowed (mark ranks) s (mark ranks s))

-- ---- while the pass is under way

-- in place of the rank of a state that the pass hasn't come to
abbrev pub unseen : ℕ
unseen = unmarked - 1

-- the pass has come to all targets of the state
abbrev pub AreTargetsSeen : ModelData → (ℕ → ℕ) → ℕ → Type 0
AreTargetsSeen m rank s = (a : ℕ) → a < length (choices m s) → All (λ t. rank t ≢ unseen) (targets_of (row_at m s a))

-- the rank that the pass gives a state that is no goal state: its targets are seen, and it can be told from what isn't
pub record IsFound (k : CaseData) (spans : Spans) (allowed : List ℕ) (rank : ℕ → ℕ) (s r : ℕ) : Type 0 where
  pub targets : AreTargetsSeen k.model rank s
  pub seen : r ≢ unseen
  pub is : IsRankBy k spans allowed rank s r

-- the rank that the pass gives a state
abbrev pub IsGiven : CaseData → Spans → List ℕ → (ℕ → ℕ) → ℕ → ℕ → Type 0
IsGiven k spans allowed rank s r = (is_goal k.model s ≡ true → r ≡ 0) × (is_goal k.model s ≡ false → IsFound k spans allowed rank s r)

-- the first states of the order, so many, have been given their ranks, and the others are unseen
pub record IsPassed (k : CaseData) (l : LinksData) (spans : Spans) (allowed ranks : List ℕ) (count : ℕ) : Type 0 where
  pub size : length ranks ≡ length k.model.states
  pub given : (s : ℕ) → s < length k.model.states → position l s < count → IsGiven k spans allowed (mark ranks) s (mark ranks s)
  pub others : (s : ℕ) → s < length k.model.states → count ≤ position l s → mark ranks s ≡ unseen

-- ---- the rank of a state

-- the rank after a rank, which can be told from unseen; none after none
pub record IsNext (rank r : ℕ) : Type 0 where
  pub some : rank < unmarked → r ≡ suc rank
  pub none : unmarked ≤ rank → r ≡ unmarked
  pub seen : r ≢ unseen

-- up to r, no allowed choice of the state leads below
abbrev pub HasNoLeadingTo : CaseData → Spans → List ℕ → (ℕ → ℕ) → ℕ → ℕ → Type 0
HasNoLeadingTo k spans allowed rank r s = (q : ℕ) → q ≤ r → HasNoLeading k spans allowed rank q s

-- these states are seen, and none has a rank from a first one up to before a second one
abbrev pub AreClear : (ℕ → ℕ) → ℕ → ℕ → List ℕ → Type 0
AreClear rank from to targets = All (λ t. (rank t ≢ unseen) × ((rank t < from) ⊎ (to ≤ rank t))) targets

-- so are the targets of the state
abbrev pub AreTargetsClear : ModelData → (ℕ → ℕ) → ℕ → ℕ → ℕ → Type 0
AreTargetsClear m rank from to s = (a : ℕ) → a < length (choices m s) → AreClear rank from to (targets_of (row_at m s a))

-- these states are seen, and each has one of two ranks
abbrev pub HaveRanks : (ℕ → ℕ) → ℕ → ℕ → List ℕ → Type 0
HaveRanks rank low high targets = All (λ t. (rank t ≢ unseen) × ((rank t ≡ low) ⊎ (rank t ≡ high))) targets
