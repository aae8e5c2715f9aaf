-- What holds of certificates of expected costs, for who reasons about them: at every valuation inside a rectangle that lies inside a case's root.
use Rattle.std.specs.Prelude.{◌≡◌, ℕ, suc, ◌+◌, ◌*◌, ◌≤◌, true, List, ℤ, pos, ◌+ℤ◌, ◌*ℤ◌, ◌≤ℤ◌, if◌then◌else◌}
use Rattle.lift_poly.specs.Polynomial.{Valuation}
use Rattle.lift_grid.specs.Rectangle.{Spans, Inside}
use Rattle.lift_grid.specs.Tree.{RejectData}
use Rattle.lift_costs.specs.Costs.{CostData}
use Rattle.lift_model.specs.Process.{Process, power}
use Rattle.lift_model.specs.Plan.{Plan, Fits}
use Rattle.lift_model.specs.Reach.{plan_reach}
use Rattle.corner_lift.specs.Case.{CaseData, IsCase, IsInside, number}
use Rattle.corner_lift.specs.Certificate.{AtMost}
use Rattle.reward_cert.specs.Charges.{RewardData, AreRewards, sum_of}
use Rattle.reward_cert.specs.Expected.{expected_cost}
use Rattle.reward_cert.specs.Rows.{has_number}
use Rattle.reward_cert.specs.Collected.{IsCollectedUpperAll, IsCollectedUpperOne, IsCollectedLowerAll, IsCollectedLowerOne}
use Rattle.reward_cert.specs.Reaching.{IsReachingUpperAll, IsReachingUpperOne, IsReachingLowerAll, IsReachingLowerOne}
use Rattle.reward_cert.specs.Said.{EachPaysAtMost, EachPaysOrMisses, EachReaches, EachPaysAfter, FollowersPayAtMost, FollowersPayOrMiss, FollowersReach, FollowersPayAfter}

-- ---- costs

-- the sum of two costs has their sum's value
abbrev pub SumIsExact : Type 0
SumIsExact = (c d : CostData) → 1 ≤ c.den → 1 ≤ d.den → (sum_of c d).num * (c.den * d.den) ≡ (c.num * d.den + d.num * c.den) * (sum_of c d).den

-- What is paid within n steps where a visit of a state costs its charge, whatever the action: nothing in 0 steps, and nothing from a goal state.
pub record IsCostOfStates (process : Process) (charge : ℕ → ℕ) (q : ℕ) (cost : ℕ → ℕ → Plan → ℤ) : Type 0 where
  pub none : (s : ℕ) (p : Plan) → cost 0 s p ≡ pos 0
  pub next : (n s : ℕ) (p : Plan) → cost (suc n) s p ≡ (if process.goal s then pos 0 else (pos (charge s) *ℤ power (pos q *ℤ process.total) (suc n) +ℤ plan_reach (cost n) (process.choices s) p))

-- that is the expected cost where each choice of a state costs the same, of each plan that fits
abbrev pub CostOfStatesIsExpected : Type 0
CostOfStatesIsExpected = (process : Process) (charge : ℕ → ℕ) (q : ℕ) (cost : ℕ → ℕ → Plan → ℤ) → IsCostOfStates process charge q cost
    → (n s : ℕ) (p : Plan) → Fits process q n s p → expected_cost process (λ s a. charge s) q n s p ≡ cost n s p

-- ---- certificates of the cost to reach the goal

-- one from below for all bounds every scheduler
abbrev pub ReachingLowerAllBounds : Type 0
ReachingLowerAllBounds = (k : CaseData) (spans : Spans) (r : RewardData) (y : List ℤ) → IsCase k → IsInside k.root spans → AreRewards r → IsReachingLowerAll k spans r y
    → (v : Valuation) → Inside k.d spans v → (s : ℕ) → EachPaysOrMisses k.model v k.w r s (number y s)

-- one from below for one bounds those that follow its picks
abbrev pub ReachingLowerOneBounds : Type 0
ReachingLowerOneBounds = (k : CaseData) (spans : Spans) (r : RewardData) (y : List ℤ) (picks : List ℕ) → IsCase k → IsInside k.root spans → AreRewards r → IsReachingLowerOne k spans r y picks
    → (v : Valuation) → Inside k.d spans v → (s : ℕ) → FollowersPayOrMiss k.model v k.w r picks s (number y s)

-- from a state that has a number in one from above for all, every scheduler reaches the goal
abbrev pub ReachingUpperAllReaches : Type 0
ReachingUpperAllReaches = (k : CaseData) (spans : Spans) (r : RewardData) (c : RejectData) → IsCase k → IsInside k.root spans → IsReachingUpperAll k spans r c
    → (v : Valuation) → Inside k.d spans v → (s : ℕ) → has_number c.numbers s ≡ true → EachReaches k.model v c s

-- in one from above for one, those that follow its picks do
abbrev pub ReachingUpperOneReaches : Type 0
ReachingUpperOneReaches = (k : CaseData) (spans : Spans) (r : RewardData) (c : RejectData) → IsCase k → IsInside k.root spans → IsReachingUpperOne k spans r c
    → (v : Valuation) → Inside k.d spans v → (s : ℕ) → has_number c.numbers s ≡ true → FollowersReach k.model v c s

-- ---- certificates of what is collected

-- one from above for all bounds every scheduler; so does one of the cost to reach the goal, which is one
abbrev pub CollectedUpperAllBounds : Type 0
CollectedUpperAllBounds = (k : CaseData) (spans : Spans) (r : RewardData) (z : List ℤ) → IsCase k → IsInside k.root spans → AreRewards r → IsCollectedUpperAll k spans r z
    → (v : Valuation) → Inside k.d spans v → (s : ℕ) → has_number z s ≡ true → EachPaysAtMost k.model v k.w r s (number z s)

-- one from above for one bounds those that follow its picks
abbrev pub CollectedUpperOneBounds : Type 0
CollectedUpperOneBounds = (k : CaseData) (spans : Spans) (r : RewardData) (z : List ℤ) (picks : List ℕ) → IsCase k → IsInside k.root spans → AreRewards r → IsCollectedUpperOne k spans r z picks
    → (v : Valuation) → Inside k.d spans v → (s : ℕ) → has_number z s ≡ true → FollowersPayAtMost k.model v k.w r picks s (number z s)

-- one from below for all bounds every scheduler
abbrev pub CollectedLowerAllBounds : Type 0
CollectedLowerAllBounds = (k : CaseData) (spans : Spans) (r : RewardData) (c : RejectData) → IsCase k → IsInside k.root spans → AreRewards r → IsCollectedLowerAll k spans r c
    → (v : Valuation) → Inside k.d spans v → (s : ℕ) → EachPaysAfter k.model v k.w r c s

-- one from below for one bounds those that follow its picks
abbrev pub CollectedLowerOneBounds : Type 0
CollectedLowerOneBounds = (k : CaseData) (spans : Spans) (r : RewardData) (c : RejectData) → IsCase k → IsInside k.root spans → AreRewards r → IsCollectedLowerOne k spans r c
    → (v : Valuation) → Inside k.d spans v → (s : ℕ) → FollowersPayAfter k.model v k.w r c s

-- ---- from below and from above, of two rectangles that share a valuation: neither speaks of more than the other allows

-- what is collected, over one choice from below and over every choice from above
abbrev pub CollectedLowerOneIsBelowUpperAll : Type 0
CollectedLowerOneIsBelowUpperAll = (k : CaseData) (spans others : Spans) (r : RewardData) (z : List ℤ) (c : RejectData) (v : Valuation) → IsCase k → IsInside k.root spans → IsInside k.root others → Inside k.d spans v → Inside k.d others v → AreRewards r
    → IsCollectedUpperAll k spans r z → IsCollectedLowerOne k others r c → (s : ℕ) → has_number z s ≡ true → number c.numbers s ≤ℤ number z s

-- over every choice from below and over one choice from above
abbrev pub CollectedLowerAllIsBelowUpperOne : Type 0
CollectedLowerAllIsBelowUpperOne = (k : CaseData) (spans others : Spans) (r : RewardData) (z : List ℤ) (picks : List ℕ) (c : RejectData) (v : Valuation) → IsCase k → IsInside k.root spans → IsInside k.root others → Inside k.d spans v → Inside k.d others v → AreRewards r
    → IsCollectedUpperOne k spans r z picks → IsCollectedLowerAll k others r c → (s : ℕ) → has_number z s ≡ true → number c.numbers s ≤ℤ number z s

-- the cost to reach the goal, over one choice from below and over every choice from above
abbrev pub ReachingLowerOneIsBelowUpperAll : Type 0
ReachingLowerOneIsBelowUpperAll = (k : CaseData) (spans others : Spans) (r : RewardData) (c : RejectData) (y : List ℤ) (picks : List ℕ) (v : Valuation) → IsCase k → IsInside k.root spans → IsInside k.root others → Inside k.d spans v → Inside k.d others v → AreRewards r
    → IsReachingUpperAll k spans r c → IsReachingLowerOne k others r y picks → (s : ℕ) → has_number c.numbers s ≡ true → number y s ≤ℤ number c.numbers s

-- over every choice from below and over one choice from above
abbrev pub ReachingLowerAllIsBelowUpperOne : Type 0
ReachingLowerAllIsBelowUpperOne = (k : CaseData) (spans others : Spans) (r : RewardData) (c : RejectData) (y : List ℤ) (v : Valuation) → IsCase k → IsInside k.root spans → IsInside k.root others → Inside k.d spans v → Inside k.d others v → AreRewards r
    → IsReachingUpperOne k spans r c → IsReachingLowerAll k others r y → (s : ℕ) → has_number c.numbers s ≡ true → number y s ≤ℤ number c.numbers s

-- ---- the greatest of a kind

-- of two certificates from below for all of the cost to reach the goal there is one at or above both
abbrev pub ReachingLowerAllsJoin : Type 0
ReachingLowerAllsJoin = (k : CaseData) (spans : Spans) (r : RewardData) (x y : List ℤ) → IsCase k → IsInside k.root spans → IsReachingLowerAll k spans r x → IsReachingLowerAll k spans r y
    → (z : List ℤ) × (IsReachingLowerAll k spans r z × AtMost x z × AtMost y z)

-- and of two for one
abbrev pub ReachingLowerOnesJoin : Type 0
ReachingLowerOnesJoin = (k : CaseData) (spans : Spans) (r : RewardData) (x y : List ℤ) (p q : List ℕ) → IsCase k → IsInside k.root spans → IsReachingLowerOne k spans r x p → IsReachingLowerOne k spans r y q
    → (z : List ℤ) × ((picks : List ℕ) × (IsReachingLowerOne k spans r z picks × AtMost x z × AtMost y z))

-- ---- the least of a kind

-- z is at or below x at each state, where none is above all numbers
abbrev pub IsAtOrBelow : List ℤ → List ℤ → Type 0
IsAtOrBelow z x = (s : ℕ) → has_number x s ≡ true → (has_number z s ≡ true) × (number z s ≤ℤ number x s)

-- of two certificates from above for all of what is collected there is one at or below both
abbrev pub CollectedUpperAllsMeet : Type 0
CollectedUpperAllsMeet = (k : CaseData) (spans : Spans) (r : RewardData) (x y : List ℤ) → IsCase k → IsInside k.root spans → IsCollectedUpperAll k spans r x → IsCollectedUpperAll k spans r y
    → (z : List ℤ) × (IsCollectedUpperAll k spans r z × IsAtOrBelow z x × IsAtOrBelow z y)

-- and of two for one
abbrev pub CollectedUpperOnesMeet : Type 0
CollectedUpperOnesMeet = (k : CaseData) (spans : Spans) (r : RewardData) (x y : List ℤ) (p q : List ℕ) → IsCase k → IsInside k.root spans → IsCollectedUpperOne k spans r x p → IsCollectedUpperOne k spans r y q
    → (z : List ℤ) × ((picks : List ℕ) × (IsCollectedUpperOne k spans r z picks × IsAtOrBelow z x × IsAtOrBelow z y))
