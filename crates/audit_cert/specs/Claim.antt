-- What vectors claim, and the tests that show it: the same for every kind of certificate, but for what stands on either side at a corner, which rows of a state are tested, whether they have to lead to lower ranks, and what the initial state's number is compared with.
use Rattle.std.specs.Prelude.{◌≡◌, ℕ, ◌*◌, ◌^◌, ◌<◌, true, false, not, nat_lt, Bool, List, ℤ, pos, ◌-ℤ◌, ◌*ℤ◌, ◌≤ℤ◌, ◌<ℤ◌, Option, Some, None, IfSome, length, if◌then◌else◌}
use Rattle.lift_grid.specs.Rectangle.{Spans}
use Rattle.lift_grid.specs.Tree.{RejectData}
use Rattle.lift_model.specs.Model.{is_goal, choices}
use Rattle.lift_costs.specs.Costs.{CostData}
use Rattle.corner_lift.specs.Case.{CaseData, number, row_value, row_whole, corner_count}
use Rattle.corner_lift.specs.Certificate.{mark, unmarked}
use Rattle.lift_cert.specs.declared.bound.Bound.{Bound}
use Rattle.lift_cert.specs.RejectMiss.{IsFast}
use Rattle.property_text.specs.declared.op.Op.{Op}
use Rattle.property_text.specs.declared.op.Op.TheVariants.{AtMost, Below, AtLeast, Above}
use Rattle.lift_dual.specs.Property.{is_closed}
use Rattle.lift_cost.specs.Certificate.{BudgetData, price_over}

-- ---- what is claimed

-- how a state's number is compared with the weighted mean of its targets
pub data Kind : Type 0 where
  -- it is at least that, and a goal state has 2 ^ w
  upper : Kind
  -- it is at most that, and a goal state has 2 ^ w
  lower : Kind
  -- less what a visit of the state costs over the cap it is at least that, and a goal state has 0
  priced : List CostData → ℕ → Kind

-- what the initial state's number is compared with, multiplied out: the number times the scale with the level times 2 ^ w
pub record LimitData : Type 0 where
  pub relation : Op
  pub scale : ℕ
  pub level : ℕ

-- What a vector claims. The targets' numbers are its own, or those of one step less; the rows are those that are picked, or each one; it has ranks and a rate, or none; and the initial state's number has a limit, or is free.
pub record ClaimData : Type 0 where
  pub kind : Kind
  pub numbers : List ℤ
  pub targets : List ℤ
  pub picks : Option (List ℕ)
  pub ranking : Option RejectData
  pub limit : Option LimitData

-- ---- the limits

-- the lower side of a bound, as the comparison separates its sides
abbrev pub low : Op → Bound → LimitData
low op bound = record { relation = if is_closed op then AtMost else Below; scale = bound.den; level = bound.num }

-- its upper side
abbrev pub high : Op → Bound → LimitData
high op bound = record { relation = if is_closed op then Above else AtLeast; scale = bound.den; level = bound.num }

-- at most the budget
abbrev pub within_budget : BudgetData → ℕ → LimitData
within_budget budget cap = record { relation = AtMost; scale = cap * budget.den; level = budget.num }

-- ---- the kinds

-- an upper vector for one scheduler, with its choices
abbrev pub upper_one : Op → Bound → List ℤ → List ℕ → ClaimData
upper_one op bound x picks = record { kind = upper; numbers = x; targets = x; picks = Some picks; ranking = None; limit = Some (low op bound) }

-- a lower vector for every scheduler, with its ranks
abbrev pub lower_all : Op → Bound → RejectData → ClaimData
lower_all op bound r = record { kind = lower; numbers = r.numbers; targets = r.numbers; picks = None; ranking = Some r; limit = Some (high op bound) }

-- the limit of the last step, at which a bound is given
abbrev pub last : (Op → Bound → LimitData) → Option Bound → Option LimitData
last side None = None
last side (Some bound) = Some (side AtMost bound)

-- an upper vector of one step more than x
abbrev pub upper_step : Option Bound → List ℤ → List ℤ → ClaimData
upper_step bound x z = record { kind = upper; numbers = z; targets = x; picks = None; ranking = None; limit = last low bound }

-- a lower vector of one step more than y, with its choices
abbrev pub lower_step : Option Bound → List ℤ → List ℤ → List ℕ → ClaimData
lower_step bound y z picks = record { kind = lower; numbers = z; targets = y; picks = Some picks; ranking = None; limit = last high bound }

-- a priced vector
abbrev pub cost : List CostData → ℕ → BudgetData → List ℤ → ClaimData
cost costs cap budget z = record { kind = priced costs cap; numbers = z; targets = z; picks = None; ranking = None; limit = Some (within_budget budget cap) }

-- ---- what is tested

-- the number of goal states
abbrev pub goal_number : ℕ → Kind → ℤ
goal_number w upper = pos (2 ^ w)
goal_number w lower = pos (2 ^ w)
goal_number w (priced costs cap) = pos 0

-- a state's number keeps to its side of a weighted sum over the whole
abbrev pub KeepsSide : ℕ → Kind → ℕ → ℤ → ℤ → ℤ → Type 0
KeepsSide w upper s n sum whole = sum ≤ℤ (n *ℤ whole)
KeepsSide w lower s n sum whole = (n *ℤ whole) ≤ℤ sum
KeepsSide w (priced costs cap) s n sum whole = sum ≤ℤ ((n -ℤ price_over w costs cap s) *ℤ whole)

-- so it does at that corner of the row
abbrev pub IsMet : CaseData → Spans → ClaimData → ℕ → ℕ → ℕ → Type 0
IsMet k spans c s a corner = KeepsSide k.w c.kind s (number c.numbers s) (row_value k spans s a c.targets corner) (row_whole k s a)

-- that corner of the row passes: the state's number keeps to its side, and where there are ranks, enough weight leads to lower ones
pub record PassesCorner (k : CaseData) (spans : Spans) (c : ClaimData) (s a corner : ℕ) : Type 0 where
  pub met : IsMet k spans c s a corner
  pub fast : IfSome c.ranking (λ r. IsFast k spans r s a corner)

-- so does each corner of the row
abbrev pub PassesRow : CaseData → Spans → ClaimData → ℕ → ℕ → Type 0
PassesRow k spans c s a = (corner : ℕ) → corner < corner_count k s a → PassesCorner k spans c s a corner

-- the row is one of those that are tested of the state: the picked one, or each
abbrev pub IsTested : CaseData → Option (List ℕ) → ℕ → ℕ → Type 0
IsTested k None s a = a < length (choices k.model s)
IsTested k (Some picks) s a = a ≡ mark picks s

-- there are ranks, and the state has none
abbrev pub lacks_rank : Option RejectData → ℕ → Bool
lacks_rank None s = false
lacks_rank (Some r) s = not (nat_lt (mark r.ranks s) unmarked)

-- what a state is tested for: a goal state's number is given, that of a state without rank is 0, and of any other state each row that is tested passes
pub record PassesState (k : CaseData) (spans : Spans) (c : ClaimData) (s : ℕ) : Type 0 where
  pub goal : is_goal k.model s ≡ true → number c.numbers s ≡ goal_number k.w c.kind
  pub unranked : is_goal k.model s ≡ false → lacks_rank c.ranking s ≡ true → number c.numbers s ≡ pos 0
  pub rows : is_goal k.model s ≡ false → lacks_rank c.ranking s ≡ false → (a : ℕ) → IsTested k c.picks s a → PassesRow k spans c s a

-- every state before that one passes
abbrev pub PassBefore : CaseData → Spans → ClaimData → ℕ → Type 0
PassBefore k spans c s = (t : ℕ) → t < s → PassesState k spans c t

-- one number stands in that relation to another
abbrev pub Stands : Op → ℤ → ℤ → Type 0
Stands AtMost left right = left ≤ℤ right
Stands Below left right = left <ℤ right
Stands AtLeast left right = right ≤ℤ left
Stands Above left right = right <ℤ left

-- a number over 2 ^ w keeps to the limit
abbrev pub KeepsTo : ℕ → ℤ → LimitData → Type 0
KeepsTo w z limit = Stands limit.relation (z *ℤ pos limit.scale) (pos limit.level *ℤ pos (2 ^ w))

-- the vector passes: each state does, and the initial state's number keeps to the limit, where there is one
pub record Passes (k : CaseData) (spans : Spans) (c : ClaimData) : Type 0 where
  pub states : PassBefore k spans c (length k.model.states)
  pub limit : IfSome c.limit (KeepsTo k.w (number c.numbers k.model.init))
