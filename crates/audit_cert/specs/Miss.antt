-- The first test that a vector fails. States are tested in ascending order, and so are the rows that are tested of a state, and a row's corners, at each of which the mean is tested before the rate. The limit comes last.
use Rattle.std.specs.Prelude.{◌≡◌, ◌≢◌, ℕ, ◌^◌, ◌<◌, true, false, ℤ, pos, negsuc, ◌-ℤ◌, ◌*ℤ◌, ◌<ℤ◌, int_le, Option, Some, None, length, if◌then◌else◌}
use Rattle.lift_grid.specs.Rectangle.{Spans}
use Rattle.lift_grid.specs.Tree.{RejectData}
use Rattle.lift_model.specs.Model.{is_goal, choices}
use Rattle.corner_lift.specs.Case.{CaseData, number, row_value, row_whole, corner_count}
use Rattle.lift_cert.specs.RejectMiss.{weight_below}
use Rattle.lift_cert.specs.declared.miss.Miss.{Miss}
use Rattle.lift_cert.specs.declared.miss.Miss.TheVariants.{Goal, Unranked, Row, Rate, Limit}
use Rattle.lift_cost.specs.Certificate.{price_over}
use Rattle.audit_cert.specs.Claim.{Kind, LimitData, ClaimData, goal_number, IsMet, PassesCorner, PassesRow, IsTested, lacks_rank, PassBefore, KeepsTo}
use Rattle.audit_cert.specs.Claim.Kind.{upper, lower, priced}

-- ---- what is told

-- what is left of a state's number when its price is paid; -1 where the price is above it, so that what is told has few digits
abbrev pub left_over : ℕ → Kind → ℕ → ℤ → ℤ
left_over w upper s n = n
left_over w lower s n = n
left_over w (priced costs cap) s n = let price = price_over w costs cap s in if int_le price n then n -ℤ price else negsuc 0

-- of the sum and the product, the one that is to be at most the other
abbrev pub lesser : Kind → ℤ → ℤ → ℤ
lesser upper sum product = sum
lesser lower sum product = product
lesser (priced costs cap) sum product = sum

-- and the other
abbrev pub greater : Kind → ℤ → ℤ → ℤ
greater upper sum product = product
greater lower sum product = sum
greater (priced costs cap) sum product = product

-- what is left of the state's number, times the whole
abbrev pub product_of : CaseData → ClaimData → ℕ → ℕ → ℤ
product_of k c s a = left_over k.w c.kind s (number c.numbers s) *ℤ row_whole k s a

-- ---- where it fails

-- a row that is tested of a state, whose earlier ones pass
pub record IsAtRow (k : CaseData) (spans : Spans) (c : ClaimData) (s a : ℕ) : Type 0 where
  pub state : s < length k.model.states
  pub inner : is_goal k.model s ≡ false
  pub ranked : lacks_rank c.ranking s ≡ false
  pub choice : a < length (choices k.model s)
  pub tested : IsTested k c.picks s a
  pub rows : (b : ℕ) → b < a → IsTested k c.picks s b → PassesRow k spans c s b

-- a corner of it, whose earlier ones pass
pub record IsAtCorner (k : CaseData) (spans : Spans) (c : ClaimData) (s a corner : ℕ) : Type 0 where
  pub row : IsAtRow k spans c s a
  pub in_range : corner < corner_count k s a
  pub corners : (b : ℕ) → b < corner → PassesCorner k spans c s a b

-- ---- what fails

-- a goal state whose number isn't the one that is given
pub record IsGoalMiss (k : CaseData) (c : ClaimData) (s : ℕ) (value : ℤ) : Type 0 where
  pub state : s < length k.model.states
  pub goal : is_goal k.model s ≡ true
  pub value_is : value ≡ number c.numbers s
  pub wrong : value ≢ goal_number k.w c.kind

-- a state without rank whose number isn't 0
pub record IsUnrankedMiss (k : CaseData) (c : ClaimData) (s : ℕ) (value : ℤ) : Type 0 where
  pub state : s < length k.model.states
  pub inner : is_goal k.model s ≡ false
  pub unranked : lacks_rank c.ranking s ≡ true
  pub value_is : value ≡ number c.numbers s
  pub wrong : value ≢ pos 0

-- a corner at which the state's number doesn't keep to its side: what should be at most the other, left, is above it, right
pub record IsRowMiss (k : CaseData) (spans : Spans) (c : ClaimData) (s a corner : ℕ) (left right : ℤ) : Type 0 where
  pub at : IsAtCorner k spans c s a corner
  pub left_is : left ≡ lesser c.kind (row_value k spans s a c.targets corner) (product_of k c s a)
  pub right_is : right ≡ greater c.kind (row_value k spans s a c.targets corner) (product_of k c s a)
  pub above : right <ℤ left
  pub wrong : IsMet k spans c s a corner → ⊥

-- at the corner the weight into lower ranks, times 2 ^ e, is below the whole
pub record IsSlow (k : CaseData) (spans : Spans) (r : RejectData) (s a corner : ℕ) (weight : ℤ) (e : ℕ) (whole : ℤ) : Type 0 where
  pub weight_is : weight ≡ weight_below k spans r s a corner
  pub e_is : e ≡ r.e
  pub whole_is : whole ≡ row_whole k s a
  pub wrong : (weight *ℤ pos (2 ^ e)) <ℤ whole

-- so it is where there are ranks
abbrev pub IsSlowBy : CaseData → Spans → Option RejectData → ℕ → ℕ → ℕ → ℤ → ℕ → ℤ → Type 0
IsSlowBy k spans None s a corner weight e whole = ⊥
IsSlowBy k spans (Some r) s a corner weight e whole = IsSlow k spans r s a corner weight e whole

-- a corner at which the mean passes and the rate doesn't
pub record IsRateMiss (k : CaseData) (spans : Spans) (c : ClaimData) (s a corner : ℕ) (weight : ℤ) (e : ℕ) (whole : ℤ) : Type 0 where
  pub at : IsAtCorner k spans c s a corner
  pub met : IsMet k spans c s a corner
  pub slow : IsSlowBy k spans c.ranking s a corner weight e whole

-- a number over 2 ^ w that doesn't keep to the limit: times its scale, left, and the level times 2 ^ w, right
pub record IsPast (w : ℕ) (z : ℤ) (limit : LimitData) (left right : ℤ) : Type 0 where
  pub left_is : left ≡ z *ℤ pos limit.scale
  pub right_is : right ≡ pos limit.level *ℤ pos (2 ^ w)
  pub wrong : KeepsTo w z limit → ⊥

-- so it is where there is a limit
abbrev pub IsPastSome : ℕ → ℤ → Option LimitData → ℤ → ℤ → Type 0
IsPastSome w z None left right = ⊥
IsPastSome w z (Some limit) left right = IsPast w z limit left right

-- a test that fails
abbrev pub IsMiss : CaseData → Spans → ClaimData → Miss → Type 0
IsMiss k spans c (Goal s value) = IsGoalMiss k c s value
IsMiss k spans c (Unranked s value) = IsUnrankedMiss k c s value
IsMiss k spans c (Row s a corner left right) = IsRowMiss k spans c s a corner left right
IsMiss k spans c (Rate s a corner weight e whole) = IsRateMiss k spans c s a corner weight e whole
IsMiss k spans c (Limit left right) = IsPastSome k.w (number c.numbers k.model.init) c.limit left right

-- the state at which it stands; that of the limit stands behind all states
abbrev pub place : CaseData → Miss → ℕ
place k (Goal s value) = s
place k (Unranked s value) = s
place k (Row s a corner left right) = s
place k (Rate s a corner weight e whole) = s
place k (Limit left right) = length k.model.states

-- the first one: every state before passes
abbrev pub IsFirstMiss : CaseData → Spans → ClaimData → Miss → Type 0
IsFirstMiss k spans c m = PassBefore k spans c (place k m) × IsMiss k spans c m
