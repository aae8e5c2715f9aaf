-- The tests of a rejecting certificate, and the first that fails. States are tested in ascending order, and so are the corners of the row that a state picks, at each of which the mean is tested before the rate. The bound comes last.
use Rattle.std.specs.Prelude.{◌≡◌, ◌≢◌, ◌^◌, ◌<◌, ◌≤◌, ◌⊎◌, ℕ, true, false, ℤ, pos, ◌*ℤ◌, ◌≤ℤ◌, ◌<ℤ◌, length}
use Rattle.lift_grid.specs.Rectangle.{Spans}
use Rattle.lift_grid.specs.Tree.{RejectData}
use Rattle.lift_model.specs.Model.{is_goal, choices, row_at}
use Rattle.corner_lift.specs.Corner.{corner_sum}
use Rattle.corner_lift.specs.Case.{CaseData, number, row_value, row_whole, corner_count}
use Rattle.corner_lift.specs.Certificate.{AreNumbers, unmarked, mark, ranked_below, most_rate}
use Rattle.lift_cert.specs.Miss.{IsGoalMiss}
use Rattle.lift_cert.specs.declared.bound.Bound.{Bound}
use Rattle.lift_cert.specs.declared.miss.Miss.{Miss}
use Rattle.lift_cert.specs.declared.miss.Miss.TheVariants.{Goal, Unranked, Row, Rate, Limit}

-- ---- the form that is asked for

-- the greatest k, by our own profile: a rank for each state that a model may have
abbrev pub most_height : ℕ
most_height = 65536

-- the state has neither a rank nor a chosen row
abbrev pub IsUnmarked : RejectData → ℕ → Type 0
IsUnmarked r s = (mark r.ranks s ≡ unmarked) × (mark r.picks s ≡ unmarked)

-- the state has a rank from 1 to k, and choices one of its choices
pub record IsMarked (k : CaseData) (r : RejectData) (s : ℕ) : Type 0 where
  pub rank : (1 ≤ mark r.ranks s) × (mark r.ranks s ≤ r.k)
  pub pick : mark r.picks s < length (choices k.model s)

-- What may be tested: one number from 0 to 2 ^ w, one chosen row and one rank for each state; rank 0 and no chosen row on goal states, and elsewhere a rank from 1 to k and a chosen row, or neither.
pub record HasRejectForm (k : CaseData) (r : RejectData) : Type 0 where
  pub numbers : AreNumbers k r.numbers
  pub sizes : (length r.picks ≡ length k.model.states) × (length r.ranks ≡ length k.model.states)
  pub bounds : (r.e ≤ most_rate) × (1 ≤ r.k) × (r.k ≤ most_height)
  pub goal : (s : ℕ) → is_goal k.model s ≡ true → (mark r.ranks s ≡ 0) × (mark r.picks s ≡ unmarked)
  pub others : (s : ℕ) → is_goal k.model s ≡ false → IsUnmarked r s ⊎ IsMarked k r s

-- ---- what is tested

-- at that corner of the row the weighted mean of the numbers is at least the state's number
abbrev pub IsSupported : CaseData → Spans → RejectData → ℕ → ℕ → ℕ → Type 0
IsSupported k spans r s a c = (number r.numbers s *ℤ row_whole k s a) ≤ℤ row_value k spans s a r.numbers c

-- the weight of the choice, at that corner of its row, into states of lower rank than this one
abbrev pub weight_below : CaseData → Spans → RejectData → ℕ → ℕ → ℕ → ℤ
weight_below k spans r s a c = corner_sum k.d spans (row_at k.model s a) c (ranked_below (mark r.ranks) (mark r.ranks s))

-- at that corner this weight, times 2 ^ e, is at least the whole
abbrev pub IsFast : CaseData → Spans → RejectData → ℕ → ℕ → ℕ → Type 0
IsFast k spans r s a c = row_whole k s a ≤ℤ (weight_below k spans r s a c *ℤ pos (2 ^ r.e))

-- that corner of the row passes
pub record IsHeldCorner (k : CaseData) (spans : Spans) (r : RejectData) (s a c : ℕ) : Type 0 where
  pub mean : IsSupported k spans r s a c
  pub rate : IsFast k spans r s a c

-- so does each corner of the row
abbrev pub IsHeldRow : CaseData → Spans → RejectData → ℕ → ℕ → Type 0
IsHeldRow k spans r s a = (c : ℕ) → c < corner_count k s a → IsHeldCorner k spans r s a c

-- what a state is tested for: a goal state's number is 2 ^ w, that of a state without rank is 0, and any other state is held at each corner of the row that it picks
pub record IsHeldState (k : CaseData) (spans : Spans) (r : RejectData) (s : ℕ) : Type 0 where
  pub goal : is_goal k.model s ≡ true → number r.numbers s ≡ pos (2 ^ k.w)
  pub unranked : is_goal k.model s ≡ false → mark r.ranks s ≡ unmarked → number r.numbers s ≡ pos 0
  pub row : is_goal k.model s ≡ false → mark r.ranks s < unmarked → IsHeldRow k spans r s (mark r.picks s)

-- every state before that one passes
abbrev pub AreHeldBefore : CaseData → Spans → RejectData → ℕ → Type 0
AreHeldBefore k spans r s = (t : ℕ) → t < s → IsHeldState k spans r t

-- ---- what fails

-- a state without rank whose number isn't 0
pub record IsUnrankedMiss (k : CaseData) (r : RejectData) (s : ℕ) (value : ℤ) : Type 0 where
  pub state : s < length k.model.states
  pub inner : is_goal k.model s ≡ false
  pub none : mark r.ranks s ≡ unmarked
  pub value_is : value ≡ number r.numbers s
  pub wrong : value ≢ pos 0

-- a corner of the row that a ranked state picks, whose earlier corners pass
pub record IsAtCorner (k : CaseData) (spans : Spans) (r : RejectData) (s a c : ℕ) : Type 0 where
  pub state : s < length k.model.states
  pub inner : is_goal k.model s ≡ false
  pub ranked : mark r.ranks s < unmarked
  pub pick : a ≡ mark r.picks s
  pub choice : a < length (choices k.model s)
  pub corner : c < corner_count k s a
  pub corners : (b : ℕ) → b < c → IsHeldCorner k spans r s a b

-- there the state's number times the whole, left, is above the weighted sum, right
pub record IsMeanMiss (k : CaseData) (spans : Spans) (r : RejectData) (s a c : ℕ) (left right : ℤ) : Type 0 where
  pub at : IsAtCorner k spans r s a c
  pub left_is : left ≡ number r.numbers s *ℤ row_whole k s a
  pub right_is : right ≡ row_value k spans s a r.numbers c
  pub wrong : right <ℤ left

-- there the mean passes, and the weight into lower ranks, times 2 ^ e, is below the whole
pub record IsRateMiss (k : CaseData) (spans : Spans) (r : RejectData) (s a c : ℕ) (weight : ℤ) (e : ℕ) (whole : ℤ) : Type 0 where
  pub at : IsAtCorner k spans r s a c
  pub mean : IsSupported k spans r s a c
  pub weight_is : weight ≡ weight_below k spans r s a c
  pub e_is : e ≡ r.e
  pub whole_is : whole ≡ row_whole k s a
  pub wrong : (weight *ℤ pos (2 ^ e)) <ℤ whole

-- the initial state's number over 2 ^ w, times both denominators left, isn't above the bound, right
pub record IsUnderMiss (k : CaseData) (bound : Bound) (r : RejectData) (left right : ℤ) : Type 0 where
  pub left_is : left ≡ number r.numbers k.model.init *ℤ pos bound.den
  pub right_is : right ≡ pos bound.num *ℤ pos (2 ^ k.w)
  pub wrong : left ≤ℤ right

-- the first test that fails of those that a rejecting certificate passes: every state before passes, and the bound's test comes behind all states
abbrev pub IsFirstRejectMiss : CaseData → Spans → Bound → RejectData → Miss → Type 0
IsFirstRejectMiss k spans bound r (Goal s value) = AreHeldBefore k spans r s × IsGoalMiss k r.numbers s value
IsFirstRejectMiss k spans bound r (Unranked s value) = AreHeldBefore k spans r s × IsUnrankedMiss k r s value
IsFirstRejectMiss k spans bound r (Row s a c left right) = AreHeldBefore k spans r s × IsMeanMiss k spans r s a c left right
IsFirstRejectMiss k spans bound r (Rate s a c weight e whole) = AreHeldBefore k spans r s × IsRateMiss k spans r s a c weight e whole
IsFirstRejectMiss k spans bound r (Limit left right) = AreHeldBefore k spans r (length k.model.states) × IsUnderMiss k bound r left right

-- ---- for the contracts of single tests

-- a miss of that state
abbrev pub IsHeldMiss : CaseData → Spans → RejectData → ℕ → Miss → Type 0
IsHeldMiss k spans r s (Goal t value) = (t ≡ s) × IsGoalMiss k r.numbers s value
IsHeldMiss k spans r s (Unranked t value) = (t ≡ s) × IsUnrankedMiss k r s value
IsHeldMiss k spans r s (Row t a c left right) = (t ≡ s) × IsMeanMiss k spans r s a c left right
IsHeldMiss k spans r s (Rate t a c weight e whole) = (t ≡ s) × IsRateMiss k spans r s a c weight e whole
IsHeldMiss k spans r s (Limit left right) = ⊥

-- a miss of the bound
abbrev pub IsUnderBoundMiss : CaseData → Bound → RejectData → Miss → Type 0
IsUnderBoundMiss k bound r (Limit left right) = IsUnderMiss k bound r left right
IsUnderBoundMiss k bound r (Goal s value) = ⊥
IsUnderBoundMiss k bound r (Unranked s value) = ⊥
IsUnderBoundMiss k bound r (Row s a c left right) = ⊥
IsUnderBoundMiss k bound r (Rate s a c weight e whole) = ⊥
