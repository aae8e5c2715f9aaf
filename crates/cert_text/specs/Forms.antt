-- What the text of a report can tell: a head and nodes within the forms, ranges and limits that their reader tests.
use Rattle.std.specs.Prelude.{◌≡◌, ℕ, ◌+◌, ◌<◌, ◌≤◌, ◌^◌, ◌⊎◌, true, List, [], ◌∷◌, length, map, count_ones, All}
use Rattle.lift_poly.specs.Arithmetic as polynomial
use Rattle.lift_grid.specs.Tree.{Tree, RejectData}
use Rattle.lift_grid.specs.Tree.Tree.{split as splits, accept as accepts, reject as rejects, unknown as unknowns}
use Rattle.lift_model.specs.declared.entry.Entry.{Entry}
use Rattle.lift_model.specs.Valid.{most_name_bytes}
use Rattle.corner_lift.specs.Case.{CaseData, IsAsked, most_row_parameters}
use Rattle.corner_lift.specs.Certificate.{AreNumbers, most_rate, unmarked}
use Rattle.lift_cert.specs.Bound.{IsBound}
use Rattle.lift_cert.specs.declared.bound.Bound.{Bound}
use Rattle.lift_bytes.specs.Bytes.{is_name}
use Rattle.lift_cert.specs.RejectMiss.{most_height}
use Rattle.cert_text.specs.Lines.{most_terms}
use Rattle.cert_text.specs.Head.{HeadData, least_precision, at_precision}
use Rattle.cert_text.specs.Nodes.{Node, split, accept, reject, unknown, fit_states}

-- ---- the head

-- a parameter's name: of its form, and not long
pub record IsShortName (name : List ℕ) : Type 0 where
  pub form : is_name name ≡ true
  pub short : length name ≤ most_name_bytes

-- an entry that a line tells: it has few terms, and few parameters occur in it
pub record IsSmallEntry (entry : Entry) : Type 0 where
  pub terms : length entry.poly ≤ most_terms
  pub parameters : count_ones (polynomial.support entry.poly) ≤ most_row_parameters

-- a bound whose parts are told: a fraction in lowest terms from 0 to 1, with a small denominator
pub record IsReportedBound (bound : Bound) : Type 0 where
  pub parts : IsBound (record { num = bound.num; den = bound.den })
  pub small : bound.den < 2 ^ 32

-- a head: what may be asked to be admitted, with parameters' names of their form, short entries, and a bound
pub record IsHead (h : HeadData) : Type 0 where
  pub asked : IsAsked h.asked
  pub names : All IsShortName h.asked.model.names
  pub entries : All (All (All IsSmallEntry)) h.asked.model.states
  pub bound : IsReportedBound h.bound
  pub range : (1 ≤ least_precision h) × (least_precision h ≤ h.asked.w)

-- ---- the nodes

-- for each of the ends a mark: none, or a number below the end
abbrev pub AreMarks : List ℕ → List ℕ → Type 0
AreMarks [] [] = Unit {0}
AreMarks (end ∷ ends) (mark ∷ marks) = ((mark ≡ unmarked) ⊎ (mark < end)) × AreMarks ends marks
AreMarks _ _ = ⊥

-- what a rejecting leaf tells: a number, a chosen row or none, and a rank or none for each state, and the numbers of its rate
pub record IsReject (k : CaseData) (r : RejectData) : Type 0 where
  pub numbers : AreNumbers k r.numbers
  pub picks : AreMarks (map length k.model.states) r.picks
  pub ranks : AreMarks (map (λ _. r.k + 1) k.model.states) r.ranks
  pub rate : (r.e ≤ most_rate) × (1 ≤ r.k) × (r.k ≤ most_height)
  pub places : fit_states k.model.goal r.picks r.ranks ≡ true

-- a precision of a report's range
abbrev pub IsPrecision : HeadData → ℕ → Type 0
IsPrecision h u = (least_precision h ≤ u) × (u ≤ h.asked.w)

-- a node of a report with that head: a decided leaf has a precision of the range, and is one of a report of that precision
abbrev pub IsNode : HeadData → Node → Type 0
IsNode h (split axis) = axis < length h.asked.model.names
IsNode h (accept u x) = IsPrecision h u × AreNumbers (at_precision u h).asked x
IsNode h (reject u r) = IsPrecision h u × IsReject (at_precision u h).asked r
IsNode h unknown = Unit {0}

-- a tree, each of whose nodes is one of a report with that head
abbrev pub IsTree : HeadData → Tree → Type 0
IsTree h (splits axis lower upper) = IsNode h (split axis) × IsTree h lower × IsTree h upper
IsTree h (accepts u x) = IsNode h (accept u x)
IsTree h (rejects u r) = IsNode h (reject u r)
IsTree h unknowns = IsNode h unknown

-- a report: a head and a tree
pub record IsReport (h : HeadData) (tree : Tree) : Type 0 where
  pub head : IsHead h
  pub nodes : IsTree h tree
