-- The head of a report: what stands before its nodes.
use Rattle.std.specs.Prelude.{ℕ, pos, zero, suc, ◌+◌, ◌-◌, Bool, true, false, List, [], ◌∷◌, length, codes, ◌&&◌, Option, Some, None, is_some, if◌then◌else◌, Ok}
use Rattle.std.specs.Option.{unwrap_or}
use Rattle.std.specs.List.{sum_by}
use Rattle.std.specs.Str.{bytes_eq}
use Rattle.std.specs.Fmt.{decimal}
use Rattle.lift_model.specs.declared.kind.Kind.{Kind}
use Rattle.lift_model.specs.declared.kind.Kind.TheVariants.{Dtmc, Mdp}
use Rattle.lift_model.specs.declared.entry.Entry.{Entry}
use Rattle.lift_model.specs.Model.{ModelData}
use Rattle.lift_model.specs.Valid.{most_states, most_choices, most_transitions, common_limit}
use Rattle.lift_frac.specs.Limits.{size_limit}
use Rattle.lift_grid.specs.Region.{Region}
use Rattle.corner_lift.specs.Case.{CaseData, case_of, most_halvings, most_precision}
use Rattle.lift_cert.specs.declared.bound.Bound.{Bound}
use Rattle.line_text.specs.Words.{words}
use Rattle.line_text.specs.Reading.{◌>>=◌, Reader, due, line_at}
use Rattle.cert_text.specs.Lines.{version_of, kind_of, parameters_of, goal_of, row_of, entry_of, bound_of, box_of}
use Rattle.line_text.specs.Parts.{number_in}

-- what a report says before its nodes: what is asked at its greatest precision, the least precision of its range, which the second version tells, and the bound
pub record HeadData : Type 0 where
  pub asked : CaseData
  pub from : Option ℕ
  pub bound : Bound

-- the least precision of a report's range
abbrev pub least_precision : HeadData → ℕ
least_precision h = unwrap_or h.from h.asked.w

-- the number of a report's version: the second one tells a range
abbrev pub version : HeadData → ℕ
version h = if is_some h.from then 2 else 1

-- the case at another precision
abbrev pub case_at : ℕ → CaseData → CaseData
case_at u k = record k { w = u }

-- the head of a report whose greatest precision is that one
abbrev pub at_precision : ℕ → HeadData → HeadData
at_precision u h = record h { asked = case_at u h.asked }

-- so many entries, whose targets differ from those before them
unfoldable pub entries_at : ℕ → ℕ → List ℕ → ℕ → Reader (List Entry)
entries_at states parameters before zero c = Ok ([], c)
entries_at states parameters before (suc count) c = do
  entry ← line_at (entry_of states parameters before) c
  entries ← entries_at states parameters (entry.0.target ∷ before) count entry.1
  Ok (entry.0 ∷ entries.0, entries.1)

-- the row of state s and choice a, where so many choices and transitions are left
unfoldable pub row_at : ℕ → ℕ → ℕ → ℕ → ℕ → ℕ → Reader (List Entry)
row_at states parameters choices transitions s a c = do
  count ← line_at (row_of s a choices transitions) c
  entries_at states parameters [] count.0 count.1

-- whether the line with these words is one of a row of state s
abbrev pub is_row_of : ℕ → List (List ℕ) → Bool
is_row_of s [] = false
is_row_of s (key ∷ []) = false
is_row_of s (key ∷ state ∷ words) = bytes_eq key (codes "row") && bytes_eq state (decimal s)

-- The rows of state s from choice a on, where so many choices and transitions are left: as long as the line that is due is one of a row of state s. With no choice left one more row is refused.
unfoldable pub further_at : ℕ → ℕ → ℕ → ℕ → ℕ → ℕ → Reader (List (List Entry))
further_at states parameters zero transitions s a c =
    due c >>= λ l. elim (is_row_of s (words l.0)) [
      | true ↦ line_at (row_of s a 0 transitions) c >>= λ x. Ok ([], x.1)
      | false ↦ Ok ([], c)
    ]
further_at states parameters (suc choices) transitions s a c =
    due c >>= λ l. elim (is_row_of s (words l.0)) [
      | true ↦ row_at states parameters (suc choices) transitions s a c >>= λ row.
          further_at states parameters choices (transitions - length row.0) s (a + 1) row.1 >>= λ rows.
          Ok (row.0 ∷ rows.0, rows.1)
      | false ↦ Ok ([], c)
    ]

-- the rows of state s behind its first: none in a chain
unfoldable pub behind_first : Kind → ℕ → ℕ → ℕ → ℕ → ℕ → Reader (List (List Entry))
behind_first Dtmc states parameters choices transitions s c = Ok ([], c)
behind_first Mdp states parameters choices transitions s c = further_at states parameters choices transitions s 1 c

-- the rows of state s: one for a chain, and for a decision process one or more
unfoldable pub state_at : Kind → ℕ → ℕ → ℕ → ℕ → ℕ → Reader (List (List Entry))
state_at kind states parameters choices transitions s c = do
  row ← row_at states parameters choices transitions s 0 c
  rows ← behind_first kind states parameters (choices - 1) (transitions - length row.0) s row.1
  Ok (row.0 ∷ rows.0, rows.1)

-- the rows of so many states from s on
unfoldable pub states_at : Kind → ℕ → ℕ → ℕ → ℕ → ℕ → ℕ → Reader (List (List (List Entry)))
states_at kind states parameters zero choices transitions s c = Ok ([], c)
states_at kind states parameters (suc left) choices transitions s c = do
  rows ← state_at kind states parameters choices transitions s c
  others ← states_at kind states parameters left (choices - length rows.0) (transitions - sum_by length rows.0) (s + 1) rows.1
  Ok (rows.0 ∷ others.0, others.1)

-- the line `from` behind that of the greatest precision, in the second version
unfoldable pub from_at : Bool → ℕ → Reader (Option ℕ)
from_at false w c = Ok (None, c)
from_at true w c = line_at (number_in (codes "from") 1 (w + 1)) c >>= λ v. Ok (Some v.0, v.1)

-- the head, line by line
unfoldable pub head_at : Reader HeadData
head_at c = do
  version ← line_at version_of c
  kind ← line_at kind_of version.1
  names ← line_at parameters_of kind.1
  common ← line_at (number_in (codes "common") 1 common_limit) names.1
  states ← line_at (number_in (codes "states") 1 (most_states + 1)) common.1
  init ← line_at (number_in (codes "init") 0 states.0) states.1
  goal ← line_at (goal_of states.0) init.1
  rows ← states_at kind.0 states.0 (length names.0) states.0 most_choices most_transitions 0 goal.1
  bound ← line_at bound_of rows.1
  w ← line_at (number_in (codes "precision") 1 (most_precision + 1)) bound.1
  from ← from_at version.0 w.0 w.1
  depth ← line_at (number_in (codes "depth") 0 (most_halvings + 1)) from.1
  grid ← line_at (number_in (codes "grid") 1 size_limit) depth.1
  root ← line_at (box_of (length names.0) depth.0) grid.1
  let model : ModelData = record { kind = kind.0; common = pos common.0; names = names.0; goal = goal.0; init = init.0; states = rows.0 }
  let region : Region = record { d = pos grid.0; depth = depth.0; spans = root.0 }
  Ok (record { asked = case_of model region w.0; from = from.0; bound = bound.0 }, root.1)
