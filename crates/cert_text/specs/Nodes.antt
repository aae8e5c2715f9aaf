-- A node of a report: its lines, in preorder.
use Rattle.std.specs.Prelude.{ℕ, ℤ, pos, ◌+◌, ◌-◌, ◌*◌, ◌^◌, ◌==◌, ◌&&◌, not, Bool, true, false, List, [], ◌∷◌, length, map, codes, ◌++◌, Option, Some, None, Ok, if◌then◌else◌}
use Rattle.std.specs.Ordering.{int_eq}
use Rattle.std.specs.Str.{bytes_eq}
use Rattle.corner_lift.specs.Case.{number}
use Rattle.corner_lift.specs.Certificate.{unmarked}
use Rattle.line_text.specs.declared.error.TextCause.TheVariants.{Syntax}
use Rattle.lift_grid.specs.Tree.{RejectData}
use Rattle.cert_text.specs.Report.{split_line, accept_line, reject_lines, unknown_line, at_lines}
use Rattle.line_text.specs.Words.{words}
use Rattle.line_text.specs.Reading.{◌>>=◌, Reader, at, due, fault, line_at}
use Rattle.cert_text.specs.Head.{HeadData, least_precision, at_precision}
use Rattle.line_text.specs.Parts.{must, number_in}
use Rattle.cert_text.specs.Lines.{values_of, marks_of, reject_of, unknown_of, Rejected}

-- a node without its halves; a decided leaf has its precision
pub data Node : Type 0 where
  split : ℕ → Node
  accept : ℕ → List ℤ → Node
  reject : ℕ → RejectData → Node
  unknown : Node

-- whether the line begins with that word
abbrev pub begins : List ℕ → List (List ℕ) → Bool
begins key [] = false
begins key (word ∷ words) = bytes_eq word key

-- A state's chosen row and rank stand where they may: a goal state has rank 0 and no chosen row, a state without rank has no chosen row, and any other has a chosen row and a rank above 0.
abbrev pub fits_state : Bool → ℕ → ℕ → Bool
fits_state true pick rank = pick == unmarked && rank == 0
fits_state false pick rank = if rank == unmarked then pick == unmarked else not (rank == 0) && not (pick == unmarked)

-- so do those of every state
abbrev pub fit_states : List Bool → List ℕ → List ℕ → Bool
fit_states (goal ∷ goals) (pick ∷ picks) (rank ∷ ranks) = fits_state goal pick rank && fit_states goals picks ranks
fit_states [] [] [] = true
fit_states _ _ _ = false

-- what is tested of a rejecting leaf after its four lines were read
abbrev pub fits_leaf : HeadData → Rejected → List ℤ → List ℕ → List ℕ → Bool
fits_leaf h r y picks ranks =
    int_eq r.m (pos (r.e * r.k)) && (int_eq r.y (number y h.asked.model.init) && (int_eq r.z (pos (2 ^ h.asked.w)) && fit_states h.asked.model.goal picks ranks))

-- a split, whose line is due
unfoldable pub split_at : HeadData → Reader Node
split_at h c = line_at (number_in (codes "split") 0 (length h.asked.model.names)) c >>= λ axis. Ok (split axis.0, axis.1)

-- an accepting leaf, whose line is due
unfoldable pub accept_at : HeadData → Reader Node
accept_at h c = line_at (values_of (codes "accept") (length h.asked.model.states) h.asked.w) c >>= λ x. Ok (accept h.asked.w x.0, x.1)

-- a rejecting leaf behind its first line: three lines more, and then the tests of the whole leaf, which are told at the first of its four
unfoldable pub rejecting_at : HeadData → Rejected → Reader Node
rejecting_at h r c = do
  y ← line_at (values_of (codes "y") (length h.asked.model.states) h.asked.w) c
  picks ← line_at (marks_of (codes "choice") (map length h.asked.model.states)) y.1
  ranks ← line_at (marks_of (codes "rank") (map (λ _. r.k + 1) h.asked.model.states)) picks.1
  _ ← at (ranks.1.0 - 4) (must (fits_leaf h r y.0 picks.0 ranks.0) Syntax)
  Ok (reject h.asked.w (record { numbers = y.0; picks = picks.0; ranks = ranks.0; e = r.e; k = r.k }), ranks.1)

-- a rejecting leaf
unfoldable pub reject_at : HeadData → Reader Node
reject_at h c = line_at reject_of c >>= λ r. rejecting_at h r.0 r.1

-- an unknown leaf
unfoldable pub unknown_at : Reader Node
unknown_at c = line_at unknown_of c >>= λ x. Ok (unknown, x.1)

-- the node whose first line is due and has these words, in the first version
unfoldable pub node_by : HeadData → List (List ℕ) → Reader Node
node_by h words c =
    elim (begins (codes "split") words) [
      | true ↦ split_at h c
      | false ↦ elim (begins (codes "accept") words) [
        | true ↦ accept_at h c
        | false ↦ elim (begins (codes "reject") words) [
          | true ↦ reject_at h c
          | false ↦ unknown_at c
        ]
      ]
    ]

-- a decided leaf whose line is due and has these words; no other line may stand there
unfoldable pub decided_by : HeadData → List (List ℕ) → Reader Node
decided_by h words c =
    elim (begins (codes "accept") words) [
      | true ↦ accept_at h c
      | false ↦ elim (begins (codes "reject") words) [
        | true ↦ reject_at h c
        | false ↦ fault c.0 Syntax
      ]
    ]

-- a decided leaf behind the line of its precision, which is due
unfoldable pub reported_at : HeadData → Reader Node
reported_at h c = do
  u ← line_at (number_in (codes "at") (least_precision h) (h.asked.w + 1)) c
  l ← due u.1
  decided_by (at_precision u.0 h) (words l.0) u.1

-- the node whose first line is due and has these words, in the second version
unfoldable pub second_by : HeadData → List (List ℕ) → Reader Node
second_by h words c =
    elim (begins (codes "split") words) [
      | true ↦ split_at h c
      | false ↦ elim (begins (codes "at") words) [
        | true ↦ reported_at h c
        | false ↦ unknown_at c
      ]
    ]

-- the node whose first line is due, by the version
abbrev pub node_in : HeadData → Option ℕ → List (List ℕ) → Reader Node
node_in h None words c = node_by h words c
node_in h (Some v) words c = second_by h words c

-- the node whose first line is due
unfoldable pub node_at : HeadData → Reader Node
node_at h c = due c >>= λ l. node_in h h.from (words l.0) c

-- the lines of a node
abbrev pub node_lines : Option ℕ → ℕ → Node → List (List ℕ)
node_lines from init (split axis) = split_line axis ∷ []
node_lines from init (accept u x) = at_lines from u ++ accept_line x ∷ []
node_lines from init (reject u r) = at_lines from u ++ reject_lines init u r
node_lines from init unknown = unknown_line ∷ []
