-- What is answered to a text: the numbers of its leaves, or its first fault. The head is read first; then rows are tested; then nodes in preorder, of which each is read before its depth is tested, and then its axis or its certificate; and last, that nothing follows.
use Rattle.std.specs.Prelude.{◌≡◌, ◌⊎◌, ℕ, zero, suc, ◌+◌, List, [], ◌∷◌, ℤ, Result, Ok, Err}
use Rattle.lift_grid.specs.Rectangle.{Spans}
use Rattle.lift_grid.specs.Splitting.{IsSplitAxis}
use Rattle.lift_grid.specs.Tree.{RejectData, lower_half, upper_half}
use Rattle.lift_model.specs.Model.{live}
use Rattle.corner_lift.specs.Case.{CaseData, IsAdmitted, greatest_depth}
use Rattle.lift_rows.specs.Fault.{IsFirstFault}
use Rattle.lift_rows.specs.declared.error.RowError.{RowError}
use Rattle.lift_cert.specs.declared.bound.Bound.{Bound}
use Rattle.lift_cert.specs.Certificate.{IsAccepting, IsRejecting}
use Rattle.lift_cert.specs.Miss.{IsFirstAcceptMiss}
use Rattle.lift_cert.specs.RejectMiss.{IsFirstRejectMiss}
use Rattle.lift_cert.specs.declared.miss.Miss.{Miss}
use Rattle.line_text.specs.Reading.{Cursor}
use Rattle.line_text.specs.declared.error.TextError.{TextError}
use Rattle.line_text.specs.Follow.{reported_fault}
use Rattle.cert_text.specs.Head.{HeadData, case_at, head_at, version}
use Rattle.cert_text.specs.Nodes.{Node, split, accept, reject, unknown, node_at}
use Rattle.cert_check.specs.declared.summary.Summary.{Summary}
use Rattle.cert_check.specs.declared.error.CheckError.{CheckError}
use Rattle.cert_check.specs.declared.error.CheckError.TheVariants.{Text, Rows, Missed, Depth, Axis, Rest}

-- ---- how far a check has come

-- the number of the next node, from 0 in preorder; the place of its first line; and the leaves that were met
pub record Came : Type 0 where
  pub node : ℕ
  pub place : Cursor
  pub leaves : Summary

-- no leaf was met of a report of that version
abbrev pub no_leaves : ℕ → Summary
no_leaves version = record { accept = 0; reject = 0; unknown = 0; version = version }

-- an accepting leaf more
abbrev pub one_accept : Summary → Summary
one_accept l = record l { accept = l.accept + 1 }

-- a rejecting leaf more
abbrev pub one_reject : Summary → Summary
one_reject l = record l { reject = l.reject + 1 }

-- an unknown leaf more
abbrev pub one_unknown : Summary → Summary
one_unknown l = record l { unknown = l.unknown + 1 }

-- behind a node, with these leaves
abbrev pub behind : Came → Cursor → Summary → Came
behind came c leaves = record { node = came.node + 1; place = c; leaves = leaves }

-- ---- steps

-- what is answered, or the first fault
abbrev pub Answer : Type 0 → Type 0
Answer A = Result A CheckError

-- a first step without fault is followed by the next one
abbrev pub GoesOn : {A B : Type 0} → (A → Answer B → Type 0) → Answer A → Answer B → Type 0
GoesOn next (Ok x) answer = next x answer
GoesOn next (Err e) answer = answer ≡ Err e

-- a step, and the next one
abbrev pub Then : {A B : Type 0} → (Answer A → Type 0) → (A → Answer B → Type 0) → Answer B → Type 0
Then {A} first next answer = (between : Answer A) × first between × GoesOn next between answer

-- ---- a node

-- an accepting leaf is counted where its certificate holds, and else the first test that it fails is told
abbrev pub AcceptEnds : CaseData → Bound → Spans → Came → List ℤ → Cursor → Answer Came → Type 0
AcceptEnds k bound spans came x c answer =
    (IsAccepting k spans bound x × (answer ≡ Ok (behind came c (one_accept came.leaves))))
    ⊎ ((miss : Miss) × IsFirstAcceptMiss k spans bound x miss × (answer ≡ Err (Missed came.node miss)))

-- so is a rejecting leaf
abbrev pub RejectEnds : CaseData → Bound → Spans → Came → RejectData → Cursor → Answer Came → Type 0
RejectEnds k bound spans came r c answer =
    (IsRejecting k spans bound r × (answer ≡ Ok (behind came c (one_reject came.leaves))))
    ⊎ ((miss : Miss) × IsFirstRejectMiss k spans bound r miss × (answer ≡ Err (Missed came.node miss)))

-- an unknown leaf is counted where no halving is left
abbrev pub UnknownEnds : ℕ → Came → Cursor → Answer Came → Type 0
UnknownEnds zero came c answer = answer ≡ Ok (behind came c (one_unknown came.leaves))
UnknownEnds (suc levels) came c answer = answer ≡ Err (Depth came.node)

-- what the nodes of a rectangle come to
abbrev pub Ending : Type 1
Ending = Spans → Came → Answer Came → Type 0

-- a split needs a halving that is left, and the axis of the split rule; then follow the nodes of both halves
abbrev pub SplitEnds : ℕ → ℕ → Ending → Spans → Came → ℕ → Cursor → Answer Came → Type 0
SplitEnds live zero halves spans came axis c answer = answer ≡ Err (Depth came.node)
SplitEnds live (suc levels) halves spans came axis c answer =
    (IsSplitAxis live spans axis × Then (halves (lower_half axis spans) (behind came c came.leaves)) (halves (upper_half axis spans)) answer)
    ⊎ ((IsSplitAxis live spans axis → ⊥) × (answer ≡ Err (Axis came.node)))

-- a node that was read; the certificate of a leaf is tested at its precision
abbrev pub NodeEnds : HeadData → ℕ → Ending → Spans → Came → Node → Cursor → Answer Came → Type 0
NodeEnds h levels halves spans came (split axis) c answer = SplitEnds (live h.asked.model) levels halves spans came axis c answer
NodeEnds h levels halves spans came (accept u x) c answer = AcceptEnds (case_at u h.asked) h.bound spans came x c answer
NodeEnds h levels halves spans came (reject u r) c answer = RejectEnds (case_at u h.asked) h.bound spans came r c answer
NodeEnds h levels halves spans came unknown c answer = UnknownEnds levels came c answer

-- a node that is due, as it is read
abbrev pub ReadEnds : HeadData → ℕ → Ending → Spans → Came → Result (Node × Cursor) TextError → Answer Came → Type 0
ReadEnds h levels halves spans came (Ok x) answer = NodeEnds h levels halves spans came x.0 x.1 answer
ReadEnds h levels halves spans came (Err e) answer = answer ≡ Err (Text (reported_fault e))

-- ---- the nodes of a rectangle, and the whole

-- the nodes of a half of a rectangle that may be halved so often
abbrev pub HalfEnds : HeadData → ℕ → Ending
HalfEnds h zero spans came answer = ⊥
HalfEnds h (suc levels) spans came answer = ReadEnds h levels (HalfEnds h levels) spans came (node_at h came.place) answer

-- the nodes of a rectangle that may be halved so often
abbrev pub TreeEnds : HeadData → ℕ → Ending
TreeEnds h levels spans came answer = ReadEnds h levels (HalfEnds h levels) spans came (node_at h came.place) answer

-- nothing follows the last node
abbrev pub rest_of : List ℕ → Summary → Answer Summary
rest_of [] leaves = Ok leaves
rest_of (b ∷ rest) leaves = Err Rest

-- behind the last node
abbrev pub RestEnds : Came → Answer Summary → Type 0
RestEnds came answer = answer ≡ rest_of came.place.1 came.leaves

-- where the nodes behind a head begin
abbrev pub start : HeadData → Cursor → Came
start h c = record { node = 0; place = c; leaves = no_leaves (version h) }

-- behind a head rows are tested, and then nodes follow
abbrev pub HeadEnds : HeadData → Cursor → Answer Summary → Type 0
HeadEnds h c answer =
    (IsAdmitted h.asked × Then (TreeEnds h (greatest_depth h.asked) h.asked.root (start h c)) RestEnds answer)
    ⊎ ((e : RowError) × IsFirstFault h.asked e × (answer ≡ Err (Rows e)))

-- a head, as it is read
abbrev pub FileEnds : Result (HeadData × Cursor) TextError → Answer Summary → Type 0
FileEnds (Ok x) answer = HeadEnds x.0 x.1 answer
FileEnds (Err e) answer = answer ≡ Err (Text (reported_fault e))

-- what is answered to a text
abbrev pub Answers : List ℕ → Answer Summary → Type 0
Answers bytes answer = FileEnds (head_at (1, bytes)) answer
