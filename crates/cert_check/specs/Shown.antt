-- How what the code holds is seen, and what its functions answer.
use Rattle.std.specs.Prelude.{◌≡◌, ◌≢◌, ◌+◌, ◌≤◌, ⊤, ℕ, zero, suc, List, ◌++◌, Some, None, Result, Ok, Err}
use Rattle.std.specs.declared.option.Option.{Option}
use Rattle.lift_base.specs.declared.pieces.LineError.{LineError}
use Rattle.lift_base.specs.declared.pieces.LineError.TheVariants as why
use Rattle.lift_base.specs.Lines.{LinesData, MayFollow}
use Rattle.lift_grid.specs.Rectangle.{Spans}
use Rattle.lift_grid.specs.Splitting.{HasHalvings, IsHalvable, IsSplitAxis}
use Rattle.lift_grid.specs.Tree.{RejectData, lower_half, upper_half}
use Rattle.lift_model.specs.Model.{live}
use Rattle.corner_lift.specs.Case.{CaseData, IsCase, IsInside, greatest_depth}
use Rattle.lift_rows.specs.Fault.{HasSmallNumber}
use Rattle.lift_cert.specs.Miss.{HasSmallNumbers}
use Rattle.lift_cert.specs.declared.miss.Miss.{Miss}
use Rattle.line_text.specs.declared.error.TextCause.{TextCause}
use Rattle.line_text.specs.declared.error.TextCause.TheVariants as cause
use Rattle.line_text.specs.declared.error.TextError.{TextError}
use Rattle.line_text.specs.declared.error.FileError.{FileError}
use Rattle.line_text.specs.declared.error.FileError.TheVariants as file
use Rattle.line_text.specs.Follow.{Ran, place}
use Rattle.cert_check.specs.Answer.{Came, Answer}
use Rattle.cert_check.specs.declared.file.Checked.{Checked}
use Rattle.cert_check.specs.declared.summary.Summary.{Summary}
use Rattle.cert_check.specs.declared.walk.Walk.{Walk}
use Rattle.cert_check.specs.declared.error.CheckError.{CheckError}
use Rattle.cert_check.specs.declared.leaf.Rejecting.{Rejecting}
use Rattle.cert_check.specs.declared.error.CheckError.TheVariants.{Text, Rows, Missed, Depth, Axis, Fault, TooLong, Memory}

-- ---- values of the code

-- a text's fault with that cause, as it is told
abbrev pub reported_as : TextCause → TextError → CheckError
reported_as cause.Memory e = Memory
reported_as _ e = Text e

-- why no more is read of a report, as it is told
abbrev pub reported : FileError → CheckError
reported (file.Text e) = reported_as e.cause e
reported file.Fault = Fault
reported file.TooLong = TooLong

-- why no more lines are read, as it is told
abbrev pub reported_line : LineError → CheckError
reported_line why.Fault = Fault
reported_line why.TooLong = TooLong

-- how far the code has come, where these bytes follow those that are held
abbrev pub came_of : Walk → List ℕ → Came
came_of w later = record { node = w.node; place = place w.lines later; leaves = w.leaves }

-- the lines didn't fail; a line was given for each node, and two before them, and no leaf was counted twice
pub record IsInProgress (w : Walk) : Type 0 where
  pub clean : w.lines.failure ≡ None
  pub nodes : w.node + 2 ≤ w.lines.given
  pub leaves : w.leaves.accept + w.leaves.reject + w.leaves.unknown ≤ w.node

-- a rectangle inside the root that may be halved so often
pub record IsPlaced (k : CaseData) (levels : ℕ) (spans : Spans) : Type 0 where
  pub inside : IsInside k.root spans
  pub left : HasHalvings levels spans

-- ---- answers

-- what is answered is what may be answered, unless memory ran out
abbrev pub Says : {X Y : Type 0} → (X → Y) → (Result Y CheckError → Type 0) → Result X CheckError → Type 0
Says view may (Ok x) = may (Ok (view x))
Says view may (Err e) = e ≢ Memory → may (Err e)

-- what is answered of a report that was checked, by its leaves
abbrev pub leaves_in : Result Checked CheckError → Result Summary CheckError
leaves_in (Ok x) = Ok x.leaves
leaves_in (Err e) = Err e

-- the failure of the lines that an answer tells
abbrev pub failure_of : {X : Type 0} → Result X CheckError → Option LineError
failure_of (Err Fault) = Some why.Fault
failure_of (Err TooLong) = Some why.TooLong
failure_of _ = None

-- the fault is one of the file
abbrev pub IsOfFile : CheckError → Type 0
IsOfFile Fault = ⊥
IsOfFile TooLong = ⊥
IsOfFile Memory = ⊥
IsOfFile _ = ⊤

-- What is answered, seen by view, may be answered to what was left, whatever may follow the bytes that were taken of it. Of a source that failed, and where memory ran out, nothing is said.
abbrev pub Agrees : {X Y : Type 0} → (List ℕ → X → Y) → (List ℕ → Answer Y → Type 0) → LinesData → List ℕ → Result X CheckError → Type 0
Agrees view may new bytes (Ok x) = (later : List ℕ) → MayFollow new later → may (bytes ++ later) (Ok (view later x))
Agrees view may new bytes (Err e) = IsOfFile e → (later : List ℕ) → MayFollow new later → may (bytes ++ later) (Err e)

-- what a check over lines of a source comes to: bytes were taken, and what is answered may be answered
pub record Checks {S X Y : Type 0} (left : S → Option (List ℕ)) (faults : S → ℕ) (old new : LinesData) (before after : S) (view : List ℕ → X → Y) (may : List ℕ → Answer Y → Type 0) (result : Result X CheckError) : Type 0 where
  pub bytes : List ℕ
  pub ran : Ran left faults old new before after bytes (failure_of result)
  pub agrees : Agrees view may new bytes result

-- a certificate's first miss is told of the node
abbrev pub Misses : ℕ → (Miss → Type 0) → CheckError → Type 0
Misses node IsFirst e = (miss : Miss) × IsFirst miss × (e ≡ Missed node miss)

-- what is told of a split that may not stand there: that no halving is left, or else the axis
abbrev pub IsSplitReported : ℕ → ℕ → Spans → ℕ → ℕ → CheckError → Type 0
IsSplitReported live zero spans node axis e = e ≡ Depth node
IsSplitReported live (suc levels) spans node axis e = (IsSplitAxis live spans axis → ⊥) × (e ≡ Axis node)

-- what is told of a file: its numbers are small, and it is no fault of the source
abbrev pub IsReportedOfFile : CheckError → Type 0
IsReportedOfFile (Rows e) = HasSmallNumber e
IsReportedOfFile (Missed node miss) = HasSmallNumbers miss
IsReportedOfFile Fault = ⊥
IsReportedOfFile TooLong = ⊥
IsReportedOfFile _ = ⊤

-- what a rejecting leaf tells, as a certificate
abbrev pub reject_of : Rejecting → RejectData
reject_of l = record { numbers = l.y.now; picks = l.picks.now; ranks = l.ranks.now; e = l.e; k = l.k }

-- ---- where rectangles stand

-- the root may be halved as often as the greatest depth says
abbrev pub RootIsPlaced : Type 0
RootIsPlaced = (k : CaseData) → IsCase k → IsPlaced k (greatest_depth k) k.root

-- where a halving is left, a rectangle can be halved on the axis of the split rule, and both halves have one halving less
abbrev pub HalvesArePlaced : Type 0
HalvesArePlaced = (k : CaseData) (levels axis : ℕ) (spans : Spans) → IsCase k → IsPlaced k (suc levels) spans → IsSplitAxis (live k.model) spans axis
    → IsHalvable axis spans × IsPlaced k levels (lower_half axis spans) × IsPlaced k levels (upper_half axis spans)
