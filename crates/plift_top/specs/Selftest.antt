-- What `selftest` answers, and what stands after it.
use Rattle.std.specs.Prelude.{◌≡◌, ◌+◌, ◌*◌, ◌<◌, ◌≤◌, ℕ, List, ◌++◌, codes, length, Vec, None, Ok, Err, Result, ⊤}
use Rattle.std.specs.Fmt.{decimal}
use Rattle.std.specs.declared.alloc.Global.{Global}
use Rattle.std.specs.declared.option.Option.{Option}
use Rattle.std.specs.Io.KnownBytes.{Appends}
use Rattle.lift_base.specs.Outside.{Rose, AppendsFront}
use Rattle.lift_grid.specs.Tree.{Tree}
use Rattle.corner_lift.specs.Case.{IsCase}
use Rattle.lift_cert.specs.declared.bound.Bound.{Bound}
use Rattle.region_tree.specs.Right.{IsRightTree}
use Rattle.model_gen.specs.Ladder.{ladder_case, ladder_region_text, ladder_depth, ladder_precision}
use Rattle.cert_text.specs.Report.{report_text}
use Rattle.cert_check.specs.Sound.{IsSoundFile, leaf_counts}
use Rattle.cert_check.specs.declared.summary.Summary.{Summary}
use Rattle.cert_check.specs.Source.{file_limit}
use Rattle.plift_words.specs.Job.{VerifyData}
use Rattle.plift_words.specs.declared.query.Query.TheVariants as query
use Rattle.plift_top.specs.declared.refusal.Refusal.{Refusal}
use Rattle.plift_top.specs.declared.refusal.Refusal.TheVariants as refusal

-- ---- what is tested

-- the bound 1/2
abbrev pub one_half : Bound
one_half = record { num = 1; den = 2 }

-- what a ladder is verified for: that it is done with probability at most 1/2, over the ladder's region
abbrev pub ladder_job : VerifyData
ladder_job = record { goal = codes "done"; safe = None; reward = None; region = ladder_region_text; depth = ladder_depth; precision = ladder_precision; query = query.Whole one_half None }

-- the right tree of the ladder of so many blocks
abbrev pub IsLadderTree : ℕ → Tree → Type 0
IsLadderTree blocks tree = IsRightTree (ladder_case blocks) ladder_precision one_half tree

-- its report
abbrev pub ladder_report : ℕ → Tree → List ℕ
ladder_report blocks tree = report_text (ladder_case blocks) None one_half tree

-- the line of a ladder that was tested: its blocks, its states, and the leaves of its tree
abbrev pub tested_line : ℕ → Summary → List ℕ
tested_line blocks leaves =
    codes "selftest " ++ decimal blocks ++ codes " states " ++ decimal (2 * blocks + 2)
    ++ codes " accept " ++ decimal leaves.accept ++ codes " reject " ++ decimal leaves.reject ++ codes " unknown " ++ decimal leaves.unknown ++ codes "\n"

-- ---- what comes of it

-- the right tree of a ladder that is a case, whose report has no more bytes than a text may have
pub record IsTestedTree (blocks : ℕ) (tree : Tree) : Type 0 where
  pub case : IsCase (ladder_case blocks)
  pub right : IsLadderTree blocks tree
  pub short : length (ladder_report blocks tree) ≤ file_limit

-- the report of a ladder has more bytes than a text may have
abbrev pub HasLongReport : ℕ → Type 0
HasLongReport blocks = (tree : Tree) → IsLadderTree blocks tree → file_limit < length (ladder_report blocks tree)

-- the bytes are the report of a ladder's right tree, and a sound file
pub record IsLadderReport (blocks : ℕ) (bytes : List ℕ) : Type 0 where
  pub tree : Tree
  pub tested : IsTestedTree blocks tree
  pub report : bytes ≡ ladder_report blocks tree
  pub sound : IsSoundFile bytes (leaf_counts 1 tree)

-- bytes are given back where they are no more than the limit, and else told as too long
abbrev pub GivesWithin : ℕ → Vec ℕ Global → Result (Vec ℕ Global) Refusal → Type 0
GivesWithin limit bytes (Ok same) = (same ≡ bytes) × (length bytes.items ≤ limit)
GivesWithin limit bytes (Err refusal.TooLong) = limit < length bytes.items
GivesWithin limit bytes (Err _) = ⊥

-- a ladder's report in memory, or that it is too long
abbrev pub ReportsLadder : ℕ → Result (Vec ℕ Global) Refusal → Type 0
ReportsLadder blocks (Ok report) = IsLadderReport blocks report.items
ReportsLadder blocks (Err refusal.TooLong) = HasLongReport blocks
ReportsLadder blocks (Err refusal.Memory) = ⊤
ReportsLadder blocks (Err _) = ⊥

-- the line of a ladder's right tree was appended
abbrev pub TellsTested : (List ℕ → Type 0) → ℕ → Type 0
TellsTested Took blocks = (tree : Tree) × IsTestedTree blocks tree × Took (tested_line blocks (leaf_counts 1 tree))

-- What testing a ladder comes to: the line of its right tree is written, or a front of it and a fault was counted; its report is too long; or memory ran out.
abbrev pub Selftests : {K T : Type 0} → (K → Option (List ℕ)) → (K → ℕ) → ℕ → K → K → Result T Refusal → Type 0
Selftests taken counts blocks out out' (Ok _) = TellsTested (Appends (taken out) (taken out')) blocks
Selftests taken counts blocks out out' (Err refusal.WriteFault) = TellsTested (AppendsFront (taken out) (taken out')) blocks × Rose (counts out) (counts out')
Selftests taken counts blocks out out' (Err refusal.TooLong) = HasLongReport blocks × (out' ≡ out)
Selftests taken counts blocks out out' (Err refusal.Memory) = out' ≡ out
Selftests taken counts blocks out out' (Err _) = ⊥
