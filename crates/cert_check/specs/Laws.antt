-- What holds of answers and of sound files, for who reasons about them.
use Rattle.std.specs.Prelude.{◌≡◌, ℕ, ◌+◌, ◌<◌, ◌≤◌, List, ◌++◌, length, Ok, Err, ⊤}
use Rattle.lift_grid.specs.Tree.{Tree}
use Rattle.lift_grid.specs.Tree.Tree.{split, accept, reject, unknown}
use Rattle.corner_lift.specs.Case.{IsAdmitted}
use Rattle.lift_cert.specs.RejectMiss.{most_height}
use Rattle.line_text.specs.declared.error.TextCause.TheVariants.{Truncated}
use Rattle.line_text.specs.Follow.{reported_fault}
use Rattle.cert_text.specs.Head.{HeadData}
use Rattle.cert_text.specs.Forms.{IsHead, IsPrecision}
use Rattle.cert_text.specs.Migrated.{MigratesTo}
use Rattle.cert_text.specs.Whole.{feed_count}
use Rattle.cert_check.specs.Sound.{IsSound, IsSoundTree, IsSoundFile}
use Rattle.cert_check.specs.Trust.{ReportHolds}
use Rattle.cert_check.specs.Answer.{Answer, Answers}
use Rattle.cert_check.specs.declared.summary.Summary.{Summary}
use Rattle.cert_check.specs.declared.error.CheckError.TheVariants.{Text}

-- ---- answers

-- at most one answer is given to a text
abbrev pub AnswersAreOne : Type 0
AnswersAreOne = (bytes : List ℕ) (a b : Answer Summary) → Answers bytes a → Answers bytes b → a ≡ b

-- to a sound file the numbers of its leaves are answered
abbrev pub SoundFilesPass : Type 0
SoundFilesPass = (bytes : List ℕ) (leaves : Summary) → IsSoundFile bytes leaves → Answers bytes (Ok leaves)

-- and to no other text
abbrev pub PassingFilesAreSound : Type 0
PassingFilesAreSound = (bytes : List ℕ) (leaves : Summary) → Answers bytes (Ok leaves) → IsSoundFile bytes leaves

-- every proper prefix of a sound file is refused as truncated, at the line that was due
abbrev pub PrefixesAreRefused : Type 0
PrefixesAreRefused = (front back : List ℕ) (leaves : Summary) → IsSoundFile (front ++ back) leaves → 0 < length back
    → Answers front (Err (Text (reported_fault (record { line = 1 + feed_count front; cause = Truncated }))))

-- ---- sound files

-- the leaves of a sound report tile its root, and each holds on its rectangle
abbrev pub SoundReportsHold : Type 0
SoundReportsHold = (h : HeadData) (t : Tree) → IsSound h t → ReportHolds h t

-- what a report can tell of a tree beside its certificates: decided leaves have a precision of its range, and no rank is above the greatest that may be told
abbrev pub CanBeReported : HeadData → Tree → Type 0
CanBeReported h (accept u x) = IsPrecision h u
CanBeReported h (reject u r) = IsPrecision h u × (r.k ≤ most_height)
CanBeReported h (split axis lower upper) = CanBeReported h lower × CanBeReported h upper
CanBeReported h unknown = ⊤

-- a sound tree of an admitted head makes a sound report
abbrev pub SoundTreesAreReports : Type 0
SoundTreesAreReports = (h : HeadData) (t : Tree) → IsHead h → IsAdmitted h.asked → IsSoundTree h.asked h.bound h.asked.root 0 t → CanBeReported h t → IsSound h t

-- a sound file of the first version has one of the second that tells the same report, with the same leaves
abbrev pub SoundFilesMigrate : Type 0
SoundFilesMigrate = (old : List ℕ) (leaves : Summary) → IsSoundFile old leaves → leaves.version ≡ 1 → (new : List ℕ) × MigratesTo old new × IsSoundFile new (record leaves { version = 2 })
