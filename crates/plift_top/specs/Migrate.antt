-- What `migrate` answers, and what stands after it.
use Rattle.std.specs.Prelude.{◌≡◌, ◌⊎◌, ℕ, List, ◌++◌, true, Ok, Err, Result, ⊤}
use Rattle.std.specs.Io.KnownBytes.{Appends}
use Rattle.lift_base.specs.Outside.{AppendsFront}
use Rattle.line_text.specs.declared.error.TextCause.TheVariants.{Version}
use Rattle.cert_text.specs.Report.{line, version_words}
use Rattle.cert_text.specs.Migrated.{MigratesTo}
use Rattle.cert_check.specs.Sound.{IsSoundFile}
use Rattle.cert_check.specs.Answer.{Answers}
use Rattle.cert_check.specs.declared.summary.Summary.{Summary}
use Rattle.cert_check.specs.declared.error.CheckError.{CheckError}
use Rattle.cert_check.specs.declared.error.CheckError.TheVariants.{Text, Fault, TooLong, Memory}
use Rattle.cert_check.specs.Source.{file_limit}
use Rattle.plift_top.specs.Reads.{WasRead, Command}
use Rattle.plift_top.specs.declared.refusal.Refusal.{Refusal}
use Rattle.plift_top.specs.declared.refusal.Refusal.TheVariants as refusal

-- ---- what is read

-- a sound file of the first version, with so many leaves
pub record IsSoundFirst (bytes : List ℕ) (leaves : Summary) : Type 0 where
  pub file : IsSoundFile bytes leaves
  pub first : leaves.version ≡ 1

-- the bytes are no sound file of the first version
abbrev pub IsUnsoundFirst : List ℕ → Type 0
IsUnsoundFirst bytes = (leaves : Summary) → IsSoundFirst bytes leaves → ⊥

-- the first line is that of the second version
abbrev pub IsSecond : List ℕ → Type 0
IsSecond bytes = (rest : List ℕ) × (bytes ≡ line (version_words true) ++ rest)

-- Why bytes aren't migrated: their first line is that of the second version, which is told as a fault of the version; or it isn't, and this is their first fault.
abbrev pub IsRefusedFirst : CheckError → List ℕ → Type 0
IsRefusedFirst error bytes = (IsSecond bytes × (error ≡ Text (record { line = 1; cause = Version }))) ⊎ ((IsSecond bytes → ⊥) × Answers bytes (Err error))

-- what a check answers that takes the first version alone; of want of memory nothing is asked
abbrev pub ChecksFirst : List ℕ → Result Summary CheckError → Type 0
ChecksFirst bytes (Ok leaves) = IsSoundFirst bytes leaves
ChecksFirst bytes (Err Memory) = ⊤
ChecksFirst bytes (Err Fault) = ⊥
ChecksFirst bytes (Err TooLong) = ⊥
ChecksFirst bytes (Err error) = IsRefusedFirst error bytes

-- ---- what is written

-- The bytes are a sound file of the first version, and a sink took this of the text that tells the same report in the second, which is a sound file with the same leaves.
pub record IsMigrated (Took : List ℕ → Type 0) (bytes : List ℕ) : Type 0 where
  pub leaves : Summary
  pub sound : IsSoundFirst bytes leaves
  pub new : List ℕ
  pub same : MigratesTo bytes new
  pub file : IsSoundFile new (record leaves { version = 2 })
  pub took : Took new

-- why a text isn't migrated
abbrev pub RefusesFirst : Refusal → List ℕ → Type 0
RefusesFirst (refusal.Unsound error) bytes = IsRefusedFirst error bytes
RefusesFirst _ bytes = ⊥

-- the command that migrates a report: the text of the second version is written
abbrev pub migrating : Command
migrating = record { limit = file_limit; Done = λ old new. IsMigrated (Appends old new); CutOff = λ old new. IsMigrated (AppendsFront old new); Refuses = RefusesFirst; Knows = WasRead }
