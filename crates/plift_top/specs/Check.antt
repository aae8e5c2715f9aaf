-- What `check` answers, and what stands after it.
use Rattle.std.specs.Prelude.{ℕ, List, ◌++◌, codes, Err}
use Rattle.std.specs.Fmt.{decimal}
use Rattle.std.specs.declared.option.Option.{Option}
use Rattle.std.specs.Io.KnownBytes.{Appends}
use Rattle.lift_base.specs.Outside.{AppendsFront}
use Rattle.cert_check.specs.Sound.{IsSoundFile}
use Rattle.cert_check.specs.Answer.{Answers}
use Rattle.cert_check.specs.Trust.{IsTrusted}
use Rattle.cert_check.specs.declared.summary.Summary.{Summary}
use Rattle.cert_check.specs.Source.{report_limit}
use Rattle.line_text.specs.Found.{WasFound}
use Rattle.plift_top.specs.Reads.{Command}
use Rattle.plift_top.specs.declared.refusal.Refusal.{Refusal}
use Rattle.plift_top.specs.declared.refusal.Refusal.TheVariants as refusal

-- the line of a sound file
abbrev pub sound_line : Summary → List ℕ
sound_line leaves = codes "sound accept " ++ decimal leaves.accept ++ codes " reject " ++ decimal leaves.reject ++ codes " unknown " ++ decimal leaves.unknown ++ codes "\n"

-- The bytes are a sound file whose report holds, and the line of its leaves was appended.
pub record IsFoundSound (old new : Option (List ℕ)) (bytes : List ℕ) : Type 0 where
  pub leaves : Summary
  pub trusted : IsTrusted bytes leaves
  pub line : Appends old new (sound_line leaves)

-- they are one, and a front of that line was appended
pub record IsFoundInPart (old new : Option (List ℕ)) (bytes : List ℕ) : Type 0 where
  pub leaves : Summary
  pub trusted : IsTrusted bytes leaves
  pub front : AppendsFront old new (sound_line leaves)

-- the bytes are no sound file
abbrev pub IsUnsound : List ℕ → Type 0
IsUnsound bytes = (leaves : Summary) → IsSoundFile bytes leaves → ⊥

-- why a check refuses bytes: their first fault
abbrev pub IsFaulty : Refusal → List ℕ → Type 0
IsFaulty (refusal.Unsound error) bytes = Answers bytes (Err error)
IsFaulty _ bytes = ⊥

-- The command that checks a report: the line of a sound file is written. A first fault is known whatever may follow the bytes that were taken.
abbrev pub checking : Command
checking = record { limit = report_limit; Done = IsFoundSound; CutOff = IsFoundInPart; Refuses = IsFaulty; Knows = WasFound report_limit }
