-- How the program ends, and what it tells.
use Rattle.std.specs.Prelude.{◌≡◌, ℕ, List, ◌++◌, codes, Result, Ok, Err, ⊤, ◌⊎◌}
use Rattle.std.specs.declared.option.Option.{Option}
use Rattle.std.specs.Fmt.{decimal}
use Rattle.check_notes.specs.Unsound.{unsound_note}
use Rattle.check_notes.specs.declared.status.Status.{Status}
use Rattle.check_notes.specs.declared.status.Status.TheVariants as status
use Rattle.lift_base.specs.Outside.{Wrote}
use Rattle.lift_base.specs.Laws.{Written}
use Rattle.view_words.specs.Words.{JobData, show, follow}
use Rattle.view_top.specs.Shown.{Shows}
use Rattle.view_follow.specs.Copied.{Copies, Tells}
use Rattle.view_follow.specs.declared.copying.CopyError.{CopyError}
use Rattle.view_follow.specs.declared.progress.Lines.{Lines}
use Rattle.view_top.specs.Refused.{copy_refusal}
use Rattle.view_words.specs.declared.job.Cause.{Cause}
use Rattle.view_words.specs.declared.job.Cause.TheVariants as cause
use Rattle.view_words.specs.declared.job.Usage.{Usage}
use Rattle.view_words.specs.declared.job.Usage.TheVariants as usage
use Rattle.view_top.specs.declared.refusal.Refusal.{Refusal}
use Rattle.view_top.specs.declared.refusal.Refusal.TheVariants as refusal

-- the status of a refusal
abbrev pub status_of : Refusal → Status
status_of (refusal.Usage fault) = status.Usage
status_of (refusal.Unsound error) = status.NotSound
status_of refusal.ReadFault = status.ReadFault
status_of refusal.WriteFault = status.WriteFault
status_of refusal.TooLong = status.TooLong
status_of refusal.Memory = status.Memory

-- the status of an answer
abbrev pub answered : {T : Type 0} → Result T Refusal → Status
answered (Ok x) = status.Done
answered (Err why) = status_of why

-- the name of what is wrong with a value
abbrev pub cause_name : Cause → List ℕ
cause_name cause.Syntax = codes "Syntax"
cause_name cause.UnknownName = codes "UnknownName"
cause_name cause.Repeated = codes "Repeated"
cause_name cause.Outside = codes "Outside"

-- the note of a command line at fault: its part and the cause
abbrev pub usage_note : Usage → List ℕ
usage_note usage.Words = codes "usage: words\n"
usage_note (usage.X why) = codes "usage: --x " ++ cause_name why ++ codes "\n"
usage_note (usage.Y why) = codes "usage: --y " ++ cause_name why ++ codes "\n"
usage_note (usage.At place why) = codes "usage: --at " ++ decimal place ++ codes " " ++ cause_name why ++ codes "\n"

-- the note of a refusal: one line
abbrev pub note_of : Refusal → List ℕ
note_of (refusal.Usage fault) = usage_note fault
note_of (refusal.Unsound error) = unsound_note error
note_of refusal.ReadFault = codes "read fault\n"
note_of refusal.WriteFault = codes "write fault\n"
note_of refusal.TooLong = codes "too long\n"
note_of refusal.Memory = codes "out of memory\n"

-- the note of a refusal was written, whole or in part; where nothing is refused, none was
abbrev pub IsNoted : {E T : Type 0} → (E → Option (List ℕ)) → (E → ℕ) → E → E → Result T Refusal → Type 0
IsNoted taken faults old new (Ok x) = new ≡ old
IsNoted taken faults old new (Err why) = (end : Written) × Wrote taken faults old new end (note_of why)

-- a line is at fault, or memory ran out
abbrev pub RefusesLine : {T : Type 0} → Usage → Result T Refusal → Type 0
RefusesLine fault (Err (refusal.Usage reported)) = reported ≡ fault
RefusesLine fault (Err refusal.Memory) = ⊤
RefusesLine fault _ = ⊥

-- the answer of a copy
abbrev pub copied : Result (Unit {0}) CopyError → Result (Unit {0}) Refusal
copied (Ok x) = Ok x
copied (Err why) = Err (copy_refusal why)

-- a report was copied, or the copy was cut off; or memory ran out before anything was read
abbrev pub Follows : {S K : Type 0} → (S → Option (List ℕ)) → (S → ℕ) → (K → Option (List ℕ)) → (K → ℕ) → S → S → K → K → Result (Unit {0}) Refusal → Type 0
Follows left faults taken counts source source' out out' result =
    ((copy : Result (Unit {0}) CopyError) × Copies left faults taken counts source source' out out' copy × (result ≡ copied copy))
    ⊎ ((result ≡ Err refusal.Memory) × (source' ≡ source) × (out' ≡ out))

-- What the words ask for was done or refused; or they ask for nothing that the program does, and nothing was touched.
abbrev pub Acts : {S K : Type 0} → (S → Option (List ℕ)) → (S → ℕ) → (K → Option (List ℕ)) → (K → ℕ) → Result JobData Usage → S → S → K → K → Result (Unit {0}) Refusal → Type 0
Acts left faults taken counts (Ok (show v)) source source' out out' result = Shows left faults taken counts v source source' out out' result
Acts left faults taken counts (Ok follow) source source' out out' result = Follows left faults taken counts source source' out out' result
Acts left faults taken counts (Err fault) source source' out out' result = RefusesLine fault result × (source' ≡ source) × (out' ≡ out)

-- what was told of a copy: its lines of progress, by the bytes that were read; or memory ran out before, and nothing was told
abbrev pub TellsOfCopy : {S E : Type 0} → (S → Option (List ℕ)) → (E → Option (List ℕ)) → (E → ℕ) → Lines → S → S → E → E → Result (Unit {0}) Refusal → Type 0
TellsOfCopy left reported misses lines source source' notes notes' result =
    ((copy : Result (Unit {0}) CopyError) × Tells left reported misses lines source source' notes notes' copy × (result ≡ copied copy))
    ⊎ ((result ≡ Err refusal.Memory) × (notes' ≡ notes))

-- What was told before the note: only the copying of a report tells of its progress.
abbrev pub TellsFirst : {S E : Type 0} → (S → Option (List ℕ)) → (E → Option (List ℕ)) → (E → ℕ) → Lines → Result JobData Usage → S → S → E → E → Result (Unit {0}) Refusal → Type 0
TellsFirst left reported misses lines (Ok follow) source source' notes notes' result = TellsOfCopy left reported misses lines source source' notes notes' result
TellsFirst left reported misses lines _ source source' notes notes' result = notes' ≡ notes

-- How a run ends: what the words ask for was done or refused, and the status and the note are those of that answer. Lines of progress may stand before the note.
pub record Ends {S K E : Type 0} (left : S → Option (List ℕ)) (faults : S → ℕ) (taken : K → Option (List ℕ)) (counts : K → ℕ) (reported : E → Option (List ℕ)) (misses : E → ℕ) (lines : Lines) (asked : Result JobData Usage) (source source' : S) (out out' : K) (notes notes' : E) (end : Status) : Type 0 where
  pub answer : Result (Unit {0}) Refusal
  pub between : E
  pub acts : Acts left faults taken counts asked source source' out out' answer
  pub status : end ≡ answered answer
  pub first : TellsFirst left reported misses lines asked source source' notes between answer
  pub noted : IsNoted reported misses between notes' answer
