-- The answers of the program, and the notes that tell them.
use Rattle.std.specs.Prelude.{◌≡◌, ◌≢◌, ◌⊎◌, ◌<◌, ◌≤◌, ⊤, ℕ, List, length, String, ◌++◌, codes, Ok, Err, Result}
use Rattle.std.specs.declared.alloc.Global.{Global}
use Rattle.std.specs.Fmt.{decimal}
use Rattle.std.specs.declared.option.Option.{Option}
use Rattle.std.specs.Io.KnownBytes.{Appends}
use Rattle.lift_base.specs.Outside.{Rose, TakenHas, AppendsFront}
use Rattle.lift_grid.specs.Faults.{error_name}
use Rattle.lift_grid.specs.declared.error.RegionError.{RegionError}
use Rattle.lift_rows.specs.Number.{error_row}
use Rattle.lift_rows.specs.declared.error.RowError.{RowError}
use Rattle.drn_read.specs.Faults.{cause_name}
use Rattle.drn_read.specs.declared.error.DrnError.{DrnError}
use Rattle.plift_words.specs.Job.{JobData, VerifyData}
use Rattle.plift_words.specs.Job.JobData.{verify, check, migrate, refine, generate, selftest}
use Rattle.plift_words.specs.Given.{asked}
use Rattle.model_gen.specs.Ladder.{ladder_text}
use Rattle.plift_words.specs.declared.job.Field.{Field}
use Rattle.plift_words.specs.declared.job.Field.TheVariants as field
use Rattle.check_notes.specs.Rows.{row_text, row_fault}
use Rattle.check_notes.specs.Unsound.{unsound_note}
use Rattle.plift_top.specs.Reads.{WasRead, Reads}
use Rattle.plift_top.specs.Verify.{IsRefused, verifying}
use Rattle.plift_top.specs.Check.{checking}
use Rattle.plift_top.specs.Migrate.{IsRefusedFirst, migrating}
use Rattle.plift_top.specs.Refine.{IsRefusedDeeper, refining}
use Rattle.plift_top.specs.Selftest.{HasLongReport, Selftests}
use Rattle.cert_check.specs.Answer.{Answers}
use Rattle.cert_check.specs.Source.{NoFault, file_limit, report_limit}
use Rattle.line_text.specs.Found.{WasFound}
use Rattle.check_notes.specs.declared.status.Status.{Status}
use Rattle.check_notes.specs.declared.status.Status.TheVariants as status
use Rattle.plift_top.specs.declared.refusal.Refusal.{Refusal}
use Rattle.plift_top.specs.declared.refusal.Refusal.TheVariants as refusal

-- the status of a refusal
abbrev pub status_of : Refusal → Status
status_of (refusal.Usage f) = status.Usage
status_of (refusal.Region error) = status.Usage
status_of (refusal.Model error) = status.ModelRefused
status_of (refusal.Rows error) = status.RowsRefused
status_of refusal.NotChain = status.ModelRefused
status_of refusal.TooWide = status.RowsRefused
status_of (refusal.Unsound error) = status.NotSound
status_of refusal.ReadFault = status.ReadFault
status_of refusal.WriteFault = status.WriteFault
status_of refusal.TooLong = status.TooLong
status_of refusal.Memory = status.Memory

-- the note of a command line at fault
abbrev pub usage_note : Field → List ℕ
usage_note field.Words = codes "usage: words\n"
usage_note field.Goal = codes "usage: --goal\n"
usage_note field.Bound = codes "usage: --bound\n"
usage_note field.Depth = codes "usage: --depth\n"
usage_note field.Precision = codes "usage: --precision\n"
usage_note field.Steps = codes "usage: --steps\n"
usage_note field.From = codes "usage: --from\n"
usage_note field.Blocks = codes "usage: N\n"
usage_note field.Formula = codes "usage: --formula Syntax\n"
usage_note field.FormulaBound = codes "usage: --formula Bound\n"
usage_note field.Reward = codes "usage: --reward\n"
usage_note field.Cap = codes "usage: --cap\n"
usage_note field.Budget = codes "usage: --budget\n"

-- the note of a region at fault: the cause
abbrev pub region_note : RegionError → List ℕ
region_note error = codes "usage: --region " ++ error_name error ++ codes "\n"

-- the note of a text that stands for no model: the line and the cause
abbrev pub model_note : DrnError → List ℕ
model_note error = codes "model: line " ++ decimal error.line ++ codes ": " ++ cause_name error.cause ++ codes "\n"

-- the note of a row that isn't admitted: which row it is, and what is wrong with it
abbrev pub rows_note : RowError → List ℕ
rows_note error = codes "rows: " ++ (row_text (error_row error) ++ row_fault error) ++ codes "\n"

-- the note of a refusal: one line
abbrev pub note_of : Refusal → List ℕ
note_of (refusal.Usage f) = usage_note f
note_of (refusal.Region error) = region_note error
note_of (refusal.Model error) = model_note error
note_of (refusal.Rows error) = rows_note error
note_of (refusal.Unsound error) = unsound_note error
note_of refusal.NotChain = codes "lump: not a chain\n"
note_of refusal.TooWide = codes "lump: too wide\n"
note_of refusal.ReadFault = codes "read fault\n"
note_of refusal.WriteFault = codes "write fault\n"
note_of refusal.TooLong = codes "too long\n"
note_of refusal.Memory = codes "out of memory\n"

-- the status of an answer
abbrev pub answered : {T : Type 0} → Result T Refusal → Status
answered (Ok x) = status.Done
answered (Err why) = status_of why

-- the job that some words ask for, or their part at fault
unfoldable pub wanted : List (String Global) → Result JobData Field
wanted words = asked words

-- the words ask to verify that: by `verify`, `bounded`, `lumped`, `property` or `cost`
abbrev pub AsksToVerify : Result JobData Field → VerifyData → Type 0
AsksToVerify asked j = asked ≡ Ok (verify j)

-- the words ask to check a report
abbrev pub AsksToCheck : Result JobData Field → Type 0
AsksToCheck asked = asked ≡ Ok check

-- the words ask to migrate a report
abbrev pub AsksToMigrate : Result JobData Field → Type 0
AsksToMigrate asked = asked ≡ Ok migrate

-- the words ask to go on from a report to that depth
abbrev pub AsksToRefine : Result JobData Field → ℕ → Type 0
AsksToRefine asked depth = asked ≡ Ok (refine depth)

-- the words ask to write the ladder of so many blocks
abbrev pub AsksToGenerate : Result JobData Field → ℕ → Type 0
AsksToGenerate asked blocks = asked ≡ Ok (generate blocks)

-- the words ask to verify the ladder of so many blocks, and to check its report
abbrev pub AsksToSelftest : Result JobData Field → ℕ → Type 0
AsksToSelftest asked blocks = asked ≡ Ok (selftest blocks)

-- how many bytes may be taken for a job: a report is read line by line, and other texts whole
abbrev pub limit_of : Result JobData Field → ℕ
limit_of (Ok check) = report_limit
limit_of asked = file_limit

-- What is too long: the report of the ladder that is tested, and else the text that was read.
abbrev pub IsTooLong : Result JobData Field → Option (List ℕ) → Option (List ℕ) → Type 0
IsTooLong (Ok (selftest blocks)) old new = HasLongReport blocks
IsTooLong asked old new = TakenHas (λ bytes. limit_of asked < length bytes) old new

-- the words ask to go on from a report, and it is refused so
abbrev pub HasRefineCause : Refusal → Result JobData Field → Option (List ℕ) → Option (List ℕ) → Type 0
HasRefineCause why asked old new = (depth : ℕ) × AsksToRefine asked depth × WasRead (IsRefusedDeeper depth why) old new

-- The words, and what was read of a source, give cause for a refusal: the words are at fault in this part, or they ask to verify and the job is refused at the text that was read, or they ask to check and this is the first fault that was met, whatever may follow the bytes that were taken, or they ask to migrate or to go on from a report and the bytes that were read are refused by it. Of a fault, a text that is too long and want of memory nothing is asked here.
abbrev pub HasCause : Refusal → Result JobData Field → Option (List ℕ) → Option (List ℕ) → Type 0
HasCause (refusal.Usage f) asked old new = (asked ≡ Err f) ⊎ HasRefineCause (refusal.Usage f) asked old new
HasCause refusal.ReadFault asked old new = ⊤
HasCause refusal.WriteFault asked old new = ⊤
HasCause refusal.TooLong asked old new = ⊤
HasCause refusal.Memory asked old new = ⊤
HasCause (refusal.Unsound error) asked old new =
    (AsksToCheck asked × WasFound report_limit (λ bytes. Answers bytes (Err error)) old new)
    ⊎ ((AsksToMigrate asked × WasRead (IsRefusedFirst error) old new) ⊎ HasRefineCause (refusal.Unsound error) asked old new)
HasCause (refusal.Rows error) asked old new = ((j : VerifyData) × AsksToVerify asked j × WasRead (IsRefused j (refusal.Rows error)) old new) ⊎ HasRefineCause (refusal.Rows error) asked old new
HasCause why asked old new = (j : VerifyData) × AsksToVerify asked j × WasRead (IsRefused j why) old new

-- An answer to these words, and to what was read of a source, has this note: that of a refusal with its status, for which they give cause. A job that is done has none.
abbrev pub HasNote : Status → Result JobData Field → Option (List ℕ) → Option (List ℕ) → List ℕ → Type 0
HasNote s asked old new note = (why : Refusal) × (status_of why ≡ s) × (note_of why ≡ note) × HasCause why asked old new

-- a note was written: whole where no fault was counted, else a part of it
pub record WroteNote {E : Type 0} (taken : E → Option (List ℕ)) (faults : E → ℕ) (old new : E) (note : List ℕ) : Type 0 where
  pub part : AppendsFront (taken old) (taken new) note
  pub whole : NoFault (faults old) (faults new) → Appends (taken old) (taken new) note
  pub later : faults old ≤ faults new

-- a refusal is told by its note, and nothing else is
abbrev pub IsNoted : {E T : Type 0} → (E → Option (List ℕ)) → (E → ℕ) → E → E → Result T Refusal → Type 0
IsNoted taken faults old new (Ok x) = new ≡ old
IsNoted taken faults old new (Err why) = WroteNote taken faults old new (note_of why)

-- the refusal of a line whose part f is at fault; want of memory may come in its place where the line is plain
abbrev pub RefusesLine : {T : Type 0} → Field → Result T Refusal → Type 0
RefusesLine f (Err (refusal.Usage g)) = g ≡ f
RefusesLine f (Err refusal.Memory) = f ≢ field.Words
RefusesLine f _ = ⊥

-- writing a ladder: its text was appended, or a front of it and a fault was counted
abbrev pub Generates : {K T : Type 0} → (K → Option (List ℕ)) → (K → ℕ) → ℕ → K → K → Result T Refusal → Type 0
Generates taken counts blocks out out' (Ok _) = Appends (taken out) (taken out') (ladder_text blocks)
Generates taken counts blocks out out' (Err refusal.WriteFault) = AppendsFront (taken out) (taken out') (ladder_text blocks) × Rose (counts out) (counts out')
Generates taken counts blocks out out' (Err _) = ⊥

-- the words ask for a job and it was done or refused, or they ask for none and nothing was touched
abbrev pub Acts : {S K T : Type 0} → (S → Option (List ℕ)) → (S → ℕ) → (K → Option (List ℕ)) → (K → ℕ) → Result JobData Field → S → S → K → K → Result T Refusal → Type 0
Acts left faults taken counts (Ok (verify job)) source source' out out' result = Reads left faults taken counts (verifying job) source source' out out' result
Acts left faults taken counts (Ok (generate blocks)) source source' out out' result = Generates taken counts blocks out out' result × (source' ≡ source)
Acts left faults taken counts (Ok check) source source' out out' result = Reads left faults taken counts checking source source' out out' result
Acts left faults taken counts (Ok migrate) source source' out out' result = Reads left faults taken counts migrating source source' out out' result
Acts left faults taken counts (Ok (refine depth)) source source' out out' result = Reads left faults taken counts (refining depth) source source' out out' result
Acts left faults taken counts (Ok (selftest blocks)) source source' out out' result = Selftests taken counts blocks out out' result × (source' ≡ source)
Acts left faults taken counts (Err f) source source' out out' result = RefusesLine f result × (source' ≡ source) × (out' ≡ out)
