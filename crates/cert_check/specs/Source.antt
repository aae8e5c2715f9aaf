-- How a check of a source ends.
use Rattle.std.specs.Prelude.{◌≡◌, ◌⊎◌, ◌^◌, ◌<◌, ◌≤◌, ⊤, ℕ, List, length, Some, Result, Ok, Err}
use Rattle.std.specs.declared.option.Option.{Option}
use Rattle.lift_base.specs.Outside.{TakenHas, Rose}
use Rattle.lift_rows.specs.Fault.{HasSmallNumber}
use Rattle.lift_cert.specs.Miss.{HasSmallNumbers}
use Rattle.line_text.specs.Found.{WasRead, WasFound}
use Rattle.cert_check.specs.Trust.{IsTrusted}
use Rattle.cert_check.specs.Answer.{Answers}
use Rattle.cert_check.specs.declared.summary.Summary.{Summary}
use Rattle.cert_check.specs.declared.error.CheckError.{CheckError}
use Rattle.cert_check.specs.declared.error.CheckError.TheVariants.{Rows, Missed, Fault, TooLong, Memory}

-- how many bytes a text may have that is read whole, by our own profile
abbrev pub file_limit : ℕ
file_limit = 2 ^ 26

-- how many bytes a report may have that is read line by line, by our own profile
abbrev pub report_limit : ℕ
report_limit = 2 ^ 32

-- What a check of a source answers: the numbers of the leaves of a sound file, which was read to its end and whose report holds; or the first fault that was met, whatever may follow the bytes that were taken. A fault of the source comes only where it was counted.
abbrev pub ChecksSource : {S : Type 0} → ℕ → (S → Option (List ℕ)) → (S → ℕ) → S → S → Result Summary CheckError → Type 0
ChecksSource limit left faults old new (Ok leaves) = WasRead limit (λ bytes. IsTrusted bytes leaves) (left old) (left new)
ChecksSource limit left faults old new (Err Fault) = Rose (faults old) (faults new)
ChecksSource limit left faults old new (Err TooLong) = TakenHas (λ bytes. limit < length bytes) (left old) (left new)
ChecksSource limit left faults old new (Err Memory) = ⊤
ChecksSource limit left faults old new (Err why) = WasFound limit (λ bytes. Answers bytes (Err why)) (left old) (left new)

-- more bytes than the limit were taken at TooLong, and only there
abbrev pub KeepsLimit : ℕ → Result Summary CheckError → Option (List ℕ) → Option (List ℕ) → Type 0
KeepsLimit limit (Err TooLong) old new = TakenHas (λ bytes. limit < length bytes) old new
KeepsLimit limit _ old new = TakenHas (λ bytes. length bytes ≤ limit) old new

-- no fault was counted
abbrev pub NoFault : ℕ → ℕ → Type 0
NoFault before now = Rose before now → ⊥

-- a fault of the source was counted at Fault, and only there
abbrev pub CountsFault : Result Summary CheckError → ℕ → ℕ → Type 0
CountsFault (Err Fault) before now = Rose before now
CountsFault _ before now = now ≡ before

-- to bytes that are told, few enough, what may be answered is answered where no fault is counted, unless memory runs out
abbrev pub AnswersReported : ℕ → Option (List ℕ) → ℕ → ℕ → Result Summary CheckError → Type 0
AnswersReported limit old before now result = (bytes : List ℕ) (answer : Result Summary CheckError) → old ≡ Some bytes → Answers bytes answer → length bytes ≤ limit → NoFault before now
    → (result ≡ answer) ⊎ (result ≡ Err Memory)

-- the numbers that are told are above -2^126 and below 2^126
abbrev pub TellsSmallNumbers : CheckError → Type 0
TellsSmallNumbers (Rows e) = HasSmallNumber e
TellsSmallNumbers (Missed node miss) = HasSmallNumbers miss
TellsSmallNumbers _ = ⊤
