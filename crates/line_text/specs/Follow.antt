-- Reading a text of a source line by line: what a reader of a text comes to over lines of a source.
use Rattle.std.specs.Prelude.{◌≡◌, ◌≢◌, ◌⊎◌, ◌+◌, ◌-◌, ◌^◌, ◌≤◌, ◌==◌, ⊤, ℕ, Bool, List, [], ◌++◌, length, min, IsTrue, Some, None, Ok, Err}
use Rattle.std.specs.declared.option.Option.{Option}
use Rattle.std.specs.declared.result.Result.{Result}
use Rattle.std.specs.Io.KnownBytes.{Consumes, IsAtEnd}
use Rattle.lift_base.specs.Outside.{Rose}
use Rattle.lift_base.specs.declared.pieces.LineError.{LineError}
use Rattle.lift_base.specs.declared.pieces.LineError.TheVariants as why
use Rattle.lift_base.specs.declared.pieces.Front.TheVariants as front
use Rattle.std.specs.List.{before_first}
use Rattle.lift_base.specs.Lines.{LinesData, MayFollow, IsFront, is_feed, passed}
use Rattle.line_text.specs.declared.error.TextCause.{TextCause}
use Rattle.line_text.specs.declared.error.TextCause.TheVariants.{Memory}
use Rattle.line_text.specs.declared.error.TextError.{TextError}
use Rattle.line_text.specs.Reading.{Cursor, Reader, due}
use Rattle.line_text.specs.declared.error.FileError.{FileError}
use Rattle.line_text.specs.declared.error.FileError.TheVariants as file

-- a text's fault, as it is told: the number of a line stays at the last value of its type
abbrev pub reported_fault : TextError → TextError
reported_fault e = record { line = min e.line (2 ^ 32 - 1); cause = e.cause }

-- the place where reading goes on, where these bytes follow those that are held
abbrev pub place : LinesData → List ℕ → Cursor
place l later = (l.given + 1, l.held ++ later)

-- These bytes were taken. The source was left alone once its end was seen; where that was seen, it is at its end.
pub record Took {S : Type 0} (left : S → Option (List ℕ)) (old new : LinesData) (before after : S) (bytes : List ℕ) : Type 0 where
  pub consumed : Consumes (left before) (left after) bytes
  pub taken : new.taken ≡ old.taken + length bytes
  pub limit : new.limit ≡ old.limit
  pub closed : IsTrue old.ended → IsTrue new.ended × (bytes ≡ []) × (after ≡ before)
  pub end : IsTrue new.ended → IsTrue old.ended ⊎ IsAtEnd (left after)

-- What is read, seen by view, or the first fault, is what the reader answers of the text, whatever may follow the bytes that were taken;
-- nothing is said where memory ran out.
abbrev pub Agrees : {X Y : Type 0} → (X → Y) → Reader Y → LinesData → LinesData → List ℕ → Result X FileError → Type 0
Agrees view read old new bytes (Ok x) =
    (later : List ℕ) → MayFollow new later → read (place old (bytes ++ later)) ≡ Ok (view x, place new later)
Agrees view read old new bytes (Err (file.Text e)) = e.cause ≢ Memory
    → (later : List ℕ) → MayFollow new later → (f : TextError) × (read (place old (bytes ++ later)) ≡ Err f) × (e ≡ reported_fault f)
Agrees view read old new bytes (Err _) = ⊤

-- why no more lines are read, after that answer
abbrev pub failure_of : {X : Type 0} → Result X FileError → Option LineError
failure_of (Err file.Fault) = Some why.Fault
failure_of (Err file.TooLong) = Some why.TooLong
failure_of _ = None

-- no fault was counted, but where the failure is Fault; it comes only where one was, or there had been one
abbrev pub CountsFault : {S : Type 0} → (S → ℕ) → Option LineError → S → S → Option LineError → Type 0
CountsFault faults earlier before after (Some why.Fault) =
    (faults before ≤ faults after) × ((earlier ≡ Some why.Fault) ⊎ Rose (faults before) (faults after))
CountsFault faults earlier before after _ = faults after ≡ faults before

-- calls took these bytes, and left that failure, or none
pub record Ran {S : Type 0} (left : S → Option (List ℕ)) (faults : S → ℕ) (old new : LinesData) (before after : S) (bytes : List ℕ) (failure : Option LineError) : Type 0 where
  pub took : Took left old new before after bytes
  pub left_with : new.failure ≡ failure
  pub fault : CountsFault faults old.failure before after failure

-- calls took these bytes and none failed, or none was made
pub record Went {S : Type 0} (left : S → Option (List ℕ)) (faults : S → ℕ) (old new : LinesData) (before after : S) (bytes : List ℕ) : Type 0 where
  pub took : Took left old new before after bytes
  pub calm : faults after ≡ faults before
  pub clean : (new.failure ≡ None) ⊎ (new ≡ old)

-- what a reader of a text comes to over lines of a source
pub record Follows {S X Y : Type 0} (left : S → Option (List ℕ)) (faults : S → ℕ) (view : X → Y) (read : Reader Y) (old new : LinesData) (before after : S) (result : Result X FileError) : Type 0 where
  pub bytes : List ℕ
  pub ran : Ran left faults old new before after bytes (failure_of result)
  pub agrees : Agrees view read old new bytes result

-- The line that is due was read on for, and is at the front; nothing was given.
pub record IsDue {S : Type 0} (left : S → Option (List ℕ)) (faults : S → ℕ) (old new : LinesData) (before after : S) : Type 0 where
  pub bytes : List ℕ
  pub ran : Ran left faults old new before after bytes None
  pub front : IsFront front.Line new.held
  pub given : new.given ≡ old.given
  pub same : (later : List ℕ) → place old (bytes ++ later) ≡ place new later
  pub line : (later : List ℕ) → due (place new later) ≡ Ok (before_first is_feed new.held, place (passed new) later)

-- What reading on for the line that is due comes to: a whole line is at the front, or there is none, as the definition of what is due has it.
abbrev pub Due : {S : Type 0} → (S → Option (List ℕ)) → (S → ℕ) → LinesData → LinesData → S → S → Result (Unit {0}) FileError → Type 0
Due left faults old new before after (Ok u) = IsDue left faults old new before after
Due left faults old new before after (Err e) = Follows {X = Unit {0}} left faults (λ _. []) due old new before after (Err e)

-- what is read of the line at the front: the line is given then, or the cause of a refusal is told of it
abbrev pub Takes : {X : Type 0} → LinesData → LinesData → Result X TextCause → Result X FileError → Type 0
Takes old new (Ok x) result = (result ≡ Ok x) × (new ≡ passed old)
Takes old new (Err cause) result = (result ≡ Err (file.Text (reported_fault (record { line = old.given + 1; cause = cause })))) × (new ≡ old)

-- Whether nothing is left was read on for; nothing was given.
pub record SeesEnd {S : Type 0} (left : S → Option (List ℕ)) (faults : S → ℕ) (old new : LinesData) (before after : S) (none : Bool) : Type 0 where
  pub bytes : List ℕ
  pub ran : Ran left faults old new before after bytes None
  pub same : (later : List ℕ) → place old (bytes ++ later) ≡ place new later
  pub rest : (later : List ℕ) → MayFollow new later → (length (new.held ++ later) == 0) ≡ none
  pub ended : IsTrue none → IsTrue new.ended

-- what reading on for the end comes to
abbrev pub Ends : {S : Type 0} → (S → Option (List ℕ)) → (S → ℕ) → LinesData → LinesData → S → S → Result Bool LineError → Type 0
Ends left faults old new before after (Ok none) = SeesEnd left faults old new before after none
Ends left faults old new before after (Err e) = (bytes : List ℕ) × Ran left faults old new before after bytes (Some e)
