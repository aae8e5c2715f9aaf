-- Laws of calls on lines of a source, for who reasons about readers over them: of calls in turn, and of how a reading ends.
use Rattle.std.specs.Prelude.{◌≡◌, ◌<◌, ◌≤◌, ℕ, List, [], ◌++◌, length, IsTrue, None, Some}
use Rattle.std.specs.declared.option.Option.{Option}
use Rattle.std.specs.Io.KnownBytes.{IsAtEnd}
use Rattle.lift_base.specs.declared.pieces.LineError.{LineError}
use Rattle.lift_base.specs.declared.pieces.LineError.TheVariants as why
use Rattle.lift_base.specs.Lines.{LinesData, KeepsLimit, MayFollow, fresh}
use Rattle.line_text.specs.Follow.{Ran, Went}

-- ---- calls in turn

-- before the first call nothing was taken
abbrev pub BeginsAnywhere : {S : Type 0} → (S → Option (List ℕ)) → (S → ℕ) → Type 0
BeginsAnywhere {S} left faults = (l : LinesData) (s : S) → Went left faults l l s s []

-- Behind calls that went well another one comes to what it comes to, and what was taken adds up. What may follow it may follow them, behind what it took.
abbrev pub GoesOn : {S : Type 0} → (S → Option (List ℕ)) → (S → ℕ) → Type 0
GoesOn {S} left faults =
    (a b c : LinesData) (s t u : S) (xs ys : List ℕ) (failure : Option LineError)
    → Went left faults a b s t xs → Ran left faults b c t u ys failure
    → Ran left faults a c s u (xs ++ ys) failure × ((later : List ℕ) → MayFollow c later → MayFollow b (ys ++ later))

-- what adds calls up
pub record AddsUp {S : Type 0} (left : S → Option (List ℕ)) (faults : S → ℕ) : Type 0 where
  pub begins : BeginsAnywhere left faults
  pub goes : GoesOn left faults

-- ---- how a reading ends

-- without a failure no more than the limit was taken, and where the end was seen the source is at its end
abbrev pub EndsWithin : {S : Type 0} → (S → Option (List ℕ)) → (S → ℕ) → Type 0
EndsWithin {S} left faults =
    (limit : ℕ) (text : List ℕ) (c : LinesData) (s u : S) (bytes : List ℕ)
    → Ran left faults (fresh limit text) c s u bytes None → KeepsLimit c.failure c.limit c.taken
    → (length bytes ≤ limit) × (IsTrue c.ended → IsAtEnd (left u))

-- where too many bytes came, more than the limit were taken
abbrev pub EndsBeyond : {S : Type 0} → (S → Option (List ℕ)) → (S → ℕ) → Type 0
EndsBeyond {S} left faults =
    (limit : ℕ) (text : List ℕ) (c : LinesData) (s u : S) (bytes : List ℕ)
    → Ran left faults (fresh limit text) c s u bytes (Some why.TooLong) → KeepsLimit c.failure c.limit c.taken
    → limit < length bytes
