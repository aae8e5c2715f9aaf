-- What calls leave that write one after the other, of which the first that fails is the last.
use Rattle.std.specs.Prelude.{◌≡◌, ℕ, List, [], ◌++◌, Ok, Err, IsErr}
use Rattle.std.specs.declared.option.Option.{Option}
use Rattle.std.specs.declared.result.Result.{Result}
use Rattle.lift_base.specs.Outside.{Wrote}
use Rattle.lift_base.specs.declared.output.WriteFault.{WriteFault}

-- what a writing call answers
abbrev pub Written : Type 0
Written = Result (Unit {0}) WriteFault

-- no call at all writes nothing
abbrev pub WritesNothing : {K : Type 0} → (K → Option (List ℕ)) → (K → ℕ) → Type 0
WritesNothing {K} taken faults = (out : K) → Wrote {T = Unit {0}} {E = WriteFault} taken faults out out (Ok tt) []

-- where the first call wrote all of its text, both write the two texts, as the second answers
abbrev pub WritesBoth : {K : Type 0} → (K → Option (List ℕ)) → (K → ℕ) → Type 0
WritesBoth {K} taken faults = (old mid new : K) (result : Written) (front back : List ℕ)
    → Wrote {T = Unit {0}} {E = WriteFault} taken faults old mid (Ok tt) front → Wrote taken faults mid new result back → Wrote taken faults old new result (front ++ back)

-- where a call failed, it failed at a longer text too
abbrev pub StopsBefore : {K : Type 0} → (K → Option (List ℕ)) → (K → ℕ) → Type 0
StopsBefore {K} taken faults = (old new : K) (fault : WriteFault) (front back : List ℕ) (result : Written) → IsErr result
    → Wrote {T = Unit {0}} taken faults old new (Err fault) front → Wrote taken faults old new result (front ++ back)

-- ---- a text that is written in many pieces

-- all of the text but this rest was written
pub record WroteUpTo {K : Type 0} (taken : K → Option (List ℕ)) (faults : K → ℕ) (old new : K) (text rest : List ℕ) : Type 0 where
  pub front : List ℕ
  pub parts : text ≡ front ++ rest
  pub wrote : Wrote {T = Unit {0}} {E = WriteFault} taken faults old new (Ok tt) front

-- at first the whole text is the rest
abbrev pub BeginsWithAll : {K : Type 0} → (K → Option (List ℕ)) → (K → ℕ) → Type 0
BeginsWithAll {K} taken faults = (out : K) (text : List ℕ) → WroteUpTo taken faults out out text text

-- a call that wrote the next piece leaves a shorter rest
abbrev pub GoesOn : {K : Type 0} → (K → Option (List ℕ)) → (K → ℕ) → Type 0
GoesOn {K} taken faults = (old mid new : K) (text rest piece more : List ℕ)
    → WroteUpTo taken faults old mid text rest → rest ≡ piece ++ more → Wrote {T = Unit {0}} {E = WriteFault} taken faults mid new (Ok tt) piece
    → WroteUpTo taken faults old new text more

-- where a call failed at the next piece, the whole text failed
abbrev pub StopsThere : {K : Type 0} → (K → Option (List ℕ)) → (K → ℕ) → Type 0
StopsThere {K} taken faults = (old mid new : K) (fault : WriteFault) (text rest piece more : List ℕ) (result : Written) → IsErr result
    → WroteUpTo taken faults old mid text rest → rest ≡ piece ++ more → Wrote {T = Unit {0}} taken faults mid new (Err fault) piece
    → Wrote taken faults old new result text

-- where nothing is left, the whole text was written
abbrev pub EndsWithAll : {K : Type 0} → (K → Option (List ℕ)) → (K → ℕ) → Type 0
EndsWithAll {K} taken faults = (old new : K) (text : List ℕ) → WroteUpTo taken faults old new text [] → Wrote {T = Unit {0}} {E = WriteFault} taken faults old new (Ok tt) text
