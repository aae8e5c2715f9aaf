-- What a command comes to that reads a source, whichever it is.
use Rattle.std.specs.Prelude.{◌≡◌, ◌<◌, ◌≤◌, ℕ, List, length, Ok, Err, Result, ⊤}
use Rattle.std.specs.declared.option.Option.{Option}
use Rattle.std.specs.Io.KnownBytes.{Consumes, IsAtEnd}
use Rattle.lift_base.specs.Outside.{Rose, TakenHas}
use Rattle.cert_check.specs.Source.{file_limit}
use Rattle.plift_top.specs.declared.refusal.Refusal.{Refusal}
use Rattle.plift_top.specs.declared.refusal.Refusal.TheVariants as refusal

-- A source was read to its end, and the text that it gave has P. Where the source doesn't tell its content, some text has it.
pub record WasRead (P : List ℕ → Type 0) (old new : Option (List ℕ)) : Type 0 where
  pub text : List ℕ
  pub consumed : Consumes old new text
  pub ended : IsAtEnd new
  pub has : P text

-- What a command does that reads a source: how many bytes it takes at most; what was appended where it is done with a text, and where its writing was cut off; why it refuses a text; and how much is known of the source then.
pub record Command : Type 1 where
  pub limit : ℕ
  pub Done : Option (List ℕ) → Option (List ℕ) → List ℕ → Type 0
  pub CutOff : Option (List ℕ) → Option (List ℕ) → List ℕ → Type 0
  pub Refuses : Refusal → List ℕ → Type 0
  pub Knows : (List ℕ → Type 0) → Option (List ℕ) → Option (List ℕ) → Type 0

-- What a command comes to: it is done with a text that was read to its end, or its writing was cut off and a fault was counted, or there is a cause. The sink is as it was but for what was appended.
abbrev pub Reads : {S K T : Type 0} → (S → Option (List ℕ)) → (S → ℕ) → (K → Option (List ℕ)) → (K → ℕ) → Command → S → S → K → K → Result T Refusal → Type 0
Reads left faults taken counts c source source' out out' (Ok _) = WasRead (c.Done (taken out) (taken out')) (left source) (left source')
Reads left faults taken counts c source source' out out' (Err refusal.WriteFault) = WasRead (c.CutOff (taken out) (taken out')) (left source) (left source') × Rose (counts out) (counts out')
Reads left faults taken counts c source source' out out' (Err refusal.ReadFault) = Rose (faults source) (faults source') × (out' ≡ out)
Reads left faults taken counts c source source' out out' (Err refusal.TooLong) = TakenHas (λ bytes. c.limit < length bytes) (left source) (left source') × (out' ≡ out)
Reads left faults taken counts c source source' out out' (Err refusal.Memory) = ⊤ × (out' ≡ out)
Reads left faults taken counts c source source' out out' (Err why) = c.Knows (c.Refuses why) (left source) (left source') × (out' ≡ out)

-- the same of a text that was read whole
abbrev pub ReadsText : {K T : Type 0} → (K → Option (List ℕ)) → (K → ℕ) → Command → List ℕ → K → K → Result T Refusal → Type 0
ReadsText taken counts c text out out' (Ok _) = c.Done (taken out) (taken out') text
ReadsText taken counts c text out out' (Err refusal.WriteFault) = c.CutOff (taken out) (taken out') text × Rose (counts out) (counts out')
ReadsText taken counts c text out out' (Err refusal.ReadFault) = ⊥
ReadsText taken counts c text out out' (Err refusal.TooLong) = ⊥
ReadsText taken counts c text out out' (Err refusal.Memory) = out' ≡ out
ReadsText taken counts c text out out' (Err why) = c.Refuses why text × (out' ≡ out)

-- more bytes than the limit were taken at TooLong, and only there
abbrev pub KeepsWithin : {T : Type 0} → ℕ → Result T Refusal → Option (List ℕ) → Option (List ℕ) → Type 0
KeepsWithin limit (Err refusal.TooLong) old new = TakenHas (λ bytes. limit < length bytes) old new
KeepsWithin limit _ old new = TakenHas (λ bytes. length bytes ≤ limit) old new

-- the same of a text that is read whole
abbrev pub KeepsLimit : {T : Type 0} → Result T Refusal → Option (List ℕ) → Option (List ℕ) → Type 0
KeepsLimit result old new = KeepsWithin file_limit result old new
