-- What is shown of a report, and how that ends.
use Rattle.std.specs.Prelude.{◌≡◌, ◌<◌, ⊤, ℕ, List, length, Result, Ok, Err}
use Rattle.std.specs.declared.option.Option.{Option}
use Rattle.std.specs.Io.KnownBytes.{Appends}
use Rattle.lift_base.specs.Outside.{Rose, TakenHas, AppendsFront}
use Rattle.cert_check.specs.Answer.{Answers}
use Rattle.line_text.specs.Found.{WasRead}
use Rattle.cert_check.specs.Source.{file_limit}
use Rattle.view_map.specs.Parts.{MapData}
use Rattle.view_map.specs.Slice.{SliceData}
use Rattle.view_map.specs.Mapping.{IsMapOf}
use Rattle.view_text.specs.Picture.{svg_text}
use Rattle.view_text.specs.Summary.{summary_text}
use Rattle.view_words.specs.Words.{ViewData, picture, summary}
use Rattle.view_top.specs.Choice.{slice_for}
use Rattle.view_words.specs.declared.job.Usage.{Usage}
use Rattle.view_top.specs.declared.refusal.Refusal.{Refusal}
use Rattle.view_top.specs.declared.refusal.Refusal.TheVariants as refusal

-- the picture of a slice, where there is one
abbrev pub picture_of : MapData → Result SliceData Usage → Result (List ℕ) Usage
picture_of m (Ok s) = Ok (svg_text m s)
picture_of m (Err fault) = Err fault

-- what is to be written of a report: the picture of the slice that is asked for, or what is at fault with it; or the table
abbrev pub text_for : ViewData → MapData → Result (List ℕ) Usage
text_for (picture w) m = picture_of m (slice_for m.head w)
text_for summary m = Ok (summary_text m)

-- the bytes are a sound report, and what is to be written of its map has P
pub record IsShown (v : ViewData) (P : Result (List ℕ) Usage → Type 0) (bytes : List ℕ) : Type 0 where
  pub map : MapData
  pub of : IsMapOf bytes map.head map.parts
  pub has : P (text_for v map)

-- a text is to be written, and it was appended
abbrev pub IsWritten : Option (List ℕ) → Option (List ℕ) → Result (List ℕ) Usage → Type 0
IsWritten old new asked = (text : List ℕ) × (asked ≡ Ok text) × Appends old new text

-- a text is to be written, and a front of it was appended
abbrev pub IsCutOff : Option (List ℕ) → Option (List ℕ) → Result (List ℕ) Usage → Type 0
IsCutOff old new asked = (text : List ℕ) × (asked ≡ Ok text) × AppendsFront old new text

-- What writing comes to, of what is to be written.
abbrev pub WritesView : {K T : Type 0} → (K → Option (List ℕ)) → (K → ℕ) → Result (List ℕ) Usage → K → K → Result T Refusal → Type 0
WritesView taken counts asked out out' (Ok _) = IsWritten (taken out) (taken out') asked
WritesView taken counts asked out out' (Err refusal.WriteFault) = IsCutOff (taken out) (taken out') asked × Rose (counts out) (counts out')
WritesView taken counts asked out out' (Err (refusal.Usage fault)) = (asked ≡ Err fault) × (out' ≡ out)
WritesView taken counts asked out out' (Err refusal.Memory) = out' ≡ out
WritesView taken counts asked out out' (Err _) = ⊥

-- Why a report has no map: a fault of the source, or more bytes than a report may have, or want of memory, or the first fault of the bytes that were read.
abbrev pub StopsReading : {S : Type 0} → (S → Option (List ℕ)) → (S → ℕ) → S → S → Refusal → Type 0
StopsReading left faults source source' refusal.ReadFault = Rose (faults source) (faults source')
StopsReading left faults source source' refusal.TooLong = TakenHas (λ bytes. file_limit < length bytes) (left source) (left source')
StopsReading left faults source source' refusal.Memory = ⊤
StopsReading left faults source source' (refusal.Unsound error) = WasRead file_limit (λ bytes. Answers bytes (Err error)) (left source) (left source')
StopsReading left faults source source' _ = ⊥

-- reading a report: the source was read to its end, and this is the map of the sound report that it gave; or there is a cause
abbrev pub ReadsMap : {S : Type 0} → (S → Option (List ℕ)) → (S → ℕ) → S → S → Result MapData Refusal → Type 0
ReadsMap left faults source source' (Ok m) = WasRead file_limit (λ bytes. IsMapOf bytes m.head m.parts) (left source) (left source')
ReadsMap left faults source source' (Err why) = StopsReading left faults source source' why

-- What showing a report comes to: the source was read to its end and gave a sound report, and what is asked of it was written; or there is a cause. The sink is as it was but for that text or a front of it.
abbrev pub Shows : {S K T : Type 0} → (S → Option (List ℕ)) → (S → ℕ) → (K → Option (List ℕ)) → (K → ℕ) → ViewData → S → S → K → K → Result T Refusal → Type 0
Shows left faults taken counts v source source' out out' (Ok _) = WasRead file_limit (IsShown v (IsWritten (taken out) (taken out'))) (left source) (left source')
Shows left faults taken counts v source source' out out' (Err refusal.WriteFault) =
    WasRead file_limit (IsShown v (IsCutOff (taken out) (taken out'))) (left source) (left source') × Rose (counts out) (counts out')
Shows left faults taken counts v source source' out out' (Err (refusal.Usage fault)) =
    WasRead file_limit (IsShown v (λ asked. asked ≡ Err fault)) (left source) (left source') × (out' ≡ out)
Shows left faults taken counts v source source' out out' (Err why) = StopsReading left faults source source' why × (out' ≡ out)
