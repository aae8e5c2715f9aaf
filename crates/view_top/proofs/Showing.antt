-- What reading a report and writing a view of it come to together.
use Rattle.std.proofs.Common.{◌≡◌, ◌≢◌, ◌≤◌, ℕ, List, length, Ok, Err, Result, refl, sym, ap, subst, IsErrAnd}
use Rattle.std.specs.declared.option.Option.{Option}
use Rattle.std.specs.Io.KnownBytes.{Consumes, IsAtEnd}
use Rattle.lift_base.specs.Outside.{Wrote}
use Rattle.cert_text.specs.Head.{HeadData}
use Rattle.cert_check.specs.Answer.{Answers}
use Rattle.line_text.specs.Found.{WasRead}
use Rattle.cert_check.specs.Source.{file_limit}
use Rattle.cert_check.specs.Shown.{IsReportedOfFile}
use Rattle.cert_check.specs.declared.error.CheckError.{CheckError}
use Rattle.cert_check.specs.declared.error.CheckError.TheVariants as check
use Rattle.view_map.specs.Parts.{MapData}
use Rattle.view_map.specs.Mapping.{IsMapOf}
use Rattle.view_words.specs.Words.{ViewData, WishData}
use Rattle.view_words.specs.declared.job.Usage.{Usage}
use Rattle.std.proofs.Common.{Vec}
use Rattle.std.specs.declared.alloc.Global.{Global}
use Rattle.lift_base.specs.Whole.{ReadsWhole, FaultsOnlyBy}
use Rattle.lift_base.specs.declared.input.ReadError.{ReadError}
use Rattle.lift_base.specs.declared.input.ReadError.TheVariants as why
use Rattle.view_map.specs.Slice.{SliceData}
use Rattle.view_top.specs.Refused.{check_refusal, read_refusal}
use Rattle.view_top.specs.Given.{Gives}
use Rattle.view_top.specs.Choice.{slice_for}
use Rattle.view_top.specs.Shown.{picture_of, text_for, IsShown, IsWritten, IsCutOff, WritesView, StopsReading, ReadsMap, Shows}
use Rattle.view_top.specs.declared.refusal.Refusal.{Refusal}
use Rattle.view_top.specs.declared.refusal.Refusal.TheVariants as refusal

-- ---- writing

module _ {K : Type 0} (taken : K → Option (List ℕ)) (counts : K → ℕ) (old new : K) where
  -- a text that was written whole
  pub whole : {T E : Type 0} (x : T) (y : Unit {0}) (asked : Result (List ℕ) Usage) (text : List ℕ) → asked ≡ Ok text → Wrote {E = E} taken counts old new (Ok x) text → WritesView taken counts asked old new (Ok y)
  whole x y asked text is w = (text, is, w.whole)

  -- one that was cut off
  pub in_part : {T E : Type 0} (e : E) (asked : Result (List ℕ) Usage) (text : List ℕ) (result : Result (Unit {0}) Refusal) → IsErrAnd result (λ r. r ≡ refusal.WriteFault) → asked ≡ Ok text → Wrote {T = T} taken counts old new (Err e) text → WritesView taken counts asked old new result
  in_part e asked text (Ok x) is same w = absurd is
  in_part e asked text (Err r) is same w = subst (λ (r : Refusal). WritesView {T = Unit {0}} taken counts asked old new (Err r)) (sym is) ((text, same, w.part), w.cause)

  -- a slice that isn't given
  pub no_slice : (m : MapData) (asked : Result SliceData Usage) (e : Refusal) (result : Result (Unit {0}) Refusal) → IsErrAnd result (λ r. r ≡ e) → Gives {X = SliceData} (λ s. s) asked (Err e) → old ≡ new → WritesView taken counts (picture_of m asked) old new result
  no_slice m asked e (Ok x) is h same = absurd is
  no_slice m asked e (Err r) is h same = subst (λ (r : Refusal). WritesView {T = Unit {0}} taken counts (picture_of m asked) old new (Err r)) (sym is) (go e h)
    where
      go : (e : Refusal) → Gives {X = SliceData} (λ s. s) asked (Err e) → WritesView {T = Unit {0}} taken counts (picture_of m asked) old new (Err e)
      go (refusal.Usage fault) h = (ap (picture_of m) h, sym same)
      go refusal.Memory h = sym same
      go refusal.ReadFault h = absurd h
      go refusal.WriteFault h = absurd h
      go refusal.TooLong h = absurd h
      go (refusal.Unsound error) h = absurd h

  -- the same, of the report's head by another name
  pub no_slice_at : (m : MapData) (head : HeadData) (w : WishData) → head ≡ m.head → (e : Refusal) (result : Result (Unit {0}) Refusal) → IsErrAnd result (λ r. r ≡ e) → Gives {X = SliceData} (λ s. s) (slice_for head w) (Err e) → old ≡ new
      → WritesView taken counts (picture_of m (slice_for m.head w)) old new result
  no_slice_at m head w of e result is h same = no_slice m (slice_for m.head w) e result is (subst (λ (x : HeadData). Gives {X = SliceData} (λ s. s) (slice_for x w) (Err e)) of h) same

-- ---- reading

-- what is known of bytes that were read
was : (P Q : List ℕ → Type 0) (old new : Option (List ℕ)) → ((bytes : List ℕ) → P bytes → Q bytes) → WasRead file_limit P old new → WasRead file_limit Q old new
was P Q old new f h = record { bytes = h.bytes; consumed = h.consumed; finished = h.finished; small = h.small; has = f h.bytes h.has }

module _ {S : Type 0} (left : S → Option (List ℕ)) (faults : S → ℕ) (source source' : S) where
  -- a report that was read to its end, and isn't sound
  unsound : (bytes : List ℕ) → Consumes (left source) (left source') bytes → IsAtEnd (left source') → length bytes ≤ file_limit
      → (e : CheckError) → (e ≢ check.Memory → Answers bytes (Err e)) → IsReportedOfFile e → StopsReading left faults source source' (check_refusal e)
  unsound bytes took ended small check.Fault h reported = absurd reported
  unsound bytes took ended small check.TooLong h reported = absurd reported
  unsound bytes took ended small check.Memory h reported = tt
  unsound bytes took ended small (check.Text e) h reported = record { bytes = bytes; consumed = took; finished = ended; small = small; has = h (λ is. absurd cc) }
  unsound bytes took ended small (check.Rows e) h reported = record { bytes = bytes; consumed = took; finished = ended; small = small; has = h (λ is. absurd cc) }
  unsound bytes took ended small (check.Missed node miss) h reported = record { bytes = bytes; consumed = took; finished = ended; small = small; has = h (λ is. absurd cc) }
  unsound bytes took ended small (check.Depth node) h reported = record { bytes = bytes; consumed = took; finished = ended; small = small; has = h (λ is. absurd cc) }
  unsound bytes took ended small (check.Axis node) h reported = record { bytes = bytes; consumed = took; finished = ended; small = small; has = h (λ is. absurd cc) }
  unsound bytes took ended small check.Rest h reported = record { bytes = bytes; consumed = took; finished = ended; small = small; has = h (λ is. absurd cc) }

  pub refused : (bytes : List ℕ) → Consumes (left source) (left source') bytes → IsAtEnd (left source') → length bytes ≤ file_limit
      → (e : CheckError) (result : Result MapData Refusal) → IsErrAnd result (λ r. r ≡ check_refusal e) → (e ≢ check.Memory → Answers bytes (Err e)) → IsReportedOfFile e
      → ReadsMap left faults source source' result
  refused bytes took ended small e (Ok m) is h reported = absurd is
  refused bytes took ended small e (Err r) is h reported = subst (λ (r : Refusal). StopsReading left faults source source' r) (sym is) (unsound bytes took ended small e h reported)

  unread_as : (e : ReadError) → ReadsWhole left source source' file_limit (Err e) → FaultsOnlyBy {T = Vec ℕ Global} faults source source' (Err e) → StopsReading left faults source source' (read_refusal e)
  unread_as why.Fault h f = f.0
  unread_as why.TooLong h f = h
  unread_as why.Memory h f = tt

  -- a source that wasn't read to its end
  pub unread : (e : ReadError) (result : Result MapData Refusal) → IsErrAnd result (λ r. r ≡ read_refusal e) → ReadsWhole left source source' file_limit (Err e) → FaultsOnlyBy {T = Vec ℕ Global} faults source source' (Err e) → ReadsMap left faults source source' result
  unread e (Ok m) is h f = absurd is
  unread e (Err r) is h f = subst (λ (r : Refusal). StopsReading left faults source source' r) (sym is) (unread_as e h f)

  -- the map of a sound report
  pub mapped : (bytes : List ℕ) (m : MapData) → Consumes (left source) (left source') bytes → IsAtEnd (left source') → length bytes ≤ file_limit → IsMapOf bytes m.head m.parts → ReadsMap left faults source source' (Ok m)
  mapped bytes m took ended small of = record { bytes = bytes; consumed = took; finished = ended; small = small; has = of }

  -- ---- both

  module _ {K : Type 0} (taken : K → Option (List ℕ)) (counts : K → ℕ) (v : ViewData) where
    -- a report that has no map, and nothing was written
    stopped : (why : Refusal) (out : K) → StopsReading left faults source source' why → Shows {T = Unit {0}} left faults taken counts v source source' out out (Err why)
    stopped refusal.ReadFault out h = (h, refl)
    stopped refusal.TooLong out h = (h, refl)
    stopped refusal.Memory out h = (h, refl)
    stopped (refusal.Unsound error) out h = (h, refl)
    stopped refusal.WriteFault out h = absurd h
    stopped (refusal.Usage fault) out h = absurd h

    pub stopped_as : (e : Refusal) (result : Result (Unit {0}) Refusal) (out : K) → IsErrAnd result (λ r. r ≡ e) → StopsReading left faults source source' e → Shows left faults taken counts v source source' out out result
    stopped_as e (Ok x) out is h = absurd is
    stopped_as e (Err r) out is h = subst (λ (r : Refusal). Shows {T = Unit {0}} left faults taken counts v source source' out out (Err r)) (sym is) (stopped e out h)

    shown : (P : Result (List ℕ) Usage → Type 0) (m : MapData) → WasRead file_limit (λ bytes. IsMapOf bytes m.head m.parts) (left source) (left source') → P (text_for v m) → WasRead file_limit (IsShown v P) (left source) (left source')
    shown P m h p = was (λ bytes. IsMapOf bytes m.head m.parts) (IsShown v P) (left source) (left source') (λ bytes of. record { map = m; of = of; has = p }) h

    -- a report that was read, and what is written of it
    pub written : (m : MapData) (result : Result (Unit {0}) Refusal) (out out' : K) → WasRead file_limit (λ bytes. IsMapOf bytes m.head m.parts) (left source) (left source')
        → WritesView taken counts (text_for v m) out out' result → Shows left faults taken counts v source source' out out' result
    written m (Ok x) out out' h w = shown (IsWritten (taken out) (taken out')) m h w
    written m (Err refusal.WriteFault) out out' h w = (shown (IsCutOff (taken out) (taken out')) m h w.0, w.1)
    written m (Err (refusal.Usage fault)) out out' h w = (shown (λ asked. asked ≡ Err fault) m h w.0, w.1)
    written m (Err refusal.Memory) out out' h w = (tt, w)
    written m (Err refusal.ReadFault) out out' h w = absurd w
    written m (Err refusal.TooLong) out out' h w = absurd w
    written m (Err (refusal.Unsound error)) out out' h w = absurd w
