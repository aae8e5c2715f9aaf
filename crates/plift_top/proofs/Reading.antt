-- What the steps of a job say of the whole.
use Rattle.std.proofs.Common.{◌≡◌, ◌≤◌, ◌<◌, ℕ, Bool, false, List, ◌++◌, length, length-append, append-nil, None, Some, Ok, Err, refl, sym, ap, ◌∙◌, subst, arith, Result, IsErrAnd}
use Rattle.std.specs.declared.option.Option.{Option}
use Rattle.std.specs.Io.KnownBytes.{Consumes, IsAtEnd}
use Rattle.lift_base.specs.Outside.{TakenHas}
use Rattle.lift_grid.specs.Region.{Region, region, Fails}
use Rattle.lift_grid.specs.Rectangle.{Spans}
use Rattle.lift_grid.specs.declared.rect.Grid.{Grid}
use Rattle.lift_grid.specs.declared.error.RegionError.{RegionError}
use Rattle.lift_grid.specs.declared.error.RegionError.TheVariants as fault
use Rattle.lift_model.specs.Model.{ModelData}
use Rattle.corner_lift.specs.Case.{CaseData, case_of}
use Rattle.lift_rows.specs.Fault.{IsFirstFault}
use Rattle.lift_rows.specs.declared.error.RowError.{RowError}
use Rattle.drn_read.specs.declared.error.DrnError.{DrnError}
use Rattle.plift_words.specs.Job.{VerifyData}
use Rattle.plift_top.specs.Asked.{AskedModel, cut, verified_model}
use Rattle.plift_top.specs.Refused.{region_refusal}
use Rattle.plift_top.specs.Reads.{WasRead, Command, Reads, ReadsText, KeepsWithin}
use Rattle.plift_top.specs.Verify.{Makes, IsAnswered, IsAnsweredInPart, IsRefused, IsRefusedAt, IsRefusedOf, IsRefusedOver, IsTooWide, verifying, lacks_chain}
use Rattle.plift_top.specs.Steps.{IsTextFault, IsModelOf, NamesRoot, AnswersCase, WritesOver}
use Rattle.plift_top.specs.declared.costed.CostedModel.{CostedModel}
use Rattle.plift_top.specs.declared.refusal.Refusal.{Refusal}
use Rattle.plift_top.specs.declared.refusal.Refusal.TheVariants as refusal
use Rattle.plift_top.proofs.Asked.{verified_is}
use Rattle.plift_top.proofs.Errors.{at_error}

-- ---- a source

-- what holds of a text that was read follows from what is known of it
pub read_as : {P Q : List ℕ → Type 0} {old new : Option (List ℕ)} → ((text : List ℕ) → P text → Q text) → WasRead P old new → WasRead Q old new
read_as f h = record { text = h.text; consumed = h.consumed; ended = h.ended; has = f h.text h.has }

-- a text that was given isn't too long where it is short
pub short : (limit : ℕ) (text : List ℕ) (rest : Option (List ℕ)) → length text ≤ limit → TakenHas (λ bytes. limit < length bytes) (Some text) rest → ⊥
short limit text None h long = absurd long.1
short limit text (Some ys) h (bytes, is, more) = omega (arith, ap length is, length-append bytes ys)

-- a source that tells its content gave this text
pub given : (P : List ℕ → Type 0) (text : List ℕ) (rest : Option (List ℕ)) → WasRead P (Some text) rest → P text
given P text None h = absurd h.consumed
given P text (Some ys) h = subst P (sym (h.consumed ∙ ap (λ (r : List ℕ). h.text ++ r) h.ended ∙ append-nil h.text)) h.has

-- a text that was read whole, and what a command makes of it
module _ {S K : Type 0} (left : S → Option (List ℕ)) (faults : S → ℕ) (taken : K → Option (List ℕ)) (counts : K → ℕ) (c : Command) (known : (P : List ℕ → Type 0) (old new : Option (List ℕ)) → WasRead P old new → c.Knows P old new)
    (source source' : S) (out out' : K) (text : List ℕ) (consumed : Consumes (left source) (left source') text) (ended : IsAtEnd (left source')) where
  was_read : (P : List ℕ → Type 0) → P text → WasRead P (left source) (left source')
  was_read P h = record { text = text; consumed = consumed; ended = ended; has = h }

  pub reads : {T : Type 0} (result : Result T Refusal) → ReadsText taken counts c text out out' result → Reads left faults taken counts c source source' out out' result
  reads (Ok x) h = was_read (c.Done (taken out) (taken out')) h
  reads (Err refusal.WriteFault) h = (was_read (c.CutOff (taken out) (taken out')) h.0, h.1)
  reads (Err refusal.ReadFault) h = absurd h
  reads (Err refusal.TooLong) h = absurd h
  reads (Err refusal.Memory) h = (tt, h)
  reads (Err why) h = (known (c.Refuses why) _ _ (was_read (c.Refuses why) h.0), h.1)

  pub reads_within : {T : Type 0} (result : Result T Refusal) → ReadsText taken counts c text out out' result → length text ≤ c.limit → KeepsWithin c.limit result (left source) (left source')
  reads_within (Err refusal.TooLong) h few = absurd h
  reads_within _ h few = (text, consumed, few)

-- ---- the steps of a job

-- a region that is refused
pub refused_region : (job : VerifyData) (names : List (List ℕ)) (error : RegionError) (result : Result (Grid × Spans) Refusal) → IsErrAnd result (λ e. e ≡ region_refusal error) → Fails error (region names job.depth job.region) → NamesRoot job names result
refused_region job names error result is h = at_error (NamesRoot job names) (region_refusal error) result is (by error h)
  where
    by : (error : RegionError) → Fails error (region names job.depth job.region) → NamesRoot job names (Err (region_refusal error))
    by fault.Memory h = tt
    by _ h = h

module _ {K T : Type 0} (taken : K → Option (List ℕ)) (counts : K → ℕ) (job : VerifyData) (m : ModelData) (a : AskedModel) (is : m ≡ cut a) (r : Region) where
  -- the case of a model over a region was answered
  pub over_answered : (k : CaseData) (out out' : K) (result : Result T Refusal) → k ≡ case_of m r job.precision → AnswersCase taken counts job.query a k out out' result → WritesOver taken counts job a r out out' result
  over_answered k out out' result made h = by result h
    where
      same : k ≡ case_of (cut a) r job.precision
      same = made ∙ ap (λ (n : ModelData). case_of n r job.precision) is

      by : (result : Result T Refusal) → AnswersCase taken counts job.query a k out out' result → WritesOver taken counts job a r out out' result
      by (Ok x) h = subst (λ (c : CaseData). IsAnswered (taken out) (taken out') job.query a c) same h
      by (Err refusal.WriteFault) h = (subst (λ (c : CaseData). IsAnsweredInPart (taken out) (taken out') job.query a c) same h.0, h.1)
      by (Err refusal.Memory) h = h
      by (Err refusal.TooWide) h = (subst (IsTooWide job.query) same h.0, h.1)
      by (Err _) h = absurd h

  -- the rows weren't admitted
  pub over_refused : (out : K) (error : RowError) (result : Result T Refusal) → IsErrAnd result (λ e. e ≡ refusal.Rows error) → IsFirstFault (case_of m r job.precision) error → WritesOver taken counts job a r out out result
  over_refused out error result was h = at_error (WritesOver taken counts job a r out out) (refusal.Rows error) result was (subst (λ (n : ModelData). IsFirstFault (case_of n r job.precision) error) is h, refl)

-- ---- a whole job

module _ {K : Type 0} (taken : K → Option (List ℕ)) (counts : K → ℕ) (job : VerifyData) (text : List ℕ) (out : K) where
  -- the text stands for no model, or memory ran out
  pub no_model_read : (why : Refusal) (result : Result (Unit {0}) Refusal) → IsErrAnd result (λ e. e ≡ why) → IsTextFault (verified_model job text) why → ReadsText taken counts (verifying job) text out out result
  no_model_read why result was h = at_error (ReadsText taken counts (verifying job) text out out) why result was (by why h)
    where
      by : (why : Refusal) → IsTextFault (verified_model job text) why → ReadsText {T = Unit {0}} taken counts (verifying job) text out out (Err why)
      by (refusal.Model error) h = (subst (λ (a : Result ModelData DrnError). IsRefusedAt job a (refusal.Model error)) (sym h) refl, refl)
      by refusal.Memory h = refl
      by _ h = absurd h

  module _ (f : CostedModel) (is : IsModelOf job f text) where
    refused_of : (why : Refusal) (lacks : Bool) → lacks_chain job.query f.model.kind ≡ lacks → IsRefusedOf lacks job f.model why → IsRefused job why text
    refused_of why lacks by h = subst (λ (a : Result ModelData DrnError). IsRefusedAt job a why) (sym (verified_is job text f is)) (subst (λ b. IsRefusedOf b job f.model why) (sym by) h)

    module _ (chain : lacks_chain job.query f.model.kind ≡ false) where
      -- a region that names no rectangle
      pub region_refused : (why : Refusal) (result : Result (Unit {0}) Refusal) → IsErrAnd result (λ e. e ≡ why) → NamesRoot job f.model.names (Err why) → ReadsText taken counts (verifying job) text out out result
      region_refused why result was h = at_error (ReadsText taken counts (verifying job) text out out) why result was (by why h)
        where
          by : (why : Refusal) → NamesRoot job f.model.names (Err why) → ReadsText {T = Unit {0}} taken counts (verifying job) text out out (Err why)
          by (refusal.Region error) h = (refused_of (refusal.Region error) false chain (subst (λ (r : Result Region RegionError). IsRefusedOver job f.model r (refusal.Region error)) (sym h) refl), refl)
          by refusal.Memory h = refl
          by _ h = absurd h

      -- what was written over the root
      pub verified : (r : Region) → region f.model.names job.depth job.region ≡ Ok r → (out' : K) (result : Result (Unit {0}) Refusal) → WritesOver taken counts job is.asked r out out' result → ReadsText taken counts (verifying job) text out out' result
      verified r named out' result h = by result h
        where
          makes : (P : AskedModel → CaseData → Type 0) → P is.asked (case_of (cut is.asked) r job.precision) → Makes P job text
          makes P h = record { model = is.asked; root = r; read = is.read; named = subst (λ (n : ModelData). region n.names job.depth job.region ≡ Ok r) is.after named; has = h }

          over : (why : Refusal) → IsRefusedOver job (cut is.asked) (Ok r) why → IsRefused job why text
          over why h = refused_of why false chain (subst (λ (q : Result Region RegionError). IsRefusedOver job f.model q why) (sym named) (subst (λ (n : ModelData). IsRefusedOver job n (Ok r) why) (sym is.after) h))

          by : (result : Result (Unit {0}) Refusal) → WritesOver taken counts job is.asked r out out' result → ReadsText taken counts (verifying job) text out out' result
          by (Ok x) h = makes (IsAnswered (taken out) (taken out') job.query) h
          by (Err refusal.WriteFault) h = (makes (IsAnsweredInPart (taken out) (taken out') job.query) h.0, h.1)
          by (Err refusal.Memory) h = h
          by (Err (refusal.Rows error)) h = (over (refusal.Rows error) h.0, h.1)
          by (Err refusal.TooWide) h = (over refusal.TooWide h.0, h.1)
          by (Err _) h = absurd h.0
