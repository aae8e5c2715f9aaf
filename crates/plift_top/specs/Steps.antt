-- What the steps of a job answer, one behind another.
use Rattle.std.specs.Prelude.{◌≡◌, ℕ, List, [], length, true, Ok, Err, Result, ⊤}
use Rattle.std.specs.declared.option.Option.{Option}
use Rattle.std.specs.Io.KnownBytes.{Appends}
use Rattle.lift_base.specs.Outside.{Rose, AppendsFront}
use Rattle.lift_grid.specs.Region.{Region, region}
use Rattle.lift_grid.specs.Rectangle.{Spans}
use Rattle.lift_grid.specs.Parts.{region_of}
use Rattle.lift_grid.specs.declared.rect.Grid.{Grid}
use Rattle.lift_model.specs.Model.{ModelData}
use Rattle.corner_lift.specs.Case.{CaseData, IsCase, case_of}
use Rattle.lift_rows.specs.Admitted.{HasWeightsFromZero, HasSumsOfTotal}
use Rattle.drn_read.specs.declared.error.DrnError.{DrnError}
use Rattle.plift_words.specs.Job.{VerifyData}
use Rattle.plift_words.specs.Query.{is_cost}
use Rattle.plift_words.specs.declared.query.Query.{Query}
use Rattle.plift_top.specs.Asked.{AskedModel, cut, asked_model}
use Rattle.plift_top.specs.Verify.{IsTooWide, IsRefusedOver, IsAnswered, IsAnsweredInPart}
use Rattle.plift_top.specs.declared.costed.CostedModel.{CostedModel}
use Rattle.plift_top.specs.declared.refusal.Refusal.{Refusal}
use Rattle.plift_top.specs.declared.refusal.Refusal.TheVariants as refusal

-- a model without costs
abbrev pub without_costs : ModelData → CostedModel
without_costs m = record { model = m; costs = [] }

-- the text stands for a model as the job asks of it, and this is that model after the cut, with its costs
pub record IsModelOf (job : VerifyData) (m : CostedModel) (text : List ℕ) : Type 0 where
  pub asked : AskedModel
  pub read : asked_model job text ≡ Ok asked
  pub after : m.model ≡ cut asked
  pub costs : m.costs ≡ asked.costs

-- where it is asked what is paid, each state has a cost
abbrev pub HasCosts : Query → CostedModel → Type 0
HasCosts asked m = is_cost asked ≡ true → length m.costs ≡ length m.model.states

-- a text stands for no model, and that is the cause; or memory was wanting
abbrev pub IsTextFault : {T : Type 0} → Result T DrnError → Refusal → Type 0
IsTextFault right (refusal.Model error) = right ≡ Err error
IsTextFault right refusal.Memory = ⊤
IsTextFault right _ = ⊥

-- the job's region over these parameters: a rectangle over its grid, or the cause
abbrev pub NamesRoot : VerifyData → List (List ℕ) → Result (Grid × Spans) Refusal → Type 0
NamesRoot job names (Ok p) = region names job.depth job.region ≡ Ok (region_of p)
NamesRoot job names (Err (refusal.Region error)) = region names job.depth job.region ≡ Err error
NamesRoot job names (Err refusal.Memory) = ⊤
NamesRoot job names (Err _) = ⊥

-- a case whose rows are distributions at each valuation inside its root
pub record IsTestedCase (k : CaseData) : Type 0 where
  pub case : IsCase k
  pub weights : HasWeightsFromZero k
  pub sums : HasSumsOfTotal k

-- A text of which this holds was written, or there was no memory to begin, or a fault came and a front of it was: there is such a text, and it was whichever is one.
abbrev pub WritesText : {K T : Type 0} → (K → Option (List ℕ)) → (K → ℕ) → (List ℕ → Type 0) → K → K → Result T Refusal → Type 0
WritesText taken counts IsText out out' (Ok _) = ((bytes : List ℕ) × IsText bytes) × ((bytes : List ℕ) → IsText bytes → Appends (taken out) (taken out') bytes)
WritesText taken counts IsText out out' (Err refusal.WriteFault) = ((bytes : List ℕ) → IsText bytes → AppendsFront (taken out) (taken out') bytes) × Rose (counts out) (counts out')
WritesText taken counts IsText out out' (Err refusal.Memory) = out' ≡ out
WritesText taken counts IsText out out' (Err _) = ⊥

-- the answer to a case of a model was written, or there was no memory to begin, or its quotient is too wide, or a fault came and a front of it was
abbrev pub AnswersCase : {K T : Type 0} → (K → Option (List ℕ)) → (K → ℕ) → Query → AskedModel → CaseData → K → K → Result T Refusal → Type 0
AnswersCase taken counts asked a k out out' (Ok _) = IsAnswered (taken out) (taken out') asked a k
AnswersCase taken counts asked a k out out' (Err refusal.WriteFault) = IsAnsweredInPart (taken out) (taken out') asked a k × Rose (counts out) (counts out')
AnswersCase taken counts asked a k out out' (Err refusal.Memory) = out' ≡ out
AnswersCase taken counts asked a k out out' (Err refusal.TooWide) = IsTooWide asked k × (out' ≡ out)
AnswersCase taken counts asked a k out out' (Err _) = ⊥

-- the rows of a model over a region are tested after the cut, and the answer to that case is written, or there is a cause
abbrev pub WritesOver : {K T : Type 0} → (K → Option (List ℕ)) → (K → ℕ) → VerifyData → AskedModel → Region → K → K → Result T Refusal → Type 0
WritesOver taken counts job a r out out' (Ok _) = IsAnswered (taken out) (taken out') job.query a (case_of (cut a) r job.precision)
WritesOver taken counts job a r out out' (Err refusal.WriteFault) =
    IsAnsweredInPart (taken out) (taken out') job.query a (case_of (cut a) r job.precision) × Rose (counts out) (counts out')
WritesOver taken counts job a r out out' (Err refusal.Memory) = out' ≡ out
WritesOver taken counts job a r out out' (Err why) = IsRefusedOver job (cut a) (Ok r) why × (out' ≡ out)
