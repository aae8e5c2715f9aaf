-- What `verify`, `bounded`, `lumped`, `property` and `cost` answer, and what stands after them.
use Rattle.std.specs.Prelude.{◌≡◌, ℕ, Bool, true, false, List, Ok, Err, Result}
use Rattle.std.specs.declared.option.Option.{Option}
use Rattle.lift_model.specs.Model.{ModelData}
use Rattle.lift_grid.specs.Region.{Region, region}
use Rattle.lift_grid.specs.declared.error.RegionError.{RegionError}
use Rattle.lift_model.specs.declared.kind.Kind.{Kind}
use Rattle.lift_model.specs.declared.kind.Kind.TheVariants.{Mdp}
use Rattle.corner_lift.specs.Case.{CaseData, IsAdmitted, case_of}
use Rattle.lift_rows.specs.Fault.{IsFirstFault}
use Rattle.lift_lump.specs.Lumped.{IsWide}
use Rattle.lift_lump.specs.LumpedData.{LumpedData}
use Rattle.drn_read.specs.declared.error.DrnError.{DrnError}
use Rattle.cert_check.specs.Source.{file_limit}
use Rattle.plift_words.specs.Job.{VerifyData}
use Rattle.plift_words.specs.declared.query.Query.{Query}
use Rattle.plift_words.specs.declared.query.Query.TheVariants as query
use Rattle.plift_top.specs.Asked.{AskedModel, cut, asked_model, verified_model}
use Rattle.plift_top.specs.Reads.{WasRead, Command}
use Rattle.plift_top.specs.Reported.{CaseQuestion, IsReported, IsCutOff, whole_question}
use Rattle.plift_top.specs.Bounded.{within_question}
use Rattle.plift_top.specs.Lumped.{IsLumpedCase, lumped_case, lumped_question}
use Rattle.plift_top.specs.Property.{property_question}
use Rattle.plift_top.specs.Cost.{asked_cost, cost_question}
use Rattle.plift_top.specs.declared.refusal.Refusal.{Refusal}
use Rattle.plift_top.specs.declared.refusal.Refusal.TheVariants as refusal

-- a chain is to be lumped, and the model is a decision process
abbrev pub lacks_chain : Query → Kind → Bool
lacks_chain (query.Lumped bound) Mdp = true
lacks_chain _ _ = false

-- a chain is to be lumped
abbrev pub is_lumped : Query → Bool
is_lumped (query.Lumped bound) = true
is_lumped _ = false

-- a chain is to be lumped whose rows are admitted, and its quotient has a coefficient that is too large
abbrev pub IsTooWide : Query → CaseData → Type 0
IsTooWide asked k = (is_lumped asked ≡ true) × IsAdmitted k × IsWide k.model

-- The model can be answered in this way, if its rows are admitted: where a chain is to be lumped, it is one, and its quotient isn't too wide.
abbrev pub IsAnswerable : Query → ModelData → Type 0
IsAnswerable asked m = (lacks_chain asked m.kind ≡ false) × (is_lumped asked ≡ true → IsWide m → ⊥)

-- Why a job is refused at a model whose region comes to that: the region is at fault, a row isn't admitted, or the quotient is too wide.
abbrev pub IsRefusedOver : VerifyData → ModelData → Result Region RegionError → Refusal → Type 0
IsRefusedOver job m (Err error) (refusal.Region f) = f ≡ error
IsRefusedOver job m (Ok r) (refusal.Rows error) = IsFirstFault (case_of m r job.precision) error
IsRefusedOver job m (Ok r) refusal.TooWide = IsTooWide job.query (case_of m r job.precision)
IsRefusedOver job m _ _ = ⊥

-- why a job is refused at a model, by whether it lacks a chain
abbrev pub IsRefusedOf : Bool → VerifyData → ModelData → Refusal → Type 0
IsRefusedOf true job m why = why ≡ refusal.NotChain
IsRefusedOf false job m why = IsRefusedOver job m (region m.names job.depth job.region) why

-- Why a job is refused at a text that comes to that: it stands for no model; or by what is asked of its model.
abbrev pub IsRefusedAt : VerifyData → Result ModelData DrnError → Refusal → Type 0
IsRefusedAt job (Err error) (refusal.Model f) = f ≡ error
IsRefusedAt job (Err error) _ = ⊥
IsRefusedAt job (Ok m) why = IsRefusedOf (lacks_chain job.query m.kind) job m why

-- why a job is refused at a text
abbrev pub IsRefused : VerifyData → Refusal → List ℕ → Type 0
IsRefused job why text = IsRefusedAt job (verified_model job text) why

-- What is asked of a case of a model is told so: for a bound on any number of steps, with a range of precisions where one is told, for a bound on as many as are told, of the quotient where the chain is lumped, for a property, with a range where one is told, or for a budget.
abbrev pub IsToldOf : (CaseData → CaseQuestion → Type 0) → Query → AskedModel → CaseData → Type 0
IsToldOf Told (query.Whole bound from) a k = Told k (whole_question k from bound)
IsToldOf Told (query.Within bound h) a k = Told k (within_question k bound h)
IsToldOf Told (query.Lumped bound) a k = (l : LumpedData) × IsLumpedCase k l × Told (lumped_case k l) (lumped_question k l bound)
IsToldOf Told (query.Property bound op from) a k = Told k (property_question a k from op bound)
IsToldOf Told (query.Cost limits) a k = Told k (cost_question k (asked_cost limits a))

-- the answer to a case of a model was appended, whole
abbrev pub IsAnswered : Option (List ℕ) → Option (List ℕ) → Query → AskedModel → CaseData → Type 0
IsAnswered old new asked a k = IsToldOf (IsReported old new) asked a k

-- a front of it was appended
abbrev pub IsAnsweredInPart : Option (List ℕ) → Option (List ℕ) → Query → AskedModel → CaseData → Type 0
IsAnsweredInPart old new asked a k = IsToldOf (IsCutOff old new) asked a k

-- The text stands for a model, the job's region names a rectangle of its parameters, and P holds of it and of the case that the two make at the job's precision, after the cut.
pub record Makes (P : AskedModel → CaseData → Type 0) (job : VerifyData) (text : List ℕ) : Type 0 where
  pub model : AskedModel
  pub root : Region
  pub read : asked_model job text ≡ Ok model
  pub named : region (cut model).names job.depth job.region ≡ Ok root
  pub has : P model (case_of (cut model) root job.precision)

-- what was appended is the answer to the case that the text and the job make
abbrev pub Reports : Option (List ℕ) → Option (List ℕ) → VerifyData → List ℕ → Type 0
Reports old new job text = Makes (IsAnswered old new job.query) job text

-- what was appended is a front of that answer
abbrev pub ReportsFront : Option (List ℕ) → Option (List ℕ) → VerifyData → List ℕ → Type 0
ReportsFront old new job text = Makes (IsAnsweredInPart old new job.query) job text

-- why a job refuses a text
abbrev pub Refuses : VerifyData → Refusal → List ℕ → Type 0
Refuses job (refusal.Usage f) text = ⊥
Refuses job (refusal.Unsound error) text = ⊥
Refuses job why text = IsRefused job why text

-- a command that does a job: the answer is written
abbrev pub verifying : VerifyData → Command
verifying job = record { limit = file_limit; Done = λ old new. Reports old new job; CutOff = λ old new. ReportsFront old new job; Refuses = Refuses job; Knows = WasRead }
