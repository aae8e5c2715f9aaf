-- Why a job is refused at a text: by one cause, and by none where its report is written.
use Rattle.std.proofs.Common.{◌≡◌, Bool, true, false, Ok, Err, refl, sym, ap, ◌∙◌, subst, Result}
use Rattle.lift_grid.specs.Region.{Region, region}
use Rattle.lift_grid.specs.declared.error.RegionError.{RegionError}
use Rattle.lift_model.specs.Model.{ModelData}
use Rattle.corner_lift.specs.Case.{IsAdmitted, case_of}
use Rattle.lift_rows.specs.Fault.{IsFirstFault}
use Rattle.lift_rows.specs.Laws.{AdmittedHasNoFault}
use Rattle.drn_read.specs.declared.error.DrnError.{DrnError}
use Rattle.plift_words.specs.Job.{VerifyData}
use Rattle.plift_top.specs.Verify.{IsAnswerable, IsRefusedAt, IsRefusedOf, IsRefusedOver, lacks_chain}
use Rattle.plift_top.specs.Answers.{status_of}
use Rattle.check_notes.specs.declared.status.Status.TheVariants as status
use Rattle.plift_top.specs.declared.refusal.Refusal.{Refusal}
use Rattle.plift_top.specs.declared.refusal.Refusal.TheVariants as refusal

-- a job whose model is admitted over its region isn't refused over it
never_over : (none : AdmittedHasNoFault) (job : VerifyData) (m : ModelData) (root : Region) → IsAdmitted (case_of m root job.precision) → IsAnswerable job.query m → (named : Result Region RegionError) → named ≡ Ok root → (why : Refusal) → IsRefusedOver job m named why → ⊥
never_over none job m root admitted can (Ok r) is (refusal.Rows error) h =
    let same : r ≡ root = cc in
    none (case_of m root job.precision) error admitted (subst (λ (r : Region). IsFirstFault (case_of m r job.precision) error) same h)
never_over none job m root admitted can (Ok r) is refusal.TooWide h = can.1 h.0 h.2
never_over none job m root admitted can (Ok r) is _ h = absurd h
never_over none job m root admitted can (Err e) is why h = absurd (cc)

-- nor at it
never_of : (none : AdmittedHasNoFault) (job : VerifyData) (m : ModelData) (root : Region) → region m.names job.depth job.region ≡ Ok root → IsAdmitted (case_of m root job.precision) → IsAnswerable job.query m
    → (lacks : Bool) → lacks_chain job.query m.kind ≡ lacks → (why : Refusal) → IsRefusedOf lacks job m why → ⊥
never_of none job m root named admitted can true is why h = let chain = can.0 in absurd (cc)
never_of none job m root named admitted can false is why h = never_over none job m root admitted can (region m.names job.depth job.region) named why h

-- nor at its text
pub never_refused : (none : AdmittedHasNoFault) (job : VerifyData) (answer : Result ModelData DrnError) (m : ModelData) (root : Region) → answer ≡ Ok m → region m.names job.depth job.region ≡ Ok root → IsAdmitted (case_of m root job.precision) → IsAnswerable job.query m → (why : Refusal) → IsRefusedAt job answer why → ⊥
never_refused none job (Ok n) m root is named admitted can why h =
    let same : n ≡ m = cc in
    never_of none job m root named admitted can (lacks_chain job.query m.kind) refl why (subst (λ (n : ModelData). IsRefusedOf (lacks_chain job.query n.kind) job n why) same h)
never_refused none job (Err e) m root is named admitted can why h = absurd (cc)

-- a job whose region names a rectangle is refused over it by its rows
rows_over : (job : VerifyData) (m : ModelData) (root : Region) (named : Result Region RegionError) → named ≡ Ok root → (why : Refusal) → IsRefusedOver job m named why → status_of why ≡ status.RowsRefused
rows_over job m root (Ok r) is (refusal.Rows error) h = refl
rows_over job m root (Ok r) is refusal.TooWide h = refl
rows_over job m root (Ok r) is _ h = absurd h
rows_over job m root (Err e) is why h = absurd (cc)

-- two refusals over a region have one status
one_over : (job : VerifyData) (m : ModelData) (named : Result Region RegionError) (a b : Refusal) → IsRefusedOver job m named a → IsRefusedOver job m named b → status_of a ≡ status_of b
one_over job m (Err e) (refusal.Region f) (refusal.Region g) h k = refl
one_over job m (Err e) (refusal.Region f) _ h k = absurd k
one_over job m (Err e) _ b h k = absurd h
one_over job m (Ok r) a b h k = rows_over job m r (Ok r) refl a h ∙ sym (rows_over job m r (Ok r) refl b k)

-- and so have two at it
one_of : (job : VerifyData) (m : ModelData) (lacks : Bool) (a b : Refusal) → IsRefusedOf lacks job m a → IsRefusedOf lacks job m b → status_of a ≡ status_of b
one_of job m true a b h k = ap status_of (h ∙ sym k)
one_of job m false a b h k = one_over job m (region m.names job.depth job.region) a b h k

-- and so have two at a text
pub one_status : (job : VerifyData) (answer : Result ModelData DrnError) (a b : Refusal) → IsRefusedAt job answer a → IsRefusedAt job answer b → status_of a ≡ status_of b
one_status job (Ok m) a b h k = one_of job m (lacks_chain job.query m.kind) a b h k
one_status job (Err e) (refusal.Model f) (refusal.Model g) h k = refl
one_status job (Err e) (refusal.Model f) _ h k = absurd k
one_status job (Err e) _ b h k = absurd h

-- and one that doesn't lack a chain is refused so at its model
rows_of : (job : VerifyData) (m : ModelData) (root : Region) → region m.names job.depth job.region ≡ Ok root → (lacks : Bool) → lacks ≡ false → (why : Refusal) → IsRefusedOf lacks job m why → status_of why ≡ status.RowsRefused
rows_of job m root named true chain why h = absurd (cc)
rows_of job m root named false chain why h = rows_over job m root (region m.names job.depth job.region) named why h

pub rows_status : (job : VerifyData) (answer : Result ModelData DrnError) (m : ModelData) (root : Region) → answer ≡ Ok m → region m.names job.depth job.region ≡ Ok root → lacks_chain job.query m.kind ≡ false → (why : Refusal) → IsRefusedAt job answer why → status_of why ≡ status.RowsRefused
rows_status job (Ok n) m root is named chain why h =
    let same : n ≡ m = cc in
    rows_of job m root named (lacks_chain job.query m.kind) chain why (subst (λ (n : ModelData). IsRefusedOf (lacks_chain job.query n.kind) job n why) same h)
rows_status job (Err e) m root is named chain why h = absurd (cc)
