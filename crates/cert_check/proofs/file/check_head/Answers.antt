use Rattle.std.proofs.Common.{◌≡◌, Err, refl, sym, ◌∙◌, subst, rules}
use Rattle.corner_lift.specs.Case.{IsAdmitted}
use Rattle.line_text.specs.Follow.{place}
use Rattle.cert_check.specs.Answer.{HeadEnds}
use Rattle.cert_check.specs.declared.error.CheckError.TheVariants.{Memory, Rows}
use Rattle.cert_check.proofs.Walking.{begin, faulted, left_as, tail, wanting}
use Rattle.cert_check.proofs.Steps.{Nodes, case_same, fault_ends, head_nodes}
use Rattle.cert_check.proofs.file.check_head.Goals as goal

pub returns-in_err-admit-clause-end : goal.returns-in_err-admit-clause-end
returns-in_err-admit-clause-end g c =
    let h = c.args.head.now in
    let a = c.args.walk.now.lines in
    let adds = c.calls_add_up.ensures in
    let e = c.in_err-admit.field-0.0 in
    let same = case_same h.asked c.model-in_default.result.now c.root.result.now c.grid.result c.w-in_default.result c.model-in_default.ensures c.root.ensures c.grid.ensures.d c.grid.ensures.depth c.w-in_default.ensures.value in
    let is : c.from_residual.result ≡ Err (Rows e) = search rules in
    faulted adds (λ _ s. s) (Rows e) c.from_residual.result is c.requires.clean refl (begin adds (λ later. HeadEnds h (place a later)) a c.args.src.now) (λ _ later. fault_ends h (place a later) _ e same c.in_err-admit.ensures.fault)

pub returns-in_default-clause-end : goal.returns-in_default-clause-end
returns-in_default-clause-end g c =
    let h = c.args.head.now in
    let a = c.args.walk.now.lines in
    wanting c.calls_add_up.ensures (λ _ s. s) (Err Memory) refl c.requires.clean (begin c.calls_add_up.ensures (λ later. HeadEnds h (place a later)) a c.args.src.now)

pub returns-in_err-case-clause-end : goal.returns-in_err-case-clause-end
returns-in_err-case-clause-end g c =
    let h = c.args.head.now in
    let a = c.args.walk.now.lines in
    let adds = c.calls_add_up.ensures in
    let e = c.in_err-case.field-0.0 in
    let same = case_same h.asked c.model-2.result.now c.root-2.result.now c.grid-2.result c.w-2.result c.model-2.ensures c.root-2.ensures c.grid-2.ensures.d c.grid-2.ensures.depth c.w-2.ensures.value in
    let is : c.from_residual-in_err-case.result ≡ Err (Rows e) = search rules in
    faulted adds (λ _ s. s) (Rows e) c.from_residual-in_err-case.result is c.requires.clean refl (begin adds (λ later. HeadEnds h (place a later)) a c.args.src.now) (λ _ later. fault_ends h (place a later) _ e same c.in_err-case.ensures.fault)

pub returns-clause-end : goal.returns-clause-end
returns-clause-end g c =
    let h = c.args.head.now in
    let a = c.args.walk.now.lines in
    let adds = c.calls_add_up.ensures in
    let parts = case_same h.asked c.model-2.result.now c.root-2.result.now c.grid-2.result c.w-2.result c.model-2.ensures c.root-2.ensures c.grid-2.ensures.d c.grid-2.ensures.depth c.w-2.ensures.value in
    let same : c.in_ok-case.case ≡ h.asked = c.in_ok-case.ensures.case ∙ parts in
    let admitted : IsAdmitted c.in_ok-case.case = subst IsAdmitted (sym c.in_ok-case.ensures.case) (c.in_ok-case.ensures.admitted.0 refl) in
    tail adds c.check_nodes.result (left_as (Nodes h a) (λ later answer nodes. head_nodes h (place a later) c.in_ok-case.case answer same admitted nodes) (begin adds (λ later. HeadEnds h (place a later)) a c.args.src.now)) c.check_nodes.ensures.end
