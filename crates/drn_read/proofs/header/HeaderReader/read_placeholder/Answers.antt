use Rattle.std.proofs.Common.{◌≡◌, ℕ, List, rules, refl, subst, ◌∙◌, Some, None, Ok, Err}
use Rattle.drn_read.specs.Sections.{Header}
use Rattle.drn_read.specs.Judging.{placeholder_name_fault, placeholder_fault}
use Rattle.drn_read.specs.Keeping.{with_placeholder}
use Rattle.drn_read.specs.Shown.{Tells, IsNewName, rest}
use Rattle.drn_read.specs.contracts.header.HeaderReader.{the_view}
use Rattle.drn_read.proofs.PlaceholderLines.{name_refused, value_refused, value_read, place_sound, placed}
use Rattle.drn_read.proofs.header.HeaderReader.read_placeholder.Goals as goal

pub returns-in_err-name-clause-fault : goal.returns-in_err-name-clause-fault
returns-in_err-name-clause-fault c =
    let line = rest c.args.line in
    let e : c.from_residual.result ≡ Err c.in_err-name.field-0.0 = search rules in
    let wrong = subst (λ (l : List ℕ). Some c.in_err-name.field-0.0 ≡ placeholder_name_fault c.self.inside.placeholders l) c.rest.ensures c.in_err-name.ensures.fault in
    let f : placeholder_fault (the_view c.self.inside) line ≡ _ = name_refused (the_view c.self.inside) line c.in_err-name.field-0.0 wrong in
    subst (λ (h : Header). Tells c.from_residual.result (placeholder_fault h line)) c.self.view_is (rw e (λ m. f))

pub returns-in_err-value-clause-fault : goal.returns-in_err-value-clause-fault
returns-in_err-value-clause-fault c =
    let line = rest c.args.line in
    let e : c.from_residual-in_err-value.result ≡ Err c.in_err-value.field-0.0 = search rules in
    let named = subst (λ (l : List ℕ). None ≡ placeholder_name_fault c.self.inside.placeholders l) c.rest.ensures c.in_ok-name.ensures.fault in
    let new : IsNewName c.self.inside.placeholders line c.in_ok-name.name.now = subst (λ (l : List ℕ). IsNewName c.self.inside.placeholders l c.in_ok-name.name.now) c.rest.ensures c.in_ok-name.ensures.name in
    subst (λ (h : Header). Tells c.from_residual-in_err-value.result (placeholder_fault h line)) c.self.view_is
    (rw e (value_refused (the_view c.self.inside) line _ (Err c.in_err-value.field-0.0) c.in_err-value.field-0.0 named (c.forward.ensures ∙ new.behind) refl c.in_err-value.ensures))

pub returns-clause-fault : goal.returns-clause-fault
returns-clause-fault c =
    let line = rest c.args.line in
    let named = subst (λ (l : List ℕ). None ≡ placeholder_name_fault c.self.inside.placeholders l) c.rest.ensures c.in_ok-name.ensures.fault in
    let new : IsNewName c.self.inside.placeholders line c.in_ok-name.name.now = subst (λ (l : List ℕ). IsNewName c.self.inside.placeholders l c.in_ok-name.name.now) c.rest.ensures c.in_ok-name.ensures.name in
    let value = value_read (the_view c.self.inside) line _ (Ok c.in_ok-value.value) c.in_ok-value.value (c.forward.ensures ∙ new.behind) refl c.in_ok-value.ensures in
    subst (λ (h : Header). placeholder_fault h line ≡ None) c.self.view_is (place_sound (the_view c.self.inside) line c.in_ok-value.value named value)

pub returns-clause-after : goal.returns-clause-after
returns-clause-after c =
    let line = rest c.args.line in
    let new : IsNewName c.self.inside.placeholders line c.in_ok-name.name.now = subst (λ (l : List ℕ). IsNewName c.self.inside.placeholders l c.in_ok-name.name.now) c.rest.ensures c.in_ok-name.ensures.name in
    let value = value_read (the_view c.self.inside) line _ (Ok c.in_ok-value.value) c.in_ok-value.value (c.forward.ensures ∙ new.behind) refl c.in_ok-value.ensures in
    let kept = placed (the_view c.self.inside) line c.in_ok-name.name.now c.in_ok-value.value c.push.new.self new.name value (rw c.in_ok-new.ensures at c.in_ok-push.ensures) in
    subst (λ (h : Header). the_view (record c.self.inside { placeholders = c.push.new.self }) ≡ with_placeholder h line) c.self.view_is kept
