use Rattle.std.proofs.Common.{◌≡◌, ◌≤◌, ℕ, List, drop, Some, rules, subst, sym, ap, ◌∙◌}
use Rattle.drn_read.specs.Judging.{target_text_fault}
use Rattle.drn_read.specs.ModelSteps.{IsTransitionFront}
use Rattle.drn_read.specs.declared.front.TransitionFront.{TransitionFront}
use Rattle.drn_read.specs.declared.error.DrnCause.TheVariants.{Syntax}
use Rattle.drn_read.specs.Text.{most_digits, behind_colon}
use Rattle.drn_read.specs.Shown.{rest}
use Rattle.drn_read.proofs.Entries.{digits_end, long_text, front_is}
use Rattle.drn_read.proofs.entry.transition_front.Goals as goal

pub returns-then-digits-gt-MOST_DIGITS-clause-none : goal.returns-then-digits-gt-MOST_DIGITS-clause-none
returns-then-digits-gt-MOST_DIGITS-clause-none c =
    let line = c.rest-text.result.now in
    let wrong = long_text line c.digits_len-digits.result (digits_end line c.digits_len-digits.result c.digits_len-digits.ensures.len) c.digits_len-digits.ensures.within (search rules) in
    subst (λ (l : List ℕ). target_text_fault l ≡ Some Syntax) c.rest-text.ensures wrong

pub short_number-requires-clause-digits : goal.short_number-requires-clause-digits
short_number-requires-clause-digits c = (digits_end c.rest-text.result.now c.digits_len-digits.result c.digits_len-digits.ensures.len).all

pub returns-clause-some : goal.returns-clause-some
returns-clause-some c =
    let line = c.rest-text.result.now in
    let digits = c.digits_len-digits.result in
    let front : TransitionFront = record { target = c.short_number.result; value = c.in-Some.value } in
    let short : digits ≤ most_digits = search rules in
    let value : behind_colon (drop digits line) ≡ Some (rest front.value) =
    ap (λ (l : List ℕ). behind_colon (drop digits l)) c.rest-text.ensures ∙ ap behind_colon (sym c.forward.ensures) ∙ sym c.in-Some.ensures in
    subst (λ (l : List ℕ). IsTransitionFront l front) c.rest-text.ensures
    (front_is line digits front (digits_end line digits c.digits_len-digits.ensures.len) c.digits_len-digits.ensures.within short value c.short_number.ensures)
