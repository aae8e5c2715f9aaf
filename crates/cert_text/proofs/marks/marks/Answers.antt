use Rattle.std.proofs.Common.{rules, ◌≡◌, ◌∙◌, true, false, length, get_or, Some, sym, ap}
use Rattle.cert_text.specs.Left.{mark_first, marks_left}
use Rattle.cert_text.proofs.LineLoops.{marks_begin, one_mark, no_mark}
use Rattle.cert_text.proofs.marks.marks.Goals as goal

pub loop-rest-init : goal.loop-rest-init
loop-rest-init c = ap (λ done. marks_left c.args.ends.now done true c.args.words) c.in_ok-marks.ensures.items ∙ marks_begin c.args.ends.now c.args.words

pub loop-rest-preserved-in_ok-push-in-Some-mark : goal.loop-rest-preserved-in_ok-push-in-Some-mark
loop-rest-preserved-in_ok-push-in-Some-mark c =
    let ends = c.args.ends.now in
    let done = c.loop-rest.marks.items in
    let size : c.len.result ≡ length done = search rules in
    let end = c.at-end.ensures ∙ ap (λ i. get_or ends i 0) size in
    ap (λ xs. marks_left ends xs c.loop-rest.fit c.in-Some.behind) c.in_ok-push-in-Some-mark.ensures.items
    ∙ sym (one_mark ends done c.loop-rest.fit c.loop-rest.rest c.in-Some.behind _ (ap (λ e. mark_first e c.loop-rest.rest) (sym end) ∙ sym c.in-Some.ensures ∙ ap (λ v. Some (v, c.in-Some.behind)) c.in-Some-mark.is)) ∙ c.loop-rest.invariant

pub loop-rest-preserved : goal.loop-rest-preserved
loop-rest-preserved c =
    let ends = c.args.ends.now in
    let done = c.loop-rest.marks.items in
    let size : c.len.result ≡ length done = search rules in
    let end = c.at-end.ensures ∙ ap (λ i. get_or ends i 0) size in
    ap (λ xs. marks_left ends xs false c.in-Some.behind) c.in_ok-push-in-None.ensures.items
    ∙ sym (no_mark ends done c.loop-rest.fit c.loop-rest.rest c.in-Some.behind 0 (ap (λ e. mark_first e c.loop-rest.rest) (sym end) ∙ sym c.in-Some.ensures ∙ ap (λ v. Some (v, c.in-Some.behind)) c.in-None.is)) ∙ c.loop-rest.invariant
