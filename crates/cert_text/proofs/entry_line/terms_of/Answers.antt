use Rattle.std.proofs.Common.{rules, ◌∙◌, ◌≤◌, ◌++◌, ◌∷◌, [], length, bit_or, Ok, None, Some, sym, ap}
use Rattle.std.specs.Prelude.{pos}
use Rattle.cert_text.proofs.EntryTerms.{terms_left, terms_begin, term_goes, term_fails, term_shorter, terms_none, terms_whole, verdict, read_terms}
use Rattle.cert_text.proofs.entry_line.terms_of.Goals as goal

pub loop-rest-init : goal.loop-rest-init
loop-rest-init c = ap (λ done. terms_left None done c.args.parameters 0 None c.args.words) c.in_ok-terms.ensures.items ∙ terms_begin c.args.parameters c.args.words

pub returns-in_default : goal.returns-in_default
returns-in_default c = λ _. sym c.loop-rest.invariant ∙ terms_none c.loop-rest.fault c.loop-rest.terms.items c.args.parameters c.loop-rest.seen c.loop-rest.before c.loop-rest.rest (sym c.term_first.ensures ∙ c.in_default.is) (sym c.loop-rest-test.ensures)

pub loop-rest-preserved-in_ok-push-in-Ok : goal.loop-rest-preserved-in_ok-push-in-Ok
loop-rest-preserved-in_ok-push-in-Ok c =
    let l = c.loop-rest in
    let p = c.args.parameters in
    let t = c.in-Ok.term in
    ap (λ xs. terms_left l.fault xs p (bit_or l.seen t.0) (Some c.from.result) c.in-Some.behind) c.in_ok-push-in-Ok.ensures.items
    ∙ ap (λ b. terms_left l.fault (l.terms.items ++ t ∷ []) p (bit_or l.seen t.0) (Some b) c.in-Some.behind) c.from.ensures
    ∙ sym (term_goes l.fault l.terms.items p l.seen l.before t l.rest c.in-Some.behind (sym c.in-Some.ensures ∙ ap (λ r. Some (r, c.in-Some.behind)) c.in-Ok.is)) ∙ l.invariant

pub loop-rest-preserved : goal.loop-rest-preserved
loop-rest-preserved c =
    let l = c.loop-rest in
    let p = c.args.parameters in
    ap (λ xs. terms_left (Some c.in-Err.cause) xs p l.seen l.before c.in-Some.behind) c.in_ok-push-in-Err.ensures.items
    ∙ sym (term_fails l.fault l.terms.items p l.seen l.before (0, pos 0) c.in-Err.cause l.rest c.in-Some.behind (sym c.in-Some.ensures ∙ ap (λ r. Some (r, c.in-Some.behind)) c.in-Err.is)) ∙ l.invariant

pub loop-rest-smaller-in_ok-push-in-Ok : goal.loop-rest-smaller-in_ok-push-in-Ok
loop-rest-smaller-in_ok-push-in-Ok c = let l = c.loop-rest in term_shorter l.fault c.args.parameters l.seen l.before c.in-Some.read l.rest c.in-Some.behind (sym c.in-Some.ensures)

pub loop-rest-smaller : goal.loop-rest-smaller
loop-rest-smaller c = let l = c.loop-rest in term_shorter l.fault c.args.parameters l.seen l.before c.in-Some.read l.rest c.in-Some.behind (sym c.in-Some.ensures)

pub from_vec-requires : goal.from_vec-requires
from_vec-requires c =
    let l = c.loop-rest in
    let few : length l.terms.items ≤ 16 = search rules in
    read_terms c.args.parameters c.args.words l.terms.items c.requires (sym l.invariant ∙ terms_whole l.fault l.terms.items c.args.parameters l.seen l.before l.rest (sym c.loop-rest-test.ensures) few ∙ ap (λ f. Ok (verdict f l.terms.items)) c.in-None.is)

pub returns-in_ok-poly-in-None : goal.returns-in_ok-poly-in-None
returns-in_ok-poly-in-None c =
    let l = c.loop-rest in
    let few : length l.terms.items ≤ 16 = search rules in
    sym l.invariant ∙ terms_whole l.fault l.terms.items c.args.parameters l.seen l.before l.rest (sym c.loop-rest-test.ensures) few ∙ ap (λ f. Ok (verdict f l.terms.items)) c.in-None.is ∙ ap (λ p. Ok (Ok p)) (sym (c.in_ok-poly-in-None.ensures ∙ c.from_vec.ensures))

pub returns-in-Some-fault : goal.returns-in-Some-fault
returns-in-Some-fault c =
    let l = c.loop-rest in
    let few : length l.terms.items ≤ 16 = search rules in
    sym l.invariant ∙ terms_whole l.fault l.terms.items c.args.parameters l.seen l.before l.rest (sym c.loop-rest-test.ensures) few ∙ ap (λ f. Ok (verdict f l.terms.items)) c.in-Some-fault.is
