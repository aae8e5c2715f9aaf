use Rattle.std.proofs.Common.{◌≡◌, ◌∷◌, [], rules, sym, Err, None, Some}
use Rattle.drn_read.specs.Judging.{state_word_fault}
use Rattle.drn_read.specs.Shown.{left, piece, BeginsOpen}
use Rattle.drn_read.specs.declared.error.DrnCause.TheVariants.{OpenQuote}
use Rattle.drn_read.proofs.WordLoops.{at_start, one_more, at_fault, at_end, open_quote}
use Rattle.drn_read.proofs.labels.read_labels.Goals as goal

pub loop-word-init : goal.loop-word-init
loop-word-init c = at_start _ _

pub returns-in_err-word-clause-fault : goal.returns-in_err-word-clause-fault
returns-in_err-word-clause-fault c =
    let e : c.from_residual.result ≡ Err OpenQuote = search rules in
    let b : BeginsOpen (left c.loop-word.words) = search rules in
    rw e (sym (open_quote _ _ _ _ _ c.loop-word.invariant b))

pub returns-in_err-test_state_word-clause-fault : goal.returns-in_err-test_state_word-clause-fault
returns-in_err-test_state_word-clause-fault c =
    let e : c.from_residual-in_err-test_state_word.result ≡ Err c.in_err-test_state_word.field-0.0 = search rules in
    let w : left c.loop-word.words ≡ piece c.in-Some.word ∷ left c.next_word.new.self = search rules in
    let f : state_word_fault c.loop-word.is_first (piece c.in-Some.word) ≡ Some c.in_err-test_state_word.field-0.0 = search rules in
    rw e (sym (at_fault _ _ _ _ _ _ _ _ c.loop-word.invariant w f))

pub loop-word-preserved : goal.loop-word-preserved
loop-word-preserved c =
    let w : left c.loop-word.words ≡ piece c.in-Some.word ∷ left c.next_word.new.self = search rules in
    let f : state_word_fault c.loop-word.is_first (piece c.in-Some.word) ≡ None = search rules in
    one_more _ _ _ _ _ _ _ _ _ c.loop-word.invariant w f c.is_label.ensures c.is_label-in-Some.ensures

pub returns-clause-fault : goal.returns-clause-fault
returns-clause-fault c =
    let w : left c.loop-word.words ≡ [] = search rules in
    sym (at_end _ _ _ _ _ c.loop-word.invariant w).0

pub returns-clause-labels : goal.returns-clause-labels
returns-clause-labels c =
    let w : left c.loop-word.words ≡ [] = search rules in
    (at_end _ _ _ _ _ c.loop-word.invariant w).1
