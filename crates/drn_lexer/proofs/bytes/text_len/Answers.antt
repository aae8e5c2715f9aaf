use Rattle.std.proofs.Common.{sym, ap, ◌∙◌, arith}
use lib.Count.{count_trailing_zeros}
use Rattle.drn_lexer.specs.Bytes.{is_text_byte, is_other_byte}
use Rattle.drn_lexer.proofs.Runs.{run_bound, not-not, run_through, run_stops}
use Rattle.drn_lexer.proofs.bytes.text_len.Goals as goal

pub returns-then-found-ne0-clause-len : goal.returns-then-found-ne0-clause-len
returns-then-found-ne0-clause-len c =
    let found = c.others-found in
    let run = run_stops is_other_byte is_text_byte (λ x. not-not (is_text_byte x)) c.args.text.now c.loop-i.i 16 (omega arith) (omega arith) (omega (arith, found.ensures)) ∙ ap (count_trailing_zeros 64) (sym found.ensures) in
    omega (arith, run, c.loop-i.invariant.0)

pub returns-then-found-ne0-clause-within : goal.returns-then-found-ne0-clause-within
returns-then-found-ne0-clause-within c =
    let found = c.others-found in
    let run = run_stops is_other_byte is_text_byte (λ x. not-not (is_text_byte x)) c.args.text.now c.loop-i.i 16 (omega arith) (omega arith) (omega (arith, found.ensures)) ∙ ap (count_trailing_zeros 64) (sym found.ensures) in
    omega (arith, run, run_bound is_text_byte c.args.text.now c.loop-i.i c.loop-i.invariant.1)

pub loop-i-preserved : goal.loop-i-preserved
loop-i-preserved c =
    let run = run_through is_other_byte is_text_byte (λ x. not-not (is_text_byte x)) c.args.text.now c.loop-i.i 16 (omega arith) (omega (arith, c.others-found.ensures)) in
    (omega (arith, run, c.loop-i.invariant.0), omega arith)
