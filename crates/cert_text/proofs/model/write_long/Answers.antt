use Rattle.std.proofs.Common.{append-nil}
use Rattle.std.specs.Fmt.{decimal}
use Rattle.cert_text.specs.Report.{term_word}
use Rattle.cert_text.proofs.Lines.{line-words}
use Rattle.cert_text.proofs.model.write_long.Goals as goal

pub returns-in_err-write_words : goal.returns-in_err-write_words
returns-in_err-write_words g c =
    let first = rw (append-nil, c.from.ensures) at c.in_err-write_words.ensures in
    rw (line-words term_word (decimal c.args.entry.now.target)) (c.writes_in_turn.ensures.stopped _ _ _ _ _ _ c.from_residual.ensures.0 first)

pub returns-in_err-write_terms : goal.returns-in_err-write_terms
returns-in_err-write_terms g c =
    let first = rw (append-nil, c.from.ensures) at c.in_ok-write_words.ensures in
    rw (line-words term_word (decimal c.args.entry.now.target)) (c.writes_in_turn.ensures.both _ _ _ _ _ _ first (c.writes_in_turn.ensures.stopped _ _ _ _ _ _ c.from_residual-in_err-write_terms.ensures.0 (rw c.deref.ensures at c.in_err-write_terms.ensures)))

pub returns : goal.returns
returns g c =
    let first = rw (append-nil, c.from.ensures) at c.in_ok-write_words.ensures in
    rw (line-words term_word (decimal c.args.entry.now.target)) (c.writes_in_turn.ensures.both _ _ _ _ _ _ first (c.writes_in_turn.ensures.both _ _ _ _ _ _ (rw c.deref.ensures at c.in_ok-write_terms.ensures) c.write_all.ensures.wrote))
