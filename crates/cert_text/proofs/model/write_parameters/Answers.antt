use Rattle.std.proofs.Common.{append-nil, length}
use Rattle.std.specs.Fmt.{decimal}
use Rattle.cert_text.proofs.Lines.{line-names}
use Rattle.cert_text.proofs.model.write_parameters.Goals as goal

pub returns-in_err-write_words : goal.returns-in_err-write_words
returns-in_err-write_words g c =
    let first = rw (append-nil, c.from.ensures, c.len.ensures.len) at c.in_err-write_words.ensures in
    rw (line-names (decimal (length c.args.names.now)) c.args.names.now) (c.writes_in_turn.ensures.stopped _ _ _ _ _ _ c.from_residual.ensures.0 first)

pub returns-in_err-write_names : goal.returns-in_err-write_names
returns-in_err-write_names g c =
    let first = rw (append-nil, c.from.ensures, c.len.ensures.len) at c.in_ok-write_words.ensures in
    rw (line-names (decimal (length c.args.names.now)) c.args.names.now) (c.writes_in_turn.ensures.both _ _ _ _ _ _ first (c.writes_in_turn.ensures.stopped _ _ _ _ _ _ c.from_residual-in_err-write_names.ensures.0 c.in_err-write_names.ensures))

pub returns : goal.returns
returns g c =
    let first = rw (append-nil, c.from.ensures, c.len.ensures.len) at c.in_ok-write_words.ensures in
    rw (line-names (decimal (length c.args.names.now)) c.args.names.now) (c.writes_in_turn.ensures.both _ _ _ _ _ _ first (c.writes_in_turn.ensures.both _ _ _ _ _ _ c.in_ok-write_names.ensures c.write_all.ensures.wrote))
