use Rattle.std.proofs.Common.{append-nil}
use Rattle.lift_bounded.proofs.Texts.{picks-line}
use Rattle.lift_bounded.proofs.writers.write_choices.Goals as goal

pub returns-in_err-write_words : goal.returns-in_err-write_words
returns-in_err-write_words g c =
    let first = rw (append-nil, c.from.ensures) at c.in_err-write_words.ensures in
    rw (picks-line c.args.n c.args.picks.now) (c.writes_in_turn.ensures.stopped _ _ _ _ _ _ c.from_residual.ensures.0 first)

pub returns-in_err-write_marks : goal.returns-in_err-write_marks
returns-in_err-write_marks g c =
    let first = rw (append-nil, c.from.ensures) at c.in_ok-write_words.ensures in
    rw (picks-line c.args.n c.args.picks.now) (c.writes_in_turn.ensures.both _ _ _ _ _ _ first (c.writes_in_turn.ensures.stopped _ _ _ _ _ _ c.from_residual-in_err-write_marks.ensures.0 c.in_err-write_marks.ensures))

pub returns : goal.returns
returns g c =
    let first = rw (append-nil, c.from.ensures) at c.in_ok-write_words.ensures in
    rw (picks-line c.args.n c.args.picks.now) (c.writes_in_turn.ensures.both _ _ _ _ _ _ first (c.writes_in_turn.ensures.both _ _ _ _ _ _ c.in_ok-write_marks.ensures c.write_all.ensures.wrote))
