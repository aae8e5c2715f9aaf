use Rattle.check_notes.proofs.Pieces.{row_parts}
use Rattle.check_notes.proofs.rows.write_row_words.Goals as goal

pub returns-in_err-write_words : goal.returns-in_err-write_words
returns-in_err-write_words g c =
    rw (row_parts c.args.error) (c.writes_in_turn.ensures.stopped _ _ _ _ _ _ c.from_residual.ensures.0 (rw (c.from.ensures, c.from-2.ensures, c.row-state.ensures) at c.in_err-write_words.ensures))

pub returns : goal.returns
returns g c =
    rw (row_parts c.args.error) (c.writes_in_turn.ensures.both _ _ _ _ _ _ (rw (c.from.ensures, c.from-2.ensures, c.row-state.ensures) at c.in_ok-write_words.ensures) c.write_row_fault.ensures)
