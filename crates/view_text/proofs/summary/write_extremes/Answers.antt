use Rattle.view_text.proofs.summary.write_extremes.Goals as goal

pub returns-in_err-write_leaf_line : goal.returns-in_err-write_leaf_line
returns-in_err-write_leaf_line g c = c.writes_in_turn.ensures.stopped _ _ _ _ _ _ c.from_residual.ensures.0 (rw (c.head.ensures, c.greatest.ensures) at c.in_err-write_leaf_line.ensures)

pub returns : goal.returns
returns g c = c.writes_in_turn.ensures.both _ _ _ _ _ _ (rw (c.head.ensures, c.greatest.ensures) at c.in_ok-write_leaf_line.ensures) (rw (c.head-2.ensures, c.least.ensures) at c.write_leaf_line-2.ensures)
