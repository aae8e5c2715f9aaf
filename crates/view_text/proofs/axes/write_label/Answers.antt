use Rattle.view_text.proofs.axes.write_label.Goals as goal

pub returns-in_err-write_all : goal.returns-in_err-write_all
returns-in_err-write_all g c = c.writes_in_turn.ensures.stopped _ _ _ _ _ _ c.from_residual.ensures.0 c.in_err-write_all.ensures.wrote

pub returns-in_err-write_all-2 : goal.returns-in_err-write_all-2
returns-in_err-write_all-2 g c = c.writes_in_turn.ensures.both _ _ _ _ _ _ c.in_ok-write_all.ensures.wrote (c.writes_in_turn.ensures.stopped _ _ _ _ _ _ c.from_residual-in_err-write_all-2.ensures.0 (rw (c.parameter_name-name.ensures) at c.in_err-write_all-2.ensures.wrote))

pub returns-in_err-write_all-3 : goal.returns-in_err-write_all-3
returns-in_err-write_all-3 g c = c.writes_in_turn.ensures.both _ _ _ _ _ _ c.in_ok-write_all.ensures.wrote (c.writes_in_turn.ensures.both _ _ _ _ _ _ (rw (c.parameter_name-name.ensures) at c.in_ok-write_all-2.ensures.wrote) (c.writes_in_turn.ensures.stopped _ _ _ _ _ _ c.from_residual-in_err-write_all-3.ensures.0 c.in_err-write_all-3.ensures.wrote))

pub returns : goal.returns
returns g c = c.writes_in_turn.ensures.both _ _ _ _ _ _ c.in_ok-write_all.ensures.wrote (c.writes_in_turn.ensures.both _ _ _ _ _ _ (rw (c.parameter_name-name.ensures) at c.in_ok-write_all-2.ensures.wrote) (c.writes_in_turn.ensures.both _ _ _ _ _ _ c.in_ok-write_all-3.ensures.wrote (rw (c.parameter_name-name.ensures) at c.write_short.ensures)))
