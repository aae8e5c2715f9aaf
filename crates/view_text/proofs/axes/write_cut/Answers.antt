use Rattle.view_text.proofs.axes.write_cut.Goals as goal

pub returns-in_err-write_cut_start : goal.returns-in_err-write_cut_start
returns-in_err-write_cut_start g c = c.writes_in_turn.ensures.stopped _ _ _ _ _ _ c.from_residual.ensures.0 c.in_err-write_cut_start.ensures

pub returns-in_err-write_label : goal.returns-in_err-write_label
returns-in_err-write_label g c = c.writes_in_turn.ensures.both _ _ _ _ _ _ c.in_ok-write_cut_start.ensures (c.writes_in_turn.ensures.stopped _ _ _ _ _ _ c.from_residual-in_err-write_label.ensures.0 (rw (c.parameter.ensures) at c.in_err-write_label.ensures))

pub returns-in_err-write_all : goal.returns-in_err-write_all
returns-in_err-write_all g c = c.writes_in_turn.ensures.both _ _ _ _ _ _ c.in_ok-write_cut_start.ensures (c.writes_in_turn.ensures.both _ _ _ _ _ _ (rw (c.parameter.ensures) at c.in_ok-write_label.ensures) (c.writes_in_turn.ensures.stopped _ _ _ _ _ _ c.from_residual-in_err-write_all.ensures.0 c.in_err-write_all.ensures.wrote))

pub returns-in_err-write_value : goal.returns-in_err-write_value
returns-in_err-write_value g c = c.writes_in_turn.ensures.both _ _ _ _ _ _ c.in_ok-write_cut_start.ensures (c.writes_in_turn.ensures.both _ _ _ _ _ _ (rw (c.parameter.ensures) at c.in_ok-write_label.ensures) (c.writes_in_turn.ensures.both _ _ _ _ _ _ c.in_ok-write_all.ensures.wrote (c.writes_in_turn.ensures.stopped _ _ _ _ _ _ c.from_residual-in_err-write_value.ensures.0 c.in_err-write_value.ensures)))

pub returns : goal.returns
returns g c = c.writes_in_turn.ensures.both _ _ _ _ _ _ c.in_ok-write_cut_start.ensures (c.writes_in_turn.ensures.both _ _ _ _ _ _ (rw (c.parameter.ensures) at c.in_ok-write_label.ensures) (c.writes_in_turn.ensures.both _ _ _ _ _ _ c.in_ok-write_all.ensures.wrote (c.writes_in_turn.ensures.both _ _ _ _ _ _ c.in_ok-write_value.ensures c.write_all-2.ensures.wrote)))
