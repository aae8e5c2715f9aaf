use Rattle.view_text.proofs.summary.write_summary.Goals as goal

pub returns-in_err-write_leaves : goal.returns-in_err-write_leaves
returns-in_err-write_leaves g c = c.writes_in_turn.ensures.stopped _ _ _ _ _ _ c.from_residual.ensures.0 c.in_err-write_leaves.ensures

pub returns-in_err-write_shares : goal.returns-in_err-write_shares
returns-in_err-write_shares g c = c.writes_in_turn.ensures.both _ _ _ _ _ _ c.in_ok-write_leaves.ensures (c.writes_in_turn.ensures.stopped _ _ _ _ _ _ c.from_residual-in_err-write_shares.ensures.0 c.in_err-write_shares.ensures)

pub returns-in_err-write_extremes : goal.returns-in_err-write_extremes
returns-in_err-write_extremes g c = c.writes_in_turn.ensures.both _ _ _ _ _ _ c.in_ok-write_leaves.ensures (c.writes_in_turn.ensures.both _ _ _ _ _ _ c.in_ok-write_shares.ensures (c.writes_in_turn.ensures.stopped _ _ _ _ _ _ c.from_residual-in_err-write_extremes.ensures.0 c.in_err-write_extremes.ensures))

pub returns : goal.returns
returns g c = c.writes_in_turn.ensures.both _ _ _ _ _ _ c.in_ok-write_leaves.ensures (c.writes_in_turn.ensures.both _ _ _ _ _ _ c.in_ok-write_shares.ensures (c.writes_in_turn.ensures.both _ _ _ _ _ _ c.in_ok-write_extremes.ensures c.write_depths.ensures))
