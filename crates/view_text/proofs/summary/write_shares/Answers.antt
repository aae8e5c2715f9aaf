use Rattle.view_text.proofs.summary.write_shares.Goals as goal

pub returns-in_err-write_share : goal.returns-in_err-write_share
returns-in_err-write_share g c = c.writes_in_turn.ensures.stopped _ _ _ _ _ _ c.from_residual.ensures.0 c.in_err-write_share.ensures

pub returns-in_err-write_share-2 : goal.returns-in_err-write_share-2
returns-in_err-write_share-2 g c = c.writes_in_turn.ensures.both _ _ _ _ _ _ c.in_ok-write_share.ensures (c.writes_in_turn.ensures.stopped _ _ _ _ _ _ c.from_residual-in_err-write_share-2.ensures.0 c.in_err-write_share-2.ensures)

pub returns : goal.returns
returns g c = c.writes_in_turn.ensures.both _ _ _ _ _ _ c.in_ok-write_share.ensures (c.writes_in_turn.ensures.both _ _ _ _ _ _ c.in_ok-write_share-2.ensures c.write_share-3.ensures)
