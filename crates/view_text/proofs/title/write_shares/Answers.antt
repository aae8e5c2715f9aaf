use Rattle.view_text.proofs.title.write_shares.Goals as goal

pub returns-in_err-write_percent : goal.returns-in_err-write_percent
returns-in_err-write_percent g c = c.writes_in_turn.ensures.stopped _ _ _ _ _ _ c.from_residual.ensures.0 (rw (c.share_of.ensures.share) at c.in_err-write_percent.ensures)

pub returns-in_err-write_percent-2 : goal.returns-in_err-write_percent-2
returns-in_err-write_percent-2 g c = c.writes_in_turn.ensures.both _ _ _ _ _ _ (rw (c.share_of.ensures.share) at c.in_ok-write_percent.ensures) (c.writes_in_turn.ensures.stopped _ _ _ _ _ _ c.from_residual-in_err-write_percent-2.ensures.0 (rw (c.share_of-2.ensures.share) at c.in_err-write_percent-2.ensures))

pub returns-in_err-write_percent-3 : goal.returns-in_err-write_percent-3
returns-in_err-write_percent-3 g c = c.writes_in_turn.ensures.both _ _ _ _ _ _ (rw (c.share_of.ensures.share) at c.in_ok-write_percent.ensures) (c.writes_in_turn.ensures.both _ _ _ _ _ _ (rw (c.share_of-2.ensures.share) at c.in_ok-write_percent-2.ensures) (c.writes_in_turn.ensures.stopped _ _ _ _ _ _ c.from_residual-in_err-write_percent-3.ensures.0 (rw (c.share_of-3.ensures.share) at c.in_err-write_percent-3.ensures)))

pub returns : goal.returns
returns g c = c.writes_in_turn.ensures.both _ _ _ _ _ _ (rw (c.share_of.ensures.share) at c.in_ok-write_percent.ensures) (c.writes_in_turn.ensures.both _ _ _ _ _ _ (rw (c.share_of-2.ensures.share) at c.in_ok-write_percent-2.ensures) (c.writes_in_turn.ensures.both _ _ _ _ _ _ (rw (c.share_of-3.ensures.share) at c.in_ok-write_percent-3.ensures) c.write_all.ensures.wrote))
