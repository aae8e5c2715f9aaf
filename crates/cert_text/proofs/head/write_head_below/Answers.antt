use Rattle.cert_text.proofs.head.write_head_below.Goals as goal

pub returns-in_err-write_all : goal.returns-in_err-write_all
returns-in_err-write_all g c = c.writes_in_turn.ensures.stopped _ _ _ _ _ _ c.from_residual.ensures.0 c.in_err-write_all.ensures.wrote

pub returns : goal.returns
returns g c = c.writes_in_turn.ensures.both _ _ _ _ _ _ c.in_ok-write_all.ensures.wrote c.write_region.ensures
