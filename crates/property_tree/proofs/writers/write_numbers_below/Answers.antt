use Rattle.property_tree.proofs.writers.write_numbers_below.Goals as goal

pub returns-in_err-write_rate : goal.returns-in_err-write_rate
returns-in_err-write_rate g c = c.writes_in_turn.ensures.stopped _ _ _ _ _ _ c.from_residual.ensures.0 c.in_err-write_rate.ensures

pub returns : goal.returns
returns g c = c.writes_in_turn.ensures.both _ _ _ _ _ _ c.in_ok-write_rate.ensures c.write_numbers.ensures
