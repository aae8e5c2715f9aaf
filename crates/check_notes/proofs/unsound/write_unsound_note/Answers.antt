use Rattle.check_notes.proofs.unsound.write_unsound_note.Goals as goal

pub returns-in_err-write_all : goal.returns-in_err-write_all
returns-in_err-write_all g c = c.writes_in_turn.ensures.stopped _ _ _ _ _ _ c.from_residual.ensures.0 c.in_err-write_all.ensures.wrote

pub returns-in_err-write_fault : goal.returns-in_err-write_fault
returns-in_err-write_fault g c =
    c.writes_in_turn.ensures.both _ _ _ _ _ _ c.in_ok-write_all.ensures.wrote (c.writes_in_turn.ensures.stopped _ _ _ _ _ _ c.from_residual-in_err-write_fault.ensures.0 c.in_err-write_fault.ensures)

pub returns : goal.returns
returns g c =
    c.writes_in_turn.ensures.both _ _ _ _ _ _ c.in_ok-write_all.ensures.wrote (c.writes_in_turn.ensures.both _ _ _ _ _ _ c.in_ok-write_fault.ensures c.write_all-2.ensures.wrote)
