use Rattle.view_text.proofs.title.write_title.Goals as goal

pub returns-in_err-write_all : goal.returns-in_err-write_all
returns-in_err-write_all g c = c.writes_in_turn.ensures.stopped _ _ _ _ _ _ c.from_residual.ensures.0 c.in_err-write_all.ensures.wrote

pub returns-in_err-write_question : goal.returns-in_err-write_question
returns-in_err-write_question g c = c.writes_in_turn.ensures.both _ _ _ _ _ _ c.in_ok-write_all.ensures.wrote (c.writes_in_turn.ensures.stopped _ _ _ _ _ _ c.from_residual-in_err-write_question.ensures.0 (rw (c.head.ensures) at c.in_err-write_question.ensures))

pub returns-in_err-write_all-2 : goal.returns-in_err-write_all-2
returns-in_err-write_all-2 g c = c.writes_in_turn.ensures.both _ _ _ _ _ _ c.in_ok-write_all.ensures.wrote (c.writes_in_turn.ensures.both _ _ _ _ _ _ (rw (c.head.ensures) at c.in_ok-write_question.ensures) (c.writes_in_turn.ensures.stopped _ _ _ _ _ _ c.from_residual-in_err-write_all-2.ensures.0 c.in_err-write_all-2.ensures.wrote))

pub returns-in_err-write_model : goal.returns-in_err-write_model
returns-in_err-write_model g c = c.writes_in_turn.ensures.both _ _ _ _ _ _ c.in_ok-write_all.ensures.wrote (c.writes_in_turn.ensures.both _ _ _ _ _ _ (rw (c.head.ensures) at c.in_ok-write_question.ensures) (c.writes_in_turn.ensures.both _ _ _ _ _ _ c.in_ok-write_all-2.ensures.wrote (c.writes_in_turn.ensures.stopped _ _ _ _ _ _ c.from_residual-in_err-write_model.ensures.0 (rw (c.model.ensures, c.head-2.ensures) at c.in_err-write_model.ensures))))

pub returns-in_err-write_all-3 : goal.returns-in_err-write_all-3
returns-in_err-write_all-3 g c = c.writes_in_turn.ensures.both _ _ _ _ _ _ c.in_ok-write_all.ensures.wrote (c.writes_in_turn.ensures.both _ _ _ _ _ _ (rw (c.head.ensures) at c.in_ok-write_question.ensures) (c.writes_in_turn.ensures.both _ _ _ _ _ _ c.in_ok-write_all-2.ensures.wrote (c.writes_in_turn.ensures.both _ _ _ _ _ _ (rw (c.model.ensures, c.head-2.ensures) at c.in_ok-write_model.ensures) (c.writes_in_turn.ensures.stopped _ _ _ _ _ _ c.from_residual-in_err-write_all-3.ensures.0 c.in_err-write_all-3.ensures.wrote))))

pub returns-in_err-write_shares : goal.returns-in_err-write_shares
returns-in_err-write_shares g c = c.writes_in_turn.ensures.both _ _ _ _ _ _ c.in_ok-write_all.ensures.wrote (c.writes_in_turn.ensures.both _ _ _ _ _ _ (rw (c.head.ensures) at c.in_ok-write_question.ensures) (c.writes_in_turn.ensures.both _ _ _ _ _ _ c.in_ok-write_all-2.ensures.wrote (c.writes_in_turn.ensures.both _ _ _ _ _ _ (rw (c.model.ensures, c.head-2.ensures) at c.in_ok-write_model.ensures) (c.writes_in_turn.ensures.both _ _ _ _ _ _ c.in_ok-write_all-3.ensures.wrote (c.writes_in_turn.ensures.stopped _ _ _ _ _ _ c.from_residual-in_err-write_shares.ensures.0 c.in_err-write_shares.ensures)))))

pub returns : goal.returns
returns g c = c.writes_in_turn.ensures.both _ _ _ _ _ _ c.in_ok-write_all.ensures.wrote (c.writes_in_turn.ensures.both _ _ _ _ _ _ (rw (c.head.ensures) at c.in_ok-write_question.ensures) (c.writes_in_turn.ensures.both _ _ _ _ _ _ c.in_ok-write_all-2.ensures.wrote (c.writes_in_turn.ensures.both _ _ _ _ _ _ (rw (c.model.ensures, c.head-2.ensures) at c.in_ok-write_model.ensures) (c.writes_in_turn.ensures.both _ _ _ _ _ _ c.in_ok-write_all-3.ensures.wrote (c.writes_in_turn.ensures.both _ _ _ _ _ _ c.in_ok-write_shares.ensures c.write_all-4.ensures.wrote)))))
