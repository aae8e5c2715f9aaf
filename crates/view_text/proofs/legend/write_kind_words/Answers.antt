use Rattle.view_text.proofs.legend.write_kind_words.Goals as goal

pub returns-in_err-write_word : goal.returns-in_err-write_word
returns-in_err-write_word g c = c.writes_in_turn.ensures.stopped _ _ _ _ _ _ c.from_residual.ensures.0 c.in_err-write_word.ensures

pub returns-in_err-write_word-2 : goal.returns-in_err-write_word-2
returns-in_err-write_word-2 g c = c.writes_in_turn.ensures.both _ _ _ _ _ _ c.in_ok-write_word.ensures (c.writes_in_turn.ensures.stopped _ _ _ _ _ _ c.from_residual-in_err-write_word-2.ensures.0 c.in_err-write_word-2.ensures)

pub returns : goal.returns
returns g c = c.writes_in_turn.ensures.both _ _ _ _ _ _ c.in_ok-write_word.ensures (c.writes_in_turn.ensures.both _ _ _ _ _ _ c.in_ok-write_word-2.ensures c.write_word-3.ensures)
