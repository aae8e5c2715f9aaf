use Rattle.cert_text.specs.Report.{mark_word}
use Rattle.property_tree.proofs.Texts.{line-words}
use Rattle.property_tree.proofs.writers.write_mark_line.Goals as goal

pub returns-in_err-write_all : goal.returns-in_err-write_all
returns-in_err-write_all g c =
    rw (line-words mark_word c.args.key.now c.args.marks.now) (c.writes_in_turn.ensures.stopped _ _ _ _ _ _ c.from_residual.ensures.0 c.in_err-write_all.ensures.wrote)

pub returns-in_err-write_marks : goal.returns-in_err-write_marks
returns-in_err-write_marks g c =
    rw (line-words mark_word c.args.key.now c.args.marks.now) (c.writes_in_turn.ensures.both _ _ _ _ _ _ c.in_ok-write_all.ensures.wrote (c.writes_in_turn.ensures.stopped _ _ _ _ _ _ c.from_residual-in_err-write_marks.ensures.0 c.in_err-write_marks.ensures))

pub returns : goal.returns
returns g c =
    rw (line-words mark_word c.args.key.now c.args.marks.now) (c.writes_in_turn.ensures.both _ _ _ _ _ _ c.in_ok-write_all.ensures.wrote (c.writes_in_turn.ensures.both _ _ _ _ _ _ c.in_ok-write_marks.ensures c.write_all-2.ensures.wrote))
