use Rattle.std.proofs.Common.{length, arith}
use Rattle.cert_check.proofs.Sources.{passes, text_says, text_reported}
use Rattle.cert_check.proofs.text.check_text.Goals as goal

pub returns-clause-sound : goal.returns-clause-sound
returns-clause-sound c =
    passes c.sound_files_pass.ensures.sound c.args.text.now c.check_within.result
    (text_says (length c.args.text.now) c.args.text.now c.check_within.new.src c.sound_files_pass.ensures.pass (omega arith) c.check_within.result (rw c.new.ensures at c.check_within.ensures.answer))

pub returns-clause-answer : goal.returns-clause-answer
returns-clause-answer c = text_says (length c.args.text.now) c.args.text.now c.check_within.new.src c.sound_files_pass.ensures.pass (omega arith) c.check_within.result (rw c.new.ensures at c.check_within.ensures.answer)

pub returns-clause-reported : goal.returns-clause-reported
returns-clause-reported c = text_reported (length c.args.text.now) c.args.text.now c.check_within.new.src c.sound_files_pass.ensures.pass (omega arith) c.check_within.result (rw c.new.ensures at c.check_within.ensures.answer) c.check_within.ensures.numbers
