use Rattle.std.proofs.Common.{Err, rules}
use Rattle.plift_top.proofs.Acts.{line_limit, ladder_limit, writes_ladder, tests_ladder, refuses_line}
use Rattle.plift_top.specs.Answers.{wanted}
use Rattle.plift_top.proofs.program.act.Goals as goal

pub returns-in-Ok-Generate-clause-answer : goal.returns-in-Ok-Generate-clause-answer
returns-in-Ok-Generate-clause-answer g c = writes_ladder g.S.Source.left g.S.Source.faults g.K.Sink.taken g.K.Sink.faults _ _ _ c.args.words.now _ _ c.write_ladder.ensures (search rules)

pub returns-in-Ok-Generate-clause-limit : goal.returns-in-Ok-Generate-clause-limit
returns-in-Ok-Generate-clause-limit g c other = ladder_limit _ g.K.Sink.taken g.K.Sink.faults _ _ _ _ _ c.write_ladder.ensures

pub returns-in-Err-clause-answer : goal.returns-in-Err-clause-answer
returns-in-Err-clause-answer g c = refuses_line g.S.Source.left g.S.Source.faults g.K.Sink.taken g.K.Sink.faults _ _ c.args.out.now c.args.words.now c.in-Err.cause _ c.in-Err.ensures c.from.ensures

pub returns-in-Err-clause-limit : goal.returns-in-Err-clause-limit
returns-in-Err-clause-limit g c other = line_limit _ c.in-Err.cause (Err c.from.result) _ c.from.ensures

pub returns-in-Ok-Selftest-clause-answer : goal.returns-in-Ok-Selftest-clause-answer
returns-in-Ok-Selftest-clause-answer g c = tests_ladder g.S.Source.left g.S.Source.faults g.K.Sink.taken g.K.Sink.faults _ _ _ c.args.words.now _ _ c.selftest.ensures (search rules)

pub returns-in-Ok-Selftest-clause-limit : goal.returns-in-Ok-Selftest-clause-limit
unfolding wanted
returns-in-Ok-Selftest-clause-limit g c other = absurd (other c.in-Ok-Selftest.ladder.blocks (search rules))
