use Rattle.cert_text.proofs.NameLoop.{names_stop_at}
use Rattle.cert_text.proofs.parameters.distinct_names.Goals as goal

pub returns-in-Err : goal.returns-in-Err
returns-in-Err c = λ other. names_stop_at (λ w. w.now) c.args.words.now c.loop-word.word-index _ c.loop-word.names c.in-Err.cause c.loop-word-test.true c.loop-word.invariant.same (c.in-Err.ensures.value other)
