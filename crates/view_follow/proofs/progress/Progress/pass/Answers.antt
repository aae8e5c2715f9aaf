use Rattle.std.proofs.lemmas.List.{take_more}
use Rattle.view_follow.proofs.Telling.{passes_nothing, passes_both}
use Rattle.view_follow.proofs.progress.Progress.pass.Goals as goal

pub loop-byte-init : goal.loop-byte-init
loop-byte-init g c = passes_nothing g.E.Sink.taken g.E.Sink.faults _ _

pub loop-byte-preserved : goal.loop-byte-preserved
loop-byte-preserved g c =
    rw (take_more c.args.bytes.now c.loop-byte.byte-index 0 c.loop-byte-test.true) (passes_both g.E.Sink.taken g.E.Sink.faults _ _ _ _ _ _ _ _ c.loop-byte.invariant c.take.ensures)
