use Rattle.std.proofs.Common.{take}
use Rattle.view_follow.specs.Progress.{Passes}
use Rattle.view_follow.proofs.progress.Progress.pass.Given as goal

abbrev pub invariant-loop-byte : goal.invariant-loop-byte
invariant-loop-byte g l = Passes g.E.Sink.taken g.E.Sink.faults l.fn.notes l.notes l.fn.self l.self (take l.byte-index l.bytes)
