use Rattle.std.proofs.Common.{◌+◌, ◌-◌}
use Rattle.lift_base.specs.Laws.{WroteUpTo}
use Rattle.lift_bounded.specs.Text.{for_steps, upper_text}
use Rattle.lift_bounded.proofs.writers.write_uppers.Given as goal

abbrev pub invariant-loop-n : goal.invariant-loop-n
invariant-loop-n g l = WroteUpTo g.K.Sink.taken g.K.Sink.faults l.fn.out l.out (for_steps (upper_text l.numbers.lanes) 1 l.h) (for_steps (upper_text l.numbers.lanes) (l.n + 1) (l.h - l.n))
