use Rattle.std.proofs.Common.{◌+◌, ◌-◌}
use Rattle.lift_base.specs.Laws.{WroteUpTo}
use Rattle.lift_bounded.specs.Text.{for_steps, lower_text}
use Rattle.lift_bounded.proofs.writers.write_lowers.Given as goal

abbrev pub invariant-loop-n : goal.invariant-loop-n
invariant-loop-n g l = WroteUpTo g.K.Sink.taken g.K.Sink.faults l.fn.out l.out (for_steps (lower_text (record { numbers = l.numbers.lanes; picks = l.picks.lanes })) 1 l.h) (for_steps (lower_text (record { numbers = l.numbers.lanes; picks = l.picks.lanes })) (l.n + 1) (l.h - l.n))
