use Rattle.std.proofs.Common.{◌-◌}
use Rattle.lift_base.specs.Laws.{WroteUpTo}
use Rattle.view_text.specs.Summary.{depths, depths_from}
use Rattle.view_text.proofs.summary.write_depths.Given as goal

abbrev pub invariant-loop-depth : goal.invariant-loop-depth
invariant-loop-depth g l = WroteUpTo g.K.Sink.taken g.K.Sink.faults l.fn.out l.out (depths l.map) (depths_from l.map l.depth (l.depth-end - l.depth))
