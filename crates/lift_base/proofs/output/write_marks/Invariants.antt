use Rattle.std.proofs.Common.{◌≡◌}
use Rattle.std.specs.List.{flat_map}
use Rattle.std.specs.Slice.Iter.{chunks_rest, chunks_size}
use Rattle.lift_base.specs.Laws.{WroteUpTo}
use Rattle.lift_base.specs.Word.{spaced_mark}
use Rattle.lift_base.specs.declared.tail.TheConstants.{GROUP}
use Rattle.lift_base.proofs.output.write_marks.Given as goal

abbrev pub invariant-loop-group : goal.invariant-loop-group
invariant-loop-group g l =
    (goal.iterator-loop-group g).can_next l.group-iterator
    × (goal.iterator-loop-group g).is_finite l.group-iterator
    × (chunks_size l.group-iterator ≡ GROUP)
    × WroteUpTo g.K.Sink.taken g.K.Sink.faults l.fn.out l.out (flat_map (spaced_mark l.none) l.fn.marks) (flat_map (spaced_mark l.none) (chunks_rest l.group-iterator))
