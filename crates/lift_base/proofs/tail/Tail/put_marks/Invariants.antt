use Rattle.std.proofs.Common.{◌≡◌, ◌+◌, ◌*◌, ◌≤◌, ◌++◌, length}
use Rattle.std.specs.List.{flat_map}
use Rattle.std.specs.Slice.Iter.{iter_rest}
use Rattle.std.specs.Iterator.Adapters.{rev_source}
use Rattle.lift_base.specs.Word.{spaced_mark}
use Rattle.lift_base.specs.declared.tail.TheConstants.{WIDTH, ROOM}
use Rattle.lift_base.proofs.tail.Tail.put_marks.Given as goal

abbrev pub invariant-loop-mark : goal.invariant-loop-mark
invariant-loop-mark l =
    (goal.iterator-loop-mark).can_next l.mark-iterator
    × (goal.iterator-loop-mark).is_finite l.mark-iterator
    × (length l.self + WIDTH * length (iter_rest (rev_source l.mark-iterator)) ≤ ROOM)
    × (flat_map (spaced_mark l.none) (iter_rest (rev_source l.mark-iterator)) ++ l.self ≡ flat_map (spaced_mark l.none) l.fn.marks ++ l.fn.self)
