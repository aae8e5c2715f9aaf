use Rattle.std.proofs.Common.{◌≡◌, ◌+◌, ◌*◌, ◌≤◌, ◌++◌, length}
use Rattle.std.specs.List.{flat_map}
use Rattle.std.specs.Slice.Iter.{iter_rest}
use Rattle.std.specs.Iterator.Adapters.{rev_source}
use Rattle.lift_base.specs.Word.{spaced}
use Rattle.lift_base.specs.declared.tail.TheConstants.{WIDTH, ROOM}
use Rattle.lift_base.proofs.tail.Tail.put_numbers.Given as goal

abbrev pub invariant-loop-number : goal.invariant-loop-number
invariant-loop-number l =
    (goal.iterator-loop-number).can_next l.number-iterator
    × (goal.iterator-loop-number).is_finite l.number-iterator
    × (length l.self + WIDTH * length (iter_rest (rev_source l.number-iterator)) ≤ ROOM)
    × (flat_map spaced (iter_rest (rev_source l.number-iterator)) ++ l.self ≡ flat_map spaced l.fn.numbers ++ l.fn.self)
