use Rattle.std.proofs.Common.{◌≡◌, ◌++◌}
use Rattle.std.specs.List.{flat_map}
use Rattle.std.specs.Slice.Iter.{iter_rest}
use Rattle.std.specs.Iterator.Adapters.{rev_source}
use Rattle.lift_base.specs.Word.{word_text}
use Rattle.lift_base.proofs.tail.Tail.try_words.Given as goal

abbrev pub invariant-loop-word : goal.invariant-loop-word
invariant-loop-word l =
    (goal.iterator-loop-word).can_next l.word-iterator
    × (goal.iterator-loop-word).is_finite l.word-iterator
    × (flat_map word_text (iter_rest (rev_source l.word-iterator)) ++ l.self ≡ flat_map word_text l.fn.words ++ l.fn.self)
