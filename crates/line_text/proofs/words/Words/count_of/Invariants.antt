use Rattle.std.proofs.Common.{◌≤◌}
use Rattle.line_text.proofs.words.Words.count_of.Given as goal

abbrev pub invariant-loop-here : goal.invariant-loop-here
invariant-loop-here l = l.count ≤ l.here-index
