use Rattle.std.proofs.Common.{◌≡◌, ◌+◌, ◌-◌, ◌≤◌, length}
use Rattle.drn_lexer.specs.Lines.{lines_at, behind_comments}
use Rattle.drn_lexer.proofs.line.next_line.Given as goal

abbrev pub invariant-loop-raw : goal.invariant-loop-raw
invariant-loop-raw l = record {
  forward : l.initial.place.at ≤ l.place.at;
  within : l.place.at ≤ length l.text;
  number : l.place.number ≤ l.place.at + 1;
  left : behind_comments (lines_at l.text l.initial.place) ≡ behind_comments (lines_at l.text l.place);
  count : l.initial.place.number + length (lines_at l.text l.initial.place) ≡ l.place.number + length (lines_at l.text l.place);
}

abbrev pub decreases-loop-raw : goal.decreases-loop-raw
decreases-loop-raw l = length l.text - l.place.at
