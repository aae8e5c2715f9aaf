use Rattle.std.proofs.Common.{◌-◌, ◌≤◌, length}
use Rattle.line_text.proofs.ShortNumbers.{IsFront}
use Rattle.line_text.proofs.decimal.front_digits.Given as goal

-- the bytes before this one are digits, and write the number
abbrev pub invariant-loop-i : goal.invariant-loop-i
invariant-loop-i l = record {
  within : l.i ≤ length l.text;
  few : l.i ≤ 18;
  front : IsFront l.text l.i l.number;
}

abbrev pub decreases-loop-i : goal.decreases-loop-i
decreases-loop-i l = 19 - l.i

abbrev pub invariant-loop-i-2 : goal.invariant-loop-i-2
invariant-loop-i-2 l = record {
  within : l.i ≤ length l.text;
  few : l.i ≤ 18;
  front : IsFront l.text l.i l.number;
}

abbrev pub decreases-loop-i-2 : goal.decreases-loop-i-2
decreases-loop-i-2 l = 18 - l.i
