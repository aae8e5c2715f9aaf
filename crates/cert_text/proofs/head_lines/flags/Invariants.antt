use Rattle.std.proofs.Common.{◌≡◌, ◌++◌, ◌-◌, ◌≤◌, drop, length}
use Rattle.cert_text.specs.Lines.{flags}
use Rattle.cert_text.proofs.head_lines.flags.Given as goal

abbrev pub invariant-loop-s : goal.invariant-loop-s
invariant-loop-s l = record {
  within : l.next ≤ length l.goals;
  same : flags l.states 0 l.goals ≡ l.flags.items ++ flags (l.states - l.s) l.s (drop l.next l.goals);
}
