use Rattle.std.proofs.Common.{◌≡◌, ◌+◌, ◌≤◌, length, take}
use Rattle.std.specs.List.{suffix_len}
use Rattle.lift_bytes.specs.Bytes.{is_blank}
use Rattle.lift_bytes.proofs.trim.blanks_at_end.Given as goal

abbrev pub invariant-loop-left : goal.invariant-loop-left
invariant-loop-left l = record {
  within : l.left ≤ length l.text;
  same : suffix_len is_blank l.text + l.left ≡ length l.text + suffix_len is_blank (take l.left l.text);
}

abbrev pub decreases-loop-left : goal.decreases-loop-left
decreases-loop-left l = l.left
