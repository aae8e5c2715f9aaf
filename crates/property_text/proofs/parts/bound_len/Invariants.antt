use Rattle.std.proofs.Common.{◌≡◌, ◌+◌, drop}
use Rattle.std.specs.List.{prefix_len}
use Rattle.property_text.specs.Reading.{is_bound_byte}
use Rattle.property_text.proofs.parts.bound_len.Given as goal

abbrev pub invariant-loop-i : goal.invariant-loop-i
invariant-loop-i l = prefix_len is_bound_byte l.text ≡ l.i + prefix_len is_bound_byte (drop l.i l.text)
