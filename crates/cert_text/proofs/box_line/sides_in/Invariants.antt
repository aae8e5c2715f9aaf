use Rattle.std.proofs.Common.{◌≡◌, ◌*◌, take, drop}
use Rattle.lift_grid.specs.Rectangle.{spans_of}
use Rattle.cert_text.specs.Lines.{spans_in}
use Rattle.cert_text.proofs.box_line.sides_in.Given as goal

abbrev pub invariant-loop-i : goal.invariant-loop-i
invariant-loop-i l = record {
  kept : l.sides.items ≡ take (2 * l.i) l.numbers;
  same : spans_in l.step (spans_of l.numbers) ≡ spans_in l.step (spans_of (drop (2 * l.i) l.numbers));
}
