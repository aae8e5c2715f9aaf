use Rattle.std.proofs.Common.{◌≡◌, ◌≤◌, ◌+◌, length}
use Rattle.std.specs.List.{sum_by}
use Rattle.lift_model.specs.Valid.{most_choices}
use Rattle.line_text.specs.Reading.{Cursor}
use Rattle.cert_text.specs.Head.{further_at}
use Rattle.cert_text.specs.Rows.{Leaves}
use Rattle.cert_text.proofs.EntryLoop.{with_front}
use Rattle.cert_text.proofs.Following.{SoFar}
use Rattle.cert_text.proofs.rows.RowReader.further.Given as goal

abbrev pub invariant-loop-error : goal.invariant-loop-error
invariant-loop-error g l = record {
  shape : l.self.shape ≡ l.fn.self.shape;
  few : l.a + l.self.left.choices ≤ most_choices + 1;
  left : Leaves l.fn.self.left l.self.left (length l.rows.items) (sum_by length l.rows.items);
  so : SoFar g.S.Source.left g.S.Source.faults (further_at l.fn.self.shape.states l.fn.self.shape.parameters l.fn.self.left.choices l.fn.self.left.transitions l.s 1) (λ (p : Cursor). with_front l.rows.items (further_at l.fn.self.shape.states l.fn.self.shape.parameters l.self.left.choices l.self.left.transitions l.s l.a p)) l.fn.lines l.lines l.fn.src l.src;
}

abbrev pub decreases-loop-error : goal.decreases-loop-error
decreases-loop-error g l = l.self.left.choices
