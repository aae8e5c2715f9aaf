use Rattle.std.proofs.Common.{◌≡◌, ◌+◌, ◌-◌, [], length, None}
use Rattle.line_text.specs.Reading.{Cursor}
use Rattle.cert_text.specs.Head.{entries_at}
use Rattle.cert_text.specs.Shown.{AreMarked, targets_back}
use Rattle.cert_text.proofs.EntryLoop.{with_front}
use Rattle.cert_text.proofs.Following.{SoFar}
use Rattle.cert_text.proofs.entry_line.EntryReader.read.Given as goal

abbrev pub invariant-loop : goal.invariant-loop
invariant-loop g l = record {
  ready : l.lines.failure ≡ None;
  states : length l.self.marks ≡ length l.fn.self.marks;
  parameters : l.self.parameters ≡ l.fn.self.parameters;
  mark : l.self.mark ≡ l.fn.self.mark + 1;
  count : length l.entries.items ≡ l.counter;
  marked : AreMarked l.self.mark l.self.marks (targets_back l.entries.items);
  so : SoFar g.S.Source.left g.S.Source.faults (entries_at (length l.fn.self.marks) l.fn.self.parameters [] l.count) (λ (p : Cursor). with_front l.entries.items (entries_at (length l.fn.self.marks) l.fn.self.parameters (targets_back l.entries.items) (l.count - l.counter) p)) l.fn.lines l.lines l.fn.src l.src;
}
