use Rattle.std.proofs.Common.{◌≡◌, ◌-◌, map, None}
use Rattle.line_text.specs.Reading.{Cursor}
use Rattle.cert_text.specs.Head.{states_at}
use Rattle.cert_text.proofs.EntryLoop.{with_front}
use Rattle.cert_text.proofs.Following.{SoFar}
use Rattle.cert_text.proofs.rows.RowReader.all_states.Given as goal

abbrev pub invariant-loop-s : goal.invariant-loop-s
invariant-loop-s g l = record {
  ready : l.lines.failure ≡ None;
  shape : l.self.shape ≡ l.fn.self.shape;
  so : SoFar g.S.Source.left g.S.Source.faults (states_at l.fn.self.shape.kind l.fn.self.shape.states l.fn.self.shape.parameters l.fn.self.shape.states l.fn.self.left.choices l.fn.self.left.transitions 0) (λ (p : Cursor). with_front (map (λ v. v.items) l.all.items) (states_at l.fn.self.shape.kind l.fn.self.shape.states l.fn.self.shape.parameters (l.fn.self.shape.states - l.s) l.self.left.choices l.self.left.transitions l.s p)) l.fn.lines l.lines l.fn.src l.src;
}
