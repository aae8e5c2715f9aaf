use Rattle.std.proofs.Common.{◌≡◌, ℕ, List, length, None}
use Rattle.lift_base.specs.Lines.{ReadOn}
use Rattle.lift_base.proofs.ReadingOn.{reads_left}
use Rattle.lift_base.proofs.lines.Lines.look.Given as goal

abbrev pub invariant-loop-front : goal.invariant-loop-front
invariant-loop-front g l = record {
  reads : (bytes : List ℕ) × ReadOn g.S.Source.left l.fn.self l.self l.fn.src l.src bytes;
  none : l.self.failure ≡ None;
  calm : g.S.Source.faults l.src ≡ g.S.Source.faults l.fn.src;
}

abbrev pub decreases-loop-front : goal.decreases-loop-front
decreases-loop-front g l = reads_left l.self.ended (length l.self.held)
