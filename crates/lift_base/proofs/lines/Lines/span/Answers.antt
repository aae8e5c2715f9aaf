use Rattle.std.proofs.Common.{◌≡◌, ◌+◌, subst, sym, arith, ℕ}
use Rattle.std.specs.List.{before_first, slice_range}
use Rattle.lift_base.specs.Window.{held_of}
use Rattle.lift_base.specs.Lines.{LinesData, is_feed}
use Rattle.lift_base.proofs.Fronts.{line_part, within}
use Rattle.lift_base.proofs.lines.Lines.span.Goals as goal

pub overflow_add-result : goal.overflow_add-result
overflow_add-result c = omega (arith, c.from-from.ensures.within, within (held_of c.self.inside.window), c.self.invariant.0)

pub returns-clause-line : goal.returns-clause-line
returns-clause-line c =
    let window = c.self.inside.window in
    let len : ℕ = c.self.inside.line_len in
    let from : ℕ = c.from-from.result in
    subst (λ (l : LinesData). slice_range l.text from (from + len) ≡ before_first is_feed l.held) c.self.view_is
    (subst (λ (n : ℕ). slice_range window.buf n (n + len) ≡ before_first is_feed (held_of window)) (sym c.from-from.ensures.value) (line_part window.buf window.from len c.self.invariant.0))
