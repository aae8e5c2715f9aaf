-- The splits of a right tree halve spans.
use Rattle.std.proofs.Common.{ℕ, ◌+◌}
use Rattle.lift_grid.specs.Rectangle.{Spans}
use Rattle.lift_grid.specs.Tree.{Tree, HalvesSpans, lower_half, upper_half}
use Rattle.lift_grid.specs.Tree.Tree.{split, accept, reject, unknown}
use Rattle.corner_lift.specs.Case.{CaseData, IsCase}
use Rattle.corner_lift.specs.Laws.{LiveHasSpan}
use Rattle.lift_cert.specs.declared.bound.Bound.{Bound}
use Rattle.region_tree.specs.Laws.{HalvesAreDeeper}
use Rattle.region_tree.specs.Right.{IsRight, IsAtDepth}

module _ (deeper : HalvesAreDeeper) (live_spans : LiveHasSpan) (k : CaseData) (v : ℕ) (is : IsCase k) (bound : Bound) where
  pub halves_spans : (depth : ℕ) (ss : Spans) (t : Tree) → IsAtDepth k depth ss → IsRight k v ss bound depth t → HalvesSpans ss t
  halves_spans depth ss (accept u x) at h = tt
  halves_spans depth ss (reject u r) at h = tt
  halves_spans depth ss unknown at h = tt
  halves_spans depth ss (split axis lower upper) at h = (let next = deeper k ss depth axis is at h.1.left h.1.axis_is in (
    at.left.spans,
    live_spans k ss axis is at.inside h.1.axis_is.is_live,
    halves_spans (depth + 1) (lower_half axis ss) lower next.0 h.2,
    halves_spans (depth + 1) (upper_half axis ss) upper next.1 h.3,
  ))
