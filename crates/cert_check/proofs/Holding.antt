-- The leaves of a sound report tile its root, and each holds on its rectangle.
use Rattle.std.proofs.Common.{◌≡◌, ℕ, zero, suc, ◌+◌, [], ◌∷◌, arith}
use Rattle.std.specs.Prelude.{All}
use Rattle.std.proofs.lemmas.List.Elements.{All-append}
use Rattle.lift_grid.specs.Laws.{TreesTile}
use Rattle.lift_grid.specs.Rectangle.{Spans}
use Rattle.lift_grid.specs.Tree.{Tree, HalvesSpans, leaves, lower_half, upper_half}
use Rattle.lift_grid.specs.Tree.Tree.{split, accept, reject, unknown}
use Rattle.corner_lift.specs.Case.{IsCase, greatest_depth}
use Rattle.corner_lift.specs.Laws.{LiveHasSpan}
use Rattle.lift_cert.specs.Laws.{AcceptingBounds, RejectingReaches}
use Rattle.cert_text.specs.Head.{HeadData, case_at}
use Rattle.cert_text.specs.Forms.{IsHead, IsTree}
use Rattle.cert_check.specs.Sound.{IsSoundTree}
use Rattle.cert_check.specs.Trust.{LeafHolds}
use Rattle.cert_check.specs.Laws.{SoundReportsHold}
use Rattle.cert_check.specs.Shown.{IsPlaced, RootIsPlaced, HalvesArePlaced}
use Rattle.cert_check.proofs.Precise.{precise_case}

only : {X : Type 0} (P : X → Type 0) (a : X) → P a → All P (a ∷ [])
only P a p zero d h = p
only P a p (suc i) d h = absurd (omega arith)

module _ (placed : HalvesArePlaced) (live_spans : LiveHasSpan) (accepting : AcceptingBounds) (rejecting : RejectingReaches) (h : HeadData) (head : IsHead h) (is : IsCase h.asked) where
  -- each split of a sound tree halves a span
  halves_spans : (t : Tree) (levels depth : ℕ) (ss : Spans) → depth + levels ≡ greatest_depth h.asked → IsPlaced h.asked levels ss → IsSoundTree h.asked h.bound ss depth t → HalvesSpans ss t
  halves_spans (accept u x) levels depth ss e at s = tt
  halves_spans (reject u r) levels depth ss e at s = tt
  halves_spans unknown levels depth ss e at s = tt
  halves_spans (split axis lower upper) zero depth ss e at s = absurd (omega (arith, s.0.left))
  halves_spans (split axis lower upper) (suc levels) depth ss e at s = (let next = placed h.asked levels axis ss is at s.0.axis_is in (
    at.left.spans,
    live_spans h.asked ss axis is at.inside s.0.axis_is.is_live,
    halves_spans lower levels (depth + 1) (lower_half axis ss) (omega arith) next.1 s.1,
    halves_spans upper levels (depth + 1) (upper_half axis ss) (omega arith) next.2 s.2,
  ))

  -- each leaf holds on its rectangle
  leaves_hold : (t : Tree) (levels depth : ℕ) (ss : Spans) → depth + levels ≡ greatest_depth h.asked → IsPlaced h.asked levels ss → IsTree h t → IsSoundTree h.asked h.bound ss depth t → All (LeafHolds h.asked h.bound) (leaves ss depth t)
  leaves_hold (accept u x) levels depth ss e at fit s =
      only (LeafHolds h.asked h.bound) (record { spans = ss; depth = depth; node = accept u x }) (accepting (case_at u h.asked) ss h.bound x (precise_case h u head is fit.0) at.inside s)
  leaves_hold (reject u r) levels depth ss e at fit s =
      only (LeafHolds h.asked h.bound) (record { spans = ss; depth = depth; node = reject u r }) (rejecting (case_at u h.asked) ss h.bound r (precise_case h u head is fit.0) at.inside s, s.limit)
  leaves_hold unknown levels depth ss e at fit s = only (LeafHolds h.asked h.bound) (record { spans = ss; depth = depth; node = unknown }) tt
  leaves_hold (split axis lower upper) zero depth ss e at fit s = absurd (omega (arith, s.0.left))
  leaves_hold (split axis lower upper) (suc levels) depth ss e at fit s =
      let next = placed h.asked levels axis ss is at s.0.axis_is in
      All-append (LeafHolds h.asked h.bound) (leaves (lower_half axis ss) (depth + 1) lower) (leaves (upper_half axis ss) (depth + 1) upper)
      (leaves_hold lower levels (depth + 1) (lower_half axis ss) (omega arith) next.1 fit.1 s.1)
      (leaves_hold upper levels (depth + 1) (upper_half axis ss) (omega arith) next.2 fit.2 s.2)

pub reports_hold : RootIsPlaced → HalvesArePlaced → TreesTile → LiveHasSpan → AcceptingBounds → RejectingReaches → SoundReportsHold
reports_hold root placed tile live_spans accepting rejecting h t s =
    let k = h.asked in
    let is : IsCase k = record { asked = s.report.head.asked; admitted = s.admitted } in
    record {
      tiles = tile k.d k.root 0 t (halves_spans placed live_spans accepting rejecting h s.report.head is t (greatest_depth k) 0 k.root (omega arith) (root k is) s.tree);
      each = leaves_hold placed live_spans accepting rejecting h s.report.head is t (greatest_depth k) 0 k.root (omega arith) (root k is) s.report.nodes s.tree;
    }
