-- What a text for a number of steps is, and what its leaves say.
use Rattle.std.proofs.Common.{ℕ, Some}
use Rattle.std.specs.List.{concat}
use Rattle.lift_grid.specs.Rectangle.{Spans}
use Rattle.lift_grid.specs.Laws.{TreesTile}
use Rattle.corner_lift.specs.Case.{CaseData, IsCase}
use Rattle.corner_lift.specs.Laws.{LiveHasSpan}
use Rattle.lift_cert.specs.declared.bound.Bound.{Bound}
use Rattle.lift_walk.specs.Laws.{RootIsAtDepth, HalvesAreDeeper}
use Rattle.lift_walk.specs.Sides.{IsAtDepth}
use Rattle.lift_bounded.specs.Decided.{BoundedLeaf, DecidesWithin, IsOpenWithin}
use Rattle.lift_bounded.specs.Laws.{AcceptingBoundsWithin, RejectingReachesWithin}
use Rattle.lift_bounded.specs.Text.{tree_text, IsTreeText}
use Rattle.plift_top.specs.Bounded.{bounded_head, within_question, PartHolds}
use Rattle.plift_top.specs.Heads.{IsHeaded}
use Rattle.plift_top.specs.Steps.{IsTestedCase}
use Rattle.plift_top.proofs.Parts.{tells}
use Rattle.plift_top.proofs.Telling.{Tells}

-- what a decided leaf says holds
leaf_holds : AcceptingBoundsWithin → RejectingReachesWithin → (k : CaseData) (bound : Bound) (h : ℕ) → IsCase k → (spans : Spans) (depth : ℕ) (l : BoundedLeaf) → IsAtDepth k depth spans → DecidesWithin k bound h spans l
    → PartHolds k bound h (record { spans = spans; leaf = Some l })
leaf_holds accepting rejecting k bound h case spans depth (BoundedLeaf.accept xs) at r = accepting k spans bound h xs case at.inside r.0
leaf_holds accepting rejecting k bound h case spans depth (BoundedLeaf.reject q) at r = rejecting k spans bound h q case at.inside r.1

-- the text tells what is asked
pub tells_within : AcceptingBoundsWithin → RejectingReachesWithin → RootIsAtDepth → HalvesAreDeeper → TreesTile → LiveHasSpan → (k : CaseData) (bound : Bound) (h : ℕ) → IsTestedCase k
    → Tells k (within_question k bound h) (IsHeaded (concat (bounded_head k bound h)) (IsTreeText k bound h k.root 0))
tells_within accepting rejecting root deeper tile live k bound h case =
    tells root deeper tile live (DecidesWithin k bound h) (IsOpenWithin k bound h) k case (PartHolds k bound h) (concat (bounded_head k bound h)) (tree_text k h) (leaf_holds accepting rejecting k bound h case.case) (λ spans undecided v inside. tt)
