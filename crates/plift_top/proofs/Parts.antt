-- The leaves of a right tree of halved rectangles: they tile its rectangle, and what each says holds.
use Rattle.std.proofs.Common.{◌≡◌, ℕ, ◌+◌, List, ◌++◌, map, Some, None, refl, sym, ap₂, ◌∙◌, subst}
use Rattle.std.specs.Prelude.{All}
use Rattle.std.proofs.lemmas.List.{map-append}
use Rattle.std.proofs.lemmas.List.Elements.{All-append}
use Rattle.lift_grid.specs.Rectangle.{Spans}
use Rattle.lift_grid.specs.Tree.{Tree, Tiles, HalvesSpans, leaves, lower_half, upper_half}
use Rattle.lift_grid.specs.Laws.{TreesTile}
use Rattle.corner_lift.specs.Case.{CaseData, IsCase}
use Rattle.corner_lift.specs.Laws.{LiveHasSpan}
use Rattle.lift_walk.specs.Halved.{Halved, IsRightBy}
use Rattle.lift_walk.specs.Laws.{RootIsAtDepth, HalvesAreDeeper}
use Rattle.lift_walk.specs.Sides.{IsAtDepth}
use Rattle.plift_top.specs.Heads.{IsHeaded}
use Rattle.plift_top.specs.Parts.{Part, parts}
use Rattle.plift_top.specs.Reported.{halved_question}
use Rattle.plift_top.specs.Steps.{IsTestedCase}
use Rattle.plift_top.proofs.Leaves.{only}
use Rattle.plift_top.proofs.Telling.{Tells}

module _ {L : Type 0} where
  -- the tree with its leaves left open, which has the same rectangles
  abbrev bare : Halved L → Tree
  bare (Halved.split axis lower upper) = Tree.split axis (bare lower) (bare upper)
  bare (Halved.leaf l) = Tree.unknown
  bare Halved.unknown = Tree.unknown

  same_rectangles : (spans : Spans) (depth : ℕ) (tree : Halved L) → map (λ leaf. leaf.spans) (leaves spans depth (bare tree)) ≡ map (λ part. part.spans) (parts spans tree)
  same_rectangles spans depth (Halved.split axis lower upper) =
      let low = lower_half axis spans in
      let high = upper_half axis spans in
      map-append (λ leaf. leaf.spans) (leaves low (depth + 1) (bare lower)) (leaves high (depth + 1) (bare upper))
      ∙ ap₂ (λ (a b : List Spans). a ++ b) (same_rectangles low (depth + 1) lower) (same_rectangles high (depth + 1) upper)
      ∙ sym (map-append (λ part. part.spans) (parts low lower) (parts high upper))
  same_rectangles spans depth (Halved.leaf l) = refl
  same_rectangles spans depth Halved.unknown = refl

  module _ (deeper : HalvesAreDeeper) (decides : Spans → L → Type 0) (opens : Spans → Type 0) (k : CaseData) (case : IsCase k) where
    -- each split halves a span
    halves_spans : LiveHasSpan → (spans : Spans) (depth : ℕ) (tree : Halved L) → IsAtDepth k depth spans → IsRightBy decides opens k spans depth tree → HalvesSpans spans (bare tree)
    halves_spans live spans depth (Halved.split axis lower upper) at r =
        let next = deeper k spans depth axis case at r.1.left r.1.axis_is in (
          at.left.spans,
          live k spans axis case at.inside r.1.axis_is.is_live,
          halves_spans live (lower_half axis spans) (depth + 1) lower next.0 r.2,
          halves_spans live (upper_half axis spans) (depth + 1) upper next.1 r.3,
        )
    halves_spans live spans depth (Halved.leaf l) at r = tt
    halves_spans live spans depth Halved.unknown at r = tt

    pub parts_tile : TreesTile → LiveHasSpan → (spans : Spans) (depth : ℕ) (tree : Halved L) → IsAtDepth k depth spans → IsRightBy decides opens k spans depth tree
        → Tiles k.d spans (map (λ part. part.spans) (parts spans tree))
    parts_tile tile live spans depth tree at r =
        subst (λ (rectangles : List Spans). Tiles k.d spans rectangles) (same_rectangles spans depth tree) (tile k.d spans depth (bare tree) (halves_spans live spans depth tree at r))

    -- what each leaf says holds
    pub parts_hold : (P : Part L → Type 0) → ((spans : Spans) (depth : ℕ) (l : L) → IsAtDepth k depth spans → decides spans l → P (record { spans = spans; leaf = Some l })) → ((spans : Spans) → opens spans → P (record { spans = spans; leaf = None }))
        → (spans : Spans) (depth : ℕ) (tree : Halved L) → IsAtDepth k depth spans → IsRightBy decides opens k spans depth tree → All P (parts spans tree)
    parts_hold P holds undecided spans depth (Halved.split axis lower upper) at r =
        let halves = deeper k spans depth axis case at r.1.left r.1.axis_is in
        All-append P (parts (lower_half axis spans) lower) (parts (upper_half axis spans) upper)
        (parts_hold P holds undecided (lower_half axis spans) (depth + 1) lower halves.0 r.2) (parts_hold P holds undecided (upper_half axis spans) (depth + 1) upper halves.1 r.3)
    parts_hold P holds undecided spans depth (Halved.leaf l) at r = only P _ (holds spans depth l at r)
    parts_hold P holds undecided spans depth Halved.unknown at r = only P _ (undecided spans r.0)

-- the text of a right tree, behind its head, tells what is asked
pub tells : {L : Type 0} → RootIsAtDepth → HalvesAreDeeper → TreesTile → LiveHasSpan → (decides : Spans → L → Type 0) (opens : Spans → Type 0) (k : CaseData) → IsTestedCase k → (P : Part L → Type 0) (head : List ℕ) (text : Halved L → List ℕ)
    → ((spans : Spans) (depth : ℕ) (l : L) → IsAtDepth k depth spans → decides spans l → P (record { spans = spans; leaf = Some l })) → ((spans : Spans) → opens spans → P (record { spans = spans; leaf = None }))
    → Tells k (halved_question k (λ tree. IsRightBy decides opens k k.root 0 tree) P (λ tree. head ++ text tree)) (IsHeaded head (λ nodes. (tree : Halved L) × (IsRightBy decides opens k k.root 0 tree × (nodes ≡ text tree))))
tells root deeper tile live decides opens k case P head text holds undecided = record {
  case = case;
  fits = tt;
  tree_of = λ bytes is. (let (nodes, are, e) = is in let (tree, rest) = are in (tree, rest.0));
  text_of = λ tree right. (text tree, (tree, (right, refl)), refl);
  tiles = λ tree right. parts_tile deeper decides opens k case.case tile live k.root 0 tree (root k case.case) right;
  holds = λ tree right. parts_hold deeper decides opens k case.case P holds undecided k.root 0 tree (root k case.case) right;
}
