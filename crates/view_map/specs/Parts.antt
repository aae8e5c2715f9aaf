-- The leaves of a report, with their rectangles, depths and kinds.
use Rattle.std.specs.Prelude.{ℕ, List, map}
use Rattle.lift_grid.specs.Rectangle.{Spans}
use Rattle.lift_grid.specs.Tree.{Tree, Leaf, leaves}
use Rattle.lift_grid.specs.Tree.Tree.{split, accept, reject, unknown}
use Rattle.cert_text.specs.Head.{HeadData}
use Rattle.view_map.specs.declared.part.LeafKind.{LeafKind}
use Rattle.view_map.specs.declared.part.LeafKind.TheVariants.{Accept, Reject, Unknown}

-- a leaf: its rectangle, how many splits lie above it, and what is said of it
pub record PartData : Type 0 where
  pub spans : Spans
  pub depth : ℕ
  pub kind : LeafKind

-- what is said of a leaf; nothing of a split
abbrev pub leaf_kind : Tree → LeafKind
leaf_kind (accept u x) = Accept
leaf_kind (reject u r) = Reject
leaf_kind unknown = Unknown
leaf_kind (split axis lower upper) = Unknown

-- a leaf of a tree, without its certificate
abbrev pub part_of : Leaf → PartData
part_of leaf = record { spans = leaf.spans; depth = leaf.depth; kind = leaf_kind leaf.node }

-- the leaves of a tree over a rectangle at a depth, the lower half's first
abbrev pub parts_over : Spans → ℕ → Tree → List PartData
parts_over ss depth t = map part_of (leaves ss depth t)

-- the leaves of a report
abbrev pub parts : HeadData → Tree → List PartData
parts h t = parts_over h.asked.root 0 t

-- a leaf with that rectangle and depth, of which that is said
abbrev pub part_with : Spans → ℕ → LeafKind → PartData
part_with ss depth kind = record { spans = ss; depth = depth; kind = kind }

-- the head of a report, and the leaves of its tree
pub record MapData : Type 0 where
  pub head : HeadData
  pub parts : List PartData
