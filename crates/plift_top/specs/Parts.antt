-- The leaves of a tree of halved rectangles with leaves of any kind.
use Rattle.std.specs.Prelude.{List, [], ◌∷◌, ◌++◌, Option, Some, None}
use Rattle.lift_grid.specs.Rectangle.{Spans}
use Rattle.lift_grid.specs.Tree.{lower_half, upper_half}
use Rattle.lift_walk.specs.Halved.{Halved}

-- a leaf with its rectangle; an unknown one decides nothing
pub record Part (L : Type 0) : Type 0 where
  pub spans : Spans
  pub leaf : Option L

-- the leaves of a tree over a rectangle, the lower half's first
abbrev pub parts : {L : Type 0} → Spans → Halved L → List (Part L)
parts spans (Halved.split axis lower upper) = parts (lower_half axis spans) lower ++ parts (upper_half axis spans) upper
parts spans (Halved.leaf l) = record { spans = spans; leaf = Some l } ∷ []
parts spans Halved.unknown = record { spans = spans; leaf = None } ∷ []
