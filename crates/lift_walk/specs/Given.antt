-- What is given of a tree that is known beforehand.
use Rattle.std.specs.Prelude.{◌≡◌, ℕ, List, IfOk}
use Rattle.std.specs.declared.option.Option.{Option}
use Rattle.std.specs.declared.result.Result.{Result}
use Rattle.lift_walk.specs.Halved.{Halved}
use Rattle.lift_walk.specs.Shown.{Took}
use Rattle.lift_walk.specs.declared.given.Given.{Given}
use Rattle.lift_walk.specs.declared.given.Given.TheVariants.{Split, Leaf, Unknown}

-- What was given of the tree that was ahead: the axis of a split, whose halves come then, a leaf that decides, which was taken, or an unknown leaf. Nothing else was taken.
abbrev pub Gives : {O T E Tip Rest : Type 0} → (Halved Tip → Rest → Rest) → (Rest → Type 0) → (Tip → List ℕ) → (Halved Tip → T → Type 0) → (O → Option (List ℕ)) → (O → ℕ) → O → O → Halved Tip → Rest → Given (Result T E) → Type 0
Gives {Tip = Tip} first is_ahead leaf_entry is_part taken faults old new t rest (Split i) = (a : Halved Tip) × ((b : Halved Tip) × ((t ≡ Halved.split i a b) × (is_ahead (first a (first b rest)) × (new ≡ old))))
Gives {Tip = Tip} first is_ahead leaf_entry is_part taken faults old new t rest (Leaf result) =
    (l : Tip) × ((t ≡ Halved.leaf l) × (is_ahead rest × (Took taken faults old new result (leaf_entry l) × IfOk result (is_part (Halved.leaf l)))))
Gives first is_ahead leaf_entry is_part taken faults old new t rest Unknown = (t ≡ Halved.unknown) × (is_ahead rest × (new ≡ old))
