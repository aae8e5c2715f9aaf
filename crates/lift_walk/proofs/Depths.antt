-- Where the root and the halves of a rectangle stand.
use Rattle.std.proofs.Common.{◌≡◌, ℕ, ◌+◌, ◌-◌, ◌^◌, ◌<◌, ◌==◌, Bool, true, false, cond, [], ◌∷◌, length, subst, arith}
use Rattle.std.proofs.lemmas.Int.{ints}
use Rattle.lift_grid.specs.Laws.{HalvesHaveOneLess}
use Rattle.lift_grid.specs.Rectangle.{Spans, AreMultiples}
use Rattle.lift_grid.specs.Splitting.{IsSplitAxis, HasHalvings}
use Rattle.lift_grid.specs.Tree.{lower_half, upper_half}
use Rattle.lift_model.specs.Model.{live}
use Rattle.corner_lift.specs.Case.{CaseData, IsCase, greatest_depth}
use Rattle.corner_lift.specs.Laws.{RootIsInside, HalvesAreInside, LiveHasSpan}
use Rattle.lift_walk.specs.Sides.{IsAtDepth}

of_one : (ss : Spans) → AreMultiples (2 ^ 0) ss
of_one [] = tt
of_one (s ∷ ss) = (((s.0, omega (arith, ints)), (s.1, omega (arith, ints))), of_one ss)

root_multiples : (b : Bool) (n : ℕ) (ss : Spans) → AreMultiples (2 ^ n) ss → AreMultiples (2 ^ (cond b 0 n - 0)) ss
root_multiples true n ss h = of_one ss
root_multiples false n ss h = let same : n - 0 ≡ n = omega arith in rw same h

pub root_at_depth : RootIsInside → (k : CaseData) → IsCase k → IsAtDepth k 0 k.root
root_at_depth inside k is = record {
  inside = inside k is;
  left = record { spans = is.asked.spans; multiples = root_multiples (live k.model == 0) k.depth k.root is.asked.grid.multiples };
}

pub halves_at_depth : HalvesAreInside → HalvesHaveOneLess → LiveHasSpan → (k : CaseData) (spans : Spans) (depth axis : ℕ) → IsCase k → IsAtDepth k depth spans → depth < greatest_depth k → IsSplitAxis (live k.model) spans axis
    → IsAtDepth k (depth + 1) (lower_half axis spans) × IsAtDepth k (depth + 1) (upper_half axis spans)
halves_at_depth inside halves live_spans k spans depth axis is at more axis_is =
    let n = greatest_depth k - (depth + 1) in
    let one : greatest_depth k - depth ≡ n + 1 = omega (arith, more) in
    let left : HasHalvings (n + 1) spans = subst (λ m. HasHalvings m spans) one at.left in
    let below : axis < length spans = live_spans k spans axis is at.inside axis_is.is_live in
    let in_root = inside k.root spans n axis at.inside left below in
    let deeper = halves n axis spans left below in
    (record { inside = in_root.0; left = deeper.0 }, record { inside = in_root.1; left = deeper.1 })
