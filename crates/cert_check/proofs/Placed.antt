-- Where the root and the halves of a rectangle stand.
use Rattle.std.proofs.Common.{◌≡◌, ℕ, suc, ◌+◌, ◌*◌, ◌^◌, ◌==◌, Bool, true, false, cond, [], ◌∷◌, length, refl, subst, arith}
use Rattle.std.proofs.lemmas.Int.{ints}
use Rattle.lift_grid.specs.Laws.{HalvesHaveOneLess, SpansAreHalvable}
use Rattle.lift_grid.specs.Rectangle.{Spans, AreMultiples, sides_of}
use Rattle.lift_grid.specs.Splitting.{HasHalvings}
use Rattle.lift_model.specs.Model.{live}
use Rattle.corner_lift.specs.Laws.{RootIsInside, HalvesAreInside, LiveHasSpan}
use Rattle.cert_check.specs.Shown.{RootIsPlaced, HalvesArePlaced}

of_one : (ss : Spans) → AreMultiples (2 ^ 0) ss
of_one [] = tt
of_one (s ∷ ss) = (((s.0, omega (arith, ints)), (s.1, omega (arith, ints))), of_one ss)

root_multiples : (b : Bool) (n : ℕ) (ss : Spans) → AreMultiples (2 ^ n) ss → AreMultiples (2 ^ cond b 0 n) ss
root_multiples true n ss h = of_one ss
root_multiples false n ss h = h

pub root_placed : RootIsInside → RootIsPlaced
root_placed inside k is = record {
  inside = inside k is;
  left = record { spans = is.asked.spans; multiples = root_multiples (live k.model == 0) k.depth k.root is.asked.grid.multiples };
}

pub halves_placed : HalvesAreInside → HalvesHaveOneLess → SpansAreHalvable → LiveHasSpan → HalvesArePlaced
halves_placed inside halves halvable live_spans k levels axis spans is at axis_is =
    let one : suc levels ≡ levels + 1 = omega arith in
    let left : HasHalvings (levels + 1) spans = subst (λ m. HasHalvings m spans) one at.left in
    let below = live_spans k spans axis is at.inside axis_is.is_live in
    let in_root = inside k.root spans levels axis at.inside left below in
    let less = halves levels axis spans left below in
    (halvable levels axis spans left below, record { inside = in_root.0; left = less.0 }, record { inside = in_root.1; left = less.1 })

-- how long the ends in a row are
pub length_sides : (ss : Spans) → length (sides_of ss) ≡ 2 * length ss
length_sides [] = refl
length_sides (s ∷ ss) = let rest = length_sides ss in omega (arith, rest)
