-- The halves of a rectangle that lies inside a root lie inside it.
use Rattle.std.proofs.Common.{ℕ, zero, suc, ◌+◌, ◌<◌, [], ◌∷◌, length, ℤ, ◌≤ℤ◌, ◌<ℤ◌, arith}
use Rattle.std.proofs.lemmas.Int.{ints}
use Rattle.lift_poly.proofs.Ring.{linear}
use Rattle.lift_grid.specs.Laws.{HalvesHaveOneLess}
use Rattle.lift_grid.specs.Rectangle.{Spans, AreSpans}
use Rattle.lift_grid.specs.Splitting.{HasHalvings}
use Rattle.lift_grid.specs.Tree.{middle, lower_half, upper_half}
use Rattle.corner_lift.specs.Case.{Within, IsInside}

-- a midpoint lies between the two ends
middle_between : (low high : ℤ) → low <ℤ high → (low ≤ℤ middle (low, high)) × (middle (low, high) ≤ℤ high)
middle_between low high h = (omega (arith, ints), omega (arith, ints))

Within-lower_half : (axis : ℕ) (spans root : Spans) → AreSpans spans → Within spans root → Within (lower_half axis spans) root
Within-lower_half axis [] root rising h = h
Within-lower_half axis (s ∷ spans) [] rising h = absurd h
Within-lower_half zero (s ∷ spans) (r ∷ root) rising h =
    let between = middle_between s.0 s.1 rising.0.rising in
    (h.0, omega (arith, linear, h.1, between.1), h.2)
Within-lower_half (suc axis) (s ∷ spans) (r ∷ root) rising h = (h.0, h.1, Within-lower_half axis spans root rising.1 h.2)

Within-upper_half : (axis : ℕ) (spans root : Spans) → AreSpans spans → Within spans root → Within (upper_half axis spans) root
Within-upper_half axis [] root rising h = h
Within-upper_half axis (s ∷ spans) [] rising h = absurd h
Within-upper_half zero (s ∷ spans) (r ∷ root) rising h =
    let between = middle_between s.0 s.1 rising.0.rising in
    (omega (arith, linear, h.0, between.0), h.1, h.2)
Within-upper_half (suc axis) (s ∷ spans) (r ∷ root) rising h = (h.0, h.1, Within-upper_half axis spans root rising.1 h.2)

-- both halves lie inside the root
pub halves_inside : HalvesHaveOneLess → (root spans : Spans) (n axis : ℕ) → IsInside root spans → HasHalvings (n + 1) spans → axis < length spans
    → IsInside root (lower_half axis spans) × IsInside root (upper_half axis spans)
halves_inside halves root spans n axis inside left below =
    let h = halves n axis spans left below in (
      record { rectangle = h.0.spans; within = Within-lower_half axis spans root inside.rectangle inside.within },
      record { rectangle = h.1.spans; within = Within-upper_half axis spans root inside.rectangle inside.within },
    )
