-- The split rule chooses at most one axis.
use Rattle.std.proofs.Common.{◌≡◌, ℕ, ◌<◌, ◌⊎◌, ⊎_elim, arith}
use Rattle.lift_grid.specs.Rectangle.{Spans}
use Rattle.lift_grid.specs.Splitting.{IsSplitAxis}

in_order : (a b : ℕ) → (a < b) ⊎ ((a ≡ b) ⊎ (b < a))
in_order a b = grind arith

pub axis_is_one : (live : ℕ) (ss : Spans) (i j : ℕ) → IsSplitAxis live ss i → IsSplitAxis live ss j → i ≡ j
axis_is_one live ss i j h g = ⊎_elim
    (λ (lt : i < j). absurd (omega (arith, g.first i h.is_live lt, h.longest j g.is_live)))
    (λ (rest : (i ≡ j) ⊎ (j < i)). ⊎_elim
    (λ (e : i ≡ j). e)
    (λ (lt : j < i). absurd (omega (arith, h.first j g.is_live lt, g.longest i h.is_live)))
    rest)
    (in_order i j)
