-- A parameter's ends in a row.
use Rattle.std.proofs.Common.{◌≡◌, ℕ, zero, suc, ◌+◌, ◌*◌, ◌<◌, ◌≤◌, List, [], ◌∷◌, ℤ, pos, length, get_or, refl, arith}
use Rattle.lift_grid.specs.Rectangle.{spans_of}

-- a parameter's span is made of its two ends
pub pair_at : (sides : List ℤ) (i : ℕ) → 2 * i + 1 < length sides → get_or (spans_of sides) i (pos 0, pos 0) ≡ (get_or sides (2 * i) (pos 0), get_or sides (2 * i + 1) (pos 0))
pair_at [] i h = absurd (omega (arith, h))
pair_at (low ∷ []) i h = absurd (omega (arith, h))
pair_at (low ∷ high ∷ sides) zero h = refl
pair_at (low ∷ high ∷ sides) (suc i) h =
    let two : 2 * suc i ≡ suc (suc (2 * i)) = omega arith in
    let three : 2 * suc i + 1 ≡ suc (suc (2 * i + 1)) = omega arith in
    rw (three, two) (pair_at sides i (omega (arith, h)))

-- where the row is too short, there is none
pub none_at : (sides : List ℤ) (i : ℕ) → length sides ≤ 2 * i + 1 → get_or (spans_of sides) i (pos 0, pos 0) ≡ (pos 0, pos 0)
none_at [] i h = refl
none_at (low ∷ []) i h = refl
none_at (low ∷ high ∷ sides) zero h = absurd (omega (arith, h))
none_at (low ∷ high ∷ sides) (suc i) h = none_at sides i (omega (arith, h))
