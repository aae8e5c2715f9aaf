-- The greatest end, and the limit on the sum of a row's sizes.
use Rattle.std.proofs.Common.{◌≡◌, ℕ, suc, ◌-◌, ◌*◌, ◌/◌, ◌^◌, ◌<◌, ◌≤◌, ◌↔◌, max, List, [], ◌∷◌, ℤ, fold, unsigned_abs, refl, arith, mul_assoc, mul_comm, pow-suc}
use Rattle.std.proofs.Math.Nat.{le-div_iff_mul-le, pow-zero}
use Rattle.std.proofs.lemmas.Nat.{pow_pos}
use Rattle.std.proofs.lemmas.Int.{ints}
use Rattle.lift_grid.specs.Rectangle.{Spans, sides_of}
use Rattle.corner_lift.specs.Case.{CaseData, greatest_size, IsAsked}

-- the greatest of a number and the sizes of some ends
abbrev pub greatest_from : ℕ → List ℤ → ℕ
greatest_from first sides = fold (λ greatest side. max greatest (unsigned_abs side)) first sides

-- the order of two sizes doesn't matter
greatest_from-max : (first other : ℕ) (sides : List ℤ) → greatest_from (max first other) sides ≡ max (greatest_from first sides) other
greatest_from-max first other [] = refl
greatest_from-max first other (side ∷ sides) =
    let swap : max (max first other) (unsigned_abs side) ≡ max (max first (unsigned_abs side)) other = omega arith in
    rw swap (greatest_from-max (max first (unsigned_abs side)) other sides)

pub greatest_from-sides : (d : ℤ) (spans : Spans) → greatest_from (unsigned_abs d) (sides_of spans) ≡ greatest_size d spans
greatest_from-sides d [] = refl
greatest_from-sides d (span ∷ spans) =
    let sides = sides_of spans in
    omega (arith, greatest_from-max (max (unsigned_abs d) (unsigned_abs span.0)) (unsigned_abs span.1) sides, greatest_from-max (unsigned_abs d) (unsigned_abs span.0) sides, greatest_from-sides d spans)

grid_below : (d : ℤ) (spans : Spans) → unsigned_abs d ≤ greatest_size d spans
grid_below d [] = omega arith
grid_below d (span ∷ spans) = omega (arith, grid_below d spans)

pub greatest_size-positive : (k : CaseData) → IsAsked k → 0 < greatest_size k.d k.root
greatest_size-positive k is = omega (arith, ints, is.grid.positive, grid_below k.d k.root)

-- the limit on what may stand before so many factors and 2 ^ w
abbrev pub IsLimit : ℕ → ℕ → ℕ → ℕ → Type 0
IsLimit greatest w count limit = (n : ℕ) → (n ≤ limit) ↔ (n * greatest ^ count * 2 ^ w < 2 ^ 126)

-- without factors
pub limit_none : (greatest w count : ℕ) → count ≡ 0 → IsLimit greatest w count ((2 ^ 126 - 1) / 2 ^ w)
limit_none greatest w count none n =
    let iff = le-div_iff_mul-le {x = n} {y = 2 ^ 126 - 1} (pow_pos w) in
    let one : n * greatest ^ 0 ≡ n = rw (pow-zero greatest) (omega arith) in
    rw (none, one) (λ le. omega (arith, iff.0 le), λ lt. iff.1 (omega (arith, lt)))

-- one factor more
pub limit_more : (greatest w count more limit : ℕ) → 0 < greatest → more ≡ suc count → IsLimit greatest w count limit → IsLimit greatest w more (limit / greatest)
limit_more greatest w count more limit positive next h n =
    let iff = le-div_iff_mul-le {x = n} {y = limit} positive in
    let same : n * greatest ^ suc count ≡ n * greatest * greatest ^ count = rw (pow-suc greatest count, mul_comm (greatest ^ count) greatest, mul_assoc) refl in
    let at = h (n * greatest) in
    rw (next, same) (λ le. at.0 (iff.0 le), λ lt. iff.1 (at.1 lt))
