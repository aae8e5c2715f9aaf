-- Weighted sums over moves, and positive products.
use Rattle.std.proofs.Common.{◌≡◌, ℕ, List, [], ◌∷◌, ℤ, pos, ◌+ℤ◌, ◌*ℤ◌, ◌≤ℤ◌, ◌<ℤ◌, refl, ap, arith}
use Rattle.std.proofs.lemmas.Int.{by_lt_z}
use Rattle.lift_poly.proofs.Ring.{linear, mul-comm, mul-assoc, mul-add, add-mul, mul-zero, zero-mul, mul-le, mul-lt}
use Rattle.lift_model.specs.Process.{Move, weighted_sum}

pub sum-same : (f g : ℕ → ℤ) (row : List Move) → ((t : ℕ) → f t ≡ g t) → weighted_sum f row ≡ weighted_sum g row
sum-same f g [] same = refl
sum-same f g (m ∷ row) same = omega (arith, linear, ap (λ z. m.1 *ℤ z) (same m.0), sum-same f g row same)

pub sum-add : (f g : ℕ → ℤ) (row : List Move) → weighted_sum (λ t. f t +ℤ g t) row ≡ weighted_sum f row +ℤ weighted_sum g row
sum-add f g [] = omega (arith, linear)
sum-add f g (m ∷ row) = omega (arith, linear, sum-add f g row, mul-add m.1 (f m.0) (g m.0))

pub sum-times : (k : ℤ) (f : ℕ → ℤ) (row : List Move) → weighted_sum (λ t. f t *ℤ k) row ≡ weighted_sum f row *ℤ k
sum-times k f [] = omega (arith, linear, zero-mul k)
sum-times k f (m ∷ row) = omega (arith, linear, sum-times k f row, add-mul (m.1 *ℤ f m.0) (weighted_sum f row) k, mul-assoc m.1 (f m.0) k)

pub positive_part : (a b q : ℤ) → pos 0 ≤ℤ q → pos 0 <ℤ b → b ≤ℤ (a *ℤ q) → pos 0 <ℤ a
positive_part a b q h positive le = by_lt_z (pos 0) a (λ l. l) (λ n. let f = mul-le q a (pos 0) h n in absurd (omega (arith, linear, f, positive, le, mul-comm q a, mul-zero q)))

pub product-positive : (a b : ℤ) → pos 0 <ℤ a → pos 0 <ℤ b → pos 0 <ℤ (a *ℤ b)
product-positive a b f g = let lt = mul-lt a (pos 0) b f g in omega (arith, linear, lt, mul-zero a)
