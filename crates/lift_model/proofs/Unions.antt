-- Unions of parameter sets, one set after another.
use Rattle.std.proofs.Common.{◌≡◌, ℕ, ◌+◌, ◌<◌, ◌≤◌, List, [], ◌∷◌, length, get_or, drop, map, bit_or, refl, sym, ap, ◌∙◌, arith, add-one, drop-cons}
use Rattle.std.proofs.lemmas.List.{drop_all}
use lib.Bits.{or_zero_r}
use Rattle.std.proofs.lemmas.Nat.Bits.{same_from_bits, bit_at_or}
use Rattle.lift_model.specs.Model.{union}

or_assoc : (a b c : ℕ) → bit_or (bit_or a b) c ≡ bit_or a (bit_or b c)
or_assoc a b c =
    same_from_bits (bit_or (bit_or a b) c) (bit_or a (bit_or b c))
    (λ i. omega (arith, bit_at_or (bit_or a b) c i, bit_at_or a b i, bit_at_or a (bit_or b c) i, bit_at_or b c i))

-- a loop's step: one set more
pub union_more : {X : Type 0} (f : X → ℕ) (set i : ℕ) (xs : List X) (x : X) → i < length xs → x ≡ get_or xs i x → bit_or (bit_or set (f x)) (union (map f (drop (i + 1) xs))) ≡ bit_or set (union (map f (drop i xs)))
union_more f set i xs x lt is =
    or_assoc set (f x) (union (map f (drop (i + 1) xs)))
    ∙ ap (bit_or set) (ap (λ y. bit_or (f y) (union (map f (drop (i + 1) xs)))) is ∙ ap (λ k. bit_or (f (get_or xs i x)) (union (map f (drop k xs)))) (add-one i) ∙ sym (ap (λ ys. union (map f ys)) (drop-cons xs i x lt)))

pub union_all : {X : Type 0} (f : X → ℕ) (set i : ℕ) (xs : List X) → length xs ≤ i → bit_or set (union (map f (drop i xs))) ≡ union (map f xs) → set ≡ union (map f xs)
union_all f set i xs le h = sym (ap (λ ys. bit_or set (union (map f ys))) (drop_all i xs le) ∙ or_zero_r set) ∙ h

-- what a map maps a mapped list to
pub map-mapped : {X Y Z : Type 0} (f : Y → Z) (g : X → Y) (xs : List X) → map f (map g xs) ≡ map (λ x. f (g x)) xs
map-mapped f g [] = refl
map-mapped f g (x ∷ xs) = ap (λ ys. f (g x) ∷ ys) (map-mapped f g xs)
