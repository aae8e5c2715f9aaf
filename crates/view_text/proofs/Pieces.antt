-- Texts that are written piece by piece.
use Rattle.std.proofs.Common.{◌≡◌, ℕ, zero, suc, ◌+◌, ◌<◌, ◌≤◌, Bool, true, false, cond, List, [], ◌∷◌, ◌++◌, length, drop, get_or, refl, ap, sym, arith}
use Rattle.std.specs.List.{filter, flat_map}

one_piece : {X : Type 0} (f : X → List ℕ) (x : X) (xs ys : List X) (rest : List ℕ) (b : Bool) → flat_map f ys ≡ rest → flat_map f (cond b (x ∷ ys) ys) ≡ cond b (f x) [] ++ rest
one_piece f x xs ys rest true e = ap (λ (r : List ℕ). f x ++ r) e
one_piece f x xs ys rest false e = e

-- the pieces of the elements that pass are those of all, where one that doesn't pass has none
pub flat_filter : {X : Type 0} (f : X → List ℕ) (p : X → Bool) (xs : List X) → flat_map f (filter p xs) ≡ flat_map (λ x. cond (p x) (f x) []) xs
flat_filter f p [] = refl
flat_filter f p (x ∷ xs) = one_piece f x xs (filter p xs) _ (p x) (flat_filter f p xs)

-- the piece that is due
flat_at : {X : Type 0} (f : X → List ℕ) (xs : List X) (i : ℕ) (x d : X) → i < length xs → x ≡ get_or xs i d → flat_map f (drop i xs) ≡ f x ++ flat_map f (drop (suc i) xs)
flat_at f [] i x d h e = absurd (omega (arith, h))
flat_at f (y ∷ xs) zero x d h e = ap (λ z. f z ++ flat_map f xs) (sym e)
flat_at f (y ∷ xs) (suc i) x d h e = flat_at f xs i x d (omega (arith, h)) e

pub flat_item : {X : Type 0} (f : X → List ℕ) (xs : List X) (i : ℕ) (x : X) → i < length xs → x ≡ get_or xs i x → flat_map f (drop i xs) ≡ f x ++ flat_map f (drop (i + 1) xs)
flat_item f xs i x h e = let one : i + 1 ≡ suc i = omega arith in rw one (flat_at f xs i x x h e)

-- nothing is due behind the last
pub flat_end : {X : Type 0} (f : X → List ℕ) (xs : List X) (i : ℕ) → length xs ≤ i → flat_map f (drop i xs) ≡ []
flat_end f [] zero h = refl
flat_end f [] (suc i) h = refl
flat_end f (x ∷ xs) zero h = absurd (omega (arith, h))
flat_end f (x ∷ xs) (suc i) h = flat_end f xs i (omega (arith, h))

-- a text that is written where a test says so
pub cond_true : (b : Bool) (xs ys : List ℕ) → b ≡ true → xs ≡ cond b xs ys
cond_true true xs ys e = refl
cond_true false xs ys e = absurd cc

pub cond_false : (b : Bool) (xs ys : List ℕ) → b ≡ false → ys ≡ cond b xs ys
cond_false false xs ys e = refl
cond_false true xs ys e = absurd cc
