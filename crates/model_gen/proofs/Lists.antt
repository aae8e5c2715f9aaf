-- The last element of a list.
use Rattle.std.proofs.Common.{◌≡◌, false, List, [], ◌∷◌, ◌++◌, Some, refl, ap}
use Rattle.drn_read.specs.Parts.{last, is_empty}
use Rattle.drn_read.specs.Keeping.{on_last}

-- those before the last one, and the last one
pub record Split {A : Type 0} (xs : List A) : Type 0 where
  pub front : List A
  pub end : A
  pub is : xs ≡ front ++ end ∷ []

pub split : {A : Type 0} (xs : List A) → is_empty xs ≡ false → Split xs
split [] e = cc
split (x ∷ []) e = record { front = []; end = x; is = refl }
split (x ∷ y ∷ xs) e = let rest = split (y ∷ xs) refl in record { front = x ∷ rest.front; end = rest.end; is = ap (λ zs. x ∷ zs) rest.is }

pub last-push : {A : Type 0} (xs : List A) (x : A) → last (xs ++ x ∷ []) ≡ Some x
last-push [] x = refl
last-push (y ∷ []) x = refl
last-push (y ∷ z ∷ xs) x = last-push (z ∷ xs) x

pub on_last-push : {A : Type 0} (change : A → A) (xs : List A) (x : A) → on_last change (xs ++ x ∷ []) ≡ xs ++ change x ∷ []
on_last-push change [] x = refl
on_last-push change (y ∷ []) x = refl
on_last-push change (y ∷ z ∷ xs) x = ap (λ zs. y ∷ zs) (on_last-push change (z ∷ xs) x)
