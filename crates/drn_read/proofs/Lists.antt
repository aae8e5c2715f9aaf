-- Lists: their last element, what a test tells of each element, and what a map keeps.
use Rattle.std.proofs.Common.{◌≡◌, ℕ, ◌+◌, ◌<◌, ◌≤◌, Bool, true, false, cond, not, List, [], ◌∷◌, ◌++◌, length, get_or, map, All, AllPairs, Some, None, refl, sym, ap, subst, arith}
use Rattle.std.specs.List.{list_any, flat_map, find, sum_by, count_by, position_or_len}
use Rattle.std.proofs.lemmas.Bool.{or_parts}
use Rattle.std.proofs.lemmas.List.{length-map, get_or-map, take_at, drop_at}
use Rattle.std.proofs.lemmas.List.Elements.{All-nil, All-cons, All-head, All-tail, All-append, All-take, All-drop}
use Rattle.std.proofs.lemmas.List.Sums.{sum_by-cons}
use Rattle.drn_read.specs.Parts.{last, is_empty}
use Rattle.drn_read.specs.Keeping.{on_last}

-- ---- the last element

-- those before the last one, and the last one
pub record Split {A : Type 0} (xs : List A) : Type 0 where
  pub front : List A
  pub end : A
  pub is : xs ≡ front ++ end ∷ []

pub split : {A : Type 0} (xs : List A) → is_empty xs ≡ false → Split xs
split [] e = cc
split (x ∷ []) e = record { front = []; end = x; is = refl }
split (x ∷ y ∷ xs) e = let rest = split (y ∷ xs) refl in record { front = x ∷ rest.front; end = rest.end; is = ap (λ zs. x ∷ zs) rest.is }

pub last-push : {A : Type 0} (xs : List A) (x : A) → last (xs ++ x ∷ []) ≡ Some x
last-push [] x = refl
last-push (y ∷ []) x = refl
last-push (y ∷ z ∷ xs) x = last-push (z ∷ xs) x

pub on_last-push : {A : Type 0} (change : A → A) (xs : List A) (x : A) → on_last change (xs ++ x ∷ []) ≡ xs ++ change x ∷ []
on_last-push change [] x = refl
on_last-push change (y ∷ []) x = refl
on_last-push change (y ∷ z ∷ xs) x = ap (λ zs. y ∷ zs) (on_last-push change (z ∷ xs) x)

pub All-front : {A : Type 0} (P : A → Type 0) (xs ys : List A) → All P (xs ++ ys) → All P xs
All-front P xs ys h = subst (All P) (take_at xs ys (length xs) refl) (All-take P (length xs) (xs ++ ys) h)

pub All-end : {A : Type 0} (P : A → Type 0) (xs : List A) (x : A) → All P (xs ++ x ∷ []) → P x
All-end P xs x h = All-head P x [] (subst (All P) (drop_at xs (x ∷ []) (length xs) refl) (All-drop P (length xs) (xs ++ x ∷ []) h))

-- ---- tests

pub any_false : {A : Type 0} (p : A → Bool) (xs : List A) → list_any p xs ≡ false → All (λ x. p x ≡ false) xs
any_false p [] e = All-nil (λ x. p x ≡ false)
any_false p (x ∷ xs) e = let parts = or_parts (p x) (list_any p xs) e in All-cons (λ y. p y ≡ false) x xs parts.0 (any_false p xs parts.1)

-- what holds of each element holds of the one that is found
pub find_keeps : {A : Type 0} (P : A → Type 0) (p : A → Bool) (xs : List A) (found : A) → All P xs → find p xs ≡ Some found → P found
find_keeps P p [] found h e = cc
find_keeps P p (x ∷ xs) found h e = by_test (p x) e (find_keeps P p xs found (All-tail P x xs h))
  where
    by_test : (b : Bool) → cond b (Some x) (find p xs) ≡ Some found → (find p xs ≡ Some found → P found) → P found
    by_test true e rest = let f : x ≡ found = cc in subst P f (All-head P x xs h)
    by_test false e rest = rest e

-- where none is found, each fails
pub find_none : {A : Type 0} (p : A → Bool) (xs : List A) → find p xs ≡ None → All (λ x. p x ≡ false) xs
find_none p [] e = All-nil (λ x. p x ≡ false)
find_none p (x ∷ xs) e = by_test (p x) refl e (find_none p xs)
  where
    by_test : (b : Bool) → p x ≡ b → cond b (Some x) (find p xs) ≡ None → (find p xs ≡ None → All (λ y. p y ≡ false) xs) → All (λ y. p y ≡ false) (x ∷ xs)
    by_test true t e rest = cc
    by_test false t e rest = All-cons (λ y. p y ≡ false) x xs t (rest e)

-- where one passes, there is a first one that does
pub first_within : {A : Type 0} (p : A → Bool) (xs : List A) → 1 ≤ count_by p xs → position_or_len p xs < length xs
first_within p [] h = absurd (omega arith)
first_within {A} p (x ∷ xs) h = by_test (p x) (subst (λ n. 1 ≤ n) (sum_by-cons (λ (y : A). cond (p y) 1 0) x xs) h) (first_within p xs)
  where
    by_test : (b : Bool) → 1 ≤ cond b 1 0 + count_by p xs → (1 ≤ count_by p xs → position_or_len p xs < length xs) → cond (not b) (1 + position_or_len p xs) 0 < length (x ∷ xs)
    by_test true h rest = omega arith
    by_test false h rest = omega (arith, rest (omega arith))

-- ---- maps and joined lists

pub sum_by-map : {A B : Type 0} (f : B → ℕ) (g : A → B) (xs : List A) → sum_by f (map g xs) ≡ sum_by (λ x. f (g x)) xs
sum_by-map f g [] = refl
sum_by-map {A} f g (x ∷ xs) = omega (arith, sum_by-map f g xs, sum_by-cons f (g x) (map g xs), sum_by-cons (λ (y : A). f (g y)) x xs)

pub sum_by-same : {A : Type 0} (f g : A → ℕ) (xs : List A) → ((x : A) → f x ≡ g x) → sum_by f xs ≡ sum_by g xs
sum_by-same f g [] h = refl
sum_by-same f g (x ∷ xs) h = omega (arith, sum_by-same f g xs h, h x, sum_by-cons f x xs, sum_by-cons g x xs)

pub AllPairs-map : {A B : Type 0} (R : B → B → Type 0) (f : A → B) (xs : List A) → AllPairs (λ x y. R (f x) (f y)) xs → AllPairs R (map f xs)
AllPairs-map R f [] h i j d lt within = absurd (omega arith)
AllPairs-map R f (x ∷ xs) h i j d lt within =
    let inside : j < length (x ∷ xs) = omega (arith, length-map (x ∷ xs) f) in
    let first = get_or-map f (x ∷ xs) i x d (omega arith) in
    let second = get_or-map f (x ∷ xs) j x d inside in
    subst (λ y. R y (get_or (map f (x ∷ xs)) j d)) (sym first) (subst (R (f (get_or (x ∷ xs) i x))) (sym second) (h i j x lt inside))

pub All-flat_map : {A B : Type 0} (P : B → Type 0) (f : A → List B) (xs : List A) → All (λ x. All P (f x)) xs → All P (flat_map f xs)
All-flat_map P f [] h = All-nil P
All-flat_map P f (x ∷ xs) h = All-append P (f x) (flat_map f xs) (All-head (λ y. All P (f y)) x xs h) (All-flat_map P f xs (All-tail (λ y. All P (f y)) x xs h))

pub All-from_flat_map : {A B : Type 0} (P : B → Type 0) (f : A → List B) (xs : List A) → All P (flat_map f xs) → All (λ x. All P (f x)) xs
All-from_flat_map P f [] h = All-nil (λ x. All P (f x))
All-from_flat_map P f (x ∷ xs) h =
    let back = subst (All P) (drop_at (f x) (flat_map f xs) (length (f x)) refl) (All-drop P (length (f x)) (f x ++ flat_map f xs) h) in
    All-cons (λ y. All P (f y)) x xs (All-front P (f x) (flat_map f xs) h) (All-from_flat_map P f xs back)
