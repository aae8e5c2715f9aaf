-- The last state and its last choice.
use Rattle.std.proofs.Common.{◌≡◌, ◌==◌, ◌+◌, ◌-◌, ℕ, zero, suc, false, not, List, [], ◌∷◌, ◌++◌, length, get_or, set, Some, None, refl, sym, ◌∙◌, ap, arith}
use Rattle.std.specs.Prelude.{map, is_some, slice_get, OnOk, Result, Ok, Err}
use Rattle.std.proofs.lemmas.Bool.Decides.{nat_tests}
use Rattle.drn_read.specs.Parts.{last, is_empty}
use Rattle.drn_read.specs.States.{StateText}
use Rattle.drn_read.specs.Judging.{open_choice}
use Rattle.drn_read.specs.Keeping.{on_last}

-- ---- the last element of a list

-- the last element by its place
pub last_is : {A : Type 0} (xs : List A) → slice_get xs (length xs - 1) ≡ last xs
last_is [] = refl
last_is (x ∷ []) = refl
last_is (x ∷ y ∷ xs) = let e : length (x ∷ y ∷ xs) - 1 ≡ suc (length (y ∷ xs) - 1) = omega arith in ap (slice_get (x ∷ y ∷ xs)) e ∙ last_is (y ∷ xs)

-- the last element was changed in its place
pub set_last : {A B : Type 0} (view : A → B) (change : B → B) (xs : List A) (n : ℕ) (x old : A) → n + 1 ≡ length xs → old ≡ get_or xs n old → view x ≡ change (view old)
    → map view (set xs n x) ≡ on_last change (map view xs)
set_last view change [] n x old l g e = absurd (omega arith)
set_last view change (y ∷ []) zero x old l g e = ap (λ b. b ∷ []) (e ∙ ap (λ o. change (view o)) g)
set_last view change (y ∷ []) (suc n) x old l g e = absurd (omega arith)
set_last view change (y ∷ z ∷ xs) zero x old l g e = absurd (omega arith)
set_last view change (y ∷ z ∷ xs) (suc n) x old l g e = ap (λ bs. view y ∷ bs) (set_last view change (z ∷ xs) n x old (omega arith) g e)

-- the same where the elements are seen as they are
pub set_end : {A : Type 0} (change : A → A) (xs : List A) (n : ℕ) (x old : A) → n + 1 ≡ length xs → old ≡ get_or xs n old → x ≡ change old → set xs n x ≡ on_last change xs
set_end change xs n x old l g e = sym (map_id (set xs n x)) ∙ set_last (λ a. a) change xs n x old l g e ∙ ap (on_last change) (map_id xs)
  where
    map_id : {A : Type 0} (xs : List A) → map (λ (a : A). a) xs ≡ xs
    map_id [] = refl
    map_id (x ∷ xs) = ap (λ ys. x ∷ ys) (map_id xs)

-- a call that changes the last element or fails
pub ends_ok : {A E : Type 0} (r : Result (Unit {0}) E) (change : A → A) (xs : List A) (n : ℕ) (x old : A) → is_empty xs ≡ false → n ≡ length xs → old ≡ get_or xs (n - 1) old
    → OnOk r (x ≡ change old) → OnOk r (set xs (n - 1) x ≡ on_last change xs)
ends_ok (Ok u) change xs n x old some l g e = set_end change xs (n - 1) x old (by_list xs some l) g e
  where
    by_list : {A : Type 0} (xs : List A) → is_empty xs ≡ false → n ≡ length xs → n - 1 + 1 ≡ length xs
    by_list [] some l = cc
    by_list (x ∷ xs) some l = omega arith
ends_ok (Err e) change xs n x old some l g h = tt

-- nothing was changed
pub set_same : {A B : Type 0} (view : A → B) (xs : List A) (n : ℕ) (x old : A) → n + 1 ≡ length xs → old ≡ get_or xs n old → view x ≡ view old → map view (set xs n x) ≡ map view xs
set_same view xs n x old l g e = set_last view (λ b. b) xs n x old l g e ∙ unchanged (map view xs)
  where
    unchanged : {B : Type 0} (bs : List B) → on_last (λ b. b) bs ≡ bs
    unchanged [] = refl
    unchanged (b ∷ []) = refl
    unchanged (b ∷ c ∷ bs) = ap (λ cs. b ∷ cs) (unchanged (c ∷ bs))

-- one more element in the last row
pub row_pushed : {A B : Type 0} (view : A → List B) (more : List B) (xs : List A) (n : ℕ) (x old : A) → n + 1 ≡ length xs → old ≡ get_or xs n old → view x ≡ view old ++ more
    → map view (set xs n x) ≡ elim (map view xs) as (λ rows. List (List B)) [ [] ↦ more ∷ [] | row ∷ rows ↦ on_last (λ r. r ++ more) (row ∷ rows) ]
row_pushed view more [] n x old l g e = absurd (omega arith)
row_pushed view more (y ∷ xs) n x old l g e = set_last view (λ r. r ++ more) (y ∷ xs) n x old l g e

-- ---- a state without choice

not_none : (n : ℕ) → (suc n == 0) ≡ false
not_none n = grind (arith, nat_tests)

pub no_rows : {A B : Type 0} (f : A → B) (xs : List A) → (length xs == 0) ≡ is_empty (map f xs)
no_rows f [] = refl
no_rows f (x ∷ xs) = not_none (length xs)

some_last : {A : Type 0} (xs : List A) → not (is_empty xs) ≡ is_some (last xs)
some_last [] = refl
some_last (x ∷ []) = refl
some_last (x ∷ y ∷ xs) = some_last (y ∷ xs)

pub has_choice : (states : List StateText) (s : StateText) → Some s ≡ last states → not (is_empty s.choices) ≡ is_some (open_choice states)
has_choice states s e = some_last s.choices ∙ rw (← e) refl

pub has_no_choice : (states : List StateText) → None ≡ last states → false ≡ is_some (open_choice states)
has_no_choice states e = rw (← e) refl
