-- The place of the first name that passes, with one more name.
use Rattle.std.proofs.Common.{◌≡◌, ◌+◌, ◌||◌, ℕ, suc, Bool, true, false, not, cond, refl, sym, ◌∙◌, ap, List, [], ◌∷◌, ◌++◌, length, Option, Some, None, arith}
use Rattle.std.specs.Prelude.{position, is_none}
use Rattle.std.specs.List.{list_any, position_or_len}
use Rattle.drn_read.proofs.Pairing.{below}

any_push : {A : Type 0} (p : A → Bool) (xs : List A) (x : A) → list_any p (xs ++ x ∷ []) ≡ (list_any p xs || p x)
any_push p [] x = or_none (p x)
  where
    or_none : (b : Bool) → (b || false) ≡ b
    or_none true = refl
    or_none false = refl
any_push p (y ∷ xs) x = ap (λ (b : Bool). p y || b) (any_push p xs x) ∙ or_assoc (p y) (list_any p xs) (p x)
  where
    or_assoc : (a b c : Bool) → (a || (b || c)) ≡ ((a || b) || c)
    or_assoc true b c = refl
    or_assoc false b c = refl

place_push : {A : Type 0} (p : A → Bool) (xs : List A) (x : A) → position_or_len p (xs ++ x ∷ []) ≡ cond (list_any p xs) (position_or_len p xs) (length xs + cond (not (p x)) 1 0)
place_push p [] x = by_first (p x)
  where
    by_first : (b : Bool) → cond (not b) (1 + 0) 0 ≡ 0 + cond (not b) 1 0
    by_first true = refl
    by_first false = refl
place_push p (y ∷ xs) x = by_test (p y) (list_any p xs) (position_or_len p (xs ++ x ∷ [])) (position_or_len p xs) (length xs) (cond (not (p x)) 1 0) (place_push p xs x)
  where
    by_test : (b found : Bool) (rest here count tail : ℕ) → rest ≡ cond found here (count + tail) → cond (not b) (1 + rest) 0 ≡ cond (b || found) (cond (not b) (1 + here) 0) (suc count + tail)
    by_test true found rest here count tail e = refl
    by_test false true rest here count tail e = omega (arith, e)
    by_test false false rest here count tail e = omega (arith, e)

by_any : {A : Type 0} (p : A → Bool) (xs : List A) → position p xs ≡ cond (list_any p xs) (Some (position_or_len p xs)) None
by_any p xs = ap (λ (b : Bool). cond b (Some (position_or_len p xs)) None) (below p xs)

none_found : (b : Bool) (n : ℕ) → is_none (cond b (Some n) None) ≡ true → b ≡ false
none_found true n e = cc
none_found false n e = refl

some_found : (b : Bool) (n : ℕ) → is_none (cond b (Some n) None) ≡ false → b ≡ true
some_found true n e = refl
some_found false n e = cc

-- a place that was found stays
pub place_stays : {A : Type 0} (p : A → Bool) (xs : List A) (x : A) → is_none (position p xs) ≡ false → position p (xs ++ x ∷ []) ≡ position p xs
place_stays p xs x e =
    let any : list_any p xs ≡ true = some_found (list_any p xs) (position_or_len p xs) (sym (ap is_none (by_any p xs)) ∙ e) in
    by_any p (xs ++ x ∷ [])
    ∙ ap (λ (b : Bool). cond b (Some (position_or_len p (xs ++ x ∷ []))) None) (any_push p xs x ∙ ap (λ (b : Bool). b || p x) any)
    ∙ ap Some (place_push p xs x ∙ ap (λ (b : Bool). cond b (position_or_len p xs) (length xs + cond (not (p x)) 1 0)) any)
    ∙ sym (by_any p xs ∙ ap (λ (b : Bool). cond b (Some (position_or_len p xs)) None) any)

-- where none was found, the new name may be it
pub place_new : {A : Type 0} (p : A → Bool) (xs : List A) (x : A) → is_none (position p xs) ≡ true → position p (xs ++ x ∷ []) ≡ cond (p x) (Some (length xs)) None
place_new p xs x e =
    let any : list_any p xs ≡ false = none_found (list_any p xs) (position_or_len p xs) (sym (ap is_none (by_any p xs)) ∙ e) in
    by_any p (xs ++ x ∷ [])
    ∙ ap (λ (b : Bool). cond b (Some (position_or_len p (xs ++ x ∷ []))) None) (any_push p xs x ∙ ap (λ (b : Bool). b || p x) any)
    ∙ ap (λ (n : ℕ). cond (p x) (Some n) None) (place_push p xs x ∙ ap (λ (b : Bool). cond b (position_or_len p xs) (length xs + cond (not (p x)) 1 0)) any)
    ∙ by_new (p x)
  where
    by_new : (b : Bool) → cond b (Some (length xs + cond (not b) 1 0)) None ≡ cond b (Some (length xs)) None
    by_new true = ap Some (omega arith)
    by_new false = refl

pub none_is : (o : Option ℕ) → is_none o ≡ true → o ≡ None
none_is None e = refl
none_is (Some n) e = cc
