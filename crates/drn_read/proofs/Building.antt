-- Rows that are built one by one.
use Rattle.std.proofs.Common.{◌≡◌, ◌≢◌, ℕ, ◌+◌, ◌<◌, ◌||◌, Bool, true, false, zero, suc, ◌≤◌, refl, List, [], ◌∷◌, ◌++◌, length, get_or, take, map, sym, ◌∙◌, ap, arith, Some, Result, Ok, Err, All, subst, cond}
use Rattle.std.specs.List.{list_any}
use Rattle.std.proofs.lemmas.List.{take_more, take_all, length-map}
use Rattle.std.proofs.Math.ListN.{get_or-map}
use Rattle.lift_poly.specs.MultiAffine.{is_wide, narrow}
use Rattle.lift_poly.specs.declared.error.PolyError.{PolyError}
use Rattle.lift_poly.specs.declared.error.PolyError.TheVariants as poly
use Rattle.drn_read.specs.Faults.{when}
use Rattle.drn_read.specs.Shown.{Tells, is_over}
use Rattle.drn_read.specs.declared.error.DrnCause.{DrnCause}
use Rattle.drn_read.specs.declared.error.DrnCause.TheVariants.{CommonDenominator, Memory}
use Rattle.std.proofs.lemmas.List.{map-append}
use Rattle.std.proofs.lemmas.List.Folds.{list_any_more}
use Rattle.std.proofs.lemmas.Option.{slice_get_within, get_or_from_slice_get}
use Rattle.std.specs.List.{slice_get}
use Rattle.std.specs.Prelude.{unsigned_abs}
use Rattle.std.proofs.lemmas.Bool.Decides.{nat_tests}
use Rattle.lift_poly.specs.Polynomial.{Term}
use Rattle.lift_model.specs.Valid.{coefficient_limit}

-- none of these is too large, and this was built of them
pub record Built {A B : Type 0} (large : A → Bool) (make : A → B) (xs : List A) (built : List B) : Type 0 where
  pub none : list_any large xs ≡ false
  pub are : built ≡ map make xs

pub nothing : {A B : Type 0} (large : A → Bool) (make : A → B) → Built large make [] []
nothing large make = record { none = refl; are = refl }

-- ---- coefficients that are too large

any_here : {A : Type 0} (p : A → Bool) (xs : List A) (i : ℕ) (x : A) → i < length xs → p (get_or xs i x) ≡ true → list_any p xs ≡ true
any_here p [] i x h e = absurd (omega arith)
any_here p (y ∷ xs) zero x h e = rw e refl
any_here p (y ∷ xs) (suc i) x h e = rw (any_here p xs i x (omega arith) e) (by_test (p y))
  where
    by_test : (b : Bool) → (b || true) ≡ true
    by_test true = refl
    by_test false = refl

pub large_at : (ts : List Term) (i : ℕ) (t : Term) → slice_get ts i ≡ Some t → coefficient_limit ≤ unsigned_abs t.1 → true ≡ list_any is_over ts
large_at ts i t at large =
    let test : is_over t ≡ true = grind (arith, nat_tests) in
    sym (any_here is_over ts i t (slice_get_within ts i t at) (ap is_over (get_or_from_slice_get ts i t t at) ∙ test))

pub small_more : (ts : List Term) (i : ℕ) (t : Term) → slice_get ts i ≡ Some t → unsigned_abs t.1 < coefficient_limit → list_any is_over (take i ts) ≡ false → list_any is_over (take (i + 1) ts) ≡ false
small_more ts i t at size before =
    let test : is_over t ≡ false = grind (arith, nat_tests) in
    list_any_more is_over ts i t (slice_get_within ts i t at) ∙ ap (λ b. b || is_over (get_or ts i t)) before ∙ ap is_over (get_or_from_slice_get ts i t t at) ∙ test

-- ---- one more row

more_are : {A B : Type 0} (make : A → B) (xs : List A) (i : ℕ) (d : A) → i < length xs → map make (take (i + 1) xs) ≡ map make (take i xs) ++ make (get_or xs i d) ∷ []
more_are make xs i d h = ap (map make) (take_more xs i d h) ∙ map-append make (take i xs) (get_or xs i d ∷ [])

pub one_built : {A B : Type 0} (large : A → Bool) (make : A → B) (xs : List A) (i : ℕ) (x d : A) (built : List B) (y : B)
    → Built large make (take i xs) built → i < length xs → x ≡ get_or xs i d → large x ≡ false → y ≡ make x → Built large make (take (i + 1) xs) (built ++ y ∷ [])
one_built large make xs i x d built y before h is small e = record {
  none = list_any_more large xs i d h ∙ ap (λ b. b || large (get_or xs i d)) before.none ∙ ap large (sym is) ∙ small;
  are = ap (λ ys. ys ++ y ∷ []) before.are ∙ ap (λ z. map make (take i xs) ++ z ∷ []) (e ∙ ap make is) ∙ sym (more_are make xs i d h);
}

pub one_large : {A : Type 0} (large : A → Bool) (xs : List A) (i : ℕ) (x : A) → i < length xs → x ≡ get_or xs i x → large x ≡ true → list_any large xs ≡ true
one_large large xs i x h is e = any_here large xs i x h (ap large (sym is) ∙ e)

any-map : {A B : Type 0} (p : B → Bool) (f : A → B) (xs : List A) → list_any p (map f xs) ≡ list_any (λ x. p (f x)) xs
any-map p f [] = refl
any-map p f (x ∷ xs) = ap (λ b. p (f x) || b) (any-map p f xs)

pub all_built : {A B C : Type 0} (large : B → Bool) (make : B → C) (f : A → B) (xs : List A) (i : ℕ) (built : List C)
    → Built (λ x. large (f x)) (λ x. make (f x)) (take i xs) built → length xs ≤ i → Built large make (map f xs) built
all_built {A} large make f xs i built h le =
    let same : take i xs ≡ xs = take_all i xs le in
    record {
      none = any-map large f xs ∙ sym (ap (list_any (λ x. large (f x))) same) ∙ h.none;
      are = h.are ∙ ap (map (λ x. make (f x))) same ∙ map-twice make f xs;
    }
  where
    map-twice : {A B C : Type 0} (g : B → C) (f : A → B) (xs : List A) → map (λ x. g (f x)) xs ≡ map g (map f xs)
    map-twice g f [] = refl
    map-twice g f (x ∷ xs) = ap (λ ys. g (f x) ∷ ys) (map-twice g f xs)

-- ---- faults

any_weaker : {A : Type 0} (p q : A → Bool) (xs : List A) → ((x : A) → p x ≡ true → q x ≡ true) → list_any p xs ≡ true → list_any q xs ≡ true
any_weaker p q [] h e = cc
any_weaker p q (x ∷ xs) h e = by_test p q x xs h (p x) refl e (any_weaker p q xs h)
  where
    or_true : (b : Bool) → (b || true) ≡ true
    or_true true = refl
    or_true false = refl

    by_test : {A : Type 0} (p q : A → Bool) (x : A) (xs : List A) → ((x : A) → p x ≡ true → q x ≡ true) → (b : Bool) → p x ≡ b → (b || list_any p xs) ≡ true → (list_any p xs ≡ true → list_any q xs ≡ true) → list_any q (x ∷ xs) ≡ true
    by_test p q x xs h true is e rest = rw (h x is) refl
    by_test p q x xs h false is e rest = rw (rest e) (or_true (q x))

wide_is_over : (t : Term) → is_wide t ≡ true → is_over t ≡ true
wide_is_over t e = grind (arith, nat_tests)

narrow_wide : (ts : List Term) (e : PolyError) → Err e ≡ narrow ts → list_any is_wide ts ≡ true
narrow_wide ts e h = by_test ts e (list_any is_wide ts) refl h
  where
    by_test : (ts : List Term) (e : PolyError) (b : Bool) → list_any is_wide ts ≡ b → Err e ≡ cond b (Err poly.Wide) (Ok ts) → b ≡ true
    by_test ts e true is h = refl
    by_test ts e false is h = cc

-- a polynomial that was refused
abbrev answer : PolyError → Result (List Term) PolyError
answer e = Err e

-- a coefficient of size 2^125 has size 2^100 too
pub wide_reported : (ts : List Term) (e : PolyError) (cause : DrnCause) → (answer e ≢ answer poly.Memory → answer e ≡ narrow ts) → (e ≡ poly.Memory → cause ≡ Memory) → (e ≢ poly.Memory → cause ≡ CommonDenominator)
    → cause ≢ Memory → when (list_any is_over ts) CommonDenominator ≡ Some cause
wide_reported ts e cause given memory wide safe =
    let not_memory : e ≢ poly.Memory = λ is. safe (memory is) in
    let large : list_any is_over ts ≡ true = any_weaker is_wide is_over ts wide_is_over (narrow_wide ts e (given (λ is. not_memory (err_same e poly.Memory is)))) in
    rw large (ap Some (sym (wide not_memory)))
  where
    err_same : (a b : PolyError) → answer a ≡ answer b → a ≡ b
    err_same a b h = cc

fault_there : (large : Bool) (cause : DrnCause) → when large CommonDenominator ≡ Some cause → large ≡ true
fault_there true cause e = refl
fault_there false cause e = cc

when_same : (large other : Bool) (cause : DrnCause) → when large CommonDenominator ≡ Some cause → other ≡ true → when other CommonDenominator ≡ Some cause
when_same large other cause e is = rw is (rw (fault_there large cause e) at e)

pub fault_kept : {X A : Type 0} (r : Result X DrnCause) (cause : DrnCause) (large : A → Bool) (xs : List A) (i : ℕ) (x : A) → r ≡ Err cause → i < length xs → x ≡ get_or xs i x
    → (cause ≢ Memory → when (large x) CommonDenominator ≡ Some cause) → Tells r (when (list_any large xs) CommonDenominator)
fault_kept r cause large xs i x e h is fault =
    rw e (λ safe. when_same (large x) (list_any large xs) cause (fault safe) (one_large large xs i x h is (fault_there (large x) cause (fault safe))))

pub fault_kept_over : {X A B : Type 0} (r : Result X DrnCause) (cause : DrnCause) (large : B → Bool) (f : A → B) (xs : List A) (i : ℕ) (x : A) (y : B) → r ≡ Err cause → i < length xs → x ≡ get_or xs i x → y ≡ f x
    → (cause ≢ Memory → when (large y) CommonDenominator ≡ Some cause) → Tells r (when (list_any large (map f xs)) CommonDenominator)
fault_kept_over r cause large f xs i x y e h is same fault =
    subst (λ b. Tells r (when b CommonDenominator)) (sym (any-map large f xs))
    (fault_kept r cause (λ x. large (f x)) xs i x e h is (λ safe. ap (λ z. when (large z) CommonDenominator) (sym same) ∙ fault safe))

-- ---- each row of a list

pub each_row : {X R : Type 0} (P : X → Type 0) (f : R → List X) (rows : List R) (i : ℕ) (row : R) → All (All P) (map f rows) → i < length rows → row ≡ get_or rows i row → All P (f row)
each_row P f rows i row h lt is =
    subst (All P) (get_or-map f rows i row ∙ ap f (sym is)) (h i (f row) (omega (arith, lt, length-map rows f)))
