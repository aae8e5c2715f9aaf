-- One term more in a polynomial: put between two of its terms, or added to the one of its set.
use Rattle.std.proofs.Common.{◌≡◌, ◌≢◌, ℕ, suc, ◌+◌, ◌<◌, ◌≤◌, false, true, List, [], ◌∷◌, ◌++◌, length, get_or, take, drop, pos, ◌+ℤ◌, All, Err, unsigned_abs, refl, sym, ap, ◌∙◌, subst, arith, add-one, drop-cons}
use Rattle.std.specs.List.Sorted.{IsBinarySearchResult}
use Rattle.std.specs.Ordering.{nat_cmp}
use Rattle.std.specs.declared.cmp.Ordering.TheVariants.{Less, Greater}
use Rattle.std.proofs.lemmas.Bool.Decides.{nat_tests}
use Rattle.std.proofs.lemmas.List.{get_or-take, get_or-drop, take-append-drop, length-take, length-drop, take_more, take_all}
use Rattle.std.proofs.lemmas.List.Elements.{All-nil, All-cons, All-head, All-tail, All-append, All-take, All-drop}
use Rattle.std.specs.List.{list_any}
use Rattle.lift_poly.specs.Limits.{term_limit}
use Rattle.lift_poly.specs.Polynomial.{Term}
use Rattle.lift_poly.specs.Arithmetic.{coefficient, kept, sum}
use Rattle.lift_poly.specs.MultiAffine.{IsMultiAffine, is_wide}
use Rattle.lift_poly.proofs.Canonical.{Canonical, canonical_lower, canonical_from_polynomial, rising_from_canonical, kept_case, coefficient-here, coefficient-append, coefficient-kept, coefficient-joined, coefficient-collected, canonical-collected, collected_is}
use Rattle.lift_poly.proofs.Lookup.{searchable, coefficient_at}
use Rattle.lift_poly.proofs.Merging.{Small, small_from, multi_affine_from, narrow_size, coefficient_before, wide_at}
use Rattle.lift_poly.proofs.Ring.{linear}

-- ---- between the terms below and those above

put_canonical : (low : ℕ) (t : Term) (done xs : List Term) → Canonical low (done ++ xs) → low ≤ t.0 → t.1 ≢ pos 0 → All (λ u. u.0 < t.0) done → All (λ u. t.0 < u.0) xs → Canonical low (done ++ t ∷ xs)
put_canonical low t [] [] h le some below above = (le, some, tt)
put_canonical low t [] (x ∷ xs) h le some below above = (le, some, (omega (arith, All-head (λ u. t.0 < u.0) x xs above), h.1, h.2))
put_canonical low t (d ∷ done) xs h le some below above =
    (h.0, h.1, put_canonical (suc d.0) t done xs h.2 (omega (arith, All-head (λ u. u.0 < t.0) d done below)) some (All-tail (λ u. u.0 < t.0) d done below) above)

put_sum : (set : ℕ) (t : Term) (done xs : List Term) → coefficient set (done ++ t ∷ xs) ≡ coefficient set (t ∷ (done ++ xs))
put_sum set t done xs = omega (arith, linear, coefficient-append set done (t ∷ xs), coefficient-append set done xs)

less_set : (a b : ℕ) → nat_cmp a b ≡ Less → a < b
less_set a b h = grind (arith, nat_tests)

greater_set : (a b : ℕ) → nat_cmp a b ≡ Greater → b < a
greater_set a b h = grind (arith, nat_tests)

-- at the place where no term of its set was found
pub inserted : (ts : List Term) (i : ℕ) (t : Term) → i ≤ length ts → IsMultiAffine ts → IsMultiAffine (t ∷ []) → IsBinarySearchResult (λ u. nat_cmp u.0 t.0) ts (Err i)
    → IsMultiAffine (take i ts ++ t ∷ drop i ts) × ((set : ℕ) → coefficient set (take i ts ++ t ∷ drop i ts) ≡ coefficient set (t ∷ ts))
inserted ts i t le h one found =
    let canonical = canonical_from_polynomial ts h.polynomial in
    let parted = found (searchable t.0 ts (rising_from_canonical 0 ts canonical)) in
    let all = take-append-drop i ts in
    let below : All (λ u. u.0 < t.0) (take i ts) = λ k d lt. let before : k < i = omega (arith, length-take i ts) in rw get_or-take (less_set (get_or ts k d).0 t.0 (parted.0 k d (omega arith) before)) in
    let above : All (λ u. t.0 < u.0) (drop i ts) = λ k d lt. rw get_or-drop (greater_set (get_or ts (i + k) d).0 t.0 (parted.1 (i + k) d (omega arith) (omega (arith, length-drop i ts)))) in
    let small = small_from ts h in (
      multi_affine_from (take i ts ++ t ∷ drop i ts)
          (put_canonical 0 t (take i ts) (drop i ts) (subst (Canonical 0) (sym all) canonical) (omega arith) (one.polynomial.coefficients 0 t (omega arith)) below above)
          (All-append Small (take i ts) (t ∷ drop i ts) (All-take Small i ts small) (All-cons Small t (drop i ts) (small_from (t ∷ []) one 0 t (omega arith)) (All-drop Small i ts small))),
      λ set. put_sum set t (take i ts) (drop i ts) ∙ ap (λ us. coefficient set (t ∷ us)) all,
    )

-- ---- in the place of the term of its set

replaced_canonical : (low : ℕ) (t a : Term) (done xs : List Term) → a.0 ≡ t.0 → Canonical low (done ++ a ∷ xs) → Canonical low (done ++ kept t xs)
replaced_canonical low t a [] xs e h =
    kept_case (Canonical low) t xs (λ none. canonical_lower low (suc a.0) xs (omega (arith, h.0)) h.2) (λ some. (omega (arith, h.0), some, subst (λ n. Canonical (suc n) xs) e h.2))
replaced_canonical low t a (d ∷ done) xs e h = (h.0, h.1, replaced_canonical (suc d.0) t a done xs e h.2)

replaced_sum : (set : ℕ) (t a : Term) (done xs : List Term) → a.0 ≡ t.0 → coefficient set (done ++ kept (t.0, t.1 +ℤ a.1) xs) ≡ coefficient set (t ∷ (done ++ a ∷ xs))
replaced_sum set t a done xs e =
    omega (
      arith,
      linear,
      coefficient-append set done (kept (t.0, t.1 +ℤ a.1) xs),
      coefficient-append set done (a ∷ xs),
      coefficient-kept set (t.0, t.1 +ℤ a.1) xs,
      coefficient-joined set t.0 t.1 a.1 xs,
      ap (λ n. coefficient set ((n, a.1) ∷ xs)) e,
    )

pub replaced : (ts : List Term) (i : ℕ) (t d : Term) → i < length ts → IsMultiAffine ts → IsMultiAffine (t ∷ []) → (get_or ts i d).0 ≡ t.0 → is_wide (0, t.1 +ℤ (get_or ts i d).1) ≡ false
    → IsMultiAffine (take i ts ++ kept (t.0, t.1 +ℤ (get_or ts i d).1) (drop (i + 1) ts)) × ((set : ℕ) → coefficient set (take i ts ++ kept (t.0, t.1 +ℤ (get_or ts i d).1) (drop (i + 1) ts)) ≡ coefficient set (t ∷ ts))
replaced ts i t d lt h one e fits =
    let a = get_or ts i d in
    let sum : Term = (t.0, t.1 +ℤ a.1) in
    let split : take i ts ++ a ∷ drop (i + 1) ts ≡ ts = rw (add-one, ← drop-cons ts i d lt) (take-append-drop i ts) in
    let small = small_from ts h in
    let small_sum : Small sum = ((small_from (t ∷ []) one 0 t (omega arith)).0, narrow_size sum fits) in
    let small_rest = All-drop Small (i + 1) ts small in (
      multi_affine_from (take i ts ++ kept sum (drop (i + 1) ts)) (replaced_canonical 0 sum a (take i ts) (drop (i + 1) ts) e (subst (Canonical 0) (sym split) (canonical_from_polynomial ts h.polynomial)))
          (All-append Small (take i ts) (kept sum (drop (i + 1) ts)) (All-take Small i ts small) (kept_case (All Small) sum (drop (i + 1) ts) (λ none. small_rest) (λ some. All-cons Small sum (drop (i + 1) ts) small_sum small_rest))),
      λ set. replaced_sum set t a (take i ts) (drop (i + 1) ts) e ∙ ap (λ us. coefficient set (t ∷ us)) split,
    )

-- the coefficient that the two make
pub joined_coefficient : (ts : List Term) (i : ℕ) (t d : Term) → i < length ts → IsMultiAffine ts → (get_or ts i d).0 ≡ t.0 → coefficient t.0 (t ∷ ts) ≡ t.1 +ℤ (get_or ts i d).1
joined_coefficient ts i t d lt h e =
    coefficient-here t.0 t ts refl ∙ ap (λ z. t.1 +ℤ z) (sym (ap (λ n. coefficient n ts) e) ∙ coefficient_at 0 ts i d (canonical_from_polynomial ts h.polynomial) lt)

-- ---- one term after the other

wide_size : (t : Term) → is_wide t ≡ true → term_limit ≤ unsigned_abs t.1
wide_size t h = grind (arith, nat_tests)

-- the terms of the one polynomial, and those of the other one before a place
pub record Adding (left right : List Term) (i : ℕ) (ts : List Term) : Type 0 where
  pub held : IsMultiAffine ts
  pub sum : (set : ℕ) → coefficient set ts ≡ coefficient set left +ℤ coefficient set (take i right)

pub adding_none : (left right : List Term) → IsMultiAffine left → Adding left right 0 left
adding_none left right h = record { held = h; sum = λ set. omega (arith, linear) }

pub adding_more : (left right ts us : List Term) (i : ℕ) (d : Term) → i < length right → Adding left right i ts → IsMultiAffine us → ((set : ℕ) → coefficient set us ≡ coefficient set (get_or right i d ∷ ts)) → Adding left right (i + 1) us
adding_more left right ts us i d lt h held sum = record {
  held = held;
  sum = λ set. omega (arith, linear, sum set, h.sum set, ap (coefficient set) (take_more right i d lt), coefficient-append set (take i right) (get_or right i d ∷ []));
}

-- one term of a polynomial
pub one_term : (ts : List Term) (i : ℕ) (d : Term) → i < length ts → IsMultiAffine ts → IsMultiAffine (get_or ts i d ∷ [])
one_term ts i d lt h =
    let t = get_or ts i d in
    multi_affine_from (t ∷ []) (omega arith, h.polynomial.coefficients i d lt, tt) (All-cons Small t [] (small_from ts h i d lt) (All-nil Small))

pub added_all : (left right ts : List Term) (i : ℕ) → length right ≤ i → Adding left right i ts → ts ≡ sum left right
added_all left right ts i le h =
    collected_is ts (left ++ right) h.held.polynomial
    (λ set. omega (arith, linear, h.sum set, ap (coefficient set) (take_all i right le), coefficient-append set left right))

-- a coefficient that is too large stays so
pub added_wide : (left right ts : List Term) (i : ℕ) (d : Term) → i < length right → IsMultiAffine right → Adding left right i ts → is_wide ((get_or right i d).0, coefficient (get_or right i d).0 (get_or right i d ∷ ts)) ≡ true
    → list_any is_wide (sum left right) ≡ true
added_wide left right ts i d lt k h wide =
    let a = get_or right i d in
    let canonical = canonical_from_polynomial right k.polynomial in
    let split : take i right ++ a ∷ drop (i + 1) right ≡ right = rw (add-one, ← drop-cons right i d lt) (take-append-drop i right) in
    let before : coefficient a.0 (take i right) ≡ pos 0 = coefficient_before 0 a (take i right) (drop (i + 1) right) (subst (Canonical 0) (sym split) canonical) in
    let number : coefficient a.0 (a ∷ ts) ≡ coefficient a.0 (sum left right) =
    omega (arith, linear, coefficient-here a.0 a ts refl, h.sum a.0, before, coefficient-collected a.0 (left ++ right), coefficient-append a.0 left right, coefficient_at 0 right i d canonical lt) in
    let large : term_limit ≤ unsigned_abs (coefficient a.0 (a ∷ ts)) = wide_size (a.0, coefficient a.0 (a ∷ ts)) wide in
    wide_at a.0 0 (sum left right) (canonical-collected (left ++ right)) (subst (λ z. term_limit ≤ unsigned_abs z) number large)
