-- Polynomials as finite maps: a polynomial is the only one with its coefficients, and `collected` has the coefficients of the terms that it sums.
use Rattle.std.proofs.Common.{◌≡◌, ◌≢◌, ℕ, suc, ◌+◌, ◌<◌, ◌≤◌, Bool, true, false, cond, List, [], ◌∷◌, ◌++◌, length, map, ℤ, pos, ◌+ℤ◌, All, AllPairs, ⊎_elim, int_eq, nat_eq, ltb, eqb, refl, sym, ap, ap₂, ◌∙◌, subst, arith}
use Rattle.std.specs.List.Sorted.{IsStrictlyIncreasing}
use Rattle.std.proofs.lemmas.Bool.{cases_order, cases_eq}
use Rattle.std.proofs.lemmas.Bool.Decides.{Decides-int_eq, nat_tests}
use Rattle.std.proofs.lemmas.List.{get_or-map, length-map}
use Rattle.std.proofs.lemmas.List.Elements.{All-nil, All-cons, All-head, All-tail, All-weaker}
use Rattle.std.proofs.lemmas.List.Kept.{AllPairs-cons, AllPairs-from_increasing}
use Rattle.lift_poly.specs.Polynomial.{Term, IsPolynomial}
use Rattle.lift_poly.specs.Arithmetic.{coefficient, kept, with_term, collected}
use Rattle.lift_poly.proofs.Ring.{linear}

-- terms by ascending set from a set on, none with the coefficient 0
abbrev pub Canonical : ℕ → List Term → Type 0
Canonical low [] = Unit {0}
Canonical low (t ∷ ts) = (low ≤ t.0) × (t.1 ≢ pos 0) × Canonical (suc t.0) ts

-- each set is below those behind it
abbrev pub Rising : List Term → Type 0
Rising = AllPairs (λ (t u : Term). t.0 < u.0)

rising_from : (ts : List Term) → IsStrictlyIncreasing (map (λ t. t.0) ts) → Rising ts
rising_from ts h i j d lt le =
    let p = AllPairs-from_increasing (map (λ t. t.0) ts) h i j d.0 lt (rw length-map le) in
    let a = get_or-map (λ (t : Term). t.0) ts i d d.0 (omega arith) in
    let b = get_or-map (λ (t : Term). t.0) ts j d d.0 le in
    omega (arith, p, a, b)

rising_tail : (t : Term) (ts : List Term) → Rising (t ∷ ts) → Rising ts
rising_tail t ts h i j d lt le = h (suc i) (suc j) d (omega arith) (omega arith)

rising_head : (t : Term) (ts : List Term) → Rising (t ∷ ts) → All (λ u. suc t.0 ≤ u.0) ts
rising_head t ts h j d le = h 0 (suc j) d (omega arith) (omega arith)

canonical_from : (low : ℕ) (ts : List Term) → All (λ t. low ≤ t.0) ts → Rising ts → All (λ t. t.1 ≢ pos 0) ts → Canonical low ts
canonical_from low [] above rising some = tt
canonical_from low (t ∷ ts) above rising some = (
  All-head (λ u. low ≤ u.0) t ts above,
  All-head (λ u. u.1 ≢ pos 0) t ts some,
  canonical_from (suc t.0) ts (rising_head t ts rising) (rising_tail t ts rising) (All-tail (λ u. u.1 ≢ pos 0) t ts some),
)

pub canonical_from_polynomial : (ts : List Term) → IsPolynomial ts → Canonical 0 ts
canonical_from_polynomial ts p = canonical_from 0 ts (λ k d le. omega arith) (rising_from ts p.ascending) p.coefficients

pub above_from : (low : ℕ) (ts : List Term) → Canonical low ts → All (λ t. low ≤ t.0) ts
above_from low [] h = All-nil (λ u. low ≤ u.0)
above_from low (t ∷ ts) h = All-cons (λ u. low ≤ u.0) t ts h.0 (All-weaker (λ u. suc t.0 ≤ u.0) (λ u. low ≤ u.0) (λ u k. omega arith) ts (above_from (suc t.0) ts h.2))

pub rising_from_canonical : (low : ℕ) (ts : List Term) → Canonical low ts → Rising ts
rising_from_canonical low [] h = λ i j d lt le. absurd (omega arith)
rising_from_canonical low (t ∷ ts) h = AllPairs-cons (λ (u w : Term). u.0 < w.0) t ts (above_from (suc t.0) ts h.2) (rising_from_canonical (suc t.0) ts h.2)

some_from : (low : ℕ) (ts : List Term) → Canonical low ts → All (λ t. t.1 ≢ pos 0) ts
some_from low [] h = All-nil (λ u. u.1 ≢ pos 0)
some_from low (t ∷ ts) h = All-cons (λ u. u.1 ≢ pos 0) t ts h.1 (some_from (suc t.0) ts h.2)

pub polynomial_from_canonical : (low : ℕ) (ts : List Term) → Canonical low ts → IsPolynomial ts
polynomial_from_canonical low ts h = record {
  ascending = λ k lt.
      let within : k + 1 < length ts = rw length-map at lt in
      let e = get_or-map (λ (t : Term). t.0) ts k (0, pos 0) 0 (omega arith) in
      let f = get_or-map (λ (t : Term). t.0) ts (k + 1) (0, pos 0) 0 within in
      omega (arith, e, f, rising_from_canonical low ts h k (k + 1) (0, pos 0) (omega arith) within);
  coefficients = some_from low ts h;
}

-- ---- coefficients

pub coefficient-here : (set : ℕ) (t : Term) (ts : List Term) → t.0 ≡ set → coefficient set (t ∷ ts) ≡ t.1 +ℤ coefficient set ts
coefficient-here set t ts e = grind (arith, nat_tests)

pub coefficient-other : (set : ℕ) (t : Term) (ts : List Term) → t.0 ≢ set → coefficient set (t ∷ ts) ≡ coefficient set ts
coefficient-other set t ts ne =
    let e : cond (nat_eq t.0 set) t.1 (pos 0) ≡ pos 0 = grind (arith, nat_tests) in
    ap (λ z. z +ℤ coefficient set ts) e ∙ omega (arith, linear)

pub coefficient_below : (set low : ℕ) (ts : List Term) → Canonical low ts → set < low → coefficient set ts ≡ pos 0
coefficient_below set low [] h lt = refl
coefficient_below set low (t ∷ ts) h lt = coefficient-other set t ts (omega (arith, h.0)) ∙ coefficient_below set (suc t.0) ts h.2 (omega (arith, h.0))

pub coefficient-append : (set : ℕ) (ts us : List Term) → coefficient set (ts ++ us) ≡ coefficient set ts +ℤ coefficient set us
coefficient-append set [] us = omega (arith, linear)
coefficient-append set (t ∷ ts) us = omega (arith, linear, coefficient-append set ts us)

-- two polynomials with the same coefficient at each set are equal
pub unique : (low : ℕ) (p q : List Term) → Canonical low p → Canonical low q → ((set : ℕ) → coefficient set p ≡ coefficient set q) → p ≡ q
unique low [] [] h k same = refl
unique low [] (u ∷ us) h k same =
    absurd (k.1 (omega (arith, linear, same u.0, coefficient-here u.0 u us refl, coefficient_below u.0 (suc u.0) us k.2 (omega arith))))
unique low (t ∷ ts) [] h k same =
    absurd (h.1 (omega (arith, linear, same t.0, coefficient-here t.0 t ts refl, coefficient_below t.0 (suc t.0) ts h.2 (omega arith))))
unique low (t ∷ ts) (u ∷ us) h k same =
    ⊎_elim
    (λ (e : t.0 ≡ u.0).
    let number : t.1 ≡ u.1 = omega (arith, linear, same t.0, coefficient-here t.0 t ts refl, coefficient-here t.0 u us (sym e), coefficient_below t.0 (suc t.0) ts h.2 (omega arith), coefficient_below t.0 (suc u.0) us k.2 (omega arith)) in
    let others : Canonical (suc t.0) us = subst (λ n. Canonical (suc n) us) (sym e) k.2 in
    let rest = unique (suc t.0) ts us h.2 others (λ set.
    ⊎_elim
    (λ (s : t.0 ≡ set). coefficient_below set (suc t.0) ts h.2 (omega arith) ∙ sym (coefficient_below set (suc t.0) us others (omega arith)))
    (λ (s : t.0 ≡ set → ⊥). sym (coefficient-other set t ts s) ∙ same set ∙ coefficient-other set u us (λ w. s (e ∙ w)))
    (cases_eq t.0 set)) in
    ap₂ (λ (x : Term) xs. x ∷ xs) (λ i. (e i, number i)) rest)
    (⊎_elim
    (λ (lt : t.0 < u.0). absurd (h.1 (omega (arith, linear, same t.0, coefficient-here t.0 t ts refl, coefficient_below t.0 (suc t.0) ts h.2 (omega arith), coefficient-other t.0 u us (omega arith), coefficient_below t.0 (suc u.0) us k.2 (omega arith)))))
    (λ (lt : u.0 < t.0). absurd (k.1 (omega (arith, linear, same u.0, coefficient-here u.0 u us refl, coefficient_below u.0 (suc u.0) us k.2 (omega arith), coefficient-other u.0 t ts (omega arith), coefficient_below u.0 (suc t.0) ts h.2 (omega arith))))))
    (cases_order t.0 u.0)

-- ---- `kept`, `with_term`, `collected`

kept-zero : (t : Term) (ts : List Term) → t.1 ≡ pos 0 → kept t ts ≡ ts
kept-zero t ts e = let test : int_eq t.1 (pos 0) ≡ true = (Decides-int_eq t.1 (pos 0)).1 e in ap (λ b. cond b ts (t ∷ ts)) test

int_eq-false : (b : Bool) (z : ℤ) → (b ≡ true → z ≡ pos 0) → z ≢ pos 0 → b ≡ false
int_eq-false true z tells ne = absurd (ne (tells refl))
int_eq-false false z tells ne = refl

pub kept-some : (t : Term) (ts : List Term) → t.1 ≢ pos 0 → kept t ts ≡ t ∷ ts
kept-some t ts ne = ap (λ b. cond b ts (t ∷ ts)) (int_eq-false (int_eq t.1 (pos 0)) t.1 (Decides-int_eq t.1 (pos 0)).0 ne)

-- what holds of a term in front, and where its coefficient is 0 without it, holds of `kept`
pub kept_case : (P : List Term → Type 0) (t : Term) (ts : List Term) → (t.1 ≡ pos 0 → P ts) → (t.1 ≢ pos 0 → P (t ∷ ts)) → P (kept t ts)
kept_case P t ts none some = by_test (int_eq t.1 (pos 0)) (Decides-int_eq t.1 (pos 0))
  where
    by_test : (b : Bool) → (b ≡ true → t.1 ≡ pos 0) × (t.1 ≡ pos 0 → b ≡ true) → P (cond b ts (t ∷ ts))
    by_test true d = none (d.0 refl)
    by_test false d = some (λ e. cc (d.1 e))

pub with_term-before : (t u : Term) (us : List Term) → t.0 < u.0 → with_term t (u ∷ us) ≡ kept t (u ∷ us)
with_term-before t u us lt = let test : ltb t.0 u.0 ≡ true = grind (arith, nat_tests) in rw test refl

pub with_term-at : (t u : Term) (us : List Term) → t.0 ≡ u.0 → with_term t (u ∷ us) ≡ kept (u.0, t.1 +ℤ u.1) us
with_term-at t u us e =
    let no : ltb t.0 u.0 ≡ false = grind (arith, nat_tests) in
    let yes : eqb t.0 u.0 ≡ true = grind (arith, nat_tests) in
    rw (no, yes) refl

pub with_term-after : (t u : Term) (us : List Term) → u.0 < t.0 → with_term t (u ∷ us) ≡ u ∷ with_term t us
with_term-after t u us lt =
    let no : ltb t.0 u.0 ≡ false = grind (arith, nat_tests) in
    let other : eqb t.0 u.0 ≡ false = grind (arith, nat_tests) in
    rw (no, other) refl

pub coefficient-kept : (set : ℕ) (t : Term) (ts : List Term) → coefficient set (kept t ts) ≡ coefficient set (t ∷ ts)
coefficient-kept set t ts =
    kept_case (λ us. coefficient set us ≡ coefficient set (t ∷ ts)) t ts
    (λ e. ⊎_elim
    (λ (s : t.0 ≡ set). omega (arith, linear, coefficient-here set t ts s))
    (λ (s : t.0 ≡ set → ⊥). sym (coefficient-other set t ts s))
    (cases_eq t.0 set))
    (λ ne. refl)

pub coefficient-joined : (set place : ℕ) (a b : ℤ) (ts : List Term) → coefficient set ((place, a +ℤ b) ∷ ts) ≡ coefficient set ((place, a) ∷ (place, b) ∷ ts)
coefficient-joined set place a b ts =
    ⊎_elim
    (λ (s : place ≡ set). omega (arith, linear, coefficient-here set (place, a +ℤ b) ts s, coefficient-here set (place, a) ((place, b) ∷ ts) s, coefficient-here set (place, b) ts s))
    (λ (s : place ≡ set → ⊥). omega (arith, linear, coefficient-other set (place, a +ℤ b) ts s, coefficient-other set (place, a) ((place, b) ∷ ts) s, coefficient-other set (place, b) ts s))
    (cases_eq place set)

pub coefficient-with_term : (set : ℕ) (t : Term) (us : List Term) → coefficient set (with_term t us) ≡ coefficient set (t ∷ us)
coefficient-with_term set t [] = coefficient-kept set t []
coefficient-with_term set t (u ∷ us) =
    ⊎_elim
    (λ (e : t.0 ≡ u.0). ap (coefficient set) (with_term-at t u us e) ∙ coefficient-kept set (u.0, t.1 +ℤ u.1) us ∙ coefficient-joined set u.0 t.1 u.1 us
    ∙ ap (λ n. coefficient set ((n, t.1) ∷ u ∷ us)) (sym e))
    (⊎_elim
    (λ (lt : t.0 < u.0). ap (coefficient set) (with_term-before t u us lt) ∙ coefficient-kept set t (u ∷ us))
    (λ (lt : u.0 < t.0). ap (coefficient set) (with_term-after t u us lt) ∙ omega (arith, linear, coefficient-with_term set t us)))
    (cases_order t.0 u.0)

-- the polynomial has the coefficients of the terms that it sums
pub coefficient-collected : (set : ℕ) (ts : List Term) → coefficient set (collected ts) ≡ coefficient set ts
coefficient-collected set [] = refl
coefficient-collected set (t ∷ ts) = coefficient-with_term set t (collected ts) ∙ omega (arith, linear, coefficient-collected set ts)

pub canonical_lower : (low high : ℕ) (ts : List Term) → low ≤ high → Canonical high ts → Canonical low ts
canonical_lower low high [] le h = tt
canonical_lower low high (t ∷ ts) le h = (omega (arith, h.0), h.1, h.2)

pub canonical-kept : (low : ℕ) (t : Term) (ts : List Term) → low ≤ t.0 → Canonical (suc t.0) ts → Canonical low (kept t ts)
canonical-kept low t ts le h = kept_case (Canonical low) t ts (λ e. canonical_lower low (suc t.0) ts (omega arith) h) (λ ne. (le, ne, h))

pub canonical-with_term : (low : ℕ) (t : Term) (us : List Term) → low ≤ t.0 → Canonical low us → Canonical low (with_term t us)
canonical-with_term low t [] le h = canonical-kept low t [] le tt
canonical-with_term low t (u ∷ us) le h =
    ⊎_elim
    (λ (e : t.0 ≡ u.0). subst (Canonical low) (sym (with_term-at t u us e)) (canonical-kept low (u.0, t.1 +ℤ u.1) us h.0 h.2))
    (⊎_elim
    (λ (lt : t.0 < u.0). subst (Canonical low) (sym (with_term-before t u us lt)) (canonical-kept low t (u ∷ us) le (omega arith, h.1, h.2)))
    (λ (lt : u.0 < t.0). subst (Canonical low) (sym (with_term-after t u us lt)) (h.0, h.1, canonical-with_term (suc u.0) t us (omega arith) h.2)))
    (cases_order t.0 u.0)

pub canonical-collected : (ts : List Term) → Canonical 0 (collected ts)
canonical-collected [] = tt
canonical-collected (t ∷ ts) = canonical-with_term 0 t (collected ts) (omega arith) (canonical-collected ts)

-- what any terms sum to is a polynomial
pub polynomial-collected : (ts : List Term) → IsPolynomial (collected ts)
polynomial-collected ts = polynomial_from_canonical 0 (collected ts) (canonical-collected ts)

-- two polynomials with the same coefficient at each set are equal
pub same_polynomial : (p q : List Term) → IsPolynomial p → IsPolynomial q → ((set : ℕ) → coefficient set p ≡ coefficient set q) → p ≡ q
same_polynomial p q h k same = unique 0 p q (canonical_from_polynomial p h) (canonical_from_polynomial q k) same

-- a polynomial with the coefficients of some terms is what they sum to
pub collected_is : (p ts : List Term) → IsPolynomial p → ((set : ℕ) → coefficient set p ≡ coefficient set ts) → p ≡ collected ts
collected_is p ts h same = same_polynomial p (collected ts) h (polynomial-collected ts) (λ set. same set ∙ sym (coefficient-collected set ts))
