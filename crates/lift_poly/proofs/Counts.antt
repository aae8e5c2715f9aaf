-- How often a set stands in a list of terms, and lists in which none stands twice.
use Rattle.std.proofs.Common.{◌≡◌, ◌≢◌, ℕ, suc, ◌+◌, ◌*◌, ◌<◌, ◌≤◌, true, false, cond, ◌||◌, List, [], ◌∷◌, ◌++◌, ℤ, pos, ◌+ℤ◌, ◌*ℤ◌, All, negsuc, zero, mul-pos, ⊎_elim, nat_eq, unsigned_abs, bit_and, bit_or, refl, sym, ap, ◌∙◌, subst, arith}
use borrow.Author.Differences.{up, down}
use Rattle.std.specs.List.{list_any, sum_by, count_by}
use Rattle.std.specs.List.Sorted.{IsPermutation, IsNonDecreasingBy}
use Rattle.std.proofs.lemmas.Bool.{cases_eq, cases_Bool}
use Rattle.std.proofs.lemmas.Bool.Decides.{nat_tests}
use Rattle.std.proofs.lemmas.List.Elements.{All-head, All-tail}
use Rattle.std.proofs.lemmas.List.Sums.{sum_by-cons, sum_by-append}
use Rattle.std.proofs.lemmas.List.Sorted.{All-permutation, sum_by-IsPermutation}
use Rattle.std.proofs.lemmas.Nat.{and_comm}
use Rattle.std.proofs.lemmas.Int.{unsigned_abs-mul}
use Rattle.std.proofs.lemmas.Nat.Bits.{same_from_bits, bit_at_and, bit_at_or, bit_at-zero}
use Rattle.std.specs.Int.{bit_at}
use Rattle.lift_poly.specs.Limits.{term_limit}
use Rattle.lift_poly.specs.Polynomial.{Term, IsPolynomial}
use Rattle.lift_poly.specs.Arithmetic.{coefficient, collected, products_of, products, support}
use Rattle.lift_poly.specs.MultiAffine.{IsMultiAffine, is_wide}
use Rattle.lift_poly.proofs.Canonical.{Canonical, canonical_from_polynomial, canonical-collected, polynomial_from_canonical, coefficient-here, coefficient-other, coefficient-collected, collected_is}
use Rattle.lift_poly.proofs.Merging.{Small, wide_at, multi_affine_from}
use Rattle.lift_poly.proofs.Ring.{linear}
use Rattle.lift_poly.proofs.Weights.{apart}

-- how often a set stands there
pub count : ℕ → List Term → ℕ
count set ts = count_by (λ t. nat_eq t.0 set) ts

count-here : (set : ℕ) (t : Term) (ts : List Term) → t.0 ≡ set → count set (t ∷ ts) ≡ suc (count set ts)
unfolding count
count-here set t ts e =
    let one : cond (nat_eq t.0 set) 1 0 ≡ 1 = grind (arith, nat_tests) in
    sum_by-cons (λ (u : Term). cond (nat_eq u.0 set) 1 0) t ts ∙ ap (λ n. n + count_by (λ (u : Term). nat_eq u.0 set) ts) one ∙ omega arith

count-other : (set : ℕ) (t : Term) (ts : List Term) → t.0 ≢ set → count set (t ∷ ts) ≡ count set ts
unfolding count
count-other set t ts ne =
    let none : cond (nat_eq t.0 set) 1 0 ≡ 0 = grind (arith, nat_tests) in
    sum_by-cons (λ (u : Term). cond (nat_eq u.0 set) 1 0) t ts ∙ ap (λ n. n + count_by (λ (u : Term). nat_eq u.0 set) ts) none ∙ omega arith

count-nil : (set : ℕ) → count set [] ≡ 0
unfolding count
count-nil set = refl

count-append : (set : ℕ) (ts us : List Term) → count set (ts ++ us) ≡ count set ts + count set us
unfolding count
count-append set ts us = sum_by-append (λ (u : Term). cond (nat_eq u.0 set) 1 0) ts us

count-permutation : (set : ℕ) (ts us : List Term) → IsPermutation ts us → count set us ≡ count set ts
unfolding count
count-permutation set ts us h = sum_by-IsPermutation (λ (u : Term). cond (nat_eq u.0 set) 1 0) ts us h

-- no set stands twice
pub Distinct : List Term → Type 0
Distinct ts = (set : ℕ) → count set ts ≤ 1

count_below : (set low : ℕ) (ts : List Term) → Canonical low ts → set < low → count set ts ≡ 0
count_below set low [] h lt = count-nil set
count_below set low (t ∷ ts) h lt = count-other set t ts (omega (arith, h.0)) ∙ count_below set (suc t.0) ts h.2 (omega (arith, h.0))

count_canonical : (set low : ℕ) (ts : List Term) → Canonical low ts → count set ts ≤ 1
count_canonical set low [] h = omega (arith, count-nil set)
count_canonical set low (t ∷ ts) h =
    ⊎_elim
    (λ (e : t.0 ≡ set). omega (arith, count-here set t ts e, count_below set (suc t.0) ts h.2 (omega arith)))
    (λ (ne : t.0 ≡ set → ⊥). omega (arith, count-other set t ts ne, count_canonical set (suc t.0) ts h.2))
    (cases_eq t.0 set)

coefficient_none : (set : ℕ) (ts : List Term) → count set ts ≡ 0 → coefficient set ts ≡ pos 0
coefficient_none set [] h = refl
coefficient_none set (t ∷ ts) h =
    ⊎_elim
    (λ (e : t.0 ≡ set). absurd (omega (arith, count-here set t ts e, h)))
    (λ (ne : t.0 ≡ set → ⊥). coefficient-other set t ts ne ∙ coefficient_none set ts (omega (arith, count-other set t ts ne, h)))
    (cases_eq t.0 set)

distinct_tail : (t : Term) (ts : List Term) → Distinct (t ∷ ts) → Distinct ts
unfolding Distinct
distinct_tail t ts h set =
    ⊎_elim
    (λ (e : t.0 ≡ set). omega (arith, count-here set t ts e, h set))
    (λ (ne : t.0 ≡ set → ⊥). omega (arith, count-other set t ts ne, h set))
    (cases_eq t.0 set)

-- ---- a term that is too large is a coefficient that is, where no set stands twice

wide_coefficient : (ts : List Term) → Distinct ts → list_any is_wide ts ≡ true → (set : ℕ) × (term_limit ≤ unsigned_abs (coefficient set ts))
unfolding Distinct
wide_coefficient [] h wide = cc
wide_coefficient (t ∷ ts) h wide =
    ⊎_elim
    (λ (first : is_wide t ≡ true).
    let alone : coefficient t.0 (t ∷ ts) ≡ t.1 = omega (arith, linear, coefficient-here t.0 t ts refl, coefficient_none t.0 ts (omega (arith, count-here t.0 t ts refl, h t.0))) in
    let large : term_limit ≤ unsigned_abs t.1 = grind (arith, nat_tests) in
    (t.0, subst (λ z. term_limit ≤ unsigned_abs z) (sym alone) large))
    (λ (first : is_wide t ≡ false).
    let later : list_any is_wide ts ≡ true = sym (ap (λ b. b || list_any is_wide ts) first) ∙ wide in
    let found = wide_coefficient ts (distinct_tail t ts h) later in
    let other : t.0 ≡ found.0 → ⊥ = λ e.
    let none = coefficient_none found.0 ts (omega (arith, count-here found.0 t ts e, h found.0)) in
    let small : term_limit ≤ unsigned_abs (pos 0) = subst (λ z. term_limit ≤ unsigned_abs z) none found.1 in
    absurd (omega arith) in
    (found.0, subst (λ z. term_limit ≤ unsigned_abs z) (sym (coefficient-other found.0 t ts other)) found.1))
    (cases_Bool (is_wide t))

pub wide_collected : (ts : List Term) → Distinct ts → list_any is_wide ts ≡ true → list_any is_wide (collected ts) ≡ true
wide_collected ts h wide =
    let found = wide_coefficient ts h wide in
    wide_at found.0 0 (collected ts) (canonical-collected ts) (subst (λ z. term_limit ≤ unsigned_abs z) (sym (coefficient-collected found.0 ts)) found.1)

-- ---- sorted lists

part : (ℤ → ℕ) → ℕ → Term → ℕ
part side set t = cond (nat_eq t.0 set) (side t.1) 0

coefficient_is : (set : ℕ) (ts : List Term) → coefficient set ts +ℤ pos (sum_by (part down set) ts) ≡ pos (sum_by (part up set) ts)
unfolding part
coefficient_is set [] = refl
coefficient_is set (t ∷ ts) =
    ⊎_elim
    (λ (e : t.0 ≡ set).
    let ups : part up set t ≡ up t.1 = grind (arith, nat_tests) in
    let downs : part down set t ≡ down t.1 = grind (arith, nat_tests) in
    omega (arith, linear, coefficient-here set t ts e, coefficient_is set ts, ups, downs, sum_by-cons (part up set) t ts, sum_by-cons (part down set) t ts))
    (λ (ne : t.0 ≡ set → ⊥).
    let ups : part up set t ≡ 0 = grind (arith, nat_tests) in
    let downs : part down set t ≡ 0 = grind (arith, nat_tests) in
    omega (arith, linear, coefficient-other set t ts ne, coefficient_is set ts, ups, downs, sum_by-cons (part up set) t ts, sum_by-cons (part down set) t ts))
    (cases_eq t.0 set)

coefficient-permutation : (set : ℕ) (ts us : List Term) → IsPermutation ts us → coefficient set us ≡ coefficient set ts
coefficient-permutation set ts us h =
    omega (arith, linear, coefficient_is set ts, coefficient_is set us, sum_by-IsPermutation (part up set) ts us h, sum_by-IsPermutation (part down set) ts us h)

-- sets that don't fall, from one on
abbrev Climbs : ℕ → List Term → Type 0
Climbs low [] = Unit {0}
Climbs low (t ∷ ts) = (low ≤ t.0) × Climbs t.0 ts

climbs_from : (low : ℕ) (ts : List Term) → All (λ t. low ≤ t.0) ts → IsNonDecreasingBy (λ (t : Term). t.0) ts → Climbs low ts
climbs_from low [] above h = tt
climbs_from low (t ∷ ts) above h = (
  All-head (λ u. low ≤ u.0) t ts above,
  climbs_from t.0 ts (λ k d lt. h 0 (suc k) d (omega arith) (omega arith)) (λ i j d le lt. h (suc i) (suc j) d (omega arith) (omega arith)),
)

climbs_past : (low : ℕ) (ts : List Term) → Climbs low ts → count low ts ≡ 0 → Climbs (suc low) ts
climbs_past low [] h none = tt
climbs_past low (t ∷ ts) h none =
    let other : t.0 ≡ low → ⊥ = λ e. omega (arith, count-here low t ts e, none) in
    (omega (arith, h.0), h.1)

canonical_sorted : (low : ℕ) (ts : List Term) → Climbs low ts → All (λ t. t.1 ≢ pos 0) ts → Distinct ts → Canonical low ts
unfolding Distinct
canonical_sorted low [] h some distinct = tt
canonical_sorted low (t ∷ ts) h some distinct = (
  h.0,
  All-head (λ u. u.1 ≢ pos 0) t ts some,
  canonical_sorted (suc t.0) ts (climbs_past t.0 ts h.1 (omega (arith, count-here t.0 t ts refl, distinct t.0))) (All-tail (λ u. u.1 ≢ pos 0) t ts some) (distinct_tail t ts distinct),
)

distinct-permutation : (ts us : List Term) → IsPermutation ts us → Distinct ts → Distinct us
unfolding Distinct
distinct-permutation ts us h d set = omega (arith, count-permutation set ts us h, d set)

-- distinct terms, once they are sorted, are what they sum to
pub sorted_is : (ts us : List Term) → Distinct ts → All (λ t. t.1 ≢ pos 0) ts → All Small ts → IsPermutation ts us → IsNonDecreasingBy (λ (t : Term). t.0) us → IsMultiAffine us × (us ≡ collected ts)
sorted_is ts us distinct some small moved sorted =
    let canonical : Canonical 0 us =
    canonical_sorted 0 us (climbs_from 0 us (λ k d lt. omega arith) sorted) (All-permutation (λ t. t.1 ≢ pos 0) ts us moved some) (distinct-permutation ts us moved distinct) in (
      multi_affine_from us canonical (All-permutation Small ts us moved small),
      collected_is us ts (polynomial_from_canonical 0 us canonical) (λ set. coefficient-permutation set ts us moved),
    )

-- ---- products of polynomials that share no parameter

-- each set is part of the first set, and has nothing in common with the second
abbrev PartsOf : ℕ → ℕ → List Term → Type 0
PartsOf own other [] = Unit {0}
PartsOf own other (t ∷ ts) = (bit_and t.0 own ≡ t.0) × (bit_and t.0 other ≡ 0) × PartsOf own other ts

-- the two parts of a union
recover : (a b own other : ℕ) → bit_and a own ≡ a → bit_and a other ≡ 0 → bit_and b other ≡ b → bit_and b own ≡ 0 → (bit_and (bit_or a b) own ≡ a) × (bit_and (bit_or a b) other ≡ b)
recover a b own other h k l m = (
  same_from_bits (bit_and (bit_or a b) own) a
      (λ i. omega (arith, bit_at_and (bit_or a b) own i, bit_at_or a b i, bit_at_and a own i, ap (λ n. bit_at n i) h, bit_at_and b own i, ap (λ n. bit_at n i) m, bit_at-zero i)),
  same_from_bits (bit_and (bit_or a b) other) b
      (λ i. omega (arith, bit_at_and (bit_or a b) other i, bit_at_or a b i, bit_at_and b other i, ap (λ n. bit_at n i) l, bit_at_and a other i, ap (λ n. bit_at n i) k, bit_at-zero i)),
)

count_elsewhere : (own other set : ℕ) (t : Term) (us : List Term) → bit_and t.0 own ≡ t.0 → bit_and t.0 other ≡ 0 → PartsOf other own us → t.0 ≢ bit_and set own → count set (products_of t us) ≡ 0
count_elsewhere own other set t [] h k p ne = count-nil set
count_elsewhere own other set t (u ∷ us) h k p ne =
    let parts = recover t.0 u.0 own other h k p.0 p.1 in
    count-other set (bit_or t.0 u.0, t.1 *ℤ u.1) (products_of t us) (λ e. ne (sym parts.0 ∙ ap (λ n. bit_and n own) e))
    ∙ count_elsewhere own other set t us h k p.2 ne

count_here_le : (own other set : ℕ) (t : Term) (us : List Term) → bit_and t.0 own ≡ t.0 → bit_and t.0 other ≡ 0 → PartsOf other own us → count set (products_of t us) ≤ count (bit_and set other) us
count_here_le own other set t [] h k p = omega (arith, count-nil set)
count_here_le own other set t (u ∷ us) h k p =
    let parts = recover t.0 u.0 own other h k p.0 p.1 in
    let rest = count_here_le own other set t us h k p.2 in
    ⊎_elim
    (λ (e : bit_or t.0 u.0 ≡ set).
    omega (arith, rest, count-here set (bit_or t.0 u.0, t.1 *ℤ u.1) (products_of t us) e, count-here (bit_and set other) u us (sym parts.1 ∙ ap (λ n. bit_and n other) e)))
    (λ (ne : bit_or t.0 u.0 ≡ set → ⊥).
    omega (arith, rest, count-other set (bit_or t.0 u.0, t.1 *ℤ u.1) (products_of t us) ne, more (bit_and set other) u us))
    (cases_eq (bit_or t.0 u.0) set)
  where
    more : (place : ℕ) (u : Term) (us : List Term) → count place us ≤ count place (u ∷ us)
    more place u us =
        ⊎_elim
        (λ (e : u.0 ≡ place). omega (arith, count-here place u us e))
        (λ (ne : u.0 ≡ place → ⊥). omega (arith, count-other place u us ne))
        (cases_eq u.0 place)

count_products_below : (own other set low : ℕ) (ts us : List Term) → Canonical low ts → PartsOf own other ts → PartsOf other own us → bit_and set own < low → count set (products ts us) ≡ 0
count_products_below own other set low [] us h p q lt = count-nil set
count_products_below own other set low (t ∷ ts) us h p q lt =
    omega (
      arith,
      count-append set (products_of t us) (products ts us),
      count_elsewhere own other set t us p.0 p.1 q (omega (arith, h.0)),
      count_products_below own other set (suc t.0) ts us h.2 p.2 q (omega (arith, h.0)),
    )

count_products : (own other set low low' : ℕ) (ts us : List Term) → Canonical low ts → Canonical low' us → PartsOf own other ts → PartsOf other own us → count set (products ts us) ≤ 1
count_products own other set low low' [] us h k p q = omega (arith, count-nil set)
count_products own other set low low' (t ∷ ts) us h k p q =
    ⊎_elim
    (λ (e : t.0 ≡ bit_and set own).
    omega (
      arith,
      count-append set (products_of t us) (products ts us),
      count_here_le own other set t us p.0 p.1 q,
      count_canonical (bit_and set other) low' us k,
      count_products_below own other set (suc t.0) ts us h.2 p.2 q (omega arith),
    ))
    (λ (ne : t.0 ≡ bit_and set own → ⊥).
    omega (
      arith,
      count-append set (products_of t us) (products ts us),
      count_elsewhere own other set t us p.0 p.1 q ne,
      count_products own other set (suc t.0) low' ts us h.2 k p.2 q,
    ))
    (cases_eq t.0 (bit_and set own))

within : (a b own : ℕ) → bit_and (bit_or a b) own ≡ bit_or a b → (bit_and a own ≡ a) × (bit_and b own ≡ b)
within a b own h = (
  same_from_bits (bit_and a own) a (λ i. omega (arith, bit_at_and a own i, bit_at_and (bit_or a b) own i, bit_at_or a b i, ap (λ n. bit_at n i) h)),
  same_from_bits (bit_and b own) b (λ i. omega (arith, bit_at_and b own i, bit_at_and (bit_or a b) own i, bit_at_or a b i, ap (λ n. bit_at n i) h)),
)

parts_of : (own other : ℕ) (ts : List Term) → bit_and (support ts) own ≡ support ts → bit_and other (support ts) ≡ 0 → PartsOf own other ts
parts_of own other [] h k = tt
parts_of own other (t ∷ ts) h k =
    let inside = within t.0 (support ts) own h in
    let outside = apart other t.0 (support ts) k in
    (inside.0, and_comm t.0 other ∙ outside.0, parts_of own other ts inside.1 outside.1)

and_self : (a : ℕ) → bit_and a a ≡ a
and_self a = same_from_bits (bit_and a a) a (λ i. omega (arith, bit_at_and a a i))

-- no set stands twice among the products
pub distinct_products : (left right : List Term) → IsPolynomial left → IsPolynomial right → bit_and (support left) (support right) ≡ 0 → Distinct (products left right)
unfolding Distinct
distinct_products left right h k none set =
    count_products (support left) (support right) set 0 0 left right (canonical_from_polynomial left h) (canonical_from_polynomial right k)
    (parts_of (support left) (support right) left (and_self (support left)) (and_comm (support right) (support left) ∙ none))
    (parts_of (support right) (support left) right (and_self (support right)) none)

-- ---- each product is a term of 16 parameters, and not 0

some_size : (z : ℤ) → z ≢ pos 0 → 0 < unsigned_abs z
some_size (pos zero) h = absurd (h refl)
some_size (pos (suc n)) h = omega arith
some_size (negsuc n) h = omega arith

pub mul-some : (a b : ℤ) → a ≢ pos 0 → b ≢ pos 0 → a *ℤ b ≢ pos 0
mul-some a b h k e =
    let size : unsigned_abs a * unsigned_abs b ≡ 0 = sym (unsigned_abs-mul a b) ∙ ap unsigned_abs e in
    let some : 0 < unsigned_abs a * unsigned_abs b = mul-pos (some_size a h) (some_size b k) in
    absurd (omega arith)
