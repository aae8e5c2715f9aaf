-- What a search among a polynomial's terms finds, and how many terms there may be.
use Rattle.std.proofs.Common.{◌≡◌, ◌≢◌, ℕ, zero, suc, ◌+◌, ◌*◌, ◌^◌, ◌<◌, ◌≤◌, List, [], ◌∷◌, length, get_or, Ok, Err, pos, All, inl, inr, unsigned_abs, refl, sym, ap, ◌∙◌, subst, arith}
use Rattle.std.specs.List.Sorted.{IsBinarySearchResult, IsNonDecreasingBy}
use Rattle.std.specs.declared.cmp.Ordering.TheVariants.{Less, Equal, Greater}
use Rattle.std.specs.Ordering.{nat_cmp, ordering_index}
use Rattle.std.proofs.lemmas.Bool.{cases_lt}
use Rattle.std.proofs.lemmas.Bool.Decides.{nat_tests}
use Rattle.std.proofs.lemmas.List.Elements.{All-head, All-tail, All-weaker}
use Rattle.std.proofs.lemmas.List.Sums.{sum_by-le}
use Rattle.std.proofs.lemmas.Nat.{mul-le}
use Rattle.lift_poly.specs.Limits.{set_limit, summand_limit}
use Rattle.lift_poly.specs.Polynomial.{Term, IsPolynomial}
use Rattle.lift_poly.specs.Arithmetic.{coefficient, abs_sum}
use Rattle.lift_poly.specs.MultiAffine.{IsMultiAffine}
use Rattle.lift_poly.proofs.Canonical.{Canonical, Rising, rising_from_canonical, canonical_from_polynomial, coefficient-here, coefficient-other, coefficient_below}
use Rattle.lift_poly.proofs.Ring.{linear}

above_at : (low : ℕ) (ts : List Term) (i : ℕ) (d : Term) → Canonical low ts → i < length ts → low ≤ (get_or ts i d).0
above_at low [] i d h lt = absurd (omega arith)
above_at low (t ∷ ts) zero d h lt = h.0
above_at low (t ∷ ts) (suc i) d h lt = omega (arith, h.0, above_at (suc t.0) ts i d h.2 (omega arith))

-- a term's coefficient is that of its set
pub coefficient_at : (low : ℕ) (ts : List Term) (i : ℕ) (d : Term) → Canonical low ts → i < length ts → coefficient (get_or ts i d).0 ts ≡ (get_or ts i d).1
coefficient_at low [] i d h lt = absurd (omega arith)
coefficient_at low (t ∷ ts) zero d h lt = omega (arith, linear, coefficient-here t.0 t ts refl, coefficient_below t.0 (suc t.0) ts h.2 (omega arith))
coefficient_at low (t ∷ ts) (suc i) d h lt =
    coefficient-other (get_or ts i d).0 t ts (omega (arith, above_at (suc t.0) ts i d h.2 (omega arith)))
    ∙ coefficient_at (suc t.0) ts i d h.2 (omega arith)

coefficient_absent : (set : ℕ) (ts : List Term) → All (λ t. t.0 ≢ set) ts → coefficient set ts ≡ pos 0
coefficient_absent set [] h = refl
coefficient_absent set (t ∷ ts) h = coefficient-other set t ts (All-head (λ u. u.0 ≢ set) t ts h) ∙ coefficient_absent set ts (All-tail (λ u. u.0 ≢ set) t ts h)

index_rises : (a b set : ℕ) → a ≤ b → ordering_index (nat_cmp a set) ≤ ordering_index (nat_cmp b set)
index_rises a b set le = grind (arith, nat_tests)

pub equal_set : (a set : ℕ) → nat_cmp a set ≡ Equal → a ≡ set
equal_set a set h = grind (arith, nat_tests)

less_set : (a set : ℕ) → nat_cmp a set ≡ Less → a ≢ set
less_set a set h = grind (arith, nat_tests)

greater_set : (a set : ℕ) → nat_cmp a set ≡ Greater → a ≢ set
greater_set a set h = grind (arith, nat_tests)

-- the sets of a polynomial ascend, so that a search among them finds its place
pub searchable : (set : ℕ) (ts : List Term) → Rising ts → IsNonDecreasingBy (λ t. ordering_index (nat_cmp t.0 set)) ts
searchable set ts h i j d le lt =
    elim (cases_lt i j) [
      | inl before ↦ index_rises (get_or ts i d).0 (get_or ts j d).0 set (omega (arith, h i j d before lt))
      | inr same ↦ (let e : i ≡ j = omega arith in subst (λ k. ordering_index (nat_cmp (get_or ts i d).0 set) ≤ ordering_index (nat_cmp (get_or ts k d).0 set)) e (omega arith))
    ]

pub found_at : (set : ℕ) (ts : List Term) (i : ℕ) (d : Term) → IsPolynomial ts → i < length ts → IsBinarySearchResult (λ t. nat_cmp t.0 set) ts (Ok i) → (get_or ts i d).1 ≡ coefficient set ts
found_at set ts i d p lt h =
    sym (ap (λ n. coefficient n ts) (sym (equal_set (get_or ts i d).0 set (h d))) ∙ coefficient_at 0 ts i d (canonical_from_polynomial ts p) lt)

pub found_nowhere : (set : ℕ) (ts : List Term) (i : ℕ) → IsPolynomial ts → IsBinarySearchResult (λ t. nat_cmp t.0 set) ts (Err i) → pos 0 ≡ coefficient set ts
found_nowhere set ts i p h =
    let parted = h (searchable set ts (rising_from_canonical 0 ts (canonical_from_polynomial ts p))) in
    sym (coefficient_absent set ts (λ k d lt.
    elim (cases_lt k i) [
      | inl before ↦ less_set (get_or ts k d).0 set (parted.0 k d (omega arith) before)
      | inr behind ↦ greater_set (get_or ts k d).0 set (parted.1 k d behind lt)
    ]))

-- ---- at most 2 ^ 16 terms

few_terms : (low : ℕ) (ts : List Term) → Canonical low ts → low ≤ 2 ^ 16 → All (λ t. t.0 < set_limit) ts → length ts + low ≤ 2 ^ 16
few_terms low [] h le sets = omega arith
few_terms low (t ∷ ts) h le sets =
    omega (arith, h.0, few_terms (suc t.0) ts h.2 (omega (arith, All-head (λ u. u.0 < 2 ^ 16) t ts sets)) (All-tail (λ u. u.0 < 2 ^ 16) t ts sets))

pub length_le : (ts : List Term) → IsMultiAffine ts → length ts ≤ 2 ^ 16
length_le ts h = omega (arith, few_terms 0 ts (canonical_from_polynomial ts h.polynomial) (omega arith) h.sets)

-- the sizes of coefficients below the limit of summands sum to at most 2 ^ 116
pub abs_sum_le : (ts : List Term) → IsMultiAffine ts → All (λ t. unsigned_abs t.1 < summand_limit) ts → abs_sum ts ≤ 2 ^ 116
abs_sum_le ts h sizes =
    let each = sum_by-le (λ (t : Term). unsigned_abs t.1) summand_limit ts (All-weaker (λ t. unsigned_abs t.1 < summand_limit) (λ t. unsigned_abs t.1 ≤ summand_limit) (λ t k. omega arith) ts sizes) in
    omega (arith, each, length_le ts h)

-- two lists of terms have few products
pub products_few : (left right : List Term) → IsMultiAffine left → IsMultiAffine right → length left * length right ≤ 2 ^ 16 * 2 ^ 16
products_few left right h k = mul-le (length left) (length right) (2 ^ 16) (2 ^ 16) (length_le left h) (length_le right k)
