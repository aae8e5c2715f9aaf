-- The coefficients of polynomials, of their sums and multiples, and of products of polynomials that share no parameter.
use Rattle.std.proofs.Common.{◌≡◌, ℕ, suc, List, [], ◌∷◌, ◌++◌, ℤ, pos, ◌+ℤ◌, ◌*ℤ◌, All, ◌⊎◌, inl, inr, ⊎_elim, bit_and, bit_or, unsigned_abs, refl, sym, ap, ap₂, subst, ◌∙◌, arith}
use Rattle.std.specs.Prelude.{Contains}
use Rattle.std.specs.Int.{bit_at}
use Rattle.std.proofs.lemmas.Bool.{cases_eq}
use Rattle.std.proofs.lemmas.Nat.{and_comm}
use Rattle.std.proofs.lemmas.Nat.Bits.{same_from_bits, bit_at_and, bit_at_or, bit_at-zero}
use Rattle.lift_poly.specs.Polynomial.{Term, IsPolynomial}
use Rattle.lift_poly.specs.Arithmetic.{coefficient, sum, times, scaled, quotient, products_of, products, product, support, DividesEach}
use Rattle.lift_poly.proofs.Canonical.{Canonical, canonical_from_polynomial, polynomial_from_canonical, coefficient-here, coefficient-other, coefficient_below, coefficient-append, coefficient-collected}
use Rattle.lift_poly.proofs.Lookup.{coefficient_at}
use Rattle.lift_poly.proofs.Products.{coefficient-times}
use Rattle.lift_poly.proofs.Division.{canonical-quotient}
use Rattle.lift_poly.proofs.Ring.{linear, add-mul, mul-add, zero-mul, mul-zero}

pub term_coefficients : (ts : List Term) → IsPolynomial ts → All (λ t. coefficient t.0 ts ≡ t.1) ts
term_coefficients ts h i d lt = coefficient_at 0 ts i d (canonical_from_polynomial ts h) lt

-- a coefficient is that of a term, or 0
found_from : (set low : ℕ) (ts : List Term) → Canonical low ts → (coefficient set ts ≡ pos 0) ⊎ Contains ts (set, coefficient set ts)
found_from set low [] h = inl refl
found_from set low (t ∷ ts) h =
    ⊎_elim
    (λ (e : t.0 ≡ set).
    let number : coefficient set (t ∷ ts) ≡ t.1 = omega (arith, linear, coefficient-here set t ts e, coefficient_below set (suc t.0) ts h.2 (omega arith)) in
    inr (0, omega arith, ap₂ (λ (s : ℕ) (n : ℤ). (s, n)) e (sym number)))
    (λ (ne : t.0 ≡ set → ⊥).
    subst (λ (z : ℤ). (z ≡ pos 0) ⊎ Contains (t ∷ ts) (set, z)) (sym (coefficient-other set t ts ne))
    (⊎_elim (λ (none : coefficient set ts ≡ pos 0). inl none) (λ (some : Contains ts (set, coefficient set ts)). inr (suc some.0, omega (arith, some.1), some.2)) (found_from set (suc t.0) ts h.2)))
    (cases_eq t.0 set)

pub coefficient_found : (ts : List Term) (set : ℕ) → IsPolynomial ts → (coefficient set ts ≡ pos 0) ⊎ Contains ts (set, coefficient set ts)
coefficient_found ts set h = found_from set 0 ts (canonical_from_polynomial ts h)

pub coefficient-sum : (ts us : List Term) (set : ℕ) → coefficient set (sum ts us) ≡ coefficient set ts +ℤ coefficient set us
coefficient-sum ts us set = coefficient-collected set (ts ++ us) ∙ coefficient-append set ts us

pub coefficient-scaled : (by : ℤ) (ts : List Term) (set : ℕ) → coefficient set (scaled by ts) ≡ by *ℤ coefficient set ts
coefficient-scaled by ts set = coefficient-collected set (times by ts) ∙ coefficient-times set by ts

pub polynomial-quotient : (by : ℤ) (ts : List Term) → DividesEach (unsigned_abs by) ts → IsPolynomial ts → IsPolynomial (quotient ts by)
polynomial-quotient by ts each h = polynomial_from_canonical 0 (quotient ts by) (canonical-quotient 0 by ts each (canonical_from_polynomial ts h))

-- ---- products: where two polynomials share no parameter, each set is the union of one pair of sets at most

-- each set is part of the first set, and has nothing in common with the second
abbrev ArePartsOf : ℕ → ℕ → List Term → Type 0
ArePartsOf own other [] = Unit {0}
ArePartsOf own other (t ∷ ts) = (bit_and t.0 own ≡ t.0) × (bit_and t.0 other ≡ 0) × ArePartsOf own other ts

-- a part of a union of parts is found again
left_part : (a b own : ℕ) → bit_and a own ≡ a → bit_and b own ≡ 0 → bit_and (bit_or a b) own ≡ a
left_part a b own h k =
    same_from_bits (bit_and (bit_or a b) own) a
    (λ i. omega (arith, bit_at_and (bit_or a b) own i, bit_at_or a b i, bit_at_and a own i, ap (λ n. bit_at n i) h, bit_at_and b own i, ap (λ n. bit_at n i) k, bit_at-zero i))

right_part : (a b other : ℕ) → bit_and a other ≡ 0 → bit_and b other ≡ b → bit_and (bit_or a b) other ≡ b
right_part a b other h k =
    same_from_bits (bit_and (bit_or a b) other) b
    (λ i. omega (arith, bit_at_and (bit_or a b) other i, bit_at_or a b i, bit_at_and b other i, ap (λ n. bit_at n i) k, bit_at_and a other i, ap (λ n. bit_at n i) h, bit_at-zero i))

-- a part of a union that it belongs to, and of a set that has nothing in common with that union
part_of : (a rest : ℕ) → bit_and a (bit_or a rest) ≡ a
part_of a rest = same_from_bits (bit_and a (bit_or a rest)) a (λ i. omega (arith, bit_at_and a (bit_or a rest) i, bit_at_or a rest i))

parts_more : (ts : List Term) (own more other : ℕ) → ArePartsOf own other ts → ArePartsOf (bit_or more own) other ts
parts_more [] own more other h = tt
parts_more (t ∷ ts) own more other h = (
  same_from_bits (bit_and t.0 (bit_or more own)) t.0 (λ i. omega (arith, bit_at_and t.0 (bit_or more own) i, bit_at_or more own i, bit_at_and t.0 own i, ap (λ n. bit_at n i) h.0)),
  h.1,
  parts_more ts own more other h.2,
)

apart_first : (a rest other : ℕ) → bit_and (bit_or a rest) other ≡ 0 → bit_and a other ≡ 0
apart_first a rest other h = same_from_bits (bit_and a other) 0 (λ i. omega (arith, bit_at_and a other i, bit_at_and (bit_or a rest) other i, bit_at_or a rest i, ap (λ n. bit_at n i) h, bit_at-zero i))

apart_rest : (a rest other : ℕ) → bit_and (bit_or a rest) other ≡ 0 → bit_and rest other ≡ 0
apart_rest a rest other h = same_from_bits (bit_and rest other) 0 (λ i. omega (arith, bit_at_and rest other i, bit_at_and (bit_or a rest) other i, bit_at_or a rest i, ap (λ n. bit_at n i) h, bit_at-zero i))

parts : (ts : List Term) (other : ℕ) → bit_and (support ts) other ≡ 0 → ArePartsOf (support ts) other ts
parts [] other h = tt
parts (t ∷ ts) other h =
    (part_of t.0 (support ts), apart_first t.0 (support ts) other h, parts_more ts (support ts) t.0 other (parts ts other (apart_rest t.0 (support ts) other h)))

-- where no pair has the set as its union, nothing has it
row_none : (own other set : ℕ) (t : Term) (us : List Term) → ArePartsOf other own us → ((u : ℕ) → bit_and u other ≡ u → bit_and u own ≡ 0 → bit_or t.0 u ≡ set → ⊥) → coefficient set (products_of t us) ≡ pos 0
row_none own other set t [] p never = refl
row_none own other set t (u ∷ us) p never = coefficient-other set (bit_or t.0 u.0, t.1 *ℤ u.1) (products_of t us) (never u.0 p.0 p.1) ∙ row_none own other set t us p.2 never

module _ (own other set : ℕ) where
  -- the set is no union of a left part and a right part
  none_apart : (ts us : List Term) → ArePartsOf own other ts → ArePartsOf other own us → (bit_or (bit_and set own) (bit_and set other) ≡ set → ⊥) → coefficient set (products ts us) ≡ pos 0
  none_apart [] us p q ne = refl
  none_apart (t ∷ ts) us p q ne =
      omega (
        arith,
        linear,
        coefficient-append set (products_of t us) (products ts us),
        row_none own other set t us q
            (λ u part apart e. ne (ap₂ bit_or (ap (λ n. bit_and n own) (sym e) ∙ left_part t.0 u own p.0 apart) (ap (λ n. bit_and n other) (sym e) ∙ right_part t.0 u other p.1 part) ∙ e)),
        none_apart ts us p.2 q ne,
      )

  module _ (union : bit_or (bit_and set own) (bit_and set other) ≡ set) where
    -- the term of the left part, times each of the right
    row_at : (t : Term) (us : List Term) → bit_and t.0 other ≡ 0 → ArePartsOf other own us → t.0 ≡ bit_and set own → coefficient set (products_of t us) ≡ t.1 *ℤ coefficient (bit_and set other) us
    row_at t [] apart q e = sym (mul-zero t.1)
    row_at t (u ∷ us) apart q e =
        ⊎_elim
        (λ (same : u.0 ≡ bit_and set other).
        coefficient-here set (bit_or t.0 u.0, t.1 *ℤ u.1) (products_of t us) (ap₂ bit_or e same ∙ union)
        ∙ ap (λ z. t.1 *ℤ u.1 +ℤ z) (row_at t us apart q.2 e)
        ∙ sym (ap (λ z. t.1 *ℤ z) (coefficient-here (bit_and set other) u us same) ∙ mul-add t.1 u.1 (coefficient (bit_and set other) us)))
        (λ (ne : u.0 ≡ bit_and set other → ⊥).
        coefficient-other set (bit_or t.0 u.0, t.1 *ℤ u.1) (products_of t us) (λ is. ne (sym (right_part t.0 u.0 other apart q.0) ∙ ap (λ n. bit_and n other) is))
        ∙ row_at t us apart q.2 e
        ∙ sym (ap (λ z. t.1 *ℤ z) (coefficient-other (bit_and set other) u us ne)))
        (cases_eq u.0 (bit_and set other))

    rows_at : (ts us : List Term) → ArePartsOf own other ts → ArePartsOf other own us → coefficient set (products ts us) ≡ coefficient (bit_and set own) ts *ℤ coefficient (bit_and set other) us
    rows_at [] us p q = sym (zero-mul (coefficient (bit_and set other) us))
    rows_at (t ∷ ts) us p q =
        let right = coefficient (bit_and set other) us in
        ⊎_elim
        (λ (e : t.0 ≡ bit_and set own).
        coefficient-append set (products_of t us) (products ts us)
        ∙ ap₂ ◌+ℤ◌ (row_at t us p.1 q e) (rows_at ts us p.2 q)
        ∙ sym (ap (λ z. z *ℤ right) (coefficient-here (bit_and set own) t ts e) ∙ add-mul t.1 (coefficient (bit_and set own) ts) right))
        (λ (ne : t.0 ≡ bit_and set own → ⊥).
        let none = row_none own other set t us q (λ u part apart is. ne (sym (left_part t.0 u own p.0 apart) ∙ ap (λ n. bit_and n own) is)) in
        let first : coefficient set (products (t ∷ ts) us) ≡ coefficient set (products ts us) = omega (arith, linear, coefficient-append set (products_of t us) (products ts us), none) in
        first ∙ rows_at ts us p.2 q ∙ sym (ap (λ z. z *ℤ right) (coefficient-other (bit_and set own) t ts ne)))
        (cases_eq t.0 (bit_and set own))

pub coefficient-product : (ts us : List Term) (set : ℕ) → bit_and (support ts) (support us) ≡ 0
    → (coefficient set (product ts us) ≡ pos 0) ⊎ (coefficient set (product ts us) ≡ coefficient (bit_and set (support ts)) ts *ℤ coefficient (bit_and set (support us)) us)
coefficient-product ts us set apart =
    let own = support ts in
    let other = support us in
    let left = parts ts other apart in
    let right = parts us own (and_comm other own ∙ apart) in
    ⊎_elim
    (λ (union : bit_or (bit_and set own) (bit_and set other) ≡ set). inr (coefficient-collected set (products ts us) ∙ rows_at own other set union ts us left right))
    (λ (ne : bit_or (bit_and set own) (bit_and set other) ≡ set → ⊥). inl (coefficient-collected set (products ts us) ∙ none_apart own other set ts us left right ne))
    (cases_eq (bit_or (bit_and set own) (bit_and set other)) set)
