-- Weights of sums, of multiples and of products, and of a polynomial as one parameter varies.
use Rattle.std.proofs.Common.{◌≡◌, ℕ, zero, suc, ◌/◌, ◌%◌, ◌<◌, ℤ, pos, List, [], ◌∷◌, ◌++◌, ◌+ℤ◌, ◌*ℤ◌, sym, ap, ap₂, ◌∙◌, arith, cond, Bool, true, false, int_eq, ⊎_elim, ◌⊎◌, inl, inr, refl, bit_and, bit_or}
use Rattle.std.specs.Int.{bit_at}
use Rattle.std.proofs.lemmas.Bool.{cases_order, cases_eq}
use Rattle.std.proofs.lemmas.Bool.Decides.{Decides-int_eq}
use Rattle.std.proofs.lemmas.Nat.{and_comm, and_mod, and_shr, or_mod, or_shr}
use Rattle.std.proofs.lemmas.Nat.Bits.{same_from_bits, bit_at_and, bit_at_or, bit_at-zero}
use Rattle.lift_poly.specs.Polynomial.{Term, Valuation, factor, monomial, weight, denominator, constant}
use Rattle.lift_poly.specs.Arithmetic.{kept, with_term, collected, sum, times, scaled, products_of, products, product, support}
use Rattle.lift_poly.proofs.Canonical.{kept_case, with_term-before, with_term-at, with_term-after}
use Rattle.lift_poly.proofs.Ring.{linear, mul-comm, mul-assoc, one-mul, zero-mul, mul-zero, add-mul, mul-add}

by_test : (b : Bool) (n : ℤ) → (b ≡ true → n ≡ pos 0) → weight [] (cond b [] ((0, n) ∷ [])) ≡ n
by_test true n none = sym (none refl)
by_test false n none = omega (arith, linear, mul-comm n (pos 1), one-mul n)

-- the polynomial of a number weighs that number
pub weight-constant : (n : ℤ) → weight [] (constant n) ≡ n
weight-constant n = by_test (int_eq n (pos 0)) n (Decides-int_eq n (pos 0)).0

pub weight-append : (v : Valuation) (ts us : List Term) → weight v (ts ++ us) ≡ weight v ts +ℤ weight v us
weight-append v [] us = omega (arith, linear)
weight-append v (t ∷ ts) us = omega (arith, linear, weight-append v ts us)

weight-kept : (v : Valuation) (t : Term) (ts : List Term) → weight v (kept t ts) ≡ weight v (t ∷ ts)
weight-kept v t ts =
    kept_case (λ us. weight v us ≡ weight v (t ∷ ts)) t ts
    (λ e. let none : t.1 *ℤ monomial v t.0 ≡ pos 0 = ap (λ z. z *ℤ monomial v t.0) e ∙ zero-mul (monomial v t.0) in omega (arith, linear))
    (λ ne. refl)

weight-with_term : (v : Valuation) (t : Term) (us : List Term) → weight v (with_term t us) ≡ weight v (t ∷ us)
weight-with_term v t [] = weight-kept v t []
weight-with_term v t (u ∷ us) =
    ⊎_elim
    (λ (e : t.0 ≡ u.0).
    let same : monomial v t.0 ≡ monomial v u.0 = ap (monomial v) e in
    let joined : t.1 *ℤ monomial v t.0 ≡ t.1 *ℤ monomial v u.0 = ap (λ z. t.1 *ℤ z) same in
    ap (weight v) (with_term-at t u us e) ∙ weight-kept v (u.0, t.1 +ℤ u.1) us ∙ omega (arith, linear, add-mul t.1 u.1 (monomial v u.0)))
    (⊎_elim
    (λ (lt : t.0 < u.0). ap (weight v) (with_term-before t u us lt) ∙ weight-kept v t (u ∷ us))
    (λ (lt : u.0 < t.0). ap (weight v) (with_term-after t u us lt) ∙ omega (arith, linear, weight-with_term v t us)))
    (cases_order t.0 u.0)

-- a polynomial weighs what the terms that it sums weigh
pub weight-collected : (v : Valuation) (ts : List Term) → weight v (collected ts) ≡ weight v ts
weight-collected v [] = refl
weight-collected v (t ∷ ts) = weight-with_term v t (collected ts) ∙ omega (arith, linear, weight-collected v ts)

pub weight-sum : (v : Valuation) (left right : List Term) → weight v (sum left right) ≡ weight v left +ℤ weight v right
weight-sum v left right = weight-collected v (left ++ right) ∙ weight-append v left right

pub weight-times : (v : Valuation) (by : ℤ) (ts : List Term) → weight v (times by ts) ≡ by *ℤ weight v ts
weight-times v by [] = sym (mul-zero by)
weight-times v by (t ∷ ts) = omega (arith, linear, weight-times v by ts, mul-assoc by t.1 (monomial v t.0), mul-add by (t.1 *ℤ monomial v t.0) (weight v ts))

pub weight-scaled : (v : Valuation) (by : ℤ) (ts : List Term) → weight v (scaled by ts) ≡ by *ℤ weight v ts
weight-scaled v by ts = weight-collected v (times by ts) ∙ weight-times v by ts

-- ---- products

mul-swap : (a b c d : ℤ) → (a *ℤ b) *ℤ (c *ℤ d) ≡ (a *ℤ c) *ℤ (b *ℤ d)
mul-swap a b c d =
    mul-assoc a b (c *ℤ d)
    ∙ ap (λ z. a *ℤ z) (sym (mul-assoc b c d) ∙ ap (λ z. z *ℤ d) (mul-comm b c) ∙ mul-assoc c b d)
    ∙ sym (mul-assoc a c (b *ℤ d))

-- a set that has nothing in common with a union has nothing in common with either part
pub apart : (a b c : ℕ) → bit_and a (bit_or b c) ≡ 0 → (bit_and a b ≡ 0) × (bit_and a c ≡ 0)
apart a b c h = (
  same_from_bits (bit_and a b) 0 (λ i. omega (arith, bit_at_and a b i, bit_at_and a (bit_or b c) i, bit_at_or b c i, ap (λ n. bit_at n i) h, bit_at-zero i)),
  same_from_bits (bit_and a c) 0 (λ i. omega (arith, bit_at_and a c i, bit_at_and a (bit_or b c) i, bit_at_or b c i, ap (λ n. bit_at n i) h, bit_at-zero i)),
)

pub parity : (n : ℕ) → (n % 2 ≡ 0) ⊎ (n % 2 ≡ 1)
parity n = ⊎_elim (λ (e : n % 2 ≡ 0). inl e) (λ (e : n % 2 ≡ 0 → ⊥). inr (omega arith)) (cases_eq (n % 2) 0)

factor-or : (a b : ℕ) (x : ℤ × ℤ) → bit_and (a % 2) (b % 2) ≡ 0 → factor (bit_or (a % 2) (b % 2)) x *ℤ x.1 ≡ factor (a % 2) x *ℤ factor (b % 2) x
factor-or a b x h =
    ⊎_elim
    (λ (e : a % 2 ≡ 0). ⊎_elim
    (λ (f : b % 2 ≡ 0). rw (e, f) refl)
    (λ (f : b % 2 ≡ 1). rw (e, f) (mul-comm x.0 x.1))
    (parity b))
    (λ (e : a % 2 ≡ 1). ⊎_elim
    (λ (f : b % 2 ≡ 0). rw (e, f) refl)
    (λ (f : b % 2 ≡ 1). let no : bit_and 1 1 ≡ 0 = rw (e, f) at h in absurd (omega arith))
    (parity b))
    (parity a)

-- the product of two sets' monomials, where they have no parameter in common
monomial-or : (v : Valuation) (a b : ℕ) → bit_and a b ≡ 0 → monomial v (bit_or a b) *ℤ denominator v ≡ monomial v a *ℤ monomial v b
monomial-or [] a b h = refl
monomial-or (x ∷ v) a b h =
    let low : bit_and (a % 2) (b % 2) ≡ 0 = sym (and_mod a b 1) ∙ ap (λ n. n % 2) h in
    let high : bit_and (a / 2) (b / 2) ≡ 0 = sym (and_shr a b 1) ∙ ap (λ n. n / 2) h in
    ap₂ (λ r s. (factor r x *ℤ monomial v s) *ℤ (x.1 *ℤ denominator v)) (or_mod a b 1) (or_shr a b 1)
    ∙ mul-swap (factor (bit_or (a % 2) (b % 2)) x) (monomial v (bit_or (a / 2) (b / 2))) x.1 (denominator v)
    ∙ ap₂ ◌*ℤ◌ (factor-or a b x low) (monomial-or v (a / 2) (b / 2) high)
    ∙ mul-swap (factor (a % 2) x) (factor (b % 2) x) (monomial v (a / 2)) (monomial v (b / 2))

weight-products_of : (v : Valuation) (t : Term) (us : List Term) → bit_and t.0 (support us) ≡ 0 → weight v (products_of t us) *ℤ denominator v ≡ (t.1 *ℤ monomial v t.0) *ℤ weight v us
weight-products_of v t [] h = zero-mul (denominator v) ∙ sym (mul-zero (t.1 *ℤ monomial v t.0))
weight-products_of v t (u ∷ us) h =
    let parts = apart t.0 u.0 (support us) h in
    add-mul ((t.1 *ℤ u.1) *ℤ monomial v (bit_or t.0 u.0)) (weight v (products_of t us)) (denominator v)
    ∙ ap₂ ◌+ℤ◌
    (mul-assoc (t.1 *ℤ u.1) (monomial v (bit_or t.0 u.0)) (denominator v)
    ∙ ap (λ z. (t.1 *ℤ u.1) *ℤ z) (monomial-or v t.0 u.0 parts.0)
    ∙ mul-swap t.1 u.1 (monomial v t.0) (monomial v u.0))
    (weight-products_of v t us parts.1)
    ∙ sym (mul-add (t.1 *ℤ monomial v t.0) (u.1 *ℤ monomial v u.0) (weight v us))

weight-products : (v : Valuation) (ts us : List Term) → bit_and (support ts) (support us) ≡ 0 → weight v (products ts us) *ℤ denominator v ≡ weight v ts *ℤ weight v us
weight-products v [] us h = zero-mul (denominator v) ∙ sym (zero-mul (weight v us))
weight-products v (t ∷ ts) us h =
    let parts = apart (support us) t.0 (support ts) (and_comm (support us) (support (t ∷ ts)) ∙ h) in
    let first : bit_and t.0 (support us) ≡ 0 = and_comm t.0 (support us) ∙ parts.0 in
    let rest : bit_and (support ts) (support us) ≡ 0 = and_comm (support ts) (support us) ∙ parts.1 in
    ap (λ z. z *ℤ denominator v) (weight-append v (products_of t us) (products ts us))
    ∙ add-mul (weight v (products_of t us)) (weight v (products ts us)) (denominator v)
    ∙ ap₂ ◌+ℤ◌ (weight-products_of v t us first) (weight-products v ts us rest)
    ∙ sym (add-mul (t.1 *ℤ monomial v t.0) (weight v ts) (weight v us))

pub weight-product : (v : Valuation) (left right : List Term) → bit_and (support left) (support right) ≡ 0 → weight v (product left right) *ℤ denominator v ≡ weight v left *ℤ weight v right
weight-product v left right h = ap (λ z. z *ℤ denominator v) (weight-collected v (products left right)) ∙ weight-products v left right h

-- ---- one parameter varies

spread : (f n d a b : ℤ) → f *ℤ (n *ℤ a +ℤ d *ℤ b) ≡ n *ℤ (f *ℤ a) +ℤ d *ℤ (f *ℤ b)
spread f n d a b =
    mul-add f (n *ℤ a) (d *ℤ b)
    ∙ ap₂ ◌+ℤ◌
    (sym (mul-assoc f n a) ∙ ap (λ z. z *ℤ a) (mul-comm f n) ∙ mul-assoc n f a)
    (sym (mul-assoc f d b) ∙ ap (λ z. z *ℤ b) (mul-comm f d) ∙ mul-assoc d f b)

factor-split : (bit : ℕ) (n d m : ℤ) → factor bit (n, d) *ℤ m ≡ n *ℤ (factor bit (pos 1, pos 0) *ℤ m) +ℤ d *ℤ (factor bit (pos 0, pos 1) *ℤ m)
factor-split zero n d m = omega (arith, linear, ap (λ z. n *ℤ z) (zero-mul m), mul-zero n, ap (λ z. d *ℤ z) (one-mul m))
factor-split (suc bit) n d m = omega (arith, linear, ap (λ z. n *ℤ z) (one-mul m), ap (λ z. d *ℤ z) (zero-mul m), mul-zero d)

monomial-split : (before behind : Valuation) (n d : ℤ) (set : ℕ)
    → monomial (before ++ (n, d) ∷ behind) set ≡ n *ℤ monomial (before ++ (pos 1, pos 0) ∷ behind) set +ℤ d *ℤ monomial (before ++ (pos 0, pos 1) ∷ behind) set
monomial-split [] behind n d set = factor-split (set % 2) n d (monomial behind (set / 2))
monomial-split (x ∷ before) behind n d set =
    ap (λ z. factor (set % 2) x *ℤ z) (monomial-split before behind n d (set / 2))
    ∙ spread (factor (set % 2) x) n d (monomial (before ++ (pos 1, pos 0) ∷ behind) (set / 2)) (monomial (before ++ (pos 0, pos 1) ∷ behind) (set / 2))

-- a polynomial is affine in each parameter
pub weight-split : (before behind : Valuation) (n d : ℤ) (ts : List Term)
    → weight (before ++ (n, d) ∷ behind) ts ≡ n *ℤ weight (before ++ (pos 1, pos 0) ∷ behind) ts +ℤ d *ℤ weight (before ++ (pos 0, pos 1) ∷ behind) ts
weight-split before behind n d [] = omega (arith, linear, mul-zero n, mul-zero d)
weight-split before behind n d (t ∷ ts) =
    let a = monomial (before ++ (pos 1, pos 0) ∷ behind) t.0 in
    let b = monomial (before ++ (pos 0, pos 1) ∷ behind) t.0 in
    let p = weight (before ++ (pos 1, pos 0) ∷ behind) ts in
    let q = weight (before ++ (pos 0, pos 1) ∷ behind) ts in
    ap₂ ◌+ℤ◌ (ap (λ z. t.1 *ℤ z) (monomial-split before behind n d t.0) ∙ spread t.1 n d a b) (weight-split before behind n d ts)
    ∙ omega (arith, linear, mul-add n (t.1 *ℤ a) p, mul-add d (t.1 *ℤ b) q)

-- the polynomial in the other parameters that is left when the first one is given
pub fixed : ℤ × ℤ → List Term → List Term
fixed value [] = []
fixed value (t ∷ ts) = (t.0 / 2, t.1 *ℤ factor (t.0 % 2) value) ∷ fixed value ts

pub weight-fixed : (value : ℤ × ℤ) (v : Valuation) (ts : List Term) → weight (value ∷ v) ts ≡ weight v (fixed value ts)
unfolding fixed
weight-fixed value v [] = refl
weight-fixed value v (t ∷ ts) = ap₂ ◌+ℤ◌ (sym (mul-assoc t.1 (factor (t.0 % 2) value) (monomial v (t.0 / 2)))) (weight-fixed value v ts)

pub fixed-split : (n d : ℤ) (v : Valuation) (ts : List Term) → weight v (fixed (n, d) ts) ≡ n *ℤ weight v (fixed (pos 1, pos 0) ts) +ℤ d *ℤ weight v (fixed (pos 0, pos 1) ts)
fixed-split n d v ts =
    sym (weight-fixed (n, d) v ts) ∙ weight-split [] v n d ts
    ∙ ap₂ (λ p q. n *ℤ p +ℤ d *ℤ q) (weight-fixed (pos 1, pos 0) v ts) (weight-fixed (pos 0, pos 1) v ts)
