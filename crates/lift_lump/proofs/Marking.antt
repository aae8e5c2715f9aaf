-- Numbers up to multiples of a prime: sums, products and negatives, and the marks of polynomials.
use Rattle.std.proofs.Common.{◌≡◌, ◌≢◌, ℕ, zero, suc, ◌+◌, ◌-◌, ◌*◌, ◌/◌, ◌%◌, ◌<◌, ◌≤◌, true, false, not, T, List, [], ◌∷◌, ◌++◌, length, get_or, take, drop, ℤ, pos, negsuc, ◌+ℤ◌, ◌*ℤ◌, ◌<ℤ◌, ◌≤ℤ◌, neg_ℤ, unsigned_abs, refl, sym, ap, ap₂, ◌∙◌, subst, arith}
use Rattle.std.proofs.Math.IntN.{pos-*ℤ-pos}
use Rattle.std.specs.Int.Signed.{lt_z, lt_z_yes, lt_z_no}
use Rattle.std.proofs.lemmas.List.{take_more}
use Rattle.lift_poly.proofs.Ring.{linear, mul-comm, mul-assoc, mul-add, add-mul, mul-neg, one-mul, zero-mul}
use Rattle.lift_poly.specs.Polynomial.{Term, Valuation, factor, monomial, weight}
use Rattle.lift_lump.specs.Search.{modulus, whole, IsCongruent}
use Rattle.lift_lump.proofs.Gathering.{remainder}
use Rattle.lift_lump.proofs.Holding.{weight-append}

abbrev Near : ℕ → ℕ → ℤ → Type 0
Near n x z = (k : ℤ) × (pos x ≡ z +ℤ k *ℤ pos n)

near_mod : (n x : ℕ) (z : ℤ) → Near n x z → Near n (x % n) z
near_mod n x z p = (p.0 +ℤ neg_ℤ (pos (x / n)), omega (arith, linear, p.1, remainder x n, add-mul p.0 (neg_ℤ (pos (x / n))) (pos n)))

near_sum : (n x y : ℕ) (a b : ℤ) → Near n x a → Near n y b → Near n (x + y) (a +ℤ b)
near_sum n x y a b p q = (p.0 +ℤ q.0, omega (arith, linear, p.1, q.1, add-mul p.0 q.0 (pos n)))

times_at : (n x y : ℕ) (a b i j : ℤ) → pos x ≡ a +ℤ i *ℤ pos n → pos y ≡ b +ℤ j *ℤ pos n → pos (x * y) ≡ a *ℤ b +ℤ ((a *ℤ j +ℤ i *ℤ b) +ℤ (i *ℤ pos n) *ℤ j) *ℤ pos n
times_at n x y a b i j p q =
    let product : pos x *ℤ pos y ≡ (a +ℤ i *ℤ pos n) *ℤ (b +ℤ j *ℤ pos n) = ap₂ (λ s t. s *ℤ t) p q in
    let swapped : i *ℤ (b *ℤ pos n) ≡ i *ℤ (pos n *ℤ b) = ap (λ t. i *ℤ t) (mul-comm b (pos n)) in
    omega (
      arith,
      linear,
      product,
      sym (pos-*ℤ-pos x y),
      swapped,
      add-mul a (i *ℤ pos n) (b +ℤ j *ℤ pos n),
      mul-add a b (j *ℤ pos n),
      mul-add (i *ℤ pos n) b (j *ℤ pos n),
      add-mul (a *ℤ j +ℤ i *ℤ b) ((i *ℤ pos n) *ℤ j) (pos n),
      add-mul (a *ℤ j) (i *ℤ b) (pos n),
      mul-assoc a j (pos n),
      mul-assoc i b (pos n),
      mul-assoc i (pos n) b,
      mul-assoc (i *ℤ pos n) j (pos n),
    )

near_times : (n x y : ℕ) (a b : ℤ) → Near n x a → Near n y b → Near n (x * y) (a *ℤ b)
near_times n x y a b p q = ((a *ℤ q.0 +ℤ p.0 *ℤ b) +ℤ (p.0 *ℤ pos n) *ℤ q.0, times_at n x y a b p.0 q.0 p.1 q.1)

near_minus : (n x : ℕ) (z : ℤ) → x ≤ n → Near n x z → Near n (n - x) (neg_ℤ z)
near_minus n x z le p =
    let whole_is : (n - x) + x ≡ n = omega (arith, le) in
    (pos 1 +ℤ neg_ℤ p.0, omega (arith, linear, p.1, ap pos whole_is, add-mul (pos 1) (neg_ℤ p.0) (pos n), one-mul (pos n), mul-comm (neg_ℤ p.0) (pos n), mul-neg (pos n) p.0, mul-comm (pos n) p.0))

near_self : (n x : ℕ) → Near n x (pos x)
near_self n x = (pos 0, omega (arith, linear, zero-mul (pos n)))

-- ---- whole numbers

pub above_zero : (z : ℤ) → lt_z z (pos 0) ≡ false → pos 0 ≤ℤ z
above_zero z e = lt_z_no (subst (λ b. T (not b)) (sym e) tt)

pub below_zero : (z : ℤ) → lt_z z (pos 0) ≡ true → z <ℤ pos 0
below_zero z e = lt_z_yes (subst T (sym e) tt)

plus_size : (z : ℤ) → pos 0 ≤ℤ z → pos (unsigned_abs z) ≡ z
plus_size (pos n) h = refl
plus_size (negsuc n) h = absurd (omega (arith, linear, h))

minus_size : (z : ℤ) → z <ℤ pos 0 → pos (unsigned_abs z) ≡ neg_ℤ z
minus_size (pos n) h = absurd (omega (arith, linear, h))
minus_size (negsuc n) h = refl

pub residue_plus : (z : ℤ) → pos 0 ≤ℤ z → IsCongruent (unsigned_abs z % modulus) z
residue_plus z h = subst (IsCongruent (unsigned_abs z % modulus)) (plus_size z h) (near_mod modulus (unsigned_abs z) (pos (unsigned_abs z)) (near_self modulus (unsigned_abs z)))

negated : (n x : ℕ) (z : ℤ) → x ≤ n → Near n x (neg_ℤ z) → Near n ((n - x) % n) z
negated n x z le p = subst (Near n ((n - x) % n)) (let e : neg_ℤ (neg_ℤ z) ≡ z = omega (arith, linear) in e) (near_mod n (n - x) (neg_ℤ (neg_ℤ z)) (near_minus n x (neg_ℤ z) le p))

pub residue_minus : (z : ℤ) → z <ℤ pos 0 → unsigned_abs z % modulus ≤ modulus → IsCongruent ((modulus - unsigned_abs z % modulus) % modulus) z
residue_minus z h le = negated modulus (unsigned_abs z % modulus) z le (subst (IsCongruent (unsigned_abs z % modulus)) (minus_size z h) (near_mod modulus (unsigned_abs z) (pos (unsigned_abs z)) (near_self modulus (unsigned_abs z))))

-- ---- monomials

pub none_mark : (point : List ℕ) → monomial (whole point) 0 ≡ pos 1
none_mark [] = refl
none_mark (x ∷ point) = ap (λ z. pos 1 *ℤ z) (none_mark point)

pub one_congruent : IsCongruent 1 (pos 1)
one_congruent = near_self modulus 1

factor_in : (bit : ℕ) (x : ℤ × ℤ) → bit ≡ 1 → factor bit x ≡ x.0
factor_in zero x e = absurd (omega (arith, e))
factor_in (suc bit) x e = refl

factor_out : (bit : ℕ) (x : ℤ × ℤ) → bit ≡ 0 → factor bit x ≡ x.1
factor_out zero x e = refl
factor_out (suc bit) x e = absurd (omega (arith, e))

pub with_mark : (x : ℕ) (point : List ℕ) (set product : ℕ) → set % 2 ≡ 1 → IsCongruent product (monomial (whole point) (set / 2)) → IsCongruent (x * product % modulus) (monomial (whole (x ∷ point)) set)
with_mark x point set product bit p =
    subst (IsCongruent (x * product % modulus)) (ap (λ z. z *ℤ monomial (whole point) (set / 2)) (sym (factor_in (set % 2) (pos x, pos 1) bit)))
    (near_mod modulus (x * product) (pos x *ℤ monomial (whole point) (set / 2)) (near_times modulus x product (pos x) (monomial (whole point) (set / 2)) (near_self modulus x) p))

pub without_mark : (x : ℕ) (point : List ℕ) (set product : ℕ) → set % 2 ≡ 0 → IsCongruent product (monomial (whole point) (set / 2)) → IsCongruent product (monomial (whole (x ∷ point)) set)
without_mark x point set product bit p =
    subst (IsCongruent product) (sym (ap (λ z. z *ℤ monomial (whole point) (set / 2)) (factor_out (set % 2) (pos x, pos 1) bit) ∙ one-mul (monomial (whole point) (set / 2)))) p

-- ---- polynomials

pub weighed_none : (v : Valuation) (terms : List Term) → IsCongruent 0 (weight v (take 0 terms))
weighed_none v terms = near_self modulus 0

pub weighed_more : (v : Valuation) (terms : List Term) (i sum c w : ℕ) (term : Term) → i < length terms → get_or terms i term ≡ term → IsCongruent sum (weight v (take i terms)) → IsCongruent c term.1 → IsCongruent w (monomial v term.0)
    → IsCongruent ((sum + c * w % modulus) % modulus) (weight v (take (i + 1) terms))
weighed_more v terms i sum c w term lt is p q r =
    let one : weight v (term ∷ []) ≡ term.1 *ℤ monomial v term.0 = omega (arith, linear) in
    let all : weight v (take i terms) +ℤ term.1 *ℤ monomial v term.0 ≡ weight v (take (i + 1) terms) =
    ap (λ z. weight v (take i terms) +ℤ z) (sym one) ∙ sym (weight-append v (take i terms) (term ∷ []))
    ∙ ap (λ (t : Term). weight v (take i terms ++ t ∷ [])) (sym is) ∙ ap (weight v) (sym (take_more terms i term lt)) in
    subst (IsCongruent ((sum + c * w % modulus) % modulus)) all
    (near_mod modulus (sum + c * w % modulus) (weight v (take i terms) +ℤ term.1 *ℤ monomial v term.0)
    (near_sum modulus sum (c * w % modulus) (weight v (take i terms)) (term.1 *ℤ monomial v term.0) p
    (near_mod modulus (c * w) (term.1 *ℤ monomial v term.0) (near_times modulus c w term.1 (monomial v term.0) q r))))

pub sum_congruent : (x y : ℕ) (a b : ℤ) → IsCongruent x a → IsCongruent y b → IsCongruent (x + y) (a +ℤ b)
sum_congruent x y a b p q = near_sum modulus x y a b p q

pub mod_most : (x : ℕ) → x % modulus ≤ modulus
mod_most x = omega arith

pub with_none : (point : List ℕ) (set : ℕ) → length point < 1 → IsCongruent 1 (monomial (whole point) set)
with_none [] set lt = one_congruent
with_none (x ∷ point) set lt = absurd (omega (arith, lt))

pub with_first : (point : List ℕ) (set product : ℕ) → 1 ≤ length point → set % 2 ≡ 1 → IsCongruent product (monomial (whole (drop 1 point)) (set / 2)) → IsCongruent (get_or point 0 0 * product % modulus) (monomial (whole point) set)
with_first [] set product some bit p = absurd (omega (arith, some))
with_first (x ∷ point) set product some bit p = with_mark x point set product bit p

pub without_first : (point : List ℕ) (set product : ℕ) → 1 ≤ length point → set % 2 ≢ 1 → IsCongruent product (monomial (whole (drop 1 point)) (set / 2)) → IsCongruent product (monomial (whole point) set)
without_first [] set product some bit p = absurd (omega (arith, some))
without_first (x ∷ point) set product some bit p = without_mark x point set product (even (set % 2) (omega arith) bit) p
  where
    even : (b : ℕ) → b < 2 → b ≢ 1 → b ≡ 0
    even b lt ne = grind (arith, lt, ne)
