-- What was read as a value is a polynomial in lowest terms over the names.
use Rattle.std.proofs.Common.{◌≡◌, ℕ, suc, ◌*◌, ◌/◌, ◌^◌, ◌<◌, ◌≤◌, Bool, true, false, cond, nat_eq, ne_eqb, refl, List, [], ◌∷◌, ◌++◌, length, get_or, ℤ, zero, pos, negsuc, neg_ℤ, ◌*ℤ◌, int_div, bit_or, unsigned_abs, All, ⊎_elim, sym, ap, subst, ◌∙◌, arith, Ok, Err}
use Rattle.std.specs.Prelude.{nat_le, nat_lt}
use Rattle.std.specs.List.{list_any}
use Rattle.std.proofs.Math.Pow.{pow-lt}
use Rattle.std.proofs.lemmas.Bool.{cases_lt, leb-false, or_parts}
use Rattle.std.proofs.lemmas.List.Elements.{All-nil, All-cons, All-head, All-tail, All-append, All-map}
use Rattle.std.proofs.lemmas.Nat.{or_lt, pow_pos}
use Rattle.std.proofs.Math.Nat.{div-mul_cancel}
use Rattle.lift_frac.specs.Limits.{size_limit}
use Rattle.lift_poly.specs.Polynomial.{Term, IsPolynomial, constant}
use Rattle.lift_poly.specs.Arithmetic as poly
use Rattle.lift_poly.specs.Arithmetic.{coefficient, collected, times, scaled, products_of, products, support}
use Rattle.lift_poly.proofs.Ring.{linear}
use Rattle.lift_poly.specs.Laws.{TermsSumToPolynomial, TermsSumBySet, TermsHaveCoefficients}
use Rattle.lift_frac.specs.Ratio.{Ratio, IsFraction}
use Rattle.drn_lexer.specs.Symbols.{symbols}
use Rattle.drn_expr.specs.Trees.{Expr, Literal, Parameter, Sum, Difference, Product, Quotient, Negative, ◌>>=◌}
use Rattle.drn_expr.specs.Grammar.{most_symbols, tree}
use Rattle.drn_expr.specs.RatPolys.{OverOne, IsOver, common_divisor, lowest, is_large, is_wide, narrow}
use Rattle.drn_expr.specs.Expansion.{sum, negative, difference, product, by_number, quotient, expansion}
use Rattle.drn_expr.specs.Values.{reading}
use Rattle.drn_expr.specs.declared.error.ExprError.TheVariants.{SharedParameter, ParametricDivisor, Wide, Long}
use Rattle.drn_expr.proofs.Calls.{small_sizes, number_poly, parameter_poly, negative_poly, positive_size}
use Rattle.drn_expr.proofs.Divisors.{common_divides, nothing_common}
use Rattle.drn_expr.proofs.Fitting.{Fits, tree_fits}
use Rattle.drn_expr.proofs.Least.{positive_divisor, quotient_positive}
use Rattle.drn_expr.proofs.Premises.{Premises}
use Rattle.drn_expr.proofs.Meanings.{bind_ok, if_ok, product_above}

-- each set holds parameters below k alone
pub record AreSets (k : ℕ) (ts : List Term) : Type 0 where
  pub each : All (λ t. t.0 < 2 ^ k) ts

-- the same of a polynomial over names
sets_of : (k : ℕ) (p : OverOne) → IsOver k p → AreSets k p.terms
sets_of k p h = record { each = h.sets }

-- ---- sets of what is summed and multiplied

no_sets : (k : ℕ) → AreSets k []
no_sets k = record { each = All-nil (λ t. t.0 < 2 ^ k) }

more_sets : (k : ℕ) (t : Term) (ts : List Term) → t.0 < 2 ^ k → AreSets k ts → AreSets k (t ∷ ts)
more_sets k t ts lt h = record { each = All-cons (λ u. u.0 < 2 ^ k) t ts lt h.each }

first_set : (k : ℕ) (t : Term) (ts : List Term) → AreSets k (t ∷ ts) → t.0 < 2 ^ k
first_set k t ts h = All-head (λ u. u.0 < 2 ^ k) t ts h.each

other_sets : (k : ℕ) (t : Term) (ts : List Term) → AreSets k (t ∷ ts) → AreSets k ts
other_sets k t ts h = record { each = All-tail (λ u. u.0 < 2 ^ k) t ts h.each }

-- no term has a set beyond them
none_beyond : (k set : ℕ) (ts : List Term) → AreSets k ts → 2 ^ k ≤ set → coefficient set ts ≡ pos 0
none_beyond k set [] h le = refl
none_beyond k set (t ∷ ts) h le =
    let lt = first_set k t ts h in
    let other : cond (nat_eq t.0 set) t.1 (pos 0) ≡ pos 0 = ap (λ b. cond b t.1 (pos 0)) (ne_eqb t.0 set (omega arith)) in
    omega (arith, linear, other, none_beyond k set ts (other_sets k t ts h) le)

-- so what they sum to has none
pub sets_collected : TermsSumToPolynomial → TermsSumBySet → TermsHaveCoefficients → (k : ℕ) (ts : List Term) → AreSets k ts → AreSets k (collected ts)
sets_collected polynomial by_set terms k ts h = record {
  each = λ i d lt.
      let t = get_or (collected ts) i d in
      ⊎_elim
      (λ (below : t.0 < 2 ^ k). below)
      (λ (beyond : 2 ^ k ≤ t.0).
      absurd ((polynomial ts).coefficients i d lt (sym (terms (collected ts) (polynomial ts) i d lt) ∙ by_set ts t.0 ∙ none_beyond k t.0 ts h beyond)))
      (cases_lt t.0 (2 ^ k));
}

pub sets_times : (k : ℕ) (by : ℤ) (ts : List Term) → AreSets k ts → AreSets k (times by ts)
sets_times k by ts h = record { each = All-map (λ t. t.0 < 2 ^ k) (λ (t : Term). (t.0, by *ℤ t.1)) ts h.each }

pub sets_scaled : TermsSumToPolynomial → TermsSumBySet → TermsHaveCoefficients → (k : ℕ) (by : ℤ) (ts : List Term) → AreSets k ts → AreSets k (scaled by ts)
sets_scaled polynomial by_set terms k by ts h = sets_collected polynomial by_set terms k (times by ts) (sets_times k by ts h)

sets_quotient : (k : ℕ) (by : ℤ) (ts : List Term) → AreSets k ts → AreSets k (poly.quotient ts by)
sets_quotient k by ts h = record { each = All-map (λ t. t.0 < 2 ^ k) (λ (t : Term). (t.0, int_div t.1 by)) ts h.each }

sets_append : (k : ℕ) (ts us : List Term) → AreSets k ts → AreSets k us → AreSets k (ts ++ us)
sets_append k ts us h i = record { each = All-append (λ t. t.0 < 2 ^ k) ts us h.each i.each }

sets_row : (k : ℕ) (t : Term) (us : List Term) → t.0 < 2 ^ k → AreSets k us → AreSets k (products_of t us)
sets_row k t us lt h =
    record { each = All-map (λ u. u.0 < 2 ^ k) (λ (u : Term). (bit_or t.0 u.0, t.1 *ℤ u.1)) us (λ i d within. or_lt k t.0 _ lt (h.each i d within)) }

sets_products : (k : ℕ) (ts us : List Term) → AreSets k ts → AreSets k us → AreSets k (products ts us)
sets_products k [] us h i = no_sets k
sets_products k (t ∷ ts) us h i = sets_append k (products_of t us) (products ts us) (sets_row k t us (first_set k t ts h) i) (sets_products k ts us (other_sets k t ts h) i)

-- ---- lowest terms

lowest_over : Premises → (k : ℕ) (ts : List Term) (d : ℕ) → 0 < d → IsPolynomial ts → AreSets k ts → is_wide (lowest ts d) ≡ false → IsOver k (lowest ts d)
lowest_over laws k ts d above h sets narrow =
    let g : ℕ = common_divisor d ts in
    let both = common_divides laws.greatest d ts in
    let q = poly.quotient ts (pos g) in
    let back : times (pos g) q ≡ ts = laws.exact (pos g) ts both.1 in
    let small = or_parts (nat_le size_limit (d / g)) (list_any is_large q) narrow in
    record {
      value = record {
        polynomial = laws.quotients (pos g) ts both.1 h;
        positive = quotient_positive (d / g) g d (div-mul_cancel g both.0) above;
        den = leb-false size_limit (d / g) small.0;
        sizes = small_sizes q small.1;
        lowest = nothing_common laws.greatest d g ts q (positive_divisor g d both.0 above) refl back;
      };
      sets = (sets_quotient k (pos g) ts sets).each;
    }

narrow_over : Premises → (k : ℕ) (ts : List Term) (d : ℕ) (p : OverOne) → 0 < d → IsPolynomial ts → AreSets k ts → narrow ts d ≡ Ok p → IsOver k p
narrow_over laws k ts d p above h sets e = by_test (is_wide (lowest ts d)) e (lowest_over laws k ts d above h sets)
  where
    by_test : (b : Bool) → cond b (Err Wide) (Ok (lowest ts d)) ≡ Ok p → (b ≡ false → IsOver k (lowest ts d)) → IsOver k p
    by_test true e h = cc
    by_test false e h = let f : lowest ts d ≡ p = cc in subst (IsOver k) f (h refl)

collected_over : Premises → (k : ℕ) (ts : List Term) (d : ℕ) (p : OverOne) → 0 < d → AreSets k ts → narrow (collected ts) d ≡ Ok p → IsOver k p
collected_over laws k ts d p above sets e = narrow_over laws k (collected ts) d p above (laws.polynomial ts) (sets_collected laws.polynomial laws.coefficients laws.terms k ts sets) e

-- ---- each operation

number_over : Premises → (k : ℕ) (q : Ratio) → IsFraction q → IsOver k (record { terms = constant q.num; den = unsigned_abs q.den })
number_over laws k q h = record {
  value = number_poly laws.unique q.num (unsigned_abs q.den) (constant q.num) refl (laws.polynomial ((0, q.num) ∷ [])) (positive_size q.den h.positive) h.den h.num h.lowest;
  sets = (sets_collected laws.polynomial laws.coefficients laws.terms k ((0, q.num) ∷ []) (more_sets k (0, q.num) [] (pow_pos k) (no_sets k))).each;
}

parameter_over : Premises → (k i : ℕ) → i < k → IsOver k (record { terms = (2 ^ i, pos 1) ∷ []; den = 1 })
parameter_over laws k i lt = record {
  value = parameter_poly (2 ^ i) ((2 ^ i, pos 1) ∷ []) refl (laws.polynomial ((2 ^ i, pos 1) ∷ []));
  sets = (more_sets k (2 ^ i, pos 1) [] (pow-lt lt) (no_sets k)).each;
}

negative_over : Premises → (k : ℕ) (a : OverOne) → IsOver k a → IsOver k (negative a)
negative_over laws k a h = record {
  value = negative_poly laws.kept a.terms (scaled (negsuc 0) a.terms) a.den refl (laws.polynomial (times (negsuc 0) a.terms)) h.value;
  sets = (sets_scaled laws.polynomial laws.coefficients laws.terms k (negsuc 0) a.terms (sets_of k a h)).each;
}

sum_over : Premises → (k : ℕ) (a b p : OverOne) → IsOver k a → IsOver k b → sum a b ≡ Ok p → IsOver k p
sum_over laws k a b p h i e =
    collected_over laws k (scaled (pos b.den) a.terms ++ scaled (pos a.den) b.terms) (a.den * b.den) p (product_above a.den b.den h.value.positive i.value.positive)
    (sets_append k (scaled (pos b.den) a.terms) (scaled (pos a.den) b.terms) (sets_scaled laws.polynomial laws.coefficients laws.terms k (pos b.den) a.terms (sets_of k a h)) (sets_scaled laws.polynomial laws.coefficients laws.terms k (pos a.den) b.terms (sets_of k b i))) e

product_over : Premises → (k : ℕ) (a b p : OverOne) → IsOver k a → IsOver k b → product a b ≡ Ok p → IsOver k p
product_over laws k a b p h i e =
    let done = if_ok _ (narrow (poly.product a.terms b.terms) (a.den * b.den)) SharedParameter p e in
    collected_over laws k (products a.terms b.terms) (a.den * b.den) p (product_above a.den b.den h.value.positive i.value.positive) (sets_products k a.terms b.terms (sets_of k a h) (sets_of k b i)) done.1

by_number_over : Premises → (k : ℕ) (a : OverOne) (n : ℤ) (d : ℕ) (p : OverOne) → IsOver k a → by_number a n d ≡ Ok p → IsOver k p
by_number_over laws k a (pos zero) d p h e = cc
by_number_over laws k a (pos (suc n)) d p h e = collected_over laws k (times (pos d) a.terms) (a.den * suc n) p (product_above a.den (suc n) h.value.positive (omega arith)) (sets_times k (pos d) a.terms (sets_of k a h)) e
by_number_over laws k a (negsuc n) d p h e = collected_over laws k (times (neg_ℤ (pos d)) a.terms) (a.den * suc n) p (product_above a.den (suc n) h.value.positive (omega arith)) (sets_times k (neg_ℤ (pos d)) a.terms (sets_of k a h)) e

quotient_over : Premises → (k : ℕ) (a b p : OverOne) → IsOver k a → quotient a b ≡ Ok p → IsOver k p
quotient_over laws k a b p h e =
    let done = if_ok _ (by_number a (coefficient 0 b.terms) b.den) ParametricDivisor p e in
    by_number_over laws k a (coefficient 0 b.terms) b.den p h done.1

-- ---- a tree

expansion_over : Premises → (k : ℕ) (e : Expr) (p : OverOne) → Fits k e → expansion e ≡ Ok p → IsOver k p
unfolding expansion
expansion_over laws k (Literal q) p fits e = subst (IsOver k) (cc) (number_over laws k q fits)
expansion_over laws k (Parameter i) p fits e = subst (IsOver k) (cc) (parameter_over laws k i fits)
expansion_over laws k (Negative a) p fits e =
    let x = bind_ok (expansion a) (λ x. Ok (negative x)) p e in
    let f : negative x.0 ≡ p = let g = x.2 in cc in
    subst (IsOver k) f (negative_over laws k x.0 (expansion_over laws k a x.0 fits x.1))
expansion_over laws k (Sum a b) p fits e =
    let x = bind_ok (expansion a) (λ x. expansion b >>= (λ y. sum x y)) p e in
    let y = bind_ok (expansion b) (λ y. sum x.0 y) p x.2 in
    sum_over laws k x.0 y.0 p (expansion_over laws k a x.0 fits.0 x.1) (expansion_over laws k b y.0 fits.1 y.1) y.2
expansion_over laws k (Difference a b) p fits e =
    let x = bind_ok (expansion a) (λ x. expansion b >>= (λ y. difference x y)) p e in
    let y = bind_ok (expansion b) (λ y. difference x.0 y) p x.2 in
    sum_over laws k x.0 (negative y.0) p (expansion_over laws k a x.0 fits.0 x.1) (negative_over laws k y.0 (expansion_over laws k b y.0 fits.1 y.1)) y.2
expansion_over laws k (Product a b) p fits e =
    let x = bind_ok (expansion a) (λ x. expansion b >>= (λ y. product x y)) p e in
    let y = bind_ok (expansion b) (λ y. product x.0 y) p x.2 in
    product_over laws k x.0 y.0 p (expansion_over laws k a x.0 fits.0 x.1) (expansion_over laws k b y.0 fits.1 y.1) y.2
expansion_over laws k (Quotient a b) p fits e =
    let x = bind_ok (expansion a) (λ x. expansion b >>= (λ y. quotient x y)) p e in
    let y = bind_ok (expansion b) (λ y. quotient x.0 y) p x.2 in
    quotient_over laws k x.0 y.0 p (expansion_over laws k a x.0 fits.0 x.1) y.2

-- a value that was read is a polynomial in lowest terms over the names
pub reading_over : Premises → (names : List (List ℕ)) (text : List ℕ) (p : OverOne) → reading names text ≡ Ok p → IsOver (length names) p
reading_over laws names text p e = by_length (nat_lt most_symbols (length (symbols text))) e
  where
    by_length : (long : Bool) → cond long (Err Long) (tree names (symbols text) >>= expansion) ≡ Ok p → IsOver (length names) p
    by_length true e = cc
    by_length false e =
        let read = bind_ok (tree names (symbols text)) expansion p e in
        expansion_over laws (length names) read.0 p (tree_fits laws.fractions names (symbols text) read.0 read.1) read.2

-- a multiple holds no other names
pub multiples_over : TermsSumToPolynomial → TermsSumBySet → TermsHaveCoefficients → (k : ℕ) (by : ℤ) (ts : List Term) → All (λ t. t.0 < 2 ^ k) ts → All (λ t. t.0 < 2 ^ k) (scaled by ts)
multiples_over polynomial by_set terms k by ts h = (sets_scaled polynomial by_set terms k by ts (record { each = h })).each
