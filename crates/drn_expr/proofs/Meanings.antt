-- The expansion of an expression is worth what the expression means.
use Rattle.std.proofs.Common.{◌≡◌, ℕ, zero, suc, ◌*◌, ◌<◌, ◌^◌, ◌/◌, ◌%◌, ◌==◌, Bool, true, false, cond, refl, [], ◌∷◌, length, get_or, All, ℤ, pos, negsuc, neg_ℤ, ◌+ℤ◌, ◌*ℤ◌, ◌<ℤ◌, bit_and, unsigned_abs, sym, ap, subst, ◌∙◌, arith, Result, Ok, Err, Option, Some, pow-suc}
use Rattle.std.proofs.lemmas.Bool.Decides.{nat_tests}
use Rattle.std.proofs.lemmas.List.Elements.{All-head, All-tail}
use Rattle.lift_frac.specs.Ratio.{Ratio}
use Rattle.lift_poly.specs.Polynomial.{Valuation, factor, monomial, weight, denominator, constant}
use Rattle.lift_poly.specs.Arithmetic as poly
use Rattle.lift_poly.specs.Arithmetic.{coefficient, scaled, support}
use Rattle.lift_poly.proofs.Ring.{linear, mul-comm, mul-assoc, zero-mul, mul-neg, one-mul, as_diff, diff-same, diffs}
use Rattle.drn_expr.specs.Trees.{Expr, Literal, Parameter, Sum, Difference, Product, Quotient, Negative, ◌>>=◌}
use Rattle.drn_expr.specs.RatPolys.{OverOne, narrow}
use Rattle.drn_expr.specs.Expansion.{sum, negative, difference, product, by_number, quotient, expansion}
use Rattle.drn_expr.specs.Meaning.{Fraction, both, over, opposite, meaning, Denotes, HasMeaning}
use Rattle.drn_expr.specs.declared.error.ExprError.{ExprError}
use Rattle.drn_expr.specs.declared.error.ExprError.TheVariants.{SharedParameter, ParametricDivisor}
use Rattle.drn_expr.proofs.Fitting.{Fits}
use Rattle.drn_expr.proofs.Premises.{Premises}
use Rattle.drn_expr.proofs.Least.{same_narrow, empty_set, weight-number}
use Rattle.drn_expr.proofs.Steps.{cancel, positive_product, sum_step, product_step, quotient_step}

-- each denominator is above 0
abbrev ArePositive : Valuation → Type 0
ArePositive v = All (λ (x : ℤ × ℤ). pos 0 <ℤ x.1) v

-- a step that ends well has given something to the next one, which ends well
pub bind_ok : {A B : Type 0} (r : Result A ExprError) (f : A → Result B ExprError) (y : B) → (r >>= f) ≡ Ok y → (x : A) × (r ≡ Ok x) × (f x ≡ Ok y)
bind_ok (Ok x) f y e = (x, refl, e)
bind_ok (Err c) f y e = cc

pub if_ok : (b : Bool) (n : Result OverOne ExprError) (c : ExprError) (p : OverOne) → cond b n (Err c) ≡ Ok p → (b ≡ true) × (n ≡ Ok p)
if_ok true n c p e = (refl, e)
if_ok false n c p e = cc

pub same_number : (m n : ℕ) → (m == n) ≡ true → m ≡ n
same_number m n e = grind (arith, nat_tests)

above : (n : ℕ) → 0 < n → pos 0 <ℤ pos n
above n h = omega (arith, linear)

pub product_above : (a b : ℕ) → 0 < a → 0 < b → 0 < a * b
product_above zero b h k = absurd (omega arith)
product_above (suc a) zero h k = absurd (omega arith)
product_above (suc a) (suc b) h k = omega arith

denominator_above : (v : Valuation) → ArePositive v → pos 0 <ℤ denominator v
denominator_above [] h = omega (arith, linear)
denominator_above (x ∷ v) h =
    positive_product x.1 (denominator v) (All-head (λ (y : ℤ × ℤ). pos 0 <ℤ y.1) x v h) (denominator_above v (All-tail (λ (y : ℤ × ℤ). pos 0 <ℤ y.1) x v h))

sum_denotes : Premises → (v : Valuation) (x y p : OverOne) (r s : Fraction) → Denotes v x r → Denotes v y s → sum x y ≡ Ok p → Denotes v p (r.0 *ℤ s.1 +ℤ s.0 *ℤ r.1, r.1 *ℤ s.1)
sum_denotes laws v x y p r s hx hy e =
    let left = scaled (pos y.den) x.terms in
    let right = scaled (pos x.den) y.terms in
    let n = same_narrow laws v (poly.sum left right) (x.den * y.den) p (product_above x.den y.den hx.den hy.den) e in
    let t = laws.sums v left right ∙ ap (λ k. k +ℤ weight v right) (laws.multiples v (pos y.den) x.terms) ∙ ap (λ k. pos y.den *ℤ weight v x.terms +ℤ k) (laws.multiples v (pos x.den) y.terms) in
    record {
      positive = positive_product r.1 s.1 hx.positive hy.positive;
      den = n.positive;
      same = sum_step (weight v p.terms) (weight v x.terms) (weight v y.terms) (weight v (poly.sum left right)) (pos x.den) (pos y.den) (pos p.den) r.0 r.1 s.0 s.1 (denominator v)
          (above x.den hx.den) (above y.den hy.den) hx.same hy.same t n.weight_is;
    }

negative_denotes : Premises → (v : Valuation) (x : OverOne) (r : Fraction) → Denotes v x r → Denotes v (negative x) (negsuc 0 *ℤ r.0, r.1)
negative_denotes laws v x r h = record {
  positive = h.positive;
  den = h.den;
  same = ap (λ k. k *ℤ r.1) (laws.multiples v (negsuc 0) x.terms) ∙ mul-assoc (negsuc 0) (weight v x.terms) r.1 ∙ ap (λ k. negsuc 0 *ℤ k) h.same
      ∙ sym (mul-assoc (negsuc 0) (r.0 *ℤ pos x.den) (denominator v)) ∙ ap (λ k. k *ℤ denominator v) (sym (mul-assoc (negsuc 0) r.0 (pos x.den)));
}

product_denotes : Premises → (v : Valuation) (x y p : OverOne) (r s : Fraction) → ArePositive v → Denotes v x r → Denotes v y s → product x y ≡ Ok p → Denotes v p (r.0 *ℤ s.0, r.1 *ℤ s.1)
product_denotes laws v x y p r s pos_v hx hy e =
    let ok = if_ok (bit_and (support x.terms) (support y.terms) == 0) (narrow (poly.product x.terms y.terms) (x.den * y.den)) SharedParameter p e in
    let disjoint : bit_and (support x.terms) (support y.terms) ≡ 0 = same_number _ _ ok.0 in
    let n = same_narrow laws v (poly.product x.terms y.terms) (x.den * y.den) p (product_above x.den y.den hx.den hy.den) ok.1 in
    record {
      positive = positive_product r.1 s.1 hx.positive hy.positive;
      den = n.positive;
      same = product_step (weight v p.terms) (weight v x.terms) (weight v y.terms) (weight v (poly.product x.terms y.terms)) (pos x.den) (pos y.den) (pos p.den) r.0 r.1 s.0 s.1 (denominator v)
          (above x.den hx.den) (above y.den hy.den) (denominator_above v pos_v) hx.same hy.same (laws.products v x.terms y.terms disjoint) n.weight_is;
    }

-- the number above the line of a divisor has the divisor's sign
record SameSign (c : ℕ) (s0 s1 dy : ℤ) : Type 0 where
  number : ℕ
  is : s0 ≡ pos (suc number)
  scaled : pos (suc c) *ℤ s1 ≡ pos (suc number) *ℤ dy

record OtherSign (c : ℕ) (s0 s1 dy : ℤ) : Type 0 where
  number : ℕ
  is : s0 ≡ negsuc number
  scaled : pos (suc c) *ℤ s1 ≡ pos (suc number) *ℤ dy

turned : (n : ℕ) (z : ℤ) → negsuc n *ℤ z ≡ neg_ℤ (pos (suc n) *ℤ z)
turned n z = mul-comm (neg_ℤ (pos (suc n))) z ∙ mul-neg z (pos (suc n)) ∙ ap neg_ℤ (mul-comm z (pos (suc n)))

above_zero : (n : ℕ) (z : ℤ) → pos 0 <ℤ z → pos 0 <ℤ (pos (suc n) *ℤ z)
above_zero n z h = positive_product (pos (suc n)) z (above (suc n) (omega arith)) h

same_sign : (c : ℕ) (s0 s1 dy : ℤ) → pos 0 <ℤ s1 → pos 0 <ℤ dy → pos (suc c) *ℤ s1 ≡ s0 *ℤ dy → SameSign c s0 s1 dy
same_sign c (pos zero) s1 dy h k e = absurd (omega (arith, linear, e, above_zero c s1 h, zero-mul dy))
same_sign c (pos (suc n)) s1 dy h k e = record { number = n; is = refl; scaled = e }
same_sign c (negsuc n) s1 dy h k e = absurd (omega (arith, linear, e, above_zero c s1 h, above_zero n dy k, turned n dy))

other_sign : (c : ℕ) (s0 s1 dy : ℤ) → pos 0 <ℤ s1 → pos 0 <ℤ dy → negsuc c *ℤ s1 ≡ s0 *ℤ dy → OtherSign c s0 s1 dy
other_sign c (pos zero) s1 dy h k e = absurd (omega (arith, linear, e, above_zero c s1 h, turned c s1, zero-mul dy))
other_sign c (pos (suc n)) s1 dy h k e = absurd (omega (arith, linear, e, above_zero c s1 h, turned c s1, above_zero n dy k))
other_sign c (negsuc n) s1 dy h k e = record { number = n; is = refl; scaled = omega (arith, linear, e, turned c s1, turned n dy) }

sign_moved : (d w : ℤ) → neg_ℤ d *ℤ w ≡ d *ℤ (negsuc 0 *ℤ w)
sign_moved d w = rw (as_diff d, as_diff w) (simp diffs (diff-same _ _ _ _ (omega arith)))

-- a quotient that is there, and what it denotes
record Quotients (v : Valuation) (p : OverOne) (r s : Fraction) : Type 0 where
  worth : Fraction
  is : over r s.0 s.1 ≡ Some worth
  denotes : Denotes v p worth

by_number_denotes : Premises → (v : Valuation) (x p : OverOne) (r s : Fraction) (c : ℤ) (dy : ℕ) → 0 < dy → pos 0 <ℤ s.1 → Denotes v x r → c *ℤ s.1 ≡ s.0 *ℤ pos dy → by_number x c dy ≡ Ok p → Quotients v p r s
by_number_denotes laws v x p r s (pos zero) dy hy hs hx y e = cc
by_number_denotes laws v x p r s (pos (suc c)) dy hy hs hx y e =
    let sign = same_sign c s.0 s.1 (pos dy) hs (above dy hy) y in
    let n = same_narrow laws v (scaled (pos dy) x.terms) (x.den * suc c) p (product_above x.den (suc c) hx.den (omega arith)) e in
    record {
      worth = (r.0 *ℤ s.1, r.1 *ℤ pos (suc sign.number));
      is = ap (λ z. over r z s.1) sign.is;
      denotes = record {
        positive = positive_product r.1 (pos (suc sign.number)) hx.positive (above (suc sign.number) (omega arith));
        den = n.positive;
        same = quotient_step (weight v p.terms) (weight v x.terms) (pos x.den) (pos dy) (pos p.den) r.0 r.1 (pos (suc c)) (pos (suc sign.number)) s.1 (denominator v)
            (above x.den hx.den) (above (suc c) (omega arith)) hx.same sign.scaled (n.weight_is ∙ ap (λ k. k *ℤ pos p.den) (laws.multiples v (pos dy) x.terms));
      };
    }
by_number_denotes laws v x p r s (negsuc c) dy hy hs hx y e =
    let sign = other_sign c s.0 s.1 (pos dy) hs (above dy hy) y in
    let n = same_narrow laws v (scaled (neg_ℤ (pos dy)) x.terms) (x.den * suc c) p (product_above x.den (suc c) hx.den (omega arith)) e in
    let minus = negative_denotes laws v x r hx in
    let worth_is = laws.multiples v (neg_ℤ (pos dy)) x.terms ∙ sign_moved (pos dy) (weight v x.terms) ∙ ap (λ k. pos dy *ℤ k) (sym (laws.multiples v (negsuc 0) x.terms)) in
    record {
      worth = (negsuc 0 *ℤ (r.0 *ℤ s.1), r.1 *ℤ pos (suc sign.number));
      is = ap (λ z. over r z s.1) sign.is;
      denotes = record {
        positive = positive_product r.1 (pos (suc sign.number)) hx.positive (above (suc sign.number) (omega arith));
        den = n.positive;
        same = quotient_step (weight v p.terms) (weight v (negative x).terms) (pos x.den) (pos dy) (pos p.den) (negsuc 0 *ℤ r.0) r.1 (pos (suc c)) (pos (suc sign.number)) s.1 (denominator v)
            (above x.den hx.den) (above (suc c) (omega arith)) minus.same sign.scaled (n.weight_is ∙ ap (λ k. k *ℤ pos p.den) worth_is)
            ∙ ap (λ k. (k *ℤ pos p.den) *ℤ denominator v) (mul-assoc (negsuc 0) r.0 s.1);
      };
    }

quotient_denotes : Premises → (v : Valuation) (x y p : OverOne) (r s : Fraction) → ArePositive v → Denotes v x r → Denotes v y s → quotient x y ≡ Ok p → Quotients v p r s
quotient_denotes laws v x y p r s pos_v hx hy e =
    let ok = if_ok (support y.terms == 0) (by_number x (coefficient 0 y.terms) y.den) ParametricDivisor p e in
    let whole = weight-number v y.terms (same_number _ _ ok.0) in
    let scaled_is : coefficient 0 y.terms *ℤ s.1 ≡ s.0 *ℤ pos y.den =
    cancel (denominator v) _ _ (denominator_above v pos_v)
    (sym (mul-assoc (denominator v) (coefficient 0 y.terms) s.1) ∙ ap (λ k. k *ℤ s.1) (mul-comm (denominator v) (coefficient 0 y.terms) ∙ sym whole) ∙ hy.same ∙ mul-comm (s.0 *ℤ pos y.den) (denominator v)) in
    by_number_denotes laws v x p r s (coefficient 0 y.terms) y.den hy.den hy.positive hx scaled_is ok.1

both_is : (f : Fraction → Fraction → Option Fraction) (x y : Option Fraction) (r s : Fraction) → x ≡ Some r → y ≡ Some s → both f x y ≡ f r s
both_is f x y r s e h = ap (λ o. both f o y) e ∙ ap (λ o. both f (Some r) o) h

-- a parameter's value
abbrev at : Valuation → ℕ → Fraction
at v i = get_or v i (pos 0, pos 1)

one_parameter : (v : Valuation) (i : ℕ) → i < length v → monomial v (2 ^ i) *ℤ (at v i).1 ≡ (at v i).0 *ℤ denominator v
one_parameter [] i h = absurd (omega arith)
one_parameter (x ∷ v) zero h = ap (λ k. (x.0 *ℤ k) *ℤ x.1) (empty_set v) ∙ last_first x.0 (denominator v) x.1
  where
    last_first : (a b c : ℤ) → (a *ℤ b) *ℤ c ≡ a *ℤ (c *ℤ b)
    last_first a b c = mul-assoc a b c ∙ ap (λ k. a *ℤ k) (mul-comm b c)
one_parameter (x ∷ v) (suc i) h =
    let more = one_parameter v i (omega arith) in
    let even : 2 ^ suc i % 2 ≡ 0 = omega (arith, pow-suc 2 i) in
    let half : 2 ^ suc i / 2 ≡ 2 ^ i = omega (arith, pow-suc 2 i) in
    ap (λ b. (factor b x *ℤ monomial v (2 ^ suc i / 2)) *ℤ (at v i).1) even ∙ ap (λ m. (x.1 *ℤ monomial v m) *ℤ (at v i).1) half
    ∙ mul-assoc x.1 (monomial v (2 ^ i)) (at v i).1 ∙ ap (λ k. x.1 *ℤ k) more ∙ front_last x.1 (at v i).0 (denominator v)
  where
    front_last : (a b c : ℤ) → a *ℤ (b *ℤ c) ≡ b *ℤ (a *ℤ c)
    front_last a b c = sym (mul-assoc a b c) ∙ ap (λ k. k *ℤ c) (mul-comm a b) ∙ mul-assoc b a c

parameter_denotes : (v : Valuation) (i : ℕ) → ArePositive v → i < length v → Denotes v (record { terms = (2 ^ i, pos 1) ∷ []; den = 1 }) (at v i)
parameter_denotes v i h k = record {
  positive = h i (pos 0, pos 1) k;
  den = omega arith;
  same = let zero_more : pos 1 *ℤ monomial v (2 ^ i) +ℤ pos 0 ≡ monomial v (2 ^ i) = omega (arith, linear, one-mul (monomial v (2 ^ i))) in
      ap (λ k. k *ℤ (at v i).1) zero_more ∙ one_parameter v i k
      ∙ ap (λ k. k *ℤ denominator v) (sym (mul-comm (at v i).0 (pos 1) ∙ one-mul (at v i).0));
}

size_of_positive : (z : ℤ) → pos 0 <ℤ z → (pos (unsigned_abs z) ≡ z) × (0 < unsigned_abs z)
size_of_positive (pos zero) h = absurd (omega (arith, linear))
size_of_positive (pos (suc n)) h = (refl, omega arith)
size_of_positive (negsuc n) h = absurd (omega (arith, linear))

literal_denotes : Premises → (v : Valuation) (number : Ratio) → pos 0 <ℤ number.den → Denotes v (record { terms = constant number.num; den = unsigned_abs number.den }) (number.num, number.den)
literal_denotes laws v number h =
    let a = number.num in
    let size = size_of_positive number.den h in
    record {
      positive = h;
      den = size.1;
      same = let worth : a *ℤ monomial v 0 +ℤ pos 0 ≡ a *ℤ denominator v = omega (arith, linear, ap (λ k. a *ℤ k) (empty_set v)) in
          ap (λ k. k *ℤ number.den) (laws.weighed v ((0, a) ∷ []) ∙ worth) ∙ mul-assoc a (denominator v) number.den ∙ ap (λ k. a *ℤ k) (mul-comm (denominator v) number.den)
          ∙ sym (mul-assoc a number.den (denominator v)) ∙ ap (λ k. (a *ℤ k) *ℤ denominator v) (sym size.0);
    }

same_fraction : (v : Valuation) (p : OverOne) (r s : Fraction) → r ≡ s → Denotes v p r → Denotes v p s
same_fraction v p r s e h = subst (λ (t : Fraction). Denotes v p t) e h

same_poly : (v : Valuation) (p q : OverOne) (r : Fraction) → p ≡ q → Denotes v p r → Denotes v q r
same_poly v p q r e h = subst (λ (t : OverOne). Denotes v t r) e h

pub expands : Premises → (v : Valuation) (e : Expr) (p : OverOne) → ArePositive v → Fits (length v) e → expansion e ≡ Ok p → HasMeaning v e p
unfolding expansion meaning
expands laws v (Literal q) p h fits e = record { worth = (q.num, q.den); is = refl; denotes = same_poly v _ p _ (cc) (literal_denotes laws v q fits.positive) }
expands laws v (Parameter i) p h fits e = record { worth = at v i; is = refl; denotes = same_poly v _ p _ (cc) (parameter_denotes v i h fits) }
expands laws v (Negative a) p h fits e =
    let x = bind_ok (expansion a) (λ x. Ok (negative x)) p e in
    let ha = expands laws v a x.0 h fits x.1 in
    record {
      worth = (negsuc 0 *ℤ ha.worth.0, ha.worth.1);
      is = ap opposite ha.is;
      denotes = same_poly v (negative x.0) p _ (let f = x.2 in cc) (negative_denotes laws v x.0 ha.worth ha.denotes);
    }
expands laws v (Sum a b) p h fits e =
    let x = bind_ok (expansion a) (λ x. expansion b >>= (λ y. sum x y)) p e in
    let y = bind_ok (expansion b) (λ y. sum x.0 y) p x.2 in
    let ha = expands laws v a x.0 h fits.0 x.1 in
    let hb = expands laws v b y.0 h fits.1 y.1 in
    record {
      worth = (ha.worth.0 *ℤ hb.worth.1 +ℤ hb.worth.0 *ℤ ha.worth.1, ha.worth.1 *ℤ hb.worth.1);
      is = both_is _ _ _ ha.worth hb.worth ha.is hb.is;
      denotes = sum_denotes laws v x.0 y.0 p ha.worth hb.worth ha.denotes hb.denotes y.2;
    }
expands laws v (Difference a b) p h fits e =
    let x = bind_ok (expansion a) (λ x. expansion b >>= (λ y. difference x y)) p e in
    let y = bind_ok (expansion b) (λ y. difference x.0 y) p x.2 in
    let ha = expands laws v a x.0 h fits.0 x.1 in
    let hb = expands laws v b y.0 h fits.1 y.1 in
    record {
      worth = (ha.worth.0 *ℤ hb.worth.1 +ℤ (negsuc 0 *ℤ hb.worth.0) *ℤ ha.worth.1, ha.worth.1 *ℤ hb.worth.1);
      is = both_is _ _ _ ha.worth hb.worth ha.is hb.is;
      denotes = sum_denotes laws v x.0 (negative y.0) p ha.worth (negsuc 0 *ℤ hb.worth.0, hb.worth.1) ha.denotes (negative_denotes laws v y.0 hb.worth hb.denotes) y.2;
    }
expands laws v (Product a b) p h fits e =
    let x = bind_ok (expansion a) (λ x. expansion b >>= (λ y. product x y)) p e in
    let y = bind_ok (expansion b) (λ y. product x.0 y) p x.2 in
    let ha = expands laws v a x.0 h fits.0 x.1 in
    let hb = expands laws v b y.0 h fits.1 y.1 in
    record {
      worth = (ha.worth.0 *ℤ hb.worth.0, ha.worth.1 *ℤ hb.worth.1);
      is = both_is _ _ _ ha.worth hb.worth ha.is hb.is;
      denotes = product_denotes laws v x.0 y.0 p ha.worth hb.worth h ha.denotes hb.denotes y.2;
    }
expands laws v (Quotient a b) p h fits e =
    let x = bind_ok (expansion a) (λ x. expansion b >>= (λ y. quotient x y)) p e in
    let y = bind_ok (expansion b) (λ y. quotient x.0 y) p x.2 in
    let ha = expands laws v a x.0 h fits.0 x.1 in
    let hb = expands laws v b y.0 h fits.1 y.1 in
    let q = quotient_denotes laws v x.0 y.0 p ha.worth hb.worth h ha.denotes hb.denotes y.2 in
    record {
      worth = q.worth;
      is = both_is _ _ _ ha.worth hb.worth ha.is hb.is ∙ q.is;
      denotes = q.denotes;
    }
