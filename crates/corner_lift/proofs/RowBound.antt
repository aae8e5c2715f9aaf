-- The corner bound for the rows of a model: what holds of a row's weighted sum at each of its corners holds at each valuation inside.
use Rattle.std.proofs.Common.{◌≡◌, ℕ, zero, suc, ◌+◌, ◌/◌, ◌%◌, ◌^◌, ◌<◌, List, [], ◌∷◌, ◌++◌, ℤ, pos, ◌+ℤ◌, ◌*ℤ◌, neg_ℤ, ◌≤ℤ◌, ◌<ℤ◌, refl, sym, ap, ap₂, ◌∙◌, arith, ⊎_elim, bit_or, zero-add, one-add}
use lib.Bits.{or_self, or_comm}
use Rattle.std.proofs.lemmas.Nat.Bits.{same_from_bits, bit_at_or}
use borrow.Author.Differences.{product_is}
use Rattle.lift_poly.specs.Polynomial.{Term, Valuation, monomial, weight, denominator}
use Rattle.lift_poly.specs.Arithmetic as polynomial
use Rattle.lift_poly.proofs.Ring.{linear, mul-assoc, mul-comm, mul-zero, zero-mul, one-mul, mul-le, as_diff, diffs, diff-same}
use Rattle.lift_poly.specs.Laws.{IsAffineInEach}
use Rattle.lift_grid.specs.Rectangle.{Spans, AreSpans}
use Rattle.lift_model.specs.declared.entry.Entry.{Entry}
use Rattle.lift_model.specs.Process.{power, weighted_sum}
use Rattle.lift_model.specs.Model.{support, moves_at}
use Rattle.corner_lift.specs.Corner.{parameter_count, corner, corner_sum}
use Rattle.corner_lift.proofs.CornerBound.{parity, TermsIn, InsideOn, CornersNonpos, corner_bound, mul-pos_lem, corner-in, corner-out}

-- a row's weighted sum at a valuation
abbrev pub row_sum : Valuation → (ℕ → ℤ) → List Entry → ℤ
row_sum v z row = weighted_sum z (moves_at v row)

-- what terms and more terms weigh
pub weight-append : (v : Valuation) (ts us : List Term) → weight v (ts ++ us) ≡ weight v ts +ℤ weight v us
weight-append v [] us = omega (arith, linear)
weight-append v (t ∷ ts) us = omega (arith, linear, weight-append v ts us)

-- ---- sets

or_assoc : (a b c : ℕ) → bit_or (bit_or a b) c ≡ bit_or a (bit_or b c)
or_assoc a b c =
    same_from_bits (bit_or (bit_or a b) c) (bit_or a (bit_or b c))
    (λ i. omega (arith, bit_at_or (bit_or a b) c i, bit_at_or a b i, bit_at_or a (bit_or b c) i, bit_at_or b c i))

-- the first set is part of the second
unfoldable pub PartOf : ℕ → ℕ → Type 0
PartOf a b = bit_or a b ≡ b

pub PartOf-first : (a b : ℕ) → PartOf a (bit_or a b)
unfolding PartOf
PartOf-first a b = sym (or_assoc a a b) ∙ ap (λ x. bit_or x b) (or_self a)

pub PartOf-second : (a b : ℕ) → PartOf b (bit_or a b)
unfolding PartOf
PartOf-second a b = or_comm b (bit_or a b) ∙ or_assoc a b b ∙ ap (bit_or a) (or_self b)

pub PartOf-trans : (a b c : ℕ) → PartOf a b → PartOf b c → PartOf a c
unfolding PartOf
PartOf-trans a b c h k = ap (bit_or a) (sym k) ∙ sym (or_assoc a b c) ∙ ap (λ x. bit_or x c) h ∙ k

pub TermsIn-more : (a b : ℕ) (ts : List Term) → PartOf a b → TermsIn a ts → TermsIn b ts
unfolding TermsIn PartOf
TermsIn-more a b [] h k = tt
TermsIn-more a b (t ∷ ts) h k = (PartOf-trans t.0 a b k.0 h, TermsIn-more a b ts h k.1)

pub terms_in : (ts : List Term) → TermsIn (polynomial.support ts) ts
unfolding TermsIn PartOf
terms_in [] = tt
terms_in (t ∷ ts) = (PartOf-first t.0 (polynomial.support ts), TermsIn-more (polynomial.support ts) (bit_or t.0 (polynomial.support ts)) ts (PartOf-second t.0 (polynomial.support ts)) (terms_in ts))

-- ---- a row with a vector is one polynomial
unfoldable pub scaled : ℤ → List Term → List Term
scaled k [] = []
scaled k (t ∷ ts) = (t.0, t.1 *ℤ k) ∷ scaled k ts

pub weight-scaled_by : (v : Valuation) (k : ℤ) (ts : List Term) → weight v (scaled k ts) ≡ weight v ts *ℤ k
unfolding scaled
weight-scaled_by v k [] = sym (zero-mul k)
weight-scaled_by v k (t ∷ ts) = ap (λ z. (t.1 *ℤ k) *ℤ monomial v t.0 +ℤ z) (weight-scaled_by v k ts) ∙ rw (as_diff t.1, as_diff k, as_diff (monomial v t.0), as_diff (weight v ts)) (simp diffs (diff-same _ _ _ _ (omega arith)))

pub TermsIn-scaled : (a : ℕ) (k : ℤ) (ts : List Term) → TermsIn a ts → TermsIn a (scaled k ts)
unfolding TermsIn scaled
TermsIn-scaled a k [] h = tt
TermsIn-scaled a k (t ∷ ts) h = (h.0, TermsIn-scaled a k ts h.1)

pub TermsIn-append : (a : ℕ) (ts us : List Term) → TermsIn a ts → TermsIn a us → TermsIn a (ts ++ us)
unfolding TermsIn
TermsIn-append a [] us h k = k
TermsIn-append a (t ∷ ts) us h k = (h.0, TermsIn-append a ts us h.1 k)

unfoldable pub row_terms : (ℕ → ℤ) → List Entry → List Term
row_terms z [] = []
row_terms z (e ∷ row) = scaled (z e.target) e.poly ++ row_terms z row

pub weight-row_terms : (v : Valuation) (z : ℕ → ℤ) (row : List Entry) → weight v (row_terms z row) ≡ row_sum v z row
unfolding row_terms
weight-row_terms v z [] = refl
weight-row_terms v z (e ∷ row) = weight-append v (scaled (z e.target) e.poly) (row_terms z row) ∙ ap₂ ◌+ℤ◌ (weight-scaled_by v (z e.target) e.poly) (weight-row_terms v z row)

row_in : (z : ℕ → ℤ) (row : List Entry) → TermsIn (support row) (row_terms z row)
unfolding TermsIn row_terms
row_in z [] = tt
row_in z (e ∷ row) =
    TermsIn-append (support (e ∷ row)) (scaled (z e.target) e.poly) (row_terms z row)
    (TermsIn-more (polynomial.support e.poly) (support (e ∷ row)) _ (PartOf-first (polynomial.support e.poly) (support row)) (TermsIn-scaled (polynomial.support e.poly) (z e.target) e.poly (terms_in e.poly)))
    (TermsIn-more (support row) (support (e ∷ row)) (row_terms z row) (PartOf-second (polynomial.support e.poly) (support row)) (row_in z row))

unfoldable pub less : ℤ → List Term
less k = (0, neg_ℤ k) ∷ []

pub less_in : (a : ℕ) (k : ℤ) → TermsIn a (less k)
unfolding TermsIn less
less_in a k = (refl, tt)

all_in : (z : ℕ → ℤ) (row : List Entry) (k : ℤ) → TermsIn (support row) (row_terms z row ++ less k)
all_in z row k = TermsIn-append (support row) (row_terms z row) (less k) (row_in z row) (less_in (support row) k)

-- ---- the product of denominators
pub monomial-empty : (v : Valuation) → monomial v 0 ≡ denominator v
monomial-empty [] = refl
monomial-empty (x ∷ v) = ap (λ z. x.1 *ℤ z) (monomial-empty v)

pub denominator-corner : (D : ℤ) (ss : Spans) (set c : ℕ) → denominator (corner D ss set c) ≡ power D (parameter_count ss set)
denominator-corner D [] set c = refl
denominator-corner D (s ∷ ss) set c =
    ⊎_elim
    (λ (e : set % 2 ≡ 0).
    ap denominator (corner-out D s ss set c e) ∙ one-mul (denominator (corner D ss (set / 2) c)) ∙ denominator-corner D ss (set / 2) c
    ∙ sym (ap (λ b. power D (b + parameter_count ss (set / 2))) e ∙ ap (power D) (zero-add (parameter_count ss (set / 2)))))
    (λ (e : set % 2 ≡ 1).
    ap denominator (corner-in D s ss set c e) ∙ ap (λ z. D *ℤ z) (denominator-corner D ss (set / 2) (c / 2))
    ∙ sym (ap (λ b. power D (b + parameter_count ss (set / 2))) e ∙ ap (power D) (one-add (parameter_count ss (set / 2)))))
    (parity set)

-- ---- the bound
pub weight-less : (v : Valuation) (k : ℤ) → weight v (less k) ≡ neg_ℤ (k *ℤ denominator v)
unfolding less
weight-less v k = rw (monomial-empty v, as_diff k, as_diff (denominator v)) (simp diffs (diff-same _ _ _ _ (omega arith)))

-- what holds at each corner of the row holds at each valuation inside
pub row_upper : IsAffineInEach → (D : ℤ) → pos 0 <ℤ D → (ss : Spans) → AreSpans ss → (row : List Entry) (z : ℕ → ℤ) (k : ℤ) → ((c : ℕ) → c < 2 ^ parameter_count ss (support row) → corner_sum D ss row c z ≤ℤ (k *ℤ power D (parameter_count ss (support row)))) → (v : Valuation) → InsideOn D ss (support row) v → row_sum v z row ≤ℤ (k *ℤ denominator v)
unfolding CornersNonpos
row_upper affine D positive ss ordered row z k h v inside =
    let all = row_terms z row ++ less k in
    let total : (v : Valuation) → weight v all ≡ row_sum v z row +ℤ neg_ℤ (k *ℤ denominator v) =
    λ v. weight-append v (row_terms z row) (less k) ∙ ap₂ ◌+ℤ◌ (weight-row_terms v z row) (weight-less v k) in
    let at_corners : CornersNonpos D ss (support row) all =
    λ c lt. let e = denominator-corner D ss (support row) c in
    let bound : row_sum (corner D ss (support row) c) z row ≤ℤ (k *ℤ denominator (corner D ss (support row) c)) = rw e (h c lt) in
    rw (total (corner D ss (support row) c)) (omega (arith, linear, bound)) in
    let result : weight v all ≤ℤ pos 0 = corner_bound affine D positive ss (support row) all v (all_in z row k) ordered at_corners inside in
    omega (arith, linear, result, total v)

pub row_sum-times : (v : Valuation) (w : ℤ) (z : ℕ → ℤ) (row : List Entry) → row_sum v (λ s. w *ℤ z s) row ≡ w *ℤ row_sum v z row
row_sum-times v w z [] = sym (mul-zero w)
row_sum-times v w z (e ∷ row) =
    ap (λ r. weight v e.poly *ℤ (w *ℤ z e.target) +ℤ r) (row_sum-times v w z row)
    ∙ rw (as_diff (weight v e.poly), as_diff w, as_diff (z e.target), as_diff (row_sum v z row)) (simp diffs (diff-same _ _ _ _ (omega arith)))

pub minus-one : (a : ℤ) → neg_ℤ (pos 1) *ℤ a ≡ neg_ℤ a
minus-one a = omega (arith, linear, product_is)

pub power-pos : (b : ℤ) (n : ℕ) → pos 0 <ℤ b → pos 0 <ℤ power b n
power-pos b zero h = omega (arith, linear)
power-pos b (suc n) h = mul-pos_lem b (power b n) h (power-pos b n h)

pub row_lower : IsAffineInEach → (D : ℤ) → pos 0 <ℤ D → (ss : Spans) → AreSpans ss → (row : List Entry) (z : ℕ → ℤ) (k : ℤ) → ((c : ℕ) → c < 2 ^ parameter_count ss (support row) → (k *ℤ power D (parameter_count ss (support row))) ≤ℤ corner_sum D ss row c z) → (v : Valuation) → InsideOn D ss (support row) v → (k *ℤ denominator v) ≤ℤ row_sum v z row
row_lower affine D positive ss ordered row z k h v inside =
    let minus : ℤ = neg_ℤ (pos 1) in
    let p = power D (parameter_count ss (support row)) in
    let at_corners : (c : ℕ) → c < 2 ^ parameter_count ss (support row) → corner_sum D ss row c (λ s. minus *ℤ z s) ≤ℤ ((minus *ℤ k) *ℤ p) =
    λ c lt. rw (row_sum-times (corner D ss (support row) c) minus z row, mul-assoc minus k p)
    (omega (arith, linear, h c lt, minus-one (row_sum (corner D ss (support row) c) z row), minus-one (k *ℤ p))) in
    let result = row_upper affine D positive ss ordered row (λ s. minus *ℤ z s) (minus *ℤ k) at_corners v inside in
    omega (arith, linear, result, row_sum-times v minus z row, mul-assoc minus k (denominator v), minus-one (row_sum v z row), minus-one (k *ℤ denominator v))

-- ((k C) p) as (C p) k
swap_factors : (k c p : ℤ) → (k *ℤ c) *ℤ p ≡ (c *ℤ p) *ℤ k
swap_factors k c p = rw (as_diff k, as_diff c, as_diff p) (simp diffs (diff-same _ _ _ _ (omega arith)))

-- The corner bound from above, for a number that no corner's sum exceeds: each side over its own total.
pub row_upper_at : IsAffineInEach → (D : ℤ) → pos 0 <ℤ D → (ss : Spans) → AreSpans ss → (row : List Entry) (z : ℕ → ℤ) (common high : ℤ) → pos 0 <ℤ common → ((c : ℕ) → c < 2 ^ parameter_count ss (support row) → corner_sum D ss row c z ≤ℤ high) → (v : Valuation) → InsideOn D ss (support row) v → (row_sum v z row *ℤ (common *ℤ power D (parameter_count ss (support row)))) ≤ℤ (high *ℤ (common *ℤ denominator v))
row_upper_at affine D positive ss spans row z common high common_positive upper v inside =
    let p = power D (parameter_count ss (support row)) in
    let w = common *ℤ p in
    let w_positive : pos 0 <ℤ w = mul-pos_lem common p common_positive (power-pos D (parameter_count ss (support row)) positive) in
    let highs = row_upper affine D positive ss spans row (λ s. w *ℤ z s) (high *ℤ common)
    (λ c lt. rw (row_sum-times (corner D ss (support row) c) w z row, swap_factors high common p) (mul-le w _ high (omega (arith, linear, w_positive)) (upper c lt))) v inside in
    omega (arith, linear, highs, row_sum-times v w z row, mul-comm w (row_sum v z row), mul-assoc high common (denominator v))

-- the corner bound from below
pub row_lower_at : IsAffineInEach → (D : ℤ) → pos 0 <ℤ D → (ss : Spans) → AreSpans ss → (row : List Entry) (z : ℕ → ℤ) (common low : ℤ) → pos 0 <ℤ common → ((c : ℕ) → c < 2 ^ parameter_count ss (support row) → low ≤ℤ corner_sum D ss row c z) → (v : Valuation) → InsideOn D ss (support row) v → (low *ℤ (common *ℤ denominator v)) ≤ℤ (row_sum v z row *ℤ (common *ℤ power D (parameter_count ss (support row))))
row_lower_at affine D positive ss spans row z common low common_positive lower v inside =
    let p = power D (parameter_count ss (support row)) in
    let w = common *ℤ p in
    let w_positive : pos 0 <ℤ w = mul-pos_lem common p common_positive (power-pos D (parameter_count ss (support row)) positive) in
    let lows = row_lower affine D positive ss spans row (λ s. w *ℤ z s) (low *ℤ common)
    (λ c lt. rw (row_sum-times (corner D ss (support row) c) w z row, swap_factors low common p) (mul-le w low _ (omega (arith, linear, w_positive)) (lower c lt))) v inside in
    omega (arith, linear, lows, row_sum-times v w z row, mul-comm w (row_sum v z row), mul-assoc low common (denominator v))
