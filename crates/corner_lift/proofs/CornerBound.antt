-- The corner bound: a polynomial that is at most 0 at every corner of a rectangle is at most 0 at every valuation inside it. One parameter is fixed at a time.
use Rattle.std.proofs.Common.{◌≡◌, ◌==◌, cond, ℕ, zero, suc, ◌+◌, ◌*◌, ◌/◌, ◌%◌, ◌^◌, ◌<◌, ◌≤◌, List, [], ◌∷◌, ℤ, pos, ◌+ℤ◌, ◌-ℤ◌, ◌*ℤ◌, ◌≤ℤ◌, ◌<ℤ◌, refl, sym, ap, ap₂, ◌∙◌, subst, arith, ◌⊎◌, inl, inr, ⊎_elim, bit_or, zero-add, one-add}
use Rattle.std.proofs.lemmas.Bool.{cases_eq}
use Rattle.std.proofs.lemmas.Nat.{or_mod, or_shr, le_or_l}
use Rattle.lift_poly.specs.Polynomial.{Term, Valuation, factor, monomial, weight}
use Rattle.lift_poly.proofs.Ring.{linear, mul-assoc, mul-comm, mul-zero, zero-mul, mul-le, mul-le_cancel, mul-lt, as_diff, diffs, diff-same}
use Rattle.lift_poly.specs.Laws.{IsAffineInEach}
use Rattle.lift_grid.specs.Rectangle.{Spans, Inside, end_of, AreSpans}
use Rattle.corner_lift.specs.Corner.{parameter_count, corner}
use Rattle.corner_lift.specs.Case.{Within}

-- a number is even or odd
pub parity : (n : ℕ) → (n % 2 ≡ 0) ⊎ (n % 2 ≡ 1)
parity n = ⊎_elim (λ (e : n % 2 ≡ 0). inl e) (λ (e : n % 2 ≡ 0 → ⊥). inr (omega arith)) (cases_eq (n % 2) 0)

-- the polynomial in the other parameters that is left when the first one is given
unfoldable pub fixed : ℤ × ℤ → List Term → List Term
fixed x [] = []
fixed x (t ∷ ts) = (t.0 / 2, t.1 *ℤ factor (t.0 % 2) x) ∷ fixed x ts

pub weight-fixed : (x : ℤ × ℤ) (v : Valuation) (ts : List Term) → weight (x ∷ v) ts ≡ weight v (fixed x ts)
unfolding fixed
weight-fixed x v [] = refl
weight-fixed x v (t ∷ ts) = ap₂ ◌+ℤ◌ (sym (mul-assoc t.1 (factor (t.0 % 2) x) (monomial v (t.0 / 2)))) (weight-fixed x v ts)

-- a multi-affine polynomial is linear in the pair of its first parameter
pub fixed-split : IsAffineInEach → (n d : ℤ) (v : Valuation) (ts : List Term) → weight v (fixed (n, d) ts) ≡ n *ℤ weight v (fixed (pos 1, pos 0) ts) +ℤ d *ℤ weight v (fixed (pos 0, pos 1) ts)
fixed-split affine n d v ts =
    sym (weight-fixed (n, d) v ts) ∙ affine [] v n d ts
    ∙ ap₂ (λ p q. n *ℤ p +ℤ d *ℤ q) (weight-fixed (pos 1, pos 0) v ts) (weight-fixed (pos 0, pos 1) v ts)

-- D (hi - lo) (n a + d b) = (hi d - n D) (lo a + D b) + (n D - lo d) (hi a + D b)
between : (lo hi D n d a b : ℤ) → (D *ℤ (hi -ℤ lo)) *ℤ (n *ℤ a +ℤ d *ℤ b) ≡ (hi *ℤ d -ℤ n *ℤ D) *ℤ (lo *ℤ a +ℤ D *ℤ b) +ℤ (n *ℤ D -ℤ lo *ℤ d) *ℤ (hi *ℤ a +ℤ D *ℤ b)
between lo hi D n d a b =
    rw (as_diff lo, as_diff hi, as_diff D, as_diff n, as_diff d, as_diff a, as_diff b) (simp diffs (diff-same _ _ _ _ (omega arith)))

pub mul-nonpos : (a b : ℤ) → pos 0 ≤ℤ a → b ≤ℤ pos 0 → (a *ℤ b) ≤ℤ pos 0
mul-nonpos a b h k = let f = mul-le a b (pos 0) h k in omega (arith, linear, f, mul-zero a)

pub mul-pos_lem : (a b : ℤ) → pos 0 <ℤ a → pos 0 <ℤ b → pos 0 <ℤ (a *ℤ b)
mul-pos_lem a b h k = let f = mul-lt a (pos 0) b h k in omega (arith, linear, f, mul-zero a)

-- a linear function that is at most 0 at both ends is so between them
one_parameter : (lo hi D n d a b : ℤ) → lo <ℤ hi → pos 0 <ℤ D → (lo *ℤ d) ≤ℤ (n *ℤ D) → (n *ℤ D) ≤ℤ (hi *ℤ d) → (lo *ℤ a +ℤ D *ℤ b) ≤ℤ pos 0 → (hi *ℤ a +ℤ D *ℤ b) ≤ℤ pos 0 → (n *ℤ a +ℤ d *ℤ b) ≤ℤ pos 0
one_parameter lo hi D n d a b order positive above below low high =
    let wide : pos 0 <ℤ (hi -ℤ lo) = omega (arith, linear) in
    let factor : pos 0 <ℤ (D *ℤ (hi -ℤ lo)) = mul-pos_lem D (hi -ℤ lo) positive wide in
    let first = mul-nonpos (hi *ℤ d -ℤ n *ℤ D) (lo *ℤ a +ℤ D *ℤ b) (omega (arith, linear)) low in
    let second = mul-nonpos (n *ℤ D -ℤ lo *ℤ d) (hi *ℤ a +ℤ D *ℤ b) (omega (arith, linear)) high in
    let e = between lo hi D n d a b in
    mul-le_cancel (D *ℤ (hi -ℤ lo)) (n *ℤ a +ℤ d *ℤ b) (pos 0) factor (omega (arith, linear, first, second, e, mul-zero (D *ℤ (hi -ℤ lo))))

-- each set of the polynomial is part of the set
unfoldable pub TermsIn : ℕ → List Term → Type 0
TermsIn set [] = Unit {0}
TermsIn set (t ∷ ts) = (bit_or t.0 set ≡ set) × TermsIn set ts

pub halved : (m set : ℕ) → bit_or m set ≡ set → bit_or (m / 2) (set / 2) ≡ set / 2
halved m set h = sym (or_shr m set 1) ∙ ap (λ k. k / 2) h

pub even_part : (m set : ℕ) → bit_or m set ≡ set → set % 2 ≡ 0 → m % 2 ≡ 0
even_part m set h e =
    let low : m % 2 ≤ bit_or (m % 2) (set % 2) = le_or_l (m % 2) (set % 2) in
    let same : bit_or (m % 2) (set % 2) ≡ set % 2 = sym (or_mod m set 1) ∙ ap (λ k. k % 2) h in
    omega arith

pub TermsIn-fixed : (x : ℤ × ℤ) (set : ℕ) (ts : List Term) → TermsIn set ts → TermsIn (set / 2) (fixed x ts)
unfolding TermsIn fixed
TermsIn-fixed x set [] h = tt
TermsIn-fixed x set (t ∷ ts) h = (halved t.0 set h.0, TermsIn-fixed x set ts h.1)

-- where the first parameter is in no set, its numerator plays no part
pub no_numerator : (v : Valuation) (set : ℕ) (ts : List Term) → TermsIn set ts → set % 2 ≡ 0 → weight v (fixed (pos 1, pos 0) ts) ≡ pos 0
unfolding TermsIn fixed
no_numerator v set [] h e = refl
no_numerator v set (t ∷ ts) h e =
    let even : t.0 % 2 ≡ 0 = even_part t.0 set h.0 e in
    rw (even, mul-zero, zero-mul) (omega (arith, linear, no_numerator v set ts h.1 e))

pub corner-out : (D : ℤ) (s : ℤ × ℤ) (ss : Spans) (set c : ℕ) → set % 2 ≡ 0 → corner D (s ∷ ss) set c ≡ (pos 0, pos 1) ∷ corner D ss (set / 2) c
corner-out D s ss set c e = ap (λ b. cond (b == 0) ((pos 0, pos 1) ∷ corner D ss (set / 2) c) ((end_of (c % 2) s, D) ∷ corner D ss (set / 2) (c / 2))) e

pub corner-in : (D : ℤ) (s : ℤ × ℤ) (ss : Spans) (set c : ℕ) → set % 2 ≡ 1 → corner D (s ∷ ss) set c ≡ (end_of (c % 2) s, D) ∷ corner D ss (set / 2) (c / 2)
corner-in D s ss set c e = ap (λ b. cond (b == 0) ((pos 0, pos 1) ∷ corner D ss (set / 2) c) ((end_of (c % 2) s, D) ∷ corner D ss (set / 2) (c / 2))) e

corner-low : (D : ℤ) (s : ℤ × ℤ) (ss : Spans) (set c : ℕ) → set % 2 ≡ 1 → corner D (s ∷ ss) set (2 * c) ≡ (s.0, D) ∷ corner D ss (set / 2) c
corner-low D s ss set c e =
    let half : 2 * c / 2 ≡ c = omega arith in
    let bit : 2 * c % 2 ≡ 0 = omega arith in
    ap (λ b. cond (b == 0) ((pos 0, pos 1) ∷ corner D ss (set / 2) (2 * c)) ((end_of (2 * c % 2) s, D) ∷ corner D ss (set / 2) (2 * c / 2))) e
    ∙ ap₂ (λ (b k : ℕ). (end_of b s, D) ∷ corner D ss (set / 2) k) bit half

corner-high : (D : ℤ) (s : ℤ × ℤ) (ss : Spans) (set c : ℕ) → set % 2 ≡ 1 → corner D (s ∷ ss) set (2 * c + 1) ≡ (s.1, D) ∷ corner D ss (set / 2) c
corner-high D s ss set c e =
    let half : (2 * c + 1) / 2 ≡ c = omega arith in
    let bit : (2 * c + 1) % 2 ≡ 1 = omega arith in
    ap (λ b. cond (b == 0) ((pos 0, pos 1) ∷ corner D ss (set / 2) (2 * c + 1)) ((end_of ((2 * c + 1) % 2) s, D) ∷ corner D ss (set / 2) ((2 * c + 1) / 2))) e
    ∙ ap₂ (λ (b k : ℕ). (end_of b s, D) ∷ corner D ss (set / 2) k) bit half

-- the polynomial is at most 0 at every corner
unfoldable pub CornersNonpos : ℤ → Spans → ℕ → List Term → Type 0
CornersNonpos D ss set ts = (c : ℕ) → c < 2 ^ parameter_count ss set → weight (corner D ss set c) ts ≤ℤ pos 0

corners-out : (D : ℤ) (s : ℤ × ℤ) (ss : Spans) (set : ℕ) (ts : List Term) → set % 2 ≡ 0 → CornersNonpos D (s ∷ ss) set ts → CornersNonpos D ss (set / 2) (fixed (pos 0, pos 1) ts)
unfolding CornersNonpos
corners-out D s ss set ts e h c lt =
    let low : c < 2 ^ (set % 2 + parameter_count ss (set / 2)) = rw (e, zero-add) lt in
    let at = h c low in
    let same : weight (corner D (s ∷ ss) set c) ts ≡ weight (corner D ss (set / 2) c) (fixed (pos 0, pos 1) ts) =
    ap (λ v. weight v ts) (corner-out D s ss set c e) ∙ weight-fixed (pos 0, pos 1) (corner D ss (set / 2) c) ts in
    subst (λ z. z ≤ℤ pos 0) same at

corners-in : IsAffineInEach → (D : ℤ) (s : ℤ × ℤ) (ss : Spans) (set : ℕ) (ts : List Term) (n d : ℤ) → set % 2 ≡ 1 → s.0 <ℤ s.1 → pos 0 <ℤ D → (s.0 *ℤ d) ≤ℤ (n *ℤ D) → (n *ℤ D) ≤ℤ (s.1 *ℤ d) → CornersNonpos D (s ∷ ss) set ts → CornersNonpos D ss (set / 2) (fixed (n, d) ts)
unfolding CornersNonpos
corners-in affine D s ss set ts n d e order positive above below h c lt =
    let count : 2 ^ (set % 2 + parameter_count ss (set / 2)) ≡ 2 * 2 ^ parameter_count ss (set / 2) = rw (e, one-add) (omega arith) in
    let rest = corner D ss (set / 2) c in
    let a = weight rest (fixed (pos 1, pos 0) ts) in
    let b = weight rest (fixed (pos 0, pos 1) ts) in
    let low : (s.0 *ℤ a +ℤ D *ℤ b) ≤ℤ pos 0 =
    subst (λ z. z ≤ℤ pos 0) (ap (λ v. weight v ts) (corner-low D s ss set c e) ∙ weight-fixed (s.0, D) rest ts ∙ fixed-split affine s.0 D rest ts) (h (2 * c) (omega arith)) in
    let high : (s.1 *ℤ a +ℤ D *ℤ b) ≤ℤ pos 0 =
    subst (λ z. z ≤ℤ pos 0) (ap (λ v. weight v ts) (corner-high D s ss set c e) ∙ weight-fixed (s.1, D) rest ts ∙ fixed-split affine s.1 D rest ts) (h (2 * c + 1) (omega arith)) in
    subst (λ z. z ≤ℤ pos 0) (sym (fixed-split affine n d rest ts)) (one_parameter s.0 s.1 D n d a b order positive above below low high)

-- inside as far as the parameters of the set go: of the others only the denominator is above 0
abbrev pub InsideOn : ℤ → Spans → ℕ → Valuation → Type 0
InsideOn d [] set [] = Unit {0}
InsideOn d (s ∷ ss) set (x ∷ v) = (pos 0 <ℤ x.1) × (set % 2 ≡ 1 → (s.0 *ℤ x.1) ≤ℤ (x.0 *ℤ d)) × (set % 2 ≡ 1 → (x.0 *ℤ d) ≤ℤ (s.1 *ℤ x.1)) × InsideOn d ss (set / 2) v
InsideOn d _ set _ = ⊥

pub Inside-on : (d : ℤ) (ss : Spans) (set : ℕ) (v : Valuation) → Inside d ss v → InsideOn d ss set v
Inside-on d [] set [] i = tt
Inside-on d (s ∷ ss) set (x ∷ v) i = (i.0, λ e. i.1, λ e. i.2, Inside-on d ss (set / 2) v i.3)
Inside-on d [] set (x ∷ v) i = absurd i
Inside-on d (s ∷ ss) set [] i = absurd i

pub corner_bound : IsAffineInEach → (D : ℤ) → pos 0 <ℤ D → (ss : Spans) (set : ℕ) (ts : List Term) (v : Valuation) → TermsIn set ts → AreSpans ss → CornersNonpos D ss set ts → InsideOn D ss set v → weight v ts ≤ℤ pos 0
unfolding TermsIn CornersNonpos
corner_bound affine D positive [] set ts [] within ordered h inside = h 0 (omega arith)
corner_bound affine D positive (s ∷ ss) set ts (x ∷ v) within ordered h inside =
    ⊎_elim
    (λ (e : set % 2 ≡ 0).
    let rest = corner_bound affine D positive ss (set / 2) (fixed (pos 0, pos 1) ts) v (TermsIn-fixed (pos 0, pos 1) set ts within) ordered.1 (corners-out D s ss set ts e h) inside.3 in
    let same : weight (x ∷ v) ts ≡ x.1 *ℤ weight v (fixed (pos 0, pos 1) ts) =
    weight-fixed x v ts ∙ fixed-split affine x.0 x.1 v ts ∙ rw (no_numerator v set ts within e, mul-zero) (omega (arith, linear)) in
    subst (λ z. z ≤ℤ pos 0) (sym same) (mul-nonpos x.1 (weight v (fixed (pos 0, pos 1) ts)) (omega (arith, linear, inside.0)) rest))
    (λ (e : set % 2 ≡ 1).
    let rest = corner_bound affine D positive ss (set / 2) (fixed x ts) v (TermsIn-fixed x set ts within) ordered.1 (corners-in affine D s ss set ts x.0 x.1 e ordered.0.rising positive (inside.1 e) (inside.2 e) h) inside.3 in
    subst (λ z. z ≤ℤ pos 0) (sym (weight-fixed x v ts)) rest)
    (parity set)
corner_bound affine D positive [] set ts (x ∷ v) within ordered h inside = absurd inside
corner_bound affine D positive (s ∷ ss) set ts [] within ordered h inside = absurd inside

-- ---- the corners of a rectangle within a root
pub corner-inside : (d : ℤ) → pos 0 <ℤ d → (ss root : Spans) → AreSpans ss → Within ss root → (set c : ℕ) → InsideOn d root set (corner d ss set c)
corner-inside d positive [] [] o w set c = tt
corner-inside d positive (s ∷ ss) (r ∷ root) o w set c =
    ⊎_elim
    (λ (e : set % 2 ≡ 0).
    subst (InsideOn d (r ∷ root) set) (sym (corner-out d s ss set c e))
    (omega (arith, linear), λ k. absurd (omega arith), λ k. absurd (omega arith), corner-inside d positive ss root o.1 w.2 (set / 2) c))
    (λ (e : set % 2 ≡ 1).
    let ends = end-between s r (c % 2) o.0.rising w.0 w.1 in
    let d_least : pos 0 ≤ℤ d = omega (arith, linear) in
    let low = mul-le d r.0 (end_of (c % 2) s) d_least ends.0 in
    let high = mul-le d (end_of (c % 2) s) r.1 d_least ends.1 in
    subst (InsideOn d (r ∷ root) set) (sym (corner-in d s ss set c e))
    (positive, λ k. omega (arith, linear, low, mul-comm d r.0, mul-comm d (end_of (c % 2) s)), λ k. omega (arith, linear, high, mul-comm d r.1, mul-comm d (end_of (c % 2) s)), corner-inside d positive ss root o.1 w.2 (set / 2) (c / 2)))
    (parity set)
  where
    end-between : (s r : ℤ × ℤ) (b : ℕ) → s.0 <ℤ s.1 → r.0 ≤ℤ s.0 → s.1 ≤ℤ r.1 → (r.0 ≤ℤ end_of b s) × (end_of b s ≤ℤ r.1)
    end-between s r zero o l h = (l, omega (arith, linear))
    end-between s r (suc b) o l h = (omega (arith, linear), h)
corner-inside d positive [] (r ∷ root) o w set c = absurd w
corner-inside d positive (s ∷ ss) [] o w set c = absurd w
