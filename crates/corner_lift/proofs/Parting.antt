-- A weight at a corner from two parts: what the terms weigh that have a parameter, and what the others weigh.
use Rattle.std.proofs.Common.{◌≡◌, ◌==◌, cond, ℕ, zero, suc, ◌+◌, ◌*◌, ◌/◌, ◌%◌, ◌^◌, ◌<◌, ◌≤◌, List, [], ◌∷◌, ◌++◌, length, take, get_or, ℤ, pos, ◌+ℤ◌, ◌*ℤ◌, ◌<ℤ◌, unsigned_abs, FitsSigned, refl, sym, ap, ap₂, ◌∙◌, arith, map, slice_set, pow-suc, mul_assoc, mul-le-mul, mul-le-mul_left, mul-le-mul_right, le_trans}
use Rattle.std.proofs.lemmas.Int.{fits_signed_from_abs, unsigned_abs-mul, ints}
use Rattle.std.proofs.lemmas.List.{take_more}
use Rattle.std.proofs.lemmas.List.Sums.{sum_by-take-le, sum_by-cons}
use Rattle.std.proofs.lemmas.Grind.{common_steps}
use mir.Syntax.{w128}
use Rattle.lift_poly.specs.Polynomial.{Term, factor}
use Rattle.lift_poly.specs.Arithmetic as polynomial
use Rattle.lift_poly.proofs.Ring.{linear, as_diff, diffs, diff-same, zero-mul}
use Rattle.lift_model.specs.declared.entry.Entry.{Entry}
use Rattle.corner_lift.specs.Ends.{End, product_at, weight_at, greatest_end, present_part, absent_part}
use Rattle.corner_lift.proofs.Gathering.{product_size, grid_least}
use Rattle.corner_lift.proofs.Cases.{power-le}

-- one term: its parameter's factor is the end or d
one_term : (bit : ℕ) (w e d product : ℤ) → bit < 2 → w *ℤ (factor bit (e, d) *ℤ product) ≡ cond (bit == 1) (w *ℤ product) (pos 0) *ℤ e +ℤ cond (bit == 1) (pos 0) (w *ℤ product) *ℤ d
one_term zero w e d product lt = rw (zero-mul e) (rw (as_diff w, as_diff d, as_diff product) (simp diffs (diff-same _ _ _ _ (omega arith))))
one_term (suc zero) w e d product lt = rw (zero-mul d) (rw (as_diff w, as_diff e, as_diff product) (simp diffs (diff-same _ _ _ _ (omega arith))))
one_term (suc (suc bit)) w e d product lt = absurd (omega (arith, lt))

joined_terms : (e d a b c f : ℤ) → (a *ℤ e +ℤ b *ℤ d) +ℤ (c *ℤ e +ℤ f *ℤ d) ≡ (a +ℤ c) *ℤ e +ℤ (b +ℤ f) *ℤ d
joined_terms e d a b c f = rw (as_diff e, as_diff d, as_diff a, as_diff b, as_diff c, as_diff f) (simp diffs (diff-same _ _ _ _ (omega arith)))

-- the parts, times the end and d, are the weight
pub parts_join : (d e : ℤ) (p : ℕ) (rest : List End) (terms : List Term) → weight_at d ((p, e) ∷ rest) terms ≡ present_part d p rest terms *ℤ e +ℤ absent_part d p rest terms *ℤ d
parts_join d e p rest [] = rw (zero-mul e, zero-mul d) refl
parts_join d e p rest (t ∷ terms) =
    let bit = t.0 / 2 ^ p in
    let product = product_at d rest t.0 in
    ap₂ ◌+ℤ◌
    (one_term (bit % 2) t.1 e d product (omega arith))
    (parts_join d e p rest terms)
    ∙ joined_terms e d (cond (bit % 2 == 1) (t.1 *ℤ product) (pos 0)) (cond (bit % 2 == 1) (pos 0) (t.1 *ℤ product)) (present_part d p rest terms) (absent_part d p rest terms)

-- ---- sizes

one_size : (bit : ℕ) (w a b : ℤ) → bit < 2 → unsigned_abs (cond (bit == 1) w (pos 0) +ℤ a) + unsigned_abs (cond (bit == 1) (pos 0) w +ℤ b) ≤ unsigned_abs w + (unsigned_abs a + unsigned_abs b)
one_size zero w a b lt = omega (arith, ints)
one_size (suc zero) w a b lt = omega (arith, ints)
one_size (suc (suc bit)) w a b lt = absurd (omega (arith, lt))

pub parts_size : (d : ℤ) (p : ℕ) (rest : List End) (terms : List Term) → unsigned_abs (present_part d p rest terms) + unsigned_abs (absent_part d p rest terms) ≤ polynomial.abs_sum terms * greatest_end d rest ^ length rest
parts_size d p rest [] = omega arith
parts_size d p rest (t ∷ terms) =
    let product = product_at d rest t.0 in
    let size : Term → ℕ = λ (x : Term). unsigned_abs x.1 in
    let b = greatest_end d rest ^ length rest in
    let all : polynomial.abs_sum (t ∷ terms) * b ≡ unsigned_abs t.1 * b + polynomial.abs_sum terms * b = ap (λ n. n * b) (sum_by-cons size t terms) ∙ (let e : (unsigned_abs t.1 + polynomial.abs_sum terms) * b ≡ unsigned_abs t.1 * b + polynomial.abs_sum terms * b = omega arith in e) in
    let bound : unsigned_abs t.1 * unsigned_abs product ≤ unsigned_abs t.1 * greatest_end d rest ^ length rest = mul-le-mul_left (unsigned_abs t.1) (product_size d rest t.0) in
    omega (arith, bound, unsigned_abs-mul t.1 product, one_size (t.0 / 2 ^ p % 2) (t.1 *ℤ product) (present_part d p rest terms) (absent_part d p rest terms) (omega arith), parts_size d p rest terms, all)

-- ---- the loop over the terms

present_append : (d : ℤ) (p : ℕ) (rest : List End) (ts us : List Term) → present_part d p rest (ts ++ us) ≡ present_part d p rest ts +ℤ present_part d p rest us
present_append d p rest [] us = omega (arith, linear)
present_append d p rest (t ∷ ts) us = omega (arith, linear, present_append d p rest ts us)

absent_append : (d : ℤ) (p : ℕ) (rest : List End) (ts us : List Term) → absent_part d p rest (ts ++ us) ≡ absent_part d p rest ts +ℤ absent_part d p rest us
absent_append d p rest [] us = omega (arith, linear)
absent_append d p rest (t ∷ ts) us = omega (arith, linear, absent_append d p rest ts us)

module _ (d : ℤ) (p : ℕ) (rest : List End) (terms : List Term) (i : ℕ) (t : Term) (lt : i < length terms) (is : t ≡ get_or terms i t) where
  pub present_more : present_part d p rest (take (i + 1) terms) ≡ present_part d p rest (take i terms) +ℤ cond (t.0 / 2 ^ p % 2 == 1) (t.1 *ℤ product_at d rest t.0) (pos 0)
  present_more =
      ap (present_part d p rest) (take_more terms i t lt ∙ ap (λ (x : Term). take i terms ++ x ∷ []) (sym is)) ∙ present_append d p rest (take i terms) (t ∷ [])
      ∙ omega (arith, linear)

  pub absent_more : absent_part d p rest (take (i + 1) terms) ≡ absent_part d p rest (take i terms) +ℤ cond (t.0 / 2 ^ p % 2 == 1) (pos 0) (t.1 *ℤ product_at d rest t.0)
  absent_more =
      ap (absent_part d p rest) (take_more terms i t lt ∙ ap (λ (x : Term). take i terms ++ x ∷ []) (sym is)) ∙ absent_append d p rest (take i terms) (t ∷ [])
      ∙ omega (arith, linear)

module _ (d : ℤ) (p : ℕ) (rest : List End) (terms : List Term) (i : ℕ) (room : polynomial.abs_sum terms * greatest_end d rest ^ length rest < 2 ^ 126) where
  first_size : polynomial.abs_sum (take i terms) * greatest_end d rest ^ length rest ≤ polynomial.abs_sum terms * greatest_end d rest ^ length rest
  first_size = mul-le-mul_right (greatest_end d rest ^ length rest) (sum_by-take-le (λ (x : Term). unsigned_abs x.1) terms i)

  pub present_fits : FitsSigned w128 (present_part d p rest (take i terms))
  present_fits = fits_signed_from_abs w128 (present_part d p rest (take i terms)) (omega (arith, first_size, parts_size d p rest (take i terms), room))

  pub absent_fits : FitsSigned w128 (absent_part d p rest (take i terms))
  absent_fits = fits_signed_from_abs w128 (absent_part d p rest (take i terms)) (omega (arith, first_size, parts_size d p rest (take i terms), room))

-- ---- a pair of corners

-- a part times an end or d has room
pub end_room : (d : ℤ) (p : ℕ) (e : ℤ) (rest : List End) (one : ℕ) (x y : ℤ) → one * greatest_end d ((p, e) ∷ rest) ^ length ((p, e) ∷ rest) < 2 ^ 126 → unsigned_abs x ≤ one * greatest_end d rest ^ length rest → unsigned_abs y ≤ greatest_end d ((p, e) ∷ rest) → unsigned_abs x * unsigned_abs y < 2 ^ 126
end_room d p e rest one x y room small least =
    let all = greatest_end d ((p, e) ∷ rest) in
    let n = length rest in
    let power : all ^ suc n ≡ all ^ n * all = pow-suc all n in
    let fewer : greatest_end d rest ≤ all = omega arith in
    let raised : greatest_end d rest ^ n ≤ all ^ n = power-le (greatest_end d rest) all n fewer in
    let first : unsigned_abs x * unsigned_abs y ≤ one * all ^ n * all = mul-le-mul (le_trans small (mul-le-mul_left one raised)) least in
    let same : one * all ^ n * all ≡ one * all ^ suc n = mul_assoc one (all ^ n) all ∙ ap (λ k. one * k) (sym power) in
    omega (arith, first, same, room)

-- so has a part alone
pub rest_room : (d : ℤ) (p : ℕ) (e : ℤ) (rest : List End) (one : ℕ) → pos 0 <ℤ d → one * greatest_end d ((p, e) ∷ rest) ^ length ((p, e) ∷ rest) < 2 ^ 126 → one * greatest_end d rest ^ length rest < 2 ^ 126
rest_room d p e rest one positive room =
    let size = one * greatest_end d rest ^ length rest in
    let least : 1 ≤ greatest_end d ((p, e) ∷ rest) = grid_least d ((p, e) ∷ rest) positive in
    let product = end_room d p e rest one (pos size) (pos 1) room (omega arith) (omega (arith, least)) in
    omega (arith, product)

-- one entry's weight is written
pub written_more : (f : Entry → ℤ) (ws : List ℤ) (row : List Entry) (at i : ℕ) (w : ℤ) (entry : Entry) → at ≡ i → i < length row → at < length ws → entry ≡ get_or row i entry → w ≡ f entry → take at ws ≡ map f (take i row) → take (at + 1) (slice_set ws at w) ≡ map f (take (i + 1) row)
written_more f ws row at i w entry same lt inside is value h = grind (arith, common_steps, is, value, h)
