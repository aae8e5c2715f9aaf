-- What a case gives: rows that are admitted, sizes that fit, and weights that aren't negative at the corners of any rectangle inside the root.
use Rattle.std.proofs.Common.{◌≡◌, ℕ, zero, suc, ◌+◌, ◌*◌, ◌/◌, ◌%◌, ◌^◌, ◌<◌, ◌≤◌, max, List, [], ◌∷◌, ◌++◌, length, get_or, ℤ, pos, negsuc, ◌+ℤ◌, ◌*ℤ◌, neg_ℤ, ◌≤ℤ◌, ◌<ℤ◌, unsigned_abs, All, FitsSigned, refl, sym, ap, subst, ◌∙◌, arith, ◌⊎◌, ⊎_elim, Bool, true, false, cond, nat_eq, bit_or, count_ones, mul-le-mul_left, mul-le-mul_right, mul-le-mul, mul_assoc, le_trans, le_refl, pow-suc, mul_comm}
use Rattle.std.proofs.Math.Nat.{pow-zero, one-le-pow, mod-eq_of_lt}
use Rattle.std.proofs.Math.Pow.{pow_mono}
use Rattle.std.proofs.lemmas.Int.{fits_signed_from_abs, unsigned_abs-mul, ints}
use Rattle.std.proofs.lemmas.List.Elements.{All-head, All-tail}
use Rattle.std.proofs.lemmas.List.Sums.{sum_by-cons}
use Rattle.std.proofs.lemmas.Nat.{or_lt, pow_pos, ones_le_self}
use lib.Bits.{or_self}
use lib.Count.{ones_step}
use mir.Syntax.{w128}
use Rattle.lift_poly.specs.Polynomial.{Term, Valuation, weight, denominator}
use Rattle.lift_poly.specs.Arithmetic as polynomial
use Rattle.lift_poly.proofs.Ring.{linear, mul-comm, mul-assoc, mul-zero, zero-mul, one-mul, mul-le, as_diff, diffs, diff-same}
use Rattle.lift_poly.specs.Laws.{IsAffineInEach}
use Rattle.lift_grid.specs.Rectangle.{Spans, AreSpans, Inside, spans_of}
use Rattle.lift_model.specs.declared.entry.Entry.{Entry}
use Rattle.lift_model.specs.Process.{Move, power, weighted_sum}
use Rattle.lift_model.specs.Model.{ModelData, support, choices, row_at, moves_at}
use Rattle.lift_model.specs.Valid.{IsEntry, IsRow, IsModel}
use Rattle.lift_model.specs.Laws.{AreNonNegative}
use Rattle.corner_lift.specs.Corner.{corner, parameter_count, corner_sum, whole}
use Rattle.corner_lift.specs.Certificate.{AreNumbers}
use Rattle.corner_lift.specs.Case.{number, CaseData, IsAsked, IsCase, IsAdmittedRow, IsRowOf, IsGreatest, IsLeast, BoundsAbove, BoundsBelow, row_value, row_whole, corner_count, greatest_size, abs_sum, row_coefficient, Within, AreSidesInside, row_parameters, engine_limit}
use Rattle.corner_lift.specs.Ends.{End, greatest_end, StandFor, moves_by}
use Rattle.corner_lift.specs.Premises.{Premises}
use Rattle.corner_lift.proofs.CornerBound.{InsideOn, Inside-on, CornersNonpos, corner_bound, corner-inside}
use Rattle.corner_lift.proofs.RowBound.{PartOf, weight-append, terms_in, TermsIn-more, scaled, weight-scaled_by, less, weight-less, less_in, TermsIn-append, denominator-corner, power-pos, minus-one, row_sum, row_upper_at, row_lower_at}
use Rattle.corner_lift.proofs.Coefficients.{row_total}
use Rattle.corner_lift.proofs.Rows.{number_range}
use Rattle.corner_lift.proofs.Summing.{entry_part, moves_stand}

-- ---- sets

-- how many parameters a set has
pub parameter_count-ones : (ss : Spans) (set : ℕ) → set < 2 ^ length ss → parameter_count ss set ≡ count_ones set
parameter_count-ones [] set lt = omega (arith, ones_le_self set)
parameter_count-ones (s ∷ ss) set lt =
    let power : 2 ^ suc (length ss) ≡ 2 * 2 ^ length ss = omega arith in
    omega (arith, ones_step set, parameter_count-ones ss (set / 2) (omega arith))

-- a set has as many parameters in any rectangle
pub parameter_count-within : (ss root : Spans) (set : ℕ) → Within ss root → parameter_count ss set ≡ parameter_count root set
parameter_count-within [] [] set h = refl
parameter_count-within (s ∷ ss) (r ∷ root) set h = ap (λ n. set % 2 + n) (parameter_count-within ss root (set / 2) h.2)
parameter_count-within [] (r ∷ root) set h = absurd h
parameter_count-within (s ∷ ss) [] set h = absurd h

pub length-within : (ss root : Spans) → Within ss root → length ss ≡ length root
length-within [] [] h = refl
length-within (s ∷ ss) (r ∷ root) h = ap suc (length-within ss root h.2)
length-within [] (r ∷ root) h = absurd h
length-within (s ∷ ss) [] h = absurd h

terms_below : (n : ℕ) (terms : List Term) → All (λ term. term.0 < 2 ^ n) terms → polynomial.support terms < 2 ^ n
terms_below n [] h = pow_pos n
terms_below n (t ∷ terms) h = let below : Term → Type 0 = λ term. term.0 < 2 ^ n in or_lt n t.0 (polynomial.support terms) (All-head below t terms h) (terms_below n terms (All-tail below t terms h))

-- a row has declared parameters only
pub support_below : (states n : ℕ) (row : List Entry) → All (IsEntry states n) row → support row < 2 ^ n
support_below states n [] h = pow_pos n
support_below states n (e ∷ row) h =
    or_lt n (polynomial.support e.poly) (support row) (terms_below n e.poly (All-head (IsEntry states n) e row h).sets) (support_below states n row (All-tail (IsEntry states n) e row h))

-- ---- sizes

abs-between : (l n h : ℤ) → l ≤ℤ n → n ≤ℤ h → unsigned_abs n ≤ max (unsigned_abs l) (unsigned_abs h)
abs-between l n h low high = omega (arith, ints, low, high)

-- no end inside the root is larger than the root's
pub size-within : (d : ℤ) (ss root : Spans) → AreSpans ss → Within ss root → greatest_size d ss ≤ greatest_size d root
size-within d [] [] spans h = le_refl (unsigned_abs d)
size-within d (s ∷ ss) (r ∷ root) spans h =
    let rising = spans.0.rising in
    let low = abs-between r.0 s.0 r.1 h.0 (omega (arith, linear, rising, h.1)) in
    let high = abs-between r.0 s.1 r.1 (omega (arith, linear, rising, h.0)) h.1 in
    omega (arith, low, high, size-within d ss root spans.1 h.2)
size-within d [] (r ∷ root) spans h = absurd h
size-within d (s ∷ ss) [] spans h = absurd h

pub power-le : (a b n : ℕ) → a ≤ b → a ^ n ≤ b ^ n
power-le a b zero le = rw (pow-zero a, pow-zero b) (omega arith)
power-le a b (suc n) le = rw (pow-suc a n, pow-suc b n) (mul-le-mul (power-le a b n le) le)

-- products over ends that are no larger than the root's fit with the parameter_count of the row
pub ends_room : (sum small great n m : ℕ) → small ≤ great → n ≡ m → sum * small ^ n ≤ sum * great ^ m
ends_room sum small great n m le e = rw e (mul-le-mul_left sum (power-le small great m le))

-- ---- rows of a case

pub row_of_model : (m : ModelData) (s a : ℕ) → IsModel m → s < length m.states → a < length (choices m s) → IsRow (length m.states) (length m.names) (row_at m s a)
row_of_model m s a is state choice = is.rows s [] state a [] choice

pub admitted_row : (k : CaseData) (s a : ℕ) → IsCase k → s < length k.model.states → a < length (choices k.model s) → IsAdmittedRow k (row_at k.model s a)
admitted_row k s a is state choice = is.admitted s [] state a [] choice

-- a number from 0 to 2 ^ w has at most that size
pub number_size : (n : ℤ) (w : ℕ) → pos 0 ≤ℤ n → n ≤ℤ pos (2 ^ w) → unsigned_abs n ≤ 2 ^ w
number_size (pos n) w least most = omega (arith, linear)
number_size (negsuc n) w least most = absurd (omega (arith, linear))

pub number_sizes : (k : CaseData) (x : List ℤ) → AreNumbers k x → All (λ n. unsigned_abs n ≤ 2 ^ k.w) x
number_sizes k x h = λ i d lt. let here = h.range i d lt in number_size (get_or x i d) k.w here.0 here.1

-- ---- one polynomial

-- what holds of a polynomial at each corner of a set that it is part of holds at each valuation inside
poly_upper : Premises → (d : ℤ) → pos 0 <ℤ d → (ss : Spans) → AreSpans ss → (set : ℕ) (terms : List Term) (k : ℤ) → PartOf (polynomial.support terms) set → ((c : ℕ) → c < 2 ^ parameter_count ss set → weight (corner d ss set c) terms ≤ℤ (k *ℤ power d (parameter_count ss set))) → (v : Valuation) → InsideOn d ss set v → weight v terms ≤ℤ (k *ℤ denominator v)
unfolding CornersNonpos
poly_upper laws d positive ss spans set terms k part h v inside =
    let all = terms ++ less k in
    let total : (v : Valuation) → weight v all ≡ weight v terms +ℤ neg_ℤ (k *ℤ denominator v) = λ v. weight-append v terms (less k) ∙ ap (λ z. weight v terms +ℤ z) (weight-less v k) in
    let within = TermsIn-append set terms (less k) (TermsIn-more (polynomial.support terms) set terms part (terms_in terms)) (less_in set k) in
    let at_corners : CornersNonpos d ss set all =
    λ c lt. let e = denominator-corner d ss set c in
    let bound : weight (corner d ss set c) terms ≤ℤ (k *ℤ denominator (corner d ss set c)) = rw e (h c lt) in
    rw (total (corner d ss set c)) (omega (arith, linear, bound)) in
    let result : weight v all ≤ℤ pos 0 = corner_bound laws.affine d positive ss set all v within spans at_corners inside in
    omega (arith, linear, result, total v)

neg_right : (a b : ℤ) → a *ℤ neg_ℤ b ≡ neg_ℤ (a *ℤ b)
neg_right a b = rw (as_diff a, as_diff b) (simp diffs (diff-same _ _ _ _ (omega arith)))

neg_left : (a b : ℤ) → neg_ℤ a *ℤ b ≡ neg_ℤ (a *ℤ b)
neg_left a b = rw (as_diff a, as_diff b) (simp diffs (diff-same _ _ _ _ (omega arith)))

support-scaled : (k : ℤ) (terms : List Term) → polynomial.support terms ≡ polynomial.support (scaled k terms)
unfolding scaled
support-scaled k [] = refl
support-scaled k (t ∷ terms) = ap (bit_or t.0) (support-scaled k terms)

scaled_part : (k : ℤ) (terms : List Term) (set : ℕ) → PartOf (polynomial.support terms) set → PartOf (polynomial.support (scaled k terms)) set
scaled_part k terms set part = subst (λ n. PartOf n set) (support-scaled k terms) part

minus : ℤ
minus = neg_ℤ (pos 1)

times-minus : (a : ℤ) → a *ℤ neg_ℤ (pos 1) ≡ neg_ℤ a
times-minus a = mul-comm a (neg_ℤ (pos 1)) ∙ minus-one a

poly_lower : Premises → (d : ℤ) → pos 0 <ℤ d → (ss : Spans) → AreSpans ss → (set : ℕ) (terms : List Term) (k : ℤ) → PartOf (polynomial.support terms) set → ((c : ℕ) → c < 2 ^ parameter_count ss set → (k *ℤ power d (parameter_count ss set)) ≤ℤ weight (corner d ss set c) terms) → (v : Valuation) → InsideOn d ss set v → (k *ℤ denominator v) ≤ℤ weight v terms
poly_lower laws d positive ss spans set terms k part h v inside =
    let one : ℤ = neg_ℤ (pos 1) in
    let up = poly_upper laws d positive ss spans set (scaled one terms) (neg_ℤ k) (scaled_part one terms set part)
    (λ c lt. omega (arith, linear, h c lt, weight-scaled_by (corner d ss set c) one terms, times-minus (weight (corner d ss set c) terms), neg_left k (power d (parameter_count ss set)))) v inside in
    omega (arith, linear, up, weight-scaled_by v one terms, times-minus (weight v terms), neg_left k (denominator v))

-- the corner bound for one polynomial
pub poly_between : Premises → (d : ℤ) → pos 0 <ℤ d → (ss : Spans) → AreSpans ss → (set : ℕ) (terms : List Term) (low high : ℤ) → PartOf (polynomial.support terms) set → ((c : ℕ) → c < 2 ^ parameter_count ss set → low ≤ℤ weight (corner d ss set c) terms) → ((c : ℕ) → c < 2 ^ parameter_count ss set → weight (corner d ss set c) terms ≤ℤ high) → (v : Valuation) → InsideOn d ss set v → ((low *ℤ denominator v) ≤ℤ (weight v terms *ℤ power d (parameter_count ss set))) × ((weight v terms *ℤ power d (parameter_count ss set)) ≤ℤ (high *ℤ denominator v))
poly_between laws d positive ss spans set terms low high part lower upper v inside =
    let p = power d (parameter_count ss set) in
    let p_least : pos 0 ≤ℤ p = omega (arith, linear, power-pos d (parameter_count ss set) positive) in
    let up = poly_upper laws d positive ss spans set (scaled p terms) high (scaled_part p terms set part)
    (λ c lt. omega (arith, linear, weight-scaled_by (corner d ss set c) p terms, mul-le p (weight (corner d ss set c) terms) high p_least (upper c lt), mul-comm p (weight (corner d ss set c) terms), mul-comm p high)) v inside in
    let down = poly_lower laws d positive ss spans set (scaled p terms) low (scaled_part p terms set part)
    (λ c lt. omega (arith, linear, weight-scaled_by (corner d ss set c) p terms, mul-le p low (weight (corner d ss set c) terms) p_least (lower c lt), mul-comm p (weight (corner d ss set c) terms), mul-comm p low)) v inside in
    (omega (arith, linear, down, weight-scaled_by v p terms), omega (arith, linear, up, weight-scaled_by v p terms))

-- ---- weights at the corners of rectangles inside the root

pub moves_least : (v : Valuation) (entries : List Entry) → All (λ entry. pos 0 ≤ℤ weight v entry.poly) entries → AreNonNegative (moves_at v entries)
moves_least v [] h = tt
moves_least v (e ∷ entries) h = let least : Entry → Type 0 = λ entry. pos 0 ≤ℤ weight v entry.poly in (All-head least e entries h, moves_least v entries (All-tail least e entries h))

module _ (laws : Premises) (k : CaseData) (row : List Entry) (ss : Spans) (positive : pos 0 <ℤ k.d) (root : AreSpans k.root) (spans : AreSpans ss) (within : Within ss k.root) (admitted : IsAdmittedRow k row) where
  -- no weight is negative
  pub corner_least : (c : ℕ) → All (λ entry. pos 0 ≤ℤ weight (corner k.d ss (support row) c) entry.poly) row
  corner_least c i d lt =
      let entry = get_or row i d in
      let v = corner k.d ss (support row) c in
      let bound = poly_lower laws k.d positive k.root root (support row) entry.poly (pos 0) (entry_part row i d lt)
      (λ b at. omega (arith, linear, admitted.least b at i d lt, zero-mul (power k.d (parameter_count k.root (support row))))) v
      (corner-inside k.d positive ss k.root spans within (support row) c) in
      omega (arith, linear, bound, zero-mul (denominator v))

  -- nor is one at a valuation inside
  pub inside_least : (v : Valuation) → Inside k.d ss v → All (λ entry. pos 0 ≤ℤ weight v entry.poly) row
  inside_least v inside i d lt =
      let entry = get_or row i d in
      let bound = poly_lower laws k.d positive ss spans (support row) entry.poly (pos 0) (entry_part row i d lt)
      (λ c at. omega (arith, linear, corner_least c i d lt, zero-mul (power k.d (parameter_count ss (support row))))) v
      (Inside-on k.d ss (support row) v inside) in
      omega (arith, linear, bound, zero-mul (denominator v))

  -- a row's weights sum to the whole
  pub corner_total : (c : ℕ) → row_sum (corner k.d ss (support row) c) (λ s. pos 1) row ≡ whole k.model k.d k.root row
  corner_total c =
      row_total k.model.common row admitted.sum (corner k.d ss (support row) c)
      ∙ ap (λ z. k.model.common *ℤ z) (denominator-corner k.d ss (support row) c ∙ ap (power k.d) (parameter_count-within ss k.root (support row) within))

  pub corner_moves : (c : ℕ) → AreNonNegative (moves_at (corner k.d ss (support row) c) row)
  corner_moves c = moves_least (corner k.d ss (support row) c) row (corner_least c)

  constant_sum : (z : ℤ) (moves : List Move) → weighted_sum (λ s. z) moves ≡ z *ℤ weighted_sum (λ s. pos 1) moves
  constant_sum z [] = sym (mul-zero z)
  constant_sum z (move ∷ moves) =
      let rest = weighted_sum (λ s. pos 1) moves in
      let e : move.1 *ℤ z +ℤ z *ℤ rest ≡ z *ℤ (move.1 *ℤ pos 1 +ℤ rest) = spread move.1 z rest in
      ap (λ r. move.1 *ℤ z +ℤ r) (constant_sum z moves) ∙ e
    where
      spread : (a z r : ℤ) → a *ℤ z +ℤ z *ℤ r ≡ z *ℤ (a *ℤ pos 1 +ℤ r)
      spread a z r = rw (as_diff a, as_diff z, as_diff r) (simp diffs (diff-same _ _ _ _ (omega arith)))

  -- over numbers from 0 to top a row's sum at a corner lies from 0 to top times the whole
  pub corner_sum_range : (c : ℕ) (z : ℕ → ℤ) (top : ℤ) → ((s : ℕ) → (pos 0 ≤ℤ z s) × (z s ≤ℤ top)) → (pos 0 ≤ℤ corner_sum k.d ss row c z) × (corner_sum k.d ss row c z ≤ℤ (top *ℤ whole k.model k.d k.root row))
  corner_sum_range c z top range =
      let moves = moves_at (corner k.d ss (support row) c) row in (
        laws.least z moves (λ s. (range s).0) (corner_moves c),
        omega (arith, linear, laws.rise z (λ s. top) moves (λ s. (range s).1) (corner_moves c), constant_sum top moves, ap (λ n. top *ℤ n) (corner_total c)),
      )

-- ---- the whole

coefficient_size : (terms : List Term) → unsigned_abs (polynomial.coefficient 0 terms) ≤ polynomial.abs_sum terms
coefficient_size [] = omega arith
coefficient_size (t ∷ terms) =
    let size : Term → ℕ = λ (x : Term). unsigned_abs x.1 in
    omega (arith, coefficient_size terms, sum_by-cons size t terms, by_test (nat_eq t.0 0) t.1, abs_sum_le (cond (nat_eq t.0 0) t.1 (pos 0)) (polynomial.coefficient 0 terms))
  where
    by_test : (b : Bool) (n : ℤ) → unsigned_abs (cond b n (pos 0)) ≤ unsigned_abs n
    by_test true n = omega arith
    by_test false n = omega arith

    abs_sum_le : (a b : ℤ) → unsigned_abs (a +ℤ b) ≤ unsigned_abs a + unsigned_abs b
    abs_sum_le a b = omega (arith, ints)

row_coefficient_size : (row : List Entry) → unsigned_abs (row_coefficient 0 row) ≤ abs_sum row
row_coefficient_size [] = omega arith
row_coefficient_size (e ∷ row) =
    let size : Entry → ℕ = λ (x : Entry). polynomial.abs_sum x.poly in
    omega (arith, row_coefficient_size row, coefficient_size e.poly, sum_by-cons size e row, abs_le (polynomial.coefficient 0 e.poly) (row_coefficient 0 row))
  where
    abs_le : (a b : ℤ) → unsigned_abs (a +ℤ b) ≤ unsigned_abs a + unsigned_abs b
    abs_le a b = omega (arith, ints)

grid_below : (d : ℤ) (ss : Spans) → unsigned_abs d ≤ greatest_size d ss
grid_below d [] = le_refl (unsigned_abs d)
grid_below d (s ∷ ss) = omega (arith, grid_below d ss)

-- the whole's factors and a number of at most 2 ^ w
number_room_of : (k : CaseData) (row : List Entry) (n : ℕ) → n ≤ 2 ^ k.w → IsAdmittedRow k row → unsigned_abs k.model.common * unsigned_abs k.d ^ row_parameters k row * n < engine_limit
number_room_of k row n le admitted =
    let g = row_parameters k row in
    let first : unsigned_abs k.model.common ≤ abs_sum row = subst (λ z. unsigned_abs z ≤ abs_sum row) (admitted.sum 0) (row_coefficient_size row) in
    let second : unsigned_abs k.d ^ g ≤ greatest_size k.d k.root ^ g = power-le (unsigned_abs k.d) (greatest_size k.d k.root) g (grid_below k.d k.root) in
    let all : unsigned_abs k.model.common * unsigned_abs k.d ^ g * n ≤ abs_sum row * greatest_size k.d k.root ^ g * 2 ^ k.w = mul-le-mul (mul-le-mul first second) le in
    omega (arith, all, admitted.narrow)

-- the whole, factor by factor, stays below the engine's limit
pub whole_room : (k : CaseData) (row : List Entry) → IsAdmittedRow k row → unsigned_abs k.model.common * unsigned_abs k.d ^ row_parameters k row < engine_limit
whole_room k row admitted = let room = number_room_of k row 1 (pow_pos k.w) admitted in omega (arith, room)

-- what the loop of a power keeps, with the factors that are left
pub record IsRaised (d all product : ℤ) (left : ℕ) : Type 0 where
  pub same : product *ℤ power d left ≡ all
  pub room : unsigned_abs product * unsigned_abs d ^ left < 2 ^ 126

pub raised_more : (d all product : ℤ) (left : ℕ) → IsRaised d all product (suc left) → IsRaised d all (product *ℤ d) left
raised_more d all product left h = record {
  same = mul-assoc product d (power d left) ∙ h.same;
  room =
      let power_is : unsigned_abs d ^ suc left ≡ unsigned_abs d * unsigned_abs d ^ left = pow-suc (unsigned_abs d) left ∙ mul_comm (unsigned_abs d ^ left) (unsigned_abs d) in
      let lt : unsigned_abs product * (unsigned_abs d * unsigned_abs d ^ left) < 2 ^ 126 = rw (← power_is) h.room in
      rw (unsigned_abs-mul product d, mul_assoc) lt;
}

pub raised_fits : (d all product : ℤ) (left : ℕ) → pos 0 <ℤ d → IsRaised d all product left → FitsSigned w128 product
raised_fits d all product left positive h =
    let least : 1 ≤ unsigned_abs d ^ left = one-le-pow left (unsigned_abs d) (omega (arith, ints, positive)) in
    let a : unsigned_abs product * 1 ≤ unsigned_abs product * unsigned_abs d ^ left = mul-le-mul_left (unsigned_abs product) least in
    fits_signed_from_abs w128 product (omega (arith, a, h.room))

pub raised_all : (d all product : ℤ) → IsRaised d all product 0 → product ≡ all
raised_all d all product h = sym (mul-comm product (pos 1) ∙ one-mul product) ∙ h.same

-- ---- what the calls need of a case

pub row_of_case : (k : CaseData) (s a : ℕ) → IsCase k → s < length k.model.states → a < length (choices k.model s) → IsRowOf k (row_at k.model s a)
row_of_case k s a is state choice = record { valid = row_of_model k.model s a is.asked.model state choice; admitted = admitted_row k s a is state choice }

-- how many parameters a choice has
pub parameters_asked : (k : CaseData) (s a : ℕ) → IsAsked k → s < length k.model.states → a < length (choices k.model s) → count_ones (support (row_at k.model s a)) ≡ row_parameters k (row_at k.model s a)
parameters_asked k s a is state choice =
    let row = row_at k.model s a in
    let below : support row < 2 ^ length k.model.names = support_below (length k.model.states) (length k.model.names) row (row_of_model k.model s a is.model state choice).entries in
    sym (parameter_count-ones k.root (support row) (subst (λ n. support row < 2 ^ n) (sym is.grid.one_each) below))

pub parameters_in_root : (k : CaseData) (s a : ℕ) → IsCase k → s < length k.model.states → a < length (choices k.model s) → count_ones (support (row_at k.model s a)) ≡ row_parameters k (row_at k.model s a)
parameters_in_root k s a is = parameters_asked k s a is.asked

pub power-size : (first d : ℤ) (n : ℕ) → unsigned_abs (first *ℤ power d n) ≡ unsigned_abs first * unsigned_abs d ^ n
power-size first d n = unsigned_abs-mul first (power d n) ∙ ap (λ k. unsigned_abs first * k) (size n)
  where
    size : (n : ℕ) → unsigned_abs (power d n) ≡ unsigned_abs d ^ n
    size zero = sym (pow-zero (unsigned_abs d))
    size (suc n) = unsigned_abs-mul d (power d n) ∙ ap (λ k. unsigned_abs d * k) (size n) ∙ mul_comm (unsigned_abs d) (unsigned_abs d ^ n) ∙ sym (pow-suc (unsigned_abs d) n)

-- a number of at most 2 ^ w, times the whole
pub number_room : (k : CaseData) (row : List Entry) (n : ℕ) → n ≤ 2 ^ k.w → IsAdmittedRow k row → n * unsigned_abs (whole k.model k.d k.root row) < engine_limit
number_room k row n le admitted =
    let room = number_room_of k row n le admitted in
    rw (power-size k.model.common k.d (row_parameters k row), mul_comm n (unsigned_abs k.model.common * unsigned_abs k.d ^ row_parameters k row)) room

-- the same of a row that the code has
pub row_in_case : (k : CaseData) (m : ModelData) (row : List Entry) (s a : ℕ) → m ≡ k.model → row ≡ row_at m s a → IsCase k → s < length k.model.states → a < length (choices k.model s) → IsRowOf k row
row_in_case k m row s a e f is state choice = rw (f, e) (row_of_case k s a is state choice)

module _ (k : CaseData) (row : List Entry) (sides : List ℤ) (is : IsCase k) (inside : AreSidesInside k.root sides) (of : IsRowOf k row) where
  pub pairs_of : support row < 2 ^ length (spans_of sides)
  pairs_of =
      subst (λ n. support row < 2 ^ n) (sym (length-within (spans_of sides) k.root inside.within ∙ is.asked.grid.one_each)) (support_below (length k.model.states) (length k.model.names) row of.valid.entries)

  pub parameters_of : parameter_count (spans_of sides) (support row) ≡ parameter_count k.root (support row)
  parameters_of = parameter_count-within (spans_of sides) k.root (support row) inside.within

  pub few_of : parameter_count (spans_of sides) (support row) ≤ 4
  few_of = omega (arith, parameters_of, of.admitted.few)

  pub ones_of : count_ones (support row) ≡ parameter_count k.root (support row)
  ones_of = sym (parameter_count-ones (spans_of sides) (support row) pairs_of) ∙ parameters_of

  pub room_of : (ends : List End) → length ends ≡ parameter_count (spans_of sides) (support row) → greatest_end k.d ends ≤ greatest_size k.d (spans_of sides) → abs_sum row * (greatest_end k.d ends ^ length ends * 2 ^ k.w) < 2 ^ 126
  room_of ends count size =
      let small = le_trans size (size-within k.d (spans_of sides) k.root inside.rectangle.spans inside.within) in
      let first = power-le (greatest_end k.d ends) (greatest_size k.d k.root) (parameter_count k.root (support row)) small in
      let same : greatest_end k.d ends ^ length ends ≡ greatest_end k.d ends ^ parameter_count k.root (support row) = ap (λ n. greatest_end k.d ends ^ n) (count ∙ parameters_of) in
      let second : greatest_end k.d ends ^ length ends * 2 ^ k.w ≤ greatest_size k.d k.root ^ parameter_count k.root (support row) * 2 ^ k.w = mul-le-mul_right (2 ^ k.w) (omega (arith, first, same)) in
      let third = mul-le-mul_left (abs_sum row) second in
      omega (arith, third, mul_assoc (abs_sum row) (greatest_size k.d k.root ^ parameter_count k.root (support row)) (2 ^ k.w), of.admitted.narrow)

  pub stands_of : (ends : List End) (c : ℕ) (z : ℕ → ℤ) → StandFor k.d ends (corner k.d (spans_of sides) (support row) c) (support row) → weighted_sum z (moves_by k.d ends row) ≡ corner_sum k.d (spans_of sides) row c z
  unfolding PartOf
  stands_of ends c z stand = ap (weighted_sum z) (moves_stand k.d ends (corner k.d (spans_of sides) (support row) c) (support row) row stand (or_self (support row)))

pub targets_of : (states names n : ℕ) (row : List Entry) → IsRow states names row → n ≡ states → All (λ entry. entry.target < n) row
targets_of states names n row is e = λ i d lt. let entry = is.entries i d lt in omega (arith, entry.target, e)

-- ---- the greatest and the least of the corners' values

pub greatest_one : (f : ℕ → ℤ) → IsGreatest f 1 (f 0)
greatest_one f = record { most = λ c lt. let e : c ≡ 0 = omega arith in rw e (omega (arith, linear)); attained = (0, (omega arith, refl)) }

pub greatest_more : (f : ℕ → ℤ) (n : ℕ) (z y : ℤ) → IsGreatest f n z → z ≤ℤ y → f n ≤ℤ y → (y ≡ z) ⊎ (y ≡ f n) → IsGreatest f (n + 1) y
greatest_more f n z y h above here one = record {
  most = λ c lt. ⊎_elim (λ (e : c ≡ n). rw e here) (λ (less : c < n). omega (arith, linear, h.most c less, above)) (last c n lt);
  attained = ⊎_elim (λ (e : y ≡ z). (h.attained.0, (omega (arith, h.attained.1.0), e ∙ h.attained.1.1))) (λ (e : y ≡ f n). (n, (omega arith, e))) one;
}
  where
    last : (c n : ℕ) → c < n + 1 → (c ≡ n) ⊎ (c < n)
    last c n lt = grind arith

pub least_one : (f : ℕ → ℤ) → IsLeast f 1 (f 0)
least_one f = record { least = λ c lt. let e : c ≡ 0 = omega arith in rw e (omega (arith, linear)); attained = (0, (omega arith, refl)) }

pub greatest_one_at : (f : ℕ → ℤ) (z : ℤ) → z ≡ f 0 → IsGreatest f 1 z
greatest_one_at f z e = rw e (greatest_one f)

pub least_one_at : (f : ℕ → ℤ) (z : ℤ) → z ≡ f 0 → IsLeast f 1 z
least_one_at f z e = rw e (least_one f)

pub least_more : (f : ℕ → ℤ) (n : ℕ) (z y : ℤ) → IsLeast f n z → y ≤ℤ z → y ≤ℤ f n → (y ≡ z) ⊎ (y ≡ f n) → IsLeast f (n + 1) y
least_more f n z y h below here one = record {
  least = λ c lt. ⊎_elim (λ (e : c ≡ n). rw e here) (λ (less : c < n). omega (arith, linear, h.least c less, below)) (last c n lt);
  attained = ⊎_elim (λ (e : y ≡ z). (h.attained.0, (omega (arith, h.attained.1.0), e ∙ h.attained.1.1))) (λ (e : y ≡ f n). (n, (omega arith, e))) one;
}
  where
    last : (c n : ℕ) → c < n + 1 → (c ≡ n) ⊎ (c < n)
    last c n lt = grind arith

module _ (affine : IsAffineInEach) (k : CaseData) (s a : ℕ) (sides : List ℤ) (x : List ℤ) (is : IsCase k) (inside : AreSidesInside k.root sides) where
  same_whole : whole k.model k.d (spans_of sides) (row_at k.model s a) ≡ row_whole k s a
  same_whole = ap (λ n. k.model.common *ℤ power k.d n) (parameter_count-within (spans_of sides) k.root (support (row_at k.model s a)) inside.within)

  same_count : 2 ^ parameter_count (spans_of sides) (support (row_at k.model s a)) ≡ corner_count k s a
  same_count = ap (λ n. 2 ^ n) (parameter_count-within (spans_of sides) k.root (support (row_at k.model s a)) inside.within)

  common_positive : pos 0 <ℤ k.model.common
  common_positive = omega (arith, linear, is.asked.model.denominator.0)

  -- the greatest corner value bounds the row from above
  pub bounds_above : (z : ℤ) → IsGreatest (row_value k (spans_of sides) s a x) (corner_count k s a) z → BoundsAbove k (spans_of sides) s a x z
  bounds_above z h v in_sides =
      let ss = spans_of sides in
      let row = row_at k.model s a in
      let w = whole k.model k.d ss row in
      let up = row_upper_at affine k.d is.asked.grid.positive ss inside.rectangle.spans row (number x) k.model.common z common_positive (λ c lt. h.most c (subst (λ n. c < n) same_count lt)) v (Inside-on k.d ss (support row) v in_sides) in
      rw (← same_whole) up

  pub bounds_below : (z : ℤ) → IsLeast (row_value k (spans_of sides) s a x) (corner_count k s a) z → BoundsBelow k (spans_of sides) s a x z
  bounds_below z h v in_sides =
      let ss = spans_of sides in
      let row = row_at k.model s a in
      let down = row_lower_at affine k.d is.asked.grid.positive ss inside.rectangle.spans row (number x) k.model.common z common_positive (λ c lt. h.least c (subst (λ n. c < n) same_count lt)) v (Inside-on k.d ss (support row) v in_sides) in
      rw (← same_whole) down

-- a loop that starts at 1 and ends at 1 << n ends at 2 ^ n
pub corners_done : (n w corner : ℕ) → n ≡ w → w ≤ 4 → (1 ≤ 1 * 2 ^ n % 4294967296 → corner ≤ 1 * 2 ^ n % 4294967296) → 1 * 2 ^ n % 4294967296 ≤ corner → corner ≡ 2 ^ w
corners_done n w corner e few most least =
    let small : 2 ^ n ≤ 2 ^ 4 = pow_mono {j = 4} (omega arith) in
    let one : 1 * 2 ^ n ≡ 2 ^ n = omega arith in
    let end : 1 * 2 ^ n % 4294967296 ≡ 2 ^ n = rw one (mod-eq_of_lt (omega arith)) in
    let some : 0 < 2 ^ n = pow_pos n in
    let upper : corner ≤ 1 * 2 ^ n % 4294967296 = most (omega arith) in
    let same : 2 ^ n ≡ 2 ^ w = ap (λ k. 2 ^ k) e in
    omega arith

-- the greatest corner value lies from 0 to 2 ^ w times the whole
pub greatest_range : Premises → (k : CaseData) (s a n : ℕ) (sides x : List ℤ) (z : ℤ) → IsCase k → AreSidesInside k.root sides → s < length k.model.states → a < length (choices k.model s) → AreNumbers k x → IsGreatest (row_value k (spans_of sides) s a x) n z
    → (pos 0 ≤ℤ z) × (z ≤ℤ (pos (2 ^ k.w) *ℤ row_whole k s a))
greatest_range laws k s a n sides x z is inside state choice numbers h =
    let top = pos (2 ^ k.w) in
    let here = corner_sum_range laws k (row_at k.model s a) (spans_of sides) is.asked.grid.positive is.asked.spans inside.rectangle.spans inside.within (admitted_row k s a is state choice) h.attained.0 (number x) top (number_range k x numbers) in
    subst (λ y. (pos 0 ≤ℤ y) × (y ≤ℤ (top *ℤ row_whole k s a))) (sym h.attained.1.1) here
