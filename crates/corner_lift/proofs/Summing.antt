-- Sums over the terms of a polynomial and over the entries of a row, and how large they can be.
use Rattle.std.proofs.Common.{◌≡◌, ℕ, zero, suc, ◌+◌, ◌*◌, ◌^◌, ◌<◌, ◌≤◌, List, [], ◌∷◌, length, drop, get_or, ℤ, pos, ◌+ℤ◌, ◌*ℤ◌, unsigned_abs, FitsSigned, Some, slice_get, refl, sym, ap, ap₂, subst, ◌∙◌, arith, drop-cons, mul-le-mul_left, mul-le-mul_right, mul-le-mul, le_trans}
use Rattle.std.proofs.lemmas.Int.{fits_signed_from_abs, unsigned_abs-mul, ints}
use Rattle.std.proofs.lemmas.List.{drop_all}
use Rattle.std.proofs.lemmas.List.Sums.{sum_by-drop_more, get_or-le-sum_by}
use Rattle.std.proofs.lemmas.Nat.{pow_pos}
use mir.Syntax.{w128}
use Rattle.lift_poly.specs.Polynomial.{Term, Valuation, weight}
use Rattle.lift_poly.specs.Arithmetic as polynomial
use Rattle.lift_poly.proofs.Ring.{linear}
use Rattle.lift_model.specs.declared.entry.Entry.{Entry}
use Rattle.lift_model.specs.Process.{weighted_sum}
use Rattle.lift_model.specs.Model.{support, moves_at}
use Rattle.corner_lift.specs.Case.{abs_sum}
use Rattle.corner_lift.specs.Ends.{End, product_at, weight_at, moves_by, StandFor, greatest_end}
use Rattle.corner_lift.proofs.RowBound.{PartOf, PartOf-first, PartOf-second, PartOf-trans}
use Rattle.corner_lift.proofs.Gathering.{product_size}

abs-add : (a b : ℤ) → unsigned_abs (a +ℤ b) ≤ unsigned_abs a + unsigned_abs b
abs-add a b = omega (arith, ints)

-- ---- terms

-- what the loop over a polynomial's terms keeps, with the terms that are left; a product of d and the ends has at most that size
pub record IsWeighed (d : ℤ) (ends : List End) (terms : List Term) (sum : ℤ) (i : ℕ) : Type 0 where
  pub same : sum +ℤ weight_at d ends (drop i terms) ≡ weight_at d ends terms
  pub room : unsigned_abs sum + polynomial.abs_sum (drop i terms) * greatest_end d ends ^ length ends ≤ polynomial.abs_sum terms * greatest_end d ends ^ length ends

pub weighed_none : (d : ℤ) (ends : List End) (terms : List Term) → IsWeighed d ends terms (pos 0) 0
weighed_none d ends terms = record { same = omega (arith, linear); room = omega arith }

term_at : (terms : List Term) (i : ℕ) (t : Term) → i < length terms → slice_get terms i ≡ Some t → t ≡ get_or terms i t
term_at [] i t lt is = absurd (omega arith)
term_at (s ∷ terms) zero t lt is = cc
term_at (s ∷ terms) (suc i) t lt is = term_at terms i t (omega arith) is

module _ (d : ℤ) (ends : List End) (terms : List Term) (i : ℕ) (t : Term) (lt : i < length terms) (is : slice_get terms i ≡ Some t) where
  terms_left : drop i terms ≡ t ∷ drop (i + 1) terms
  terms_left = drop-cons terms i t lt ∙ ap₂ (λ (x : Term) (k : ℕ). x ∷ drop k terms) (sym (term_at terms i t lt is)) (let e : suc i ≡ i + 1 = omega arith in e)

  -- one coefficient is no larger than all
  pub term_room : polynomial.abs_sum terms * greatest_end d ends ^ length ends < 2 ^ 126 → unsigned_abs t.1 * greatest_end d ends ^ length ends < 2 ^ 126
  term_room room =
      let size : Term → ℕ = λ (x : Term). unsigned_abs x.1 in
      let one : unsigned_abs t.1 ≤ polynomial.abs_sum terms = rw (term_at terms i t lt is) (get_or-le-sum_by size terms i t lt) in
      let more : unsigned_abs t.1 * greatest_end d ends ^ length ends ≤ polynomial.abs_sum terms * greatest_end d ends ^ length ends = mul-le-mul_right (greatest_end d ends ^ length ends) one in
      omega arith

  pub weighed_more : (sum : ℤ) → IsWeighed d ends terms sum i → IsWeighed d ends terms (sum +ℤ t.1 *ℤ product_at d ends t.0) (i + 1)
  weighed_more sum h =
      let rest = drop (i + 1) terms in
      let w = t.1 *ℤ product_at d ends t.0 in
      let b = greatest_end d ends ^ length ends in
      let before : sum +ℤ (w +ℤ weight_at d ends rest) ≡ weight_at d ends terms = subst (λ ts. sum +ℤ weight_at d ends ts ≡ weight_at d ends terms) terms_left h.same in
      let size : Term → ℕ = λ (x : Term). unsigned_abs x.1 in
      let parts : polynomial.abs_sum (drop i terms) ≡ unsigned_abs t.1 + polynomial.abs_sum rest = sum_by-drop_more size terms i t lt ∙ ap (λ (x : Term). size x + polynomial.abs_sum rest) (sym (term_at terms i t lt is)) in
      let room : unsigned_abs sum + (unsigned_abs t.1 + polynomial.abs_sum rest) * b ≤ polynomial.abs_sum terms * b = subst (λ n. unsigned_abs sum + n * b ≤ polynomial.abs_sum terms * b) parts h.room in
      let bound : unsigned_abs t.1 * unsigned_abs (product_at d ends t.0) ≤ unsigned_abs t.1 * b = mul-le-mul_left (unsigned_abs t.1) (product_size d ends t.0) in
      record {
        same = omega (arith, linear, before);
        room = omega (arith, room, bound, unsigned_abs-mul t.1 (product_at d ends t.0), abs-add sum w);
      }

pub weighed_fits : (d : ℤ) (ends : List End) (terms : List Term) (sum : ℤ) (i : ℕ) → polynomial.abs_sum terms * greatest_end d ends ^ length ends < 2 ^ 126 → IsWeighed d ends terms sum i → FitsSigned w128 sum
weighed_fits d ends terms sum i lt h = fits_signed_from_abs w128 sum (omega (arith, h.room))

pub weighed_all : (d : ℤ) (ends : List End) (terms : List Term) (sum : ℤ) (i : ℕ) → length terms ≤ i → IsWeighed d ends terms sum i → sum ≡ weight_at d ends terms
weighed_all d ends terms sum i le h =
    let none : weight_at d ends (drop i terms) ≡ pos 0 = ap (weight_at d ends) (drop_all i terms le) in
    omega (arith, linear, h.same, none)

pub weighed_size : (d : ℤ) (ends : List End) (terms : List Term) (sum : ℤ) (i : ℕ) → IsWeighed d ends terms sum i → unsigned_abs sum ≤ polynomial.abs_sum terms * greatest_end d ends ^ length ends
weighed_size d ends terms sum i h = omega (arith, h.room)

-- ---- entries

-- what a loop over a row keeps, with the entries that are left; size bounds the products, times the numbers
pub record IsRowSummed (d : ℤ) (ends : List End) (size : ℕ) (z : ℕ → ℤ) (row : List Entry) (sum : ℤ) (i : ℕ) : Type 0 where
  pub same : sum +ℤ weighted_sum z (moves_by d ends (drop i row)) ≡ weighted_sum z (moves_by d ends row)
  pub room : unsigned_abs sum + abs_sum (drop i row) * size ≤ abs_sum row * size

pub row_summed_none : (d : ℤ) (ends : List End) (size : ℕ) (z : ℕ → ℤ) (row : List Entry) → IsRowSummed d ends size z row (pos 0) 0
row_summed_none d ends size z row = record { same = omega (arith, linear); room = omega arith }

pub row_summed_more : (d : ℤ) (ends : List End) (size : ℕ) (z : ℕ → ℤ) (row : List Entry) (i : ℕ) (e : Entry) → i < length row → e ≡ get_or row i e → (part sum : ℤ) → part ≡ weight_at d ends e.poly *ℤ z e.target → unsigned_abs part ≤ polynomial.abs_sum e.poly * size → IsRowSummed d ends size z row sum i → IsRowSummed d ends size z row (sum +ℤ part) (i + 1)
row_summed_more d ends size z row i e lt is part sum part_is small h =
    let rest = drop (i + 1) row in
    let cut : drop i row ≡ e ∷ rest = drop-cons row i e lt ∙ ap₂ (λ (x : Entry) (k : ℕ). x ∷ drop k row) (sym is) (let one : suc i ≡ i + 1 = omega arith in one) in
    let before : sum +ℤ (weight_at d ends e.poly *ℤ z e.target +ℤ weighted_sum z (moves_by d ends rest)) ≡ weighted_sum z (moves_by d ends row) = subst (λ r. sum +ℤ weighted_sum z (moves_by d ends r) ≡ weighted_sum z (moves_by d ends row)) cut h.same in
    let size_of : Entry → ℕ = λ (x : Entry). polynomial.abs_sum x.poly in
    let parts : abs_sum (drop i row) ≡ polynomial.abs_sum e.poly + abs_sum rest = sum_by-drop_more size_of row i e lt ∙ ap (λ (x : Entry). size_of x + abs_sum rest) (sym is) in
    let room : unsigned_abs sum + (polynomial.abs_sum e.poly + abs_sum rest) * size ≤ abs_sum row * size = subst (λ n. unsigned_abs sum + n * size ≤ abs_sum row * size) parts h.room in
    record { same = omega (arith, linear, before, part_is); room = omega (arith, room, small, abs-add sum part) }

pub row_summed_fits : (d : ℤ) (ends : List End) (size : ℕ) (z : ℕ → ℤ) (row : List Entry) (sum : ℤ) (i : ℕ) → abs_sum row * size < 2 ^ 126 → IsRowSummed d ends size z row sum i → FitsSigned w128 sum
row_summed_fits d ends size z row sum i lt h = fits_signed_from_abs w128 sum (omega (arith, h.room))

pub row_summed_all : (d : ℤ) (ends : List End) (size : ℕ) (z : ℕ → ℤ) (row : List Entry) (sum : ℤ) (i : ℕ) → length row ≤ i → IsRowSummed d ends size z row sum i → sum ≡ weighted_sum z (moves_by d ends row)
row_summed_all d ends size z row sum i le h =
    let none : weighted_sum z (moves_by d ends (drop i row)) ≡ pos 0 = ap (λ r. weighted_sum z (moves_by d ends r)) (drop_all i row le) in
    omega (arith, linear, h.same, none)

-- one entry is no larger than the row
pub entry_size : (row : List Entry) (i : ℕ) (e : Entry) → i < length row → e ≡ get_or row i e → polynomial.abs_sum e.poly ≤ abs_sum row
entry_size row i e lt is =
    let size_of : Entry → ℕ = λ (x : Entry). polynomial.abs_sum x.poly in
    subst (λ (x : Entry). polynomial.abs_sum x.poly ≤ abs_sum row) (sym is) (get_or-le-sum_by size_of row i e lt)

-- an entry's weight, times a number of at most 2 ^ w, fits where the row's does
pub entry_room : (one all b w : ℕ) → one ≤ all → all * (b * 2 ^ w) < 2 ^ 126 → one * b < 2 ^ 126
entry_room one all b w le lt =
    let first : b * 1 ≤ b * 2 ^ w = mul-le-mul_left b (pow_pos w) in
    let second : one * b ≤ all * (b * 2 ^ w) = mul-le-mul le (omega (arith, first)) in
    omega arith

pub number_room : (one all b w n : ℕ) → one ≤ all → n ≤ 2 ^ w → all * (b * 2 ^ w) < 2 ^ 126 → one * (b * n) < 2 ^ 126
number_room one all b w n le small lt =
    let second : one * (b * n) ≤ all * (b * 2 ^ w) = mul-le-mul le (mul-le-mul_left b small) in
    omega arith

pub part_size : (part : ℤ) (one b w n : ℕ) → unsigned_abs part ≤ one * (b * n) → n ≤ 2 ^ w → unsigned_abs part ≤ one * (b * 2 ^ w)
part_size part one b w n h small = le_trans h (mul-le-mul_left one (mul-le-mul_left b small))

-- ---- the ends in place of the corner

-- each entry's parameters are part of the row's
pub entry_part : (row : List Entry) (i : ℕ) (d : Entry) → i < length row → PartOf (polynomial.support (get_or row i d).poly) (support row)
entry_part [] i d lt = absurd (omega arith)
entry_part (e ∷ row) zero d lt = PartOf-first (polynomial.support e.poly) (support row)
entry_part (e ∷ row) (suc i) d lt = PartOf-trans (polynomial.support (get_or row i d).poly) (support row) (support (e ∷ row)) (entry_part row i d (omega arith)) (PartOf-second (polynomial.support e.poly) (support row))

pub weight_stands : (d : ℤ) (ends : List End) (v : Valuation) (all : ℕ) (terms : List Term) → StandFor d ends v all → PartOf (polynomial.support terms) all → weight_at d ends terms ≡ weight v terms
unfolding PartOf
weight_stands d ends v all [] stand part = refl
weight_stands d ends v all (t ∷ terms) stand part =
    ap₂ (λ a b. t.1 *ℤ a +ℤ b)
    (stand t.0 (PartOf-trans t.0 (polynomial.support (t ∷ terms)) all (PartOf-first t.0 (polynomial.support terms)) part))
    (weight_stands d ends v all terms stand (PartOf-trans (polynomial.support terms) (polynomial.support (t ∷ terms)) all (PartOf-second t.0 (polynomial.support terms)) part))

pub moves_stand : (d : ℤ) (ends : List End) (v : Valuation) (all : ℕ) (row : List Entry) → StandFor d ends v all → PartOf (support row) all → moves_by d ends row ≡ moves_at v row
moves_stand d ends v all [] stand part = refl
moves_stand d ends v all (e ∷ row) stand part =
    ap₂ (λ w rest. (e.target, w) ∷ rest)
    (weight_stands d ends v all e.poly stand (PartOf-trans (polynomial.support e.poly) (support (e ∷ row)) all (PartOf-first (polynomial.support e.poly) (support row)) part))
    (moves_stand d ends v all row stand (PartOf-trans (support row) (support (e ∷ row)) all (PartOf-second (polynomial.support e.poly) (support row)) part))
