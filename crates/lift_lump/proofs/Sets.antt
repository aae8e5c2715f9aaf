-- Parameter sets that are part of another, and what a row's set of parameters is.
use Rattle.std.proofs.Common.{◌≡◌, ℕ, ◌/◌, ◌%◌, ◌≤◌, List, [], ◌∷◌, All, bit_or, sym, ap, ◌∙◌, arith}
use Rattle.std.proofs.lemmas.List.Elements.{All-nil, All-cons, All-head, All-tail, All-weaker}
use Rattle.std.proofs.lemmas.Nat.{or_comm, or_mod, or_shr, le_or_l}
use Rattle.std.proofs.lemmas.Nat.Bits.{same_from_bits, bit_at_or, bit_at-zero}
use lib.Bits.{or_self}
use Rattle.lift_poly.specs.Polynomial.{Term}
use Rattle.lift_poly.specs.Arithmetic as polynomial
use Rattle.lift_grid.specs.Rectangle.{Spans}
use Rattle.lift_model.specs.declared.entry.Entry.{Entry}
use Rattle.lift_model.specs.Model.{support}
use Rattle.corner_lift.specs.Corner.{parameter_count}

-- a set is part of another
abbrev pub PartOf : ℕ → ℕ → Type 0
PartOf set whole = bit_or set whole ≡ whole

or_assoc : (a b c : ℕ) → bit_or (bit_or a b) c ≡ bit_or a (bit_or b c)
or_assoc a b c =
    same_from_bits (bit_or (bit_or a b) c) (bit_or a (bit_or b c))
    (λ i. omega (arith, bit_at_or (bit_or a b) c i, bit_at_or a b i, bit_at_or a (bit_or b c) i, bit_at_or b c i))

zero-or : (a : ℕ) → bit_or 0 a ≡ a
zero-or a = same_from_bits (bit_or 0 a) a (λ i. omega (arith, bit_at_or 0 a i, bit_at-zero i))

pub part-none : (set : ℕ) → PartOf 0 set
part-none set = zero-or set

pub part-both : (a b set : ℕ) → PartOf a set → PartOf b set → PartOf (bit_or a b) set
part-both a b set p q = or_assoc a b set ∙ ap (λ s. bit_or a s) q ∙ p

pub part-left : (a b : ℕ) → PartOf a (bit_or a b)
part-left a b = sym (or_assoc a a b) ∙ ap (λ s. bit_or s b) (or_self a)

pub part-right : (x a b : ℕ) → PartOf x b → PartOf x (bit_or a b)
part-right x a b p = sym (or_assoc x a b) ∙ ap (λ s. bit_or s b) (or_comm x a) ∙ or_assoc a x b ∙ ap (λ s. bit_or a s) p

pub part-left_of : (x a b : ℕ) → PartOf x a → PartOf x (bit_or a b)
part-left_of x a b p = sym (or_assoc x a b) ∙ ap (λ s. bit_or s b) p

pub halved : (m set : ℕ) → PartOf m set → PartOf (m / 2) (set / 2)
halved m set h = sym (or_shr m set 1) ∙ ap (λ k. k / 2) h

pub even_part : (m set : ℕ) → PartOf m set → set % 2 ≡ 0 → m % 2 ≡ 0
even_part m set h e =
    let low : m % 2 ≤ bit_or (m % 2) (set % 2) = le_or_l (m % 2) (set % 2) in
    let same : bit_or (m % 2) (set % 2) ≡ set % 2 = sym (or_mod m set 1) ∙ ap (λ k. k % 2) h in
    omega arith

-- a part has no more parameters
pub parameters_part : (spans : Spans) (m set : ℕ) → PartOf m set → parameter_count spans m ≤ parameter_count spans set
parameters_part [] m set h = omega arith
parameters_part (s ∷ spans) m set h =
    let low : m % 2 ≤ bit_or (m % 2) (set % 2) = le_or_l (m % 2) (set % 2) in
    let same : bit_or (m % 2) (set % 2) ≡ set % 2 = sym (or_mod m set 1) ∙ ap (λ k. k % 2) h in
    omega (arith, low, same, parameters_part spans (m / 2) (set / 2) (halved m set h))

-- each set of a polynomial is part of its support
own_part : (terms : List Term) → All (λ (t : Term). PartOf t.0 (polynomial.support terms)) terms
own_part [] = All-nil (λ (t : Term). PartOf t.0 (polynomial.support []))
own_part (t ∷ ts) =
    All-cons (λ (u : Term). PartOf u.0 (polynomial.support (t ∷ ts))) t ts (part-left t.0 (polynomial.support ts))
    (All-weaker (λ (u : Term). PartOf u.0 (polynomial.support ts)) (λ (u : Term). PartOf u.0 (polynomial.support (t ∷ ts))) (λ u p. part-right u.0 t.0 (polynomial.support ts) p) ts (own_part ts))

abbrev pub SetsIn : ℕ → List Entry → Type 0
SetsIn set row = All (λ (e : Entry). All (λ (t : Term). PartOf t.0 set) e.poly) row

-- each set of a row's polynomials is part of the row's
pub row_part : (row : List Entry) → SetsIn (support row) row
row_part [] = All-nil (λ (e : Entry). All (λ (t : Term). PartOf t.0 (support [])) e.poly)
row_part (e ∷ row) =
    All-cons (λ (x : Entry). All (λ (t : Term). PartOf t.0 (support (e ∷ row))) x.poly) e row
    (All-weaker (λ (t : Term). PartOf t.0 (polynomial.support e.poly)) (λ (t : Term). PartOf t.0 (support (e ∷ row))) (λ t p. part-left_of t.0 (polynomial.support e.poly) (support row) p) e.poly (own_part e.poly))
    (All-weaker (λ (x : Entry). All (λ (t : Term). PartOf t.0 (support row)) x.poly) (λ (x : Entry). All (λ (t : Term). PartOf t.0 (support (e ∷ row))) x.poly)
    (λ x all. All-weaker (λ (t : Term). PartOf t.0 (support row)) (λ (t : Term). PartOf t.0 (support (e ∷ row))) (λ t p. part-right t.0 (polynomial.support e.poly) (support row) p) x.poly all) row (row_part row))

pub poly_within : (set : ℕ) (terms : List Term) → All (λ (t : Term). PartOf t.0 set) terms → PartOf (polynomial.support terms) set
poly_within set [] all = part-none set
poly_within set (t ∷ ts) all = part-both t.0 (polynomial.support ts) set (All-head (λ (u : Term). PartOf u.0 set) t ts all) (poly_within set ts (All-tail (λ (u : Term). PartOf u.0 set) t ts all))

-- a row whose sets are part of another has its own set as a part of that
pub row_within : (set : ℕ) (row : List Entry) → SetsIn set row → PartOf (support row) set
row_within set [] all = part-none set
row_within set (e ∷ row) all =
    part-both (polynomial.support e.poly) (support row) set
    (poly_within set e.poly (All-head (λ (x : Entry). All (λ (t : Term). PartOf t.0 set) x.poly) e row all))
    (row_within set row (All-tail (λ (x : Entry). All (λ (t : Term). PartOf t.0 set) x.poly) e row all))
