-- Filling a table block by block.
use Rattle.std.proofs.Common.{◌≡◌, ℕ, zero, suc, ◌+◌, ◌*◌, ◌/◌, ◌^◌, ◌<◌, ◌≤◌, List, [], ◌∷◌, ◌++◌, length, map, take, get_or, ℤ, sum_by, refl, sym, ap, ap₂, ◌∙◌, arith, append_assoc, mul-le-mul_left, add-one, length-append, length-take-le}
use Rattle.std.proofs.lemmas.List.{take_more, take_all, append-nil}
use Rattle.std.proofs.lemmas.List.Sums.{sum_by_more, sum_by-take-le}
use Rattle.std.proofs.Math.Seq.{take-append_seam}
use lib.Bits.{or_self}
use Rattle.lift_poly.specs.Polynomial.{Valuation, weight}
use Rattle.lift_poly.specs.Arithmetic as polynomial
use Rattle.lift_grid.specs.Rectangle.{Spans, spans_of}
use Rattle.lift_model.specs.declared.entry.Entry.{Entry}
use Rattle.lift_model.specs.declared.blocks.FirstRow.{FirstRow}
use Rattle.lift_model.specs.Model.{ModelData, support}
use Rattle.lift_model.specs.Links.{LinksData, Firsts, first_row, no_first, block_place, weight_count}
use Rattle.corner_lift.specs.Corner.{corner}
use Rattle.corner_lift.specs.Case.{CaseData, AreSidesInside}
use Rattle.corner_lift.specs.Ends.{End, weight_at, StandFor}
use Rattle.corner_lift.specs.Table.{corner_weights, first_corners, block, blocks, IsTable}
use Rattle.corner_lift.proofs.RowBound.{PartOf, PartOf-first, PartOf-second, PartOf-trans}
use Rattle.corner_lift.proofs.Summing.{weight_stands}

-- ---- a row

-- the ends of a corner give its weights
weights_stand : (d : ℤ) (ends : List End) (v : Valuation) (all : ℕ) (row : List Entry) → StandFor d ends v all → PartOf (support row) all → map (λ (entry : Entry). weight_at d ends entry.poly) row ≡ map (λ (entry : Entry). weight v entry.poly) row
weights_stand d ends v all [] stand part = refl
weights_stand d ends v all (e ∷ row) stand part =
    ap₂ (λ w rest. w ∷ rest)
    (weight_stands d ends v all e.poly stand (PartOf-trans (polynomial.support e.poly) (support (e ∷ row)) all (PartOf-first (polynomial.support e.poly) (support row)) part))
    (weights_stand d ends v all row stand (PartOf-trans (support row) (support (e ∷ row)) all (PartOf-second (polynomial.support e.poly) (support row)) part))

row_stand : (d : ℤ) (ends : List End) (spans : Spans) (row : List Entry) (c : ℕ) → StandFor d ends (corner d spans (support row) c) (support row) → map (λ (entry : Entry). weight_at d ends entry.poly) row ≡ corner_weights d spans row c
unfolding PartOf
row_stand d ends spans row c stand = weights_stand d ends (corner d spans (support row) c) (support row) row stand (or_self (support row))

-- a loop's step: one corner
pub corners_more : (d : ℤ) (spans : Spans) (row : List Entry) (ends : List End) (old before after : List ℤ) (at next c : ℕ) → next ≡ at + length row → StandFor d ends (corner d spans (support row) c) (support row) → take at before ≡ old ++ first_corners d spans row c → take (at + length row) after ≡ take at before ++ map (λ (entry : Entry). weight_at d ends entry.poly) row → take next after ≡ old ++ first_corners d spans row (c + 1)
corners_more d spans row ends old before after at next c size stand h g =
    ap (λ k. take k after) size ∙ g ∙ ap₂ (λ xs ys. xs ++ ys) h (row_stand d ends spans row c stand) ∙ append_assoc old (first_corners d spans row c) (corner_weights d spans row c)
    ∙ ap (λ k. old ++ first_corners d spans row k) (sym (add-one c))

-- two corners
pub two_more : (d : ℤ) (spans : Spans) (row : List Entry) (low high : List End) (old before after : List ℤ) (at next c : ℕ) → next ≡ at + 2 * length row → StandFor d low (corner d spans (support row) (2 * c)) (support row) → StandFor d high (corner d spans (support row) (2 * c + 1)) (support row) → take at before ≡ old ++ first_corners d spans row (2 * c) → take (at + 2 * length row) after ≡ take at before ++ (map (λ (entry : Entry). weight_at d low entry.poly) row ++ map (λ (entry : Entry). weight_at d high entry.poly) row) → take next after ≡ old ++ first_corners d spans row (2 * (c + 1))
two_more d spans row low high old before after at next c size low_stand high_stand h g =
    let first = corner_weights d spans row (2 * c) in
    let second = corner_weights d spans row (2 * c + 1) in
    ap (λ k. take k after) size ∙ g
    ∙ ap₂ (λ xs ys. xs ++ ys) h (ap₂ (λ xs ys. xs ++ ys) (row_stand d low spans row (2 * c) low_stand) (row_stand d high spans row (2 * c + 1) high_stand))
    ∙ append_assoc old (first_corners d spans row (2 * c)) (first ++ second)
    ∙ ap (λ xs. old ++ xs) (sym (append_assoc (first_corners d spans row (2 * c)) first second) ∙ ap (λ k. first_corners d spans row (suc (2 * c)) ++ corner_weights d spans row k) (let e : 2 * c + 1 ≡ suc (2 * c) = omega arith in e))
    ∙ ap (λ k. old ++ first_corners d spans row k) (let e : suc (suc (2 * c)) ≡ 2 * (c + 1) = omega arith in e)

-- a part that was written behind what stood there
pub part_written : (p m : ℕ) (old part rest : List ℤ) → p ≤ length old → length part ≡ m → take (p + m) (take p old ++ (part ++ rest)) ≡ take p old ++ part
part_written p m old part rest le is =
    let size : length (take p old ++ part) ≡ p + m = length-append (take p old) part ∙ omega (arith, is, length-take-le p old le) in
    ap (take (p + m)) (sym (append_assoc (take p old) part rest)) ∙ ap (λ n. take n ((take p old ++ part) ++ rest)) (sym size) ∙ take-append_seam (take p old ++ part) rest

-- room for one corner more
pub corner_space : (at place n c corners size : ℕ) → at ≡ place + n * c → c < corners → place + n * corners ≤ size → at + n ≤ size
corner_space at place n c corners size is lt le =
    let most : n * suc c ≤ n * corners = mul-le-mul_left n (let e : suc c ≤ corners = omega arith in e) in
    let next : n * suc c ≡ n * c + n = omega arith in
    omega (arith, is, most, next, le)

pub next_corner : (at place n c : ℕ) → at ≡ place + n * c → at + n ≡ place + n * (c + 1)
next_corner at place n c is = let e : n * (c + 1) ≡ n * c + n = omega arith in omega (arith, is, e)

-- room for two corners more
pub pair_space : (at place n c corners size : ℕ) → at ≡ place + n * (2 * c) → c < corners / 2 → place + n * corners ≤ size → at + 2 * n ≤ size
pair_space at place n c corners size is lt le =
    let most : n * (2 * c + 2) ≤ n * corners = mul-le-mul_left n (let e : 2 * c + 2 ≤ corners = omega (arith, lt) in e) in
    let next : n * (2 * c + 2) ≡ n * (2 * c) + 2 * n = omega arith in
    omega (arith, is, most, next, le)

pub next_pair : (at place n c : ℕ) → at ≡ place + n * (2 * c) → at + 2 * n ≡ place + n * (2 * (c + 1))
next_pair at place n c is = let e : n * (2 * (c + 1)) ≡ n * (2 * c) + 2 * n = omega arith in omega (arith, is, e)

-- the pairs are all corners, where there is a parameter
pub pairs_all : (pair ones : ℕ) → 1 ≤ ones → pair ≡ 2 ^ ones / 2 → 2 * pair ≡ 2 ^ ones
pairs_all pair zero some is = absurd (omega (arith, some))
pairs_all pair (suc n) some is = let power : 2 ^ suc n ≡ 2 * 2 ^ n = omega arith in omega (arith, is, power)

-- ---- all blocks

pub blocks_append : (m : ModelData) (d : ℤ) (spans : Spans) (xs ys : Firsts) → blocks m d spans (xs ++ ys) ≡ blocks m d spans xs ++ blocks m d spans ys
blocks_append m d spans [] ys = refl
blocks_append m d spans (x ∷ xs) ys = ap (λ r. block d spans (first_row m x) ++ r) (blocks_append m d spans xs ys) ∙ sym (append_assoc (block d spans (first_row m x)) (blocks m d spans xs) (blocks m d spans ys))

pub blocks_more : (m : ModelData) (d : ℤ) (spans : Spans) (firsts : Firsts) (b : ℕ) → b < length firsts → blocks m d spans (take (b + 1) firsts) ≡ blocks m d spans (take b firsts) ++ block d spans (first_row m (get_or firsts b no_first))
blocks_more m d spans firsts b lt =
    ap (blocks m d spans) (take_more firsts b no_first lt) ∙ blocks_append m d spans (take b firsts) (get_or firsts b no_first ∷ [])
    ∙ ap (λ r. blocks m d spans (take b firsts) ++ r) (append-nil (block d spans (first_row m (get_or firsts b no_first))))

pub place_more : (m : ModelData) (firsts : Firsts) (b : ℕ) → b < length firsts → block_place m firsts (b + 1) ≡ block_place m firsts b + weight_count (first_row m (get_or firsts b no_first))
place_more m firsts b lt = sum_by_more (λ (first : FirstRow). weight_count (first_row m first)) firsts b no_first lt

-- a block ends before the table does
pub block_inside : (m : ModelData) (firsts : Firsts) (b : ℕ) → b < length firsts → block_place m firsts b + weight_count (first_row m (get_or firsts b no_first)) ≤ block_place m firsts (length firsts)
block_inside m firsts b lt =
    let all : take (length firsts) firsts ≡ firsts = take_all (length firsts) firsts (omega arith) in
    omega (arith, place_more m firsts b lt, sum_by-take-le (λ (first : FirstRow). weight_count (first_row m first)) firsts (b + 1), ap (sum_by (λ (first : FirstRow). weight_count (first_row m first))) all)

-- a loop's step: one block
pub filled_more : (m : ModelData) (d : ℤ) (spans : Spans) (firsts : Firsts) (b : ℕ) (row : List Entry) (old new : List ℤ) (at end : ℕ) → b < length firsts → row ≡ first_row m (get_or firsts b no_first) → take at old ≡ blocks m d spans (take b firsts) → take end new ≡ take at old ++ block d spans row → take end new ≡ blocks m d spans (take (b + 1) firsts)
filled_more m d spans firsts b row old new at end lt is h g = g ∙ ap₂ (λ xs r. xs ++ block d spans r) h is ∙ sym (blocks_more m d spans firsts b lt)

pub filled_all : (k : CaseData) (l : LinksData) (sides weights : List ℤ) (at b : ℕ) → AreSidesInside k.root sides → length l.firsts ≤ b → length weights ≤ at → take at weights ≡ blocks k.model k.d (spans_of sides) (take b l.firsts) → IsTable k l (spans_of sides) weights
filled_all k l sides weights at b inside le all h = record {
  inside = record { rectangle = inside.rectangle.spans; within = inside.within };
  same = sym (take_all at weights all) ∙ h ∙ ap (blocks k.model k.d (spans_of sides)) (take_all b l.firsts le);
}
