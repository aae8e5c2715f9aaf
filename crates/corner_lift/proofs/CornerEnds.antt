-- The laws of weights at corners, and which end a corner chooses for a parameter.
use Rattle.std.proofs.Common.{◌≡◌, ℕ, zero, suc, ◌+◌, ◌*◌, ◌/◌, ◌%◌, ◌^◌, ◌<◌, [], ◌∷◌, length, get_or, ℤ, pos, sym, ap, ap₂, ◌∙◌, arith, ⊎_elim, count_ones, bit_and, one-add}
use Rattle.std.proofs.Math.Nat.{div-div-eq-div-mul}
use Rattle.std.proofs.lemmas.Nat.{bit_set_by_shift, mod-pow-add, and_mask, ones_le_self}
use lib.Count.{ones_step}
use Rattle.lift_grid.specs.Rectangle.{Spans, end_of}
use Rattle.corner_lift.specs.Corner.{corner, no_entry}
use Rattle.corner_lift.specs.Laws.{CornersBoundWeights, WeightsAreNotNegative, WeightsSumToWhole, CornersChooseEnds}
use Rattle.corner_lift.specs.Premises.{Premises}
use Rattle.corner_lift.proofs.CornerBound.{parity, Inside-on, corner-in, corner-out}
use Rattle.corner_lift.proofs.Summing.{entry_part}
use Rattle.corner_lift.proofs.Cases.{poly_between, corner_least, corner_total, admitted_row}
use Rattle.lift_model.specs.Model.{support, row_at}

pub corners_bound_weights_lem : Premises → CornersBoundWeights
corners_bound_weights_lem laws d spans row entry low high positive are lt lower upper v inside =
    poly_between laws d positive spans are (support row) (get_or row entry no_entry).poly low high (entry_part row entry no_entry lt) lower upper v (Inside-on d spans (support row) v inside)

pub weights_least : Premises → WeightsAreNotNegative
weights_least laws k spans s a is inside has c at = corner_least laws k (row_at k.model s a) spans is.asked.grid.positive is.asked.spans inside.rectangle inside.within (admitted_row k s a is has.state has.choice) c

pub weights_sum : Premises → WeightsSumToWhole
weights_sum laws k spans s a is inside has c at = corner_total laws k (row_at k.model s a) spans is.asked.grid.positive is.asked.spans inside.rectangle inside.within (admitted_row k s a is has.state has.choice) c

-- how many parameters come before the next one
place_next : (set k : ℕ) → count_ones (set % 2 ^ (k + 1)) ≡ set % 2 + count_ones (set / 2 % 2 ^ k)
place_next set k =
    let parts : set % 2 ^ (k + 1) ≡ (set / 2 % 2 ^ k) * 2 + set % 2 = mod-pow-add set k 1 in
    let half : set % 2 ^ (k + 1) / 2 ≡ set / 2 % 2 ^ k = omega arith in
    let low : set % 2 ^ (k + 1) % 2 ≡ set % 2 = omega arith in
    ones_step (set % 2 ^ (k + 1)) ∙ ap₂ (λ a b. a + count_ones b) low half

-- one bit fewer of the corner's number is left behind a parameter of the set
shifted : (c n : ℕ) → c / 2 / 2 ^ n ≡ c / 2 ^ (1 + n)
shifted c n = div-div-eq-div-mul c 2 (2 ^ n) ∙ ap (λ k. c / k) (let e : 2 * 2 ^ n ≡ 2 ^ (1 + n) = rw (one-add) (omega arith) in e)

bit_next : (set k : ℕ) → set / 2 ^ (k + 1) ≡ set / 2 / 2 ^ k
bit_next set k = sym (shifted set k ∙ ap (λ n. set / 2 ^ n) (let e : 1 + k ≡ k + 1 = omega arith in e))

choose : (d : ℤ) (ss : Spans) (set c k : ℕ) → k < length ss → set / 2 ^ k % 2 ≡ 1 → get_or (corner d ss set c) k (pos 0, pos 1) ≡ (end_of (c / 2 ^ count_ones (set % 2 ^ k) % 2) (get_or ss k (pos 0, pos 0)), d)
choose d [] set c k lt bit = absurd (omega arith)
choose d (s ∷ ss) set c zero lt bit =
    let odd : set % 2 ≡ 1 = omega (arith, bit) in
    let none : set % 2 ^ 0 ≡ 0 = omega arith in
    let place : count_ones (set % 2 ^ 0) ≡ 0 = ap count_ones none ∙ no_ones in
    ap (λ v. get_or v 0 (pos 0, pos 1)) (corner-in d s ss set c odd)
    ∙ ap (λ n. (end_of (n % 2) s, d)) (sym (ap (λ n. c / 2 ^ n) place ∙ (let e : c / 2 ^ 0 ≡ c = omega arith in e)))
  where
    no_ones : count_ones 0 ≡ 0
    no_ones = omega (arith, ones_le_self 0)
choose d (s ∷ ss) set c (suc k) lt bit =
    let next : suc k ≡ k + 1 = omega arith in
    let bit_there : set / 2 / 2 ^ k % 2 ≡ 1 = ap (λ n. n % 2) (sym (bit_next set k) ∙ ap (λ n. set / 2 ^ n) (sym next)) ∙ bit in
    let place : count_ones (set % 2 ^ suc k) ≡ set % 2 + count_ones (set / 2 % 2 ^ k) = ap (λ n. count_ones (set % 2 ^ n)) next ∙ place_next set k in
    let before = count_ones (set / 2 % 2 ^ k) in
    ⊎_elim
    (λ (e : set % 2 ≡ 0).
    let same : count_ones (set % 2 ^ suc k) ≡ before = omega (arith, place, e) in
    ap (λ v. get_or v (suc k) (pos 0, pos 1)) (corner-out d s ss set c e)
    ∙ choose d ss (set / 2) c k (omega arith) bit_there
    ∙ ap (λ n. (end_of (c / 2 ^ n % 2) (get_or ss k (pos 0, pos 0)), d)) (sym same))
    (λ (e : set % 2 ≡ 1).
    let more : count_ones (set % 2 ^ suc k) ≡ 1 + before = omega (arith, place, e) in
    ap (λ v. get_or v (suc k) (pos 0, pos 1)) (corner-in d s ss set c e)
    ∙ choose d ss (set / 2) (c / 2) k (omega arith) bit_there
    ∙ ap (λ n. (end_of (n % 2) (get_or ss k (pos 0, pos 0)), d)) (shifted c before ∙ ap (λ n. c / 2 ^ n) (sym more)))
    (parity set)

pub corners_choose : CornersChooseEnds
corners_choose d ss set c k lt bit =
    let low : bit_and (set / 2 ^ k) 1 ≡ set / 2 ^ k % 2 = and_mask (set / 2 ^ k) 1 in
    choose d ss set c k lt (sym low ∙ (bit_set_by_shift set k).1 bit)
