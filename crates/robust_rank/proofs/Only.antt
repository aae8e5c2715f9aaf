-- States with one row, which is short: what its sum and its targets tell.
use Rattle.std.proofs.Common.{◌≡◌, ℕ, zero, suc, ◌^◌, ◌<◌, cond, List, [], ◌∷◌, All, length, get_or, ℤ, pos, ◌*ℤ◌, ◌≤ℤ◌, ◌<ℤ◌, sym, ap, subst, ◌∙◌, arith, nat_lt, ltb-true}
use Rattle.std.proofs.lemmas.Nat.{pow_pos}
use Rattle.std.proofs.lemmas.Int.{by_lt_z}
use Rattle.lift_poly.proofs.Ring.{linear, mul-comm, mul-assoc, mul-le, mul-le_cancel, mul-zero, one-mul}
use Rattle.lift_poly.specs.Polynomial.{Valuation, weight}
use Rattle.lift_grid.specs.Rectangle.{Spans}
use Rattle.lift_model.specs.declared.entry.Entry.{Entry}
use Rattle.lift_model.specs.declared.only_row.PairRow.{PairRow}
use Rattle.lift_model.specs.Process.{weighted_sum}
use Rattle.lift_model.specs.Model.{ModelData, row_at, support, choices, moves_at}
use Rattle.lift_model.specs.Links.{LinksData, HasChoice, targets_of}
use Rattle.lift_model.specs.OnlyRow.{IsPairRow, IsSingleRow}
use Rattle.corner_lift.specs.Corner.{corner, parameter_count}
use Rattle.corner_lift.specs.Case.{CaseData, IsCase}
use Rattle.corner_lift.specs.Certificate.{ranked_below}
use Rattle.corner_lift.specs.Stages.{LeadsBelow}
use Rattle.robust_rank.specs.Rate.{IsFirstFrom}
use Rattle.robust_rank.proofs.Means.{either_way}
use Rattle.robust_rank.proofs.Below.{targets_inside}

-- ---- sums that were divided by a scale

pub scaled_some : (sum scale : ℤ) → pos 1 ≤ℤ scale → pos 0 <ℤ sum → pos 0 <ℤ (sum *ℤ scale)
scaled_some sum scale least some = omega (arith, linear, mul-le scale (pos 1) sum (omega (arith, linear, least)) (omega (arith, linear, some)), mul-comm sum scale, mul-comm scale (pos 1), one-mul scale, least)

pub some_scaled : (sum scale : ℤ) → pos 1 ≤ℤ scale → pos 0 <ℤ (sum *ℤ scale) → pos 0 <ℤ sum
some_scaled sum scale least some = by_lt_z (pos 0) sum (λ lt. lt) (λ le. absurd (omega (arith, linear, some, mul-le scale sum (pos 0) (omega (arith, linear, least)) le, mul-comm sum scale, mul-zero scale)))

turned : (sum scale p : ℤ) → (sum *ℤ scale) *ℤ p ≡ scale *ℤ (sum *ℤ p)
turned sum scale p = ap (λ n. n *ℤ p) (mul-comm sum scale) ∙ mul-assoc scale sum p

-- the first that is enough of numbers divided by a scale is the first that is enough of the numbers
pub first_scaled : (sum whole scale : ℤ) (first e : ℕ) → pos 1 ≤ℤ scale → IsFirstFrom (λ e. whole ≤ℤ (sum *ℤ pos (2 ^ e))) first e → IsFirstFrom (λ e. (whole *ℤ scale) ≤ℤ ((sum *ℤ scale) *ℤ pos (2 ^ e))) first e
first_scaled sum whole scale first e least found = record {
  from = found.from;
  holds = let p = pos (2 ^ e) in omega (arith, linear, mul-le scale whole (sum *ℤ p) (omega (arith, linear, least)) found.holds, turned sum scale p, mul-comm whole scale);
  least = λ m le enough. let p = pos (2 ^ m) in found.least m le (mul-le_cancel scale whole (sum *ℤ p) (omega (arith, linear, least)) (omega (arith, linear, enough, turned sum scale p, mul-comm whole scale)));
}

-- ---- targets

one_at : (P : ℕ → Type 0) (t : ℕ) → P t → (i d : ℕ) → i < length (t ∷ []) → P (get_or (t ∷ []) i d)
one_at P t p zero d lt = p
one_at P t p (suc i) d lt = absurd (omega (arith, lt))

two_at : (P : ℕ → Type 0) (t u : ℕ) → P t → P u → (i d : ℕ) → i < length (t ∷ u ∷ []) → P (get_or (t ∷ u ∷ []) i d)
two_at P t u p q zero d lt = p
two_at P t u p q (suc zero) d lt = q
two_at P t u p q (suc (suc i)) d lt = absurd (omega (arith, lt))

-- what is so of the targets of a short row is so of all of them
pub all_one : (P : ℕ → Type 0) (list : List ℕ) (t : ℕ) → list ≡ t ∷ [] → P t → All P list
all_one P list t e p = subst (All P) (sym e) (one_at P t p)

pub all_two : (P : ℕ → Type 0) (list : List ℕ) (t u : ℕ) → list ≡ t ∷ u ∷ [] → P t → P u → All P list
all_two P list t u e p q = subst (All P) (sym e) (two_at P t u p q)

-- a choice that is the only one
pub only_choice : (m : ModelData) (s : ℕ) → s < length m.states → length (choices m s) ≡ 1 → HasChoice m s 0
only_choice m s state only = record { state = state; choice = omega (arith, only) }

-- a short row leads to states
pub single_inside : (k : CaseData) (s t n : ℕ) → IsCase k → s < length k.model.states → IsSingleRow k.model s t → n ≡ length k.model.states → t < n
single_inside k s t n is state row size = (subst (All (λ t. t < n)) row.targets (targets_inside k s 0 n is (only_choice k.model s state row.only) size)) 0 0 (omega arith)

pub pair_inside : (k : CaseData) (l : LinksData) (s n : ℕ) (p : PairRow) → IsCase k → s < length k.model.states → IsPairRow k.model l s p → n ≡ length k.model.states → (p.first < n) × (p.second < n)
pair_inside k l s n p is state row size =
    let all = subst (All (λ t. t < n)) row.targets (targets_inside k s 0 n is (only_choice k.model s state row.only) size) in
    (all 0 0 (omega arith), all 1 0 (omega arith))

-- a row with one target leads below only by it
below_of_sum : (rank : ℕ → ℕ) (below : ℕ) (v : Valuation) (row : List Entry) (t : ℕ) → targets_of row ≡ t ∷ [] → pos 0 <ℤ weighted_sum (ranked_below rank below) (moves_at v row) → rank t < below
below_of_sum rank below v [] t e some = absurd (omega (arith, ap (length {A = ℕ}) e))
below_of_sum rank below v (x ∷ []) t e some =
    let same : x.target ≡ t = ap (λ l. get_or l 0 0) e in
    either_way (nat_lt (rank t) below)
    (λ yes. ltb-true (rank t) below yes)
    (λ no.
    let none : ranked_below rank below x.target ≡ pos 0 = ap (ranked_below rank below) same ∙ ap (λ b. cond b (pos 1) (pos 0)) no in
    let product : weight v x.poly *ℤ ranked_below rank below x.target ≡ pos 0 = ap (λ n. weight v x.poly *ℤ n) none ∙ mul-zero (weight v x.poly) in
    absurd (omega (arith, linear, some, product)))
below_of_sum rank below v (x ∷ (y ∷ row)) t e some = absurd (omega (arith, ap (length {A = ℕ}) e))

pub single_below : (k : CaseData) (spans : Spans) (rank : ℕ → ℕ) (below s t : ℕ) → IsSingleRow k.model s t → LeadsBelow k spans rank below s 0 → rank t < below
single_below k spans rank below s t row leads =
    below_of_sum rank below (corner k.d spans (support (row_at k.model s 0)) 0) (row_at k.model s 0) t row.targets (leads 0 (pow_pos (parameter_count spans (support (row_at k.model s 0)))))
