-- A row with its targets at their places: its polynomials are the same, and so is all that doesn't read the targets.
use Rattle.std.proofs.Common.{◌≡◌, ℕ, ◌+◌, ◌^◌, ◌<◌, List, [], ◌∷◌, ℤ, pos, ◌+ℤ◌, ◌*ℤ◌, ◌≤ℤ◌, All, refl, sym, ap, ap₂, ◌∙◌, subst, bit_or}
use Rattle.std.proofs.lemmas.List.Elements.{All-head, All-tail, All-map}
use Rattle.std.proofs.lemmas.List.Sums.{sum_by-cons}
use Rattle.lift_poly.specs.Polynomial.{Valuation, weight}
use Rattle.lift_poly.specs.Arithmetic as polynomial
use Rattle.lift_grid.specs.Rectangle.{Spans}
use Rattle.lift_model.specs.declared.entry.Entry.{Entry}
use Rattle.lift_model.specs.Links.{targets_of}
use Rattle.lift_model.specs.Model.{ModelData, support, moves_at}
use Rattle.lift_model.specs.Process.{power, weighted_sum}
use Rattle.corner_lift.specs.Case.{abs_sum, row_coefficient}
use Rattle.corner_lift.specs.Corner.{AtCorners, corner, corner_sum, parameter_count, whole}
use Rattle.lift_collapse.specs.Collapse.{CollapseData, place, placed, placed_row}

module _ (c : CollapseData) where
  pub support-placed : (row : List Entry) → support (placed_row c row) ≡ support row
  support-placed [] = refl
  support-placed (e ∷ row) = ap (λ set. bit_or (polynomial.support e.poly) set) (support-placed row)

  pub coefficient-placed : (set : ℕ) (row : List Entry) → row_coefficient set (placed_row c row) ≡ row_coefficient set row
  coefficient-placed set [] = refl
  coefficient-placed set (e ∷ row) = ap (λ z. polynomial.coefficient set e.poly +ℤ z) (coefficient-placed set row)

  pub abs_sum-placed : (row : List Entry) → abs_sum (placed_row c row) ≡ abs_sum row
  abs_sum-placed [] = refl
  abs_sum-placed (e ∷ row) =
      let size : Entry → ℕ = λ entry. polynomial.abs_sum entry.poly in
      sum_by-cons size (placed c e) (placed_row c row) ∙ ap (λ n. polynomial.abs_sum e.poly + n) (abs_sum-placed row) ∙ sym (sum_by-cons size e row)

  pub weights-placed : (v : Valuation) (row : List Entry) → All (λ (entry : Entry). pos 0 ≤ℤ weight v entry.poly) row → All (λ (entry : Entry). pos 0 ≤ℤ weight v entry.poly) (placed_row c row)
  weights-placed v row h = All-map (λ (entry : Entry). pos 0 ≤ℤ weight v entry.poly) (placed c) row h

  -- where f at a target's place is g at the target, the sums are the same
  module _ (n : ℕ) (f g : ℕ → ℤ) (same : (t : ℕ) → t < n → f (place c t) ≡ g t) where
    pub sum-placed : (v : Valuation) (row : List Entry) → All (λ t. t < n) (targets_of row) → weighted_sum f (moves_at v (placed_row c row)) ≡ weighted_sum g (moves_at v row)
    sum-placed v [] all = refl
    sum-placed v (e ∷ row) all =
        ap₂ (λ x y. weight v e.poly *ℤ x +ℤ y)
        (same e.target (All-head (λ t. t < n) e.target (targets_of row) all))
        (sum-placed v row (All-tail (λ t. t < n) e.target (targets_of row) all))

    pub corner_sum-placed : (d : ℤ) (spans : Spans) (row : List Entry) (k : ℕ) → All (λ t. t < n) (targets_of row) → corner_sum d spans (placed_row c row) k f ≡ corner_sum d spans row k g
    corner_sum-placed d spans row k all =
        subst (λ set. weighted_sum f (moves_at (corner d spans set k) (placed_row c row)) ≡ corner_sum d spans row k g) (sym (support-placed row)) (sum-placed (corner d spans (support row) k) row all)

  pub whole-placed : (m : ModelData) → c.model.common ≡ m.common → (d : ℤ) (spans : Spans) (row : List Entry) → whole c.model d spans (placed_row c row) ≡ whole m d spans row
  whole-placed m common d spans row = ap₂ (λ z set. z *ℤ power d (parameter_count spans set)) common (support-placed row)

  -- a placed row has the same corners
  pub corners_to : (P : ℕ → Type 0) (spans : Spans) (row : List Entry) → AtCorners spans row P → AtCorners spans (placed_row c row) P
  corners_to P spans row h = subst (λ set. (k : ℕ) → k < 2 ^ parameter_count spans set → P k) (sym (support-placed row)) h

  pub corners_from : (P : ℕ → Type 0) (spans : Spans) (row : List Entry) → AtCorners spans (placed_row c row) P → AtCorners spans row P
  corners_from P spans row h = subst (λ set. (k : ℕ) → k < 2 ^ parameter_count spans set → P k) (support-placed row) h
