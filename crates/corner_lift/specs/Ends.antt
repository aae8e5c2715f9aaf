-- A corner as the code holds it: the parameters of a row, each with the end that the corner chooses for it.
use Rattle.std.specs.Prelude.{◌≡◌, ◌==◌, if◌then◌else◌, ℕ, ◌+◌, ◌/◌, ◌%◌, ◌^◌, max, List, [], ◌∷◌, ℤ, pos, ◌+ℤ◌, ◌*ℤ◌, map, unsigned_abs, bit_or}
use Rattle.lift_poly.specs.Polynomial.{Term, Valuation, factor, monomial}
use Rattle.lift_grid.specs.Rectangle.{Spans, end_of}
use Rattle.lift_model.specs.declared.entry.Entry.{Entry}
use Rattle.lift_model.specs.Process.{Move}

-- a parameter's index and its end
abbrev pub End : Type 0
End = ℕ × ℤ

-- the product over the parameters of the row: the end where the set has the parameter, else d
abbrev pub product_at : ℤ → List End → ℕ → ℤ
product_at d [] set = pos 1
product_at d (end ∷ ends) set = factor (set / 2 ^ end.0 % 2) (end.1, d) *ℤ product_at d ends set

-- what a polynomial weighs there
abbrev pub weight_at : ℤ → List End → List Term → ℤ
weight_at d ends [] = pos 0
weight_at d ends (term ∷ terms) = term.1 *ℤ product_at d ends term.0 +ℤ weight_at d ends terms

-- the targets of a row with what they weigh there
abbrev pub moves_by : ℤ → List End → List Entry → List Move
moves_by d ends row = map (λ entry. (entry.target, weight_at d ends entry.poly)) row

-- the ends stand for a valuation, as far as parts of the set are weighed
abbrev pub StandFor : ℤ → List End → Valuation → ℕ → Type 0
StandFor d ends v all = (set : ℕ) → bit_or set all ≡ all → product_at d ends set ≡ monomial v set

-- the greatest size among d and the ends
abbrev pub greatest_end : ℤ → List End → ℕ
greatest_end d [] = unsigned_abs d
greatest_end d (end ∷ ends) = max (unsigned_abs end.1) (greatest_end d ends)

-- the ends that corner c of the set chooses, where the first span is that of parameter k
abbrev pub ends_from : ℕ → Spans → ℕ → ℕ → List End
ends_from k [] set c = []
ends_from k (span ∷ spans) set c = if set % 2 == 0 then ends_from (k + 1) spans (set / 2) c else (k, end_of (c % 2) span) ∷ ends_from (k + 1) spans (set / 2) (c / 2)

-- the ends differ at most in what they choose for their first parameter
pub record IsPair (low high : List End) : Type 0 where
  pub parameter : ℕ
  pub ends : ℤ × ℤ
  pub rest : List End
  pub low_is : low ≡ (parameter, ends.0) ∷ rest
  pub high_is : high ≡ (parameter, ends.1) ∷ rest

-- what the terms weigh that have the parameter, over its end, and over d what the others weigh
abbrev pub present_part : ℤ → ℕ → List End → List Term → ℤ
present_part d parameter rest [] = pos 0
present_part d parameter rest (term ∷ terms) = (if term.0 / 2 ^ parameter % 2 == 1 then term.1 *ℤ product_at d rest term.0 else pos 0) +ℤ present_part d parameter rest terms

-- what the terms weigh that don't have the parameter
abbrev pub absent_part : ℤ → ℕ → List End → List Term → ℤ
absent_part d parameter rest [] = pos 0
absent_part d parameter rest (term ∷ terms) = (if term.0 / 2 ^ parameter % 2 == 1 then pos 0 else term.1 *ℤ product_at d rest term.0) +ℤ absent_part d parameter rest terms
