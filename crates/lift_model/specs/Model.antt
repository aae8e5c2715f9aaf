-- A parametric Markov model, and the process that it is at a valuation.
use Rattle.std.specs.Prelude.{ℕ, Bool, false, List, [], ◌∷◌, ℤ, ◌*ℤ◌, length, map, sum_by, slice_index_or, bit_or}
use Rattle.lift_poly.specs.Polynomial.{Valuation, weight, denominator}
use Rattle.lift_poly.specs.Arithmetic as polynomial
use Rattle.lift_model.specs.declared.kind.Kind.{Kind}
use Rattle.lift_model.specs.declared.entry.Entry.{Entry}
use Rattle.lift_model.specs.Process.{Move, Process}

-- A model: its kind, its common denominator, the names of its parameters in declared order, for each state whether it is a goal state, its initial state, and for each state its choices, each a list of entries.
pub record ModelData : Type 0 where
  pub kind : Kind
  pub common : ℤ
  pub names : List (List ℕ)
  pub goal : List Bool
  pub init : ℕ
  pub states : List (List (List Entry))

-- whether the state is a goal state
abbrev pub is_goal : ModelData → ℕ → Bool
is_goal m s = slice_index_or m.goal s false

-- the choices of a state
abbrev pub choices : ModelData → ℕ → List (List Entry)
choices m s = slice_index_or m.states s []

-- the row of a state's choice of that number
abbrev pub row_at : ModelData → ℕ → ℕ → List Entry
row_at m s a = slice_index_or (choices m s) a []

-- how many rows a model has
abbrev pub row_count : ModelData → ℕ
row_count m = sum_by length m.states

-- the set of the parameters that are in one of these sets
abbrev pub union : List ℕ → ℕ
union [] = 0
union (set ∷ sets) = bit_or set (union sets)

-- the set of the parameters that occur in a row
abbrev pub support : List Entry → ℕ
support row = union (map (λ entry. polynomial.support entry.poly) row)

-- the set of the parameters that occur in one of the choices of a state
abbrev pub choices_support : List (List Entry) → ℕ
choices_support rows = union (map support rows)

-- the live parameters: those that occur in some row, also of a goal state
abbrev pub live : ModelData → ℕ
live m = union (map choices_support m.states)

-- the targets of a choice with their weights at a valuation
abbrev pub moves_at : Valuation → List Entry → List Move
moves_at v row = map (λ entry. (entry.target, weight v entry.poly)) row

-- The model at a valuation. The probability of an entry is its weight over the common denominator times the product of the valuation's denominators.
abbrev pub process_at : ModelData → Valuation → Process
process_at m v = record {
  goal = is_goal m;
  choices = λ s. map (moves_at v) (choices m s);
  total = m.common *ℤ denominator v;
}
