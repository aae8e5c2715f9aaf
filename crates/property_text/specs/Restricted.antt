-- A model after the cut: in a state that is neither safe nor a goal state each choice stays in the state. So until, for which a run ends there, is reach.
use Rattle.std.specs.Prelude.{ℕ, suc, Bool, true, false, ◌||◌, List, [], ◌∷◌, ℤ, map, slice_index_or, if◌then◌else◌}
use Rattle.lift_poly.specs.Polynomial.{Term}
use Rattle.lift_model.specs.declared.entry.Entry.{Entry}
use Rattle.lift_model.specs.Model.{ModelData, is_goal}

-- whether a state is safe, by a list of one truth value per state
abbrev pub is_safe : List Bool → ℕ → Bool
is_safe safe s = slice_index_or safe s false

-- whether a state is as it was after the cut
abbrev pub is_kept : ModelData → List Bool → ℕ → Bool
is_kept m safe s = is_goal m s || is_safe safe s

-- the polynomial of probability 1: the constant of the common denominator
abbrev pub certain : ℤ → List Term
certain common = (0, common) ∷ []

-- a row that stays in the state with that polynomial; a row without entries stays as it is
abbrev pub staying : List Term → ℕ → List Entry → List Entry
staying poly s [] = []
staying poly s (entry ∷ row) = record { target = s; poly = poly } ∷ []

-- the states from one on, each with its own choices where it is kept, and else with choices that stay
abbrev pub cut_from : List Term → (ℕ → Bool) → ℕ → List (List (List Entry)) → List (List (List Entry))
cut_from poly kept s [] = []
cut_from poly kept s (rows ∷ states) = (if kept s then rows else map (staying poly s) rows) ∷ cut_from poly kept (suc s) states

-- the model in which the states that are neither safe nor goal states are cut
abbrev pub restricted : ModelData → List Bool → ModelData
restricted m safe = record {
  kind = m.kind;
  common = m.common;
  names = m.names;
  goal = m.goal;
  init = m.init;
  states = cut_from (certain m.common) (is_kept m safe) 0 m.states;
}

-- every state of a model is safe
abbrev pub all_safe : ModelData → List Bool
all_safe m = map (λ rows. true) m.states
