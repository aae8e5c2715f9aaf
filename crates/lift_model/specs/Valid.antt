-- What every model keeps: the form of its parts, and the limits.
use Rattle.std.specs.Prelude.{◌≡◌, ◌≢◌, ℕ, ◌-◌, ◌^◌, ◌<◌, ◌≤◌, true, List, pos, ◌≤ℤ◌, unsigned_abs, length, sum_by, All, AllPairs, Contains}
use Rattle.lift_poly.specs.Polynomial.{IsPolynomial}
use Rattle.lift_model.specs.declared.kind.Kind.TheVariants.{Dtmc}
use Rattle.lift_model.specs.declared.entry.Entry.{Entry}
use Rattle.lift_model.specs.Model.{ModelData}

-- ---- the limits, each our own profile's

-- how many states a model has at most
abbrev pub most_states : ℕ
most_states = 65536

-- how many choices, over all states
abbrev pub most_choices : ℕ
most_choices = 131072

-- how many transitions, over all choices
abbrev pub most_transitions : ℕ
most_transitions = 262144

-- how many parameters
abbrev pub most_parameters : ℕ
most_parameters = 16

-- how many bytes a parameter's name has
abbrev pub most_name_bytes : ℕ
most_name_bytes = 64

-- what a coefficient's size stays below
abbrev pub coefficient_limit : ℕ
coefficient_limit = 2 ^ 100

-- what the common denominator stays below
abbrev pub common_limit : ℕ
common_limit = 2 ^ 62

-- ---- what a model is

-- an entry, among so many states and parameters: its sets name declared parameters only, and each coefficient's size is below its limit
pub record IsEntry (states parameters : ℕ) (entry : Entry) : Type 0 where
  pub target : entry.target < states
  pub polynomial : IsPolynomial entry.poly
  pub sets : All (λ term. term.0 < 2 ^ parameters) entry.poly
  pub sizes : All (λ term. unsigned_abs term.1 < coefficient_limit) entry.poly

-- a row: no target stands twice
pub record IsRow (states parameters : ℕ) (row : List Entry) : Type 0 where
  pub entries : All (IsEntry states parameters) row
  pub distinct : AllPairs (λ a b. a.target ≢ b.target) row

-- A model has at least one state, for each state whether it is a goal state and at least one goal state, an initial state, a common denominator, parameters of different names, at least one choice for each state and exactly one in a chain; and it keeps to the limits.
pub record IsModel (m : ModelData) : Type 0 where
  pub count : (1 ≤ length m.states) × (length m.states ≤ most_states)
  pub goals : length m.goal ≡ length m.states
  pub some_goal : Contains m.goal true
  pub first : m.init < length m.states
  pub denominator : (pos 1 ≤ℤ m.common) × (m.common ≤ℤ pos (common_limit - 1))
  pub parameters : (length m.names ≤ most_parameters) × AllPairs (λ a b. a ≢ b) m.names
  pub some_choice : All (λ choices. 1 ≤ length choices) m.states
  pub one_choice : m.kind ≡ Dtmc → All (λ choices. length choices ≡ 1) m.states
  pub rows : All (All (IsRow (length m.states) (length m.names))) m.states
  pub choices : sum_by length m.states ≤ most_choices
  pub transitions : sum_by (sum_by length) m.states ≤ most_transitions
