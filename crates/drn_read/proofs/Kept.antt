-- What holds of what is kept from line to line, as long as no line has a fault.
use Rattle.std.proofs.Common.{◌≡◌, ◌≢◌, ℕ, ◌≤◌, List, [], ◌∷◌, ◌++◌, length, All, AllPairs, count_ones, Option, Some}
use Rattle.lift_model.specs.declared.kind.Kind.{Kind}
use Rattle.lift_model.specs.declared.kind.Kind.TheVariants.{Mdp}
use Rattle.lift_poly.specs.Arithmetic.{support}
use Rattle.lift_model.specs.Valid.{most_states, most_choices, most_transitions, most_parameters}
use Rattle.drn_expr.specs.RatPolys.{OverOne, IsOver}
use Rattle.lift_frac.specs.Laws.{LcmIsAtLeast}
use Rattle.lift_poly.specs.Laws.{TermsSumToPolynomial}
use Rattle.drn_expr.specs.Laws.{ReadingIsOver}
use Rattle.drn_read.specs.Text.{most_value_parameters}
use Rattle.drn_read.specs.Laws.{IsShortName}
use Rattle.drn_read.specs.Sections.{Placeholder}
use Rattle.drn_read.specs.States.{StateText}
use Rattle.drn_read.specs.Judging.{Said, most_placeholders, choice_count, transition_count}
use Rattle.drn_read.specs.declared.section.Phase.TheVariants as phase
use Rattle.drn_read.specs.declared.state.Transition.{Transition}

-- the laws below that this rests on
pub record Laws : Type 0 where
  pub readings : ReadingIsOver
  pub sums : TermsSumToPolynomial
  pub multiples : LcmIsAtLeast

-- a value over so many parameters, of which it holds few
pub record IsValue (count : ℕ) (p : OverOne) : Type 0 where
  pub over : IsOver count p
  pub few : count_ones (support p.terms) ≤ most_value_parameters

-- few parameters of different names, each of which is short
abbrev pub AreNames : List (List ℕ) → Type 0
AreNames names = (length names ≤ most_parameters) × AllPairs (λ a b. a ≢ b) names × All IsShortName names

-- the parameters, and the placeholders, whose values are over these
pub record IsDeclared (names : List (List ℕ)) (places : List Placeholder) : Type 0 where
  pub parameters : AreNames names
  pub few : length places ≤ most_placeholders
  pub values : All (λ place. IsValue (length names) place.value) places

-- a choice: no target stands twice, and each value is over so many parameters
pub record IsChoice (count : ℕ) (choice : List Transition) : Type 0 where
  pub distinct : AllPairs (λ a b. a.target ≢ b.target) choice
  pub values : All (λ t. IsValue count t.value) choice

-- a state: it has at most one choice where the model is no decision process
pub record IsState (kind : Option Kind) (count : ℕ) (s : StateText) : Type 0 where
  pub one : kind ≢ Some Mdp → length s.choices ≤ 1
  pub choices : All (IsChoice count) s.choices

-- the states, within the limits; each but the last one has a choice
pub record AreStates (kind : Option Kind) (count : ℕ) (states : List StateText) : Type 0 where
  pub few : length states ≤ most_states
  pub choices : choice_count states ≤ most_choices
  pub transitions : transition_count states ≤ most_transitions
  pub each : All (IsState kind count) states
  pub closed : (front : List StateText) (s : StateText) → states ≡ front ++ s ∷ [] → All (λ t. 1 ≤ length t.choices) front

-- what the lines without fault say; before the model begins there is no state
pub record IsSound (said : Said) : Type 0 where
  pub declared : IsDeclared said.header.names said.header.placeholders
  pub states : AreStates said.header.kind (length said.header.names) said.states
  pub before : said.header.phase ≢ phase.Model → said.states ≡ []
