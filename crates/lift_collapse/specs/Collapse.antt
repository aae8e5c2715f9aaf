-- Collapsed models: fewer states, of which one stands for all goal states, one for all lost states, and whatever a state surely leads to for that state. It is a quotient by states of equal value, as the textbook has quotients, but for the parameters, which stay.
use Rattle.std.specs.Prelude.{◌≡◌, ℕ, ◌<◌, ◌⊎◌, Bool, true, false, List, ℤ, All, length, map, slice_index_or}
use Rattle.lift_model.specs.declared.entry.Entry.{Entry}
use Rattle.lift_model.specs.Model.{ModelData, is_goal, choices, row_at}
use Rattle.lift_model.specs.Links.{targets_of}
use Rattle.lift_model.specs.Valid.{IsModel}
use Rattle.corner_lift.specs.Case.{CaseData, number}

-- the collapsed model, and for each state of the whole one its place: the state of the collapsed model that stands for it
pub record CollapseData : Type 0 where
  pub model : ModelData
  pub places : List ℕ

-- the place of a state
abbrev pub place : CollapseData → ℕ → ℕ
place c s = slice_index_or c.places s 0

-- an entry whose target is at its place
abbrev pub placed : CollapseData → Entry → Entry
placed c entry = record entry { target = place c entry.target }

-- a row with each target at its place
abbrev pub placed_row : CollapseData → List Entry → List Entry
placed_row c row = map (placed c) row

-- the state s is kept, as the state i: it has this place, is a goal state or none, and has the same choices, each target at its place
pub record IsKept (m : ModelData) (c : CollapseData) (i s : ℕ) : Type 0 where
  pub inside : s < length m.states
  pub place : place c s ≡ i
  pub goal : is_goal c.model i ≡ is_goal m s
  pub choices : choices c.model i ≡ map (placed_row c) (choices m s)

-- all targets of all choices of the state are such
abbrev pub AllTargets : ModelData → (ℕ → Type 0) → ℕ → Type 0
AllTargets m P s = (a : ℕ) → a < length (choices m s) → All P (targets_of (row_at m s a))

-- Lost states: none of them is a goal state, and they lead only to lost states at their own place. So no scheduler reaches the goal from there.
pub record AreLost (m : ModelData) (c : CollapseData) (lost : ℕ → Bool) : Type 0 where
  pub no_goal : (s : ℕ) → s < length m.states → lost s ≡ true → is_goal m s ≡ false
  pub targets : (s : ℕ) → s < length m.states → lost s ≡ true → AllTargets m (λ t. (lost t ≡ true) × (place c t ≡ place c s)) s

-- The state surely leads to its place: it is no goal state, and whatever it leads to has the same place, and is lower. That states become lower on the way keeps apart those that lead to each other for ever.
pub record IsSure (m : ModelData) (c : CollapseData) (height : ℕ → ℕ) (s : ℕ) : Type 0 where
  pub no_goal : is_goal m s ≡ false
  pub targets : AllTargets m (λ t. (place c t ≡ place c s) × (height t < height s)) s

-- what is kept at a state's place stands for it: the state itself, a goal state for a goal state, a lost state for a lost one, or what the state surely leads to
abbrev pub StandsFor : ModelData → CollapseData → (ℕ → ℕ) → (ℕ → Bool) → (ℕ → ℕ) → ℕ → Type 0
StandsFor m c kept lost height s = let t = kept (place c s) in
    (t ≡ s) ⊎ (((is_goal m s ≡ true) × (is_goal m t ≡ true)) ⊎ (((lost s ≡ true) × (lost t ≡ true)) ⊎ IsSure m c height s))

-- The collapse of a model: each state of the collapsed model is a state that is kept, and each state of the whole one has a place, at which what is kept stands for it.
pub record IsCollapse (m : ModelData) (c : CollapseData) : Type 0 where
  pub model : IsModel c.model
  pub common : c.model.common ≡ m.common
  pub names : c.model.names ≡ m.names
  pub size : length c.places ≡ length m.states
  pub init : c.model.init ≡ place c m.init
  pub inside : (s : ℕ) → s < length m.states → place c s < length c.model.states
  pub kept : ℕ → ℕ
  pub keeps : (i : ℕ) → i < length c.model.states → IsKept m c i (kept i)
  pub lost : ℕ → Bool
  pub are_lost : AreLost m c lost
  pub height : ℕ → ℕ
  pub stands : (s : ℕ) → s < length m.states → StandsFor m c kept lost height s

-- the case of the collapsed model
abbrev pub collapsed : CaseData → CollapseData → CaseData
collapsed k c = record k { model = c.model }

-- a vector of the collapsed model, read at the places of the whole one's states
abbrev pub spread : CollapseData → List ℤ → List ℤ
spread c z = map (number z) c.places
