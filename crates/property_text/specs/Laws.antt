-- What holds of until, and of formulas, for who reasons about them.
use Rattle.std.specs.Prelude.{◌≡◌, ℕ, ◌<◌, ◌≤◌, Bool, true, false, List, [], length, slice_index_or, All}
use Rattle.lift_poly.specs.Polynomial.{Valuation}
use Rattle.lift_model.specs.Process.{Process, Move}
use Rattle.lift_model.specs.Plan.{Plan, Fits}
use Rattle.lift_model.specs.Reach.{reach}
use Rattle.lift_model.specs.Memoryless.{memoryless_reach}
use Rattle.lift_model.specs.Model.{ModelData, choices, process_at}
use Rattle.lift_model.specs.Valid.{IsModel}
use Rattle.property_text.specs.Until.{until, memoryless_until}
use Rattle.property_text.specs.Restricted.{is_safe, restricted, all_safe}
use Rattle.property_text.specs.Grammar.{Written, Writes}

-- a plan that fits the model after the cut, and reaches what another plan's until is in the model
pub record Matches (m : ModelData) (safe : List Bool) (v : Valuation) (q n s : ℕ) (p other : Plan) : Type 0 where
  pub fits : Fits (process_at (restricted m safe) v) q n s other
  pub same : reach (process_at (restricted m safe) v) q n s other ≡ until (process_at m v) (is_safe safe) q n s p

-- for each plan that fits there is such a plan
abbrev pub UntilIsReach : Type 0
UntilIsReach = (m : ModelData) (safe : List Bool) (v : Valuation) (q n s : ℕ) (p : Plan) → Fits (process_at m v) q n s p → (other : Plan) × Matches m safe v q n s p other

-- a memoryless scheduler reaches after the cut what its until is
abbrev pub MemorylessUntilIsReach : Type 0
MemorylessUntilIsReach = (m : ModelData) (safe : List Bool) (v : Valuation) (choice : ℕ → ℕ) (n s : ℕ)
    → memoryless_reach (process_at (restricted m safe) v) choice n s ≡ memoryless_until (process_at m v) (is_safe safe) choice n s

-- the cut keeps the number of a state's choices
abbrev pub CutKeepsChoices : Type 0
CutKeepsChoices = (m : ModelData) (safe : List Bool) (s : ℕ) → length (choices (restricted m safe) s) ≡ length (choices m s)

-- where every state is safe, until is reach
abbrev pub ReachIsUntil : Type 0
ReachIsUntil = (process : Process) (q n s : ℕ) (p : Plan) → until process (λ t. true) q n s p ≡ reach process q n s p

-- and the cut changes nothing
abbrev pub CutOfNoneIsSame : Type 0
CutOfNoneIsSame = (m : ModelData) → restricted m (all_safe m) ≡ m

-- ---- memoryless schedulers as plans

-- a process of so many states: each but a goal state has a choice, and choices lead to states
pub record HasStates (process : Process) (states : ℕ) : Type 0 where
  pub some : (s : ℕ) → s < states → process.goal s ≡ false → 1 ≤ length (process.choices s)
  pub inside : (s a : ℕ) → s < states → All (λ (move : Move). move.0 < states) (slice_index_or (process.choices s) a [])

-- a model is one at each valuation
abbrev pub ModelsHaveStates : Type 0
ModelsHaveStates = (m : ModelData) (v : Valuation) → IsModel m → HasStates (process_at m v) (length m.states)

-- a choice is named for each state that is safe and no goal state
abbrev pub NamesChoices : Process → ℕ → (ℕ → Bool) → (ℕ → ℕ) → Type 0
NamesChoices process states safe choice = (s : ℕ) → s < states → process.goal s ≡ false → safe s ≡ true → choice s < length (process.choices s)

-- a plan over 1 that fits, and whose until is that of a memoryless scheduler
pub record IsPlanOf (process : Process) (safe : ℕ → Bool) (choice : ℕ → ℕ) (n s : ℕ) (p : Plan) : Type 0 where
  pub fits : Fits process 1 n s p
  pub same : until process safe 1 n s p ≡ memoryless_until process safe choice n s

-- a memoryless scheduler is a plan: one that makes the choices it names, at every step
abbrev pub MemorylessIsAPlan : Type 0
MemorylessIsAPlan = (process : Process) (states : ℕ) (safe : ℕ → Bool) (choice : ℕ → ℕ) → HasStates process states → NamesChoices process states safe choice → (n s : ℕ) → s < states → (p : Plan) × IsPlanOf process safe choice n s p

-- a plan over 1 that fits, and reaches what a memoryless scheduler does
pub record IsReachingPlanOf (process : Process) (choice : ℕ → ℕ) (n s : ℕ) (p : Plan) : Type 0 where
  pub fits : Fits process 1 n s p
  pub same : reach process 1 n s p ≡ memoryless_reach process choice n s

-- and so it is of reach, where it names a choice for each state but goal states
abbrev pub MemorylessReachesAsAPlan : Type 0
MemorylessReachesAsAPlan = (process : Process) (states : ℕ) (choice : ℕ → ℕ) → HasStates process states → NamesChoices process states (λ s. true) choice → (n s : ℕ) → s < states → (p : Plan) × IsReachingPlanOf process choice n s p

-- ---- formulas

-- a text writes one formula at most
abbrev pub FormulaIsOne : Type 0
FormulaIsOne = (text : List ℕ) (a b : Written) → Writes text a → Writes text b → a ≡ b
