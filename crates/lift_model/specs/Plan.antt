-- The textbook's schedulers, cut off after some steps. A scheduler may remember the whole history and may toss among the choices of a state.
use Rattle.std.specs.Prelude.{◌≡◌, ℕ, zero, suc, ◌+◌, List, [], ◌∷◌, ◌⊎◌, IsTrue}
use Rattle.lift_model.specs.Process.{Move, Process}

-- A scheduler over a whole number q. `toss` has a part for each choice of the state: its weight, whose probability is the weight over q, and the plans for what follows, one for each move of that choice. As the targets of a choice are distinct, a plan is a distribution over choices for each history.
mutual
  pub data Plan : Type 0 where
    stop : Plan
    toss : Parts → Plan

  pub data Parts : Type 0 where
    no_parts : Parts
    part : ℕ → Plans → Parts → Parts

  pub data Plans : Type 0 where
    no_plans : Plans
    plan : Plan → Plans → Plans

-- one plan for each move, and each fits the move's target
abbrev pub MovesFit : (ℕ → Plan → Type 0) → List Move → Plans → Type 0
MovesFit fits [] no_plans = Unit {0}
MovesFit fits (move ∷ moves) (plan p plans) = fits move.0 p × MovesFit fits moves plans
MovesFit fits _ _ = ⊥

-- a part of weight 0 has no plans, and any other has one that fits for each move of its choice
abbrev pub PartFits : (ℕ → Plan → Type 0) → List Move → ℕ → Plans → Type 0
PartFits fits moves zero plans = plans ≡ no_plans
PartFits fits moves (suc u) plans = MovesFit fits moves plans

-- one part for each choice, and their weights sum to q
abbrev pub PartsFit : (ℕ → Plan → Type 0) → ℕ → List (List Move) → Parts → Type 0
PartsFit fits q [] no_parts = q ≡ 0
PartsFit fits q (moves ∷ choices) (part u plans parts) = PartFits fits moves u plans × ((rest : ℕ) × (q ≡ u + rest) × PartsFit fits rest choices parts)
PartsFit fits q _ _ = ⊥

-- a plan that tosses among these choices
abbrev pub PlanFits : (ℕ → Plan → Type 0) → ℕ → List (List Move) → Plan → Type 0
PlanFits fits q choices stop = ⊥
PlanFits fits q choices (toss parts) = PartsFit fits q choices parts

-- the plan over q says what to do from the state on, for n steps or until the goal
abbrev pub Fits : Process → ℕ → ℕ → ℕ → Plan → Type 0
Fits process q zero s p = Unit {0}
Fits process q (suc n) s p = IsTrue (process.goal s) ⊎ PlanFits (Fits process q n) q (process.choices s) p
