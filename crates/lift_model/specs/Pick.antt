-- Schedulers that don't toss: the plans over 1. Such a plan picks one choice for each history.
use Rattle.std.specs.Prelude.{◌≡◌, ℕ, zero, suc, ◌<◌, false, [], length, slice_index_or}
use Rattle.lift_model.specs.Process.{Process}
use Rattle.lift_model.specs.Plan.{Plan, Parts, Plans, MovesFit, Fits}
use Rattle.lift_model.specs.Plan.Plan.{toss}
use Rattle.lift_model.specs.Plan.Parts.{no_parts, part}
use Rattle.lift_model.specs.Plan.Plans.{no_plans}
use Rattle.lift_model.specs.Reach.{moves_reach, reach}

-- weight 0 for each of so many choices
abbrev pub no_weight : ℕ → Parts
no_weight zero = no_parts
no_weight (suc count) = part 0 no_plans (no_weight count)

-- of so many choices, weight 1 for choice a and 0 for each other
abbrev pub whole_weight : ℕ → ℕ → Plans → Parts
whole_weight zero a plans = no_parts
whole_weight (suc count) zero plans = part 1 plans (no_weight count)
whole_weight (suc count) (suc a) plans = part 0 no_plans (whole_weight count a plans)

-- the plan that picks choice a of so many, and then goes on as the plans say
abbrev pub pick : ℕ → ℕ → Plans → Plan
pick count a plans = toss (whole_weight count a plans)

-- the plan picks choice a of the state and goes on as the plans say, one for each move, for n steps more
pub record Picks (process : Process) (n s : ℕ) (p : Plan) (a : ℕ) (plans : Plans) : Type 0 where
  pub in_range : a < length (process.choices s)
  pub fit : MovesFit (Fits process 1 n) (slice_index_or (process.choices s) a []) plans
  pub is_choice : p ≡ pick (length (process.choices s)) a plans

-- a plan that picks fits, over 1
abbrev pub PicksFit : Type 0
PicksFit = (process : Process) (n s : ℕ) (p : Plan) (a : ℕ) (plans : Plans) → process.goal s ≡ false → Picks process n s p a plans → Fits process 1 (suc n) s p

-- a plan over 1 that fits picks, wherever there is a step to make
abbrev pub FitsPick : Type 0
FitsPick = (process : Process) (n s : ℕ) (p : Plan) → process.goal s ≡ false → Fits process 1 (suc n) s p → (a : ℕ) × (plans : Plans) × Picks process n s p a plans

-- a plan that picks reaches what its choice reaches: the sum over the moves of that one choice
abbrev pub PicksReach : Type 0
PicksReach = (process : Process) (n s : ℕ) (p : Plan) (a : ℕ) (plans : Plans) → process.goal s ≡ false → Picks process n s p a plans → reach process 1 (suc n) s p ≡ moves_reach (reach process 1 n) (slice_index_or (process.choices s) a []) plans
