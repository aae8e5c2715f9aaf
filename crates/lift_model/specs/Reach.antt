-- How probable it is that a scheduler reaches the goal within a number of steps: the textbook's finite-horizon reachability, without fractions.
use Rattle.std.specs.Prelude.{ℕ, zero, suc, List, ◌∷◌, ℤ, pos, ◌+ℤ◌, ◌*ℤ◌, if◌then◌else◌}
use Rattle.lift_model.specs.Process.{Move, Process, power}
use Rattle.lift_model.specs.Plan.{Plan, Parts, Plans}
use Rattle.lift_model.specs.Plan.Plan.{stop, toss}
use Rattle.lift_model.specs.Plan.Parts.{part}
use Rattle.lift_model.specs.Plan.Plans.{plan}

-- the sum over the moves of a choice of the weight times what is reached from the target
abbrev pub moves_reach : (ℕ → Plan → ℤ) → List Move → Plans → ℤ
moves_reach rest (move ∷ moves) (plan p plans) = move.1 *ℤ rest move.0 p +ℤ moves_reach rest moves plans
moves_reach rest _ _ = pos 0

-- the sum over the choices of the toss's weight times what the choice reaches
abbrev pub parts_reach : (ℕ → Plan → ℤ) → List (List Move) → Parts → ℤ
parts_reach rest (moves ∷ choices) (part u plans parts) = pos u *ℤ moves_reach rest moves plans +ℤ parts_reach rest choices parts
parts_reach rest _ _ = pos 0

-- what a plan reaches by these choices; a plan that stops reaches nothing
abbrev pub plan_reach : (ℕ → Plan → ℤ) → List (List Move) → Plan → ℤ
plan_reach rest choices stop = pos 0
plan_reach rest choices (toss parts) = parts_reach rest choices parts

-- The probability that the plan over q reaches the goal from the state within n steps is this number over the n-th power of q times the total.
abbrev pub reach : Process → ℕ → ℕ → ℕ → Plan → ℤ
reach process q zero s p = if process.goal s then pos 1 else pos 0
reach process q (suc n) s p = if process.goal s then power (pos q *ℤ process.total) (suc n) else plan_reach (reach process q n) (process.choices s) p
