-- What a scheduler pays before it reaches the goal, within a number of steps (the expected cumulative reward): in each state that is no goal state the charge of the choice that it makes. Without fractions.
use Rattle.std.specs.Prelude.{ℕ, zero, suc, List, ◌∷◌, ℤ, pos, ◌+ℤ◌, ◌*ℤ◌, if◌then◌else◌}
use Rattle.lift_model.specs.Process.{Process, Move, power, weighted_sum}
use Rattle.lift_model.specs.Plan.{Plan, Parts}
use Rattle.lift_model.specs.Plan.Plan.{stop, toss}
use Rattle.lift_model.specs.Plan.Parts.{part}
use Rattle.lift_model.specs.Reach.{moves_reach}
use Rattle.lift_model.specs.Memoryless.{chosen}

-- the sum over the choices of the toss's weight times what the choice costs: its charge, of `all` runs, and what its plans pay
abbrev pub parts_cost : (ℕ → ℕ) → ℤ → (ℕ → Plan → ℤ) → List (List Move) → Parts → ℤ
parts_cost charge all rest (moves ∷ choices) (part u plans parts) =
    pos u *ℤ (pos (charge 0) *ℤ all +ℤ moves_reach rest moves plans) +ℤ parts_cost (λ a. charge (suc a)) all rest choices parts
parts_cost charge all rest _ _ = pos 0

-- what a plan pays by these choices; a plan that stops pays nothing
abbrev pub plan_cost : (ℕ → ℕ) → ℤ → (ℕ → Plan → ℤ) → List (List Move) → Plan → ℤ
plan_cost charge all rest choices stop = pos 0
plan_cost charge all rest choices (toss parts) = parts_cost charge all rest choices parts

-- The cost that is expected of the plan over q from the state within n steps is this number over the n-th power of q times the total, where choice a of a state s costs `charge s a`.
abbrev pub expected_cost : Process → (ℕ → ℕ → ℕ) → ℕ → ℕ → ℕ → Plan → ℤ
expected_cost process charge q zero s p = pos 0
expected_cost process charge q (suc n) s p =
    if process.goal s then pos 0 else plan_cost (charge s) (process.total *ℤ power (pos q *ℤ process.total) n) (expected_cost process charge q n) (process.choices s) p

-- the same of a memoryless scheduler, over the n-th power of the total
abbrev pub memoryless_cost : Process → (ℕ → ℕ → ℕ) → (ℕ → ℕ) → ℕ → ℕ → ℤ
memoryless_cost process charge choice zero s = pos 0
memoryless_cost process charge choice (suc n) s =
    if process.goal s then pos 0 else (pos (charge s (choice s)) *ℤ power process.total (suc n) +ℤ weighted_sum (memoryless_cost process charge choice n) (chosen process choice s))
