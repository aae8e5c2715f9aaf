-- One step of a plan that tosses, whatever `rest` is counted of the steps that follow, be it what is reached or what is paid.
use Rattle.std.specs.Prelude.{ℕ, ℤ, pos, ◌*ℤ◌, ◌≤ℤ◌}
use Rattle.std.specs.List.{AllByRecursion}
use Rattle.lift_model.specs.Process.{Process, weighted_sum}
use Rattle.lift_model.specs.Plan.{Plan, PlanFits, Fits}
use Rattle.lift_model.specs.Reach.{plan_reach}
use Rattle.lift_model.specs.Laws.{AreNonNegative}

-- Where the rest of n more steps, over k, is at most the target's number over top, and no weighted sum of these numbers over a choice of s is above b, then what the plan over q makes of the rest, over q k, is at most b over top. Multiplied out.
abbrev pub TossesAreBounded : Type 0
TossesAreBounded = (process : Process) (rest : ℕ → Plan → ℤ) (number : ℕ → ℤ) (top k b : ℤ) (q n s : ℕ) (p : Plan)
    → ((t : ℕ) (r : Plan) → Fits process q n t r → (rest t r *ℤ top) ≤ℤ (number t *ℤ k)) → pos 0 ≤ℤ k
    → AllByRecursion AreNonNegative (process.choices s) → AllByRecursion (λ moves. weighted_sum number moves ≤ℤ b) (process.choices s) → PlanFits (Fits process q n) q (process.choices s) p
    → (plan_reach rest (process.choices s) p *ℤ top) ≤ℤ ((pos q *ℤ b) *ℤ k)
