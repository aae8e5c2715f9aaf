-- Until: how probable it is that a scheduler reaches the goal within a number of steps by way of safe states alone. The textbook's, for finite horizons and without fractions.
use Rattle.std.specs.Prelude.{ℕ, zero, suc, Bool, ℤ, pos, ◌*ℤ◌, if◌then◌else◌}
use Rattle.lift_model.specs.Process.{Process, power, weighted_sum}
use Rattle.lift_model.specs.Plan.{Plan}
use Rattle.lift_model.specs.Reach.{plan_reach}
use Rattle.lift_model.specs.Memoryless.{chosen}

-- The probability that the plan over q does so from the state within n steps is this number over the n-th power of q times the total. From a state that is neither safe nor a goal state it is 0.
abbrev pub until : Process → (ℕ → Bool) → ℕ → ℕ → ℕ → Plan → ℤ
until process safe q zero s p = if process.goal s then pos 1 else pos 0
until process safe q (suc n) s p = if process.goal s then power (pos q *ℤ process.total) (suc n) else (if safe s then plan_reach (until process safe q n) (process.choices s) p else pos 0)

-- the same for a memoryless scheduler, over the n-th power of the total
abbrev pub memoryless_until : Process → (ℕ → Bool) → (ℕ → ℕ) → ℕ → ℕ → ℤ
memoryless_until process safe choice zero s = if process.goal s then pos 1 else pos 0
memoryless_until process safe choice (suc n) s = if process.goal s then power process.total (suc n) else (if safe s then weighted_sum (memoryless_until process safe choice n) (chosen process choice s) else pos 0)
