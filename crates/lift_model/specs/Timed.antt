-- Schedulers that make one choice per state and number of steps left: the textbook's finite-horizon reachability for them. Without fractions, as for any scheduler.
use Rattle.std.specs.Prelude.{◌≡◌, ℕ, zero, suc, ℤ, pos, if◌then◌else◌}
use Rattle.lift_model.specs.Process.{Process, power, weighted_sum}
use Rattle.lift_model.specs.Memoryless.{chosen, memoryless_reach}

-- The probability that the goal is reached from the state within n steps is this number over the n-th power of the total. `choice n` says what is chosen in each state where n steps are left.
abbrev pub timed_reach : Process → (ℕ → ℕ → ℕ) → ℕ → ℕ → ℤ
timed_reach process choice zero s = if process.goal s then pos 1 else pos 0
timed_reach process choice (suc n) s = if process.goal s then power process.total (suc n) else weighted_sum (timed_reach process choice n) (chosen process (choice (suc n)) s)

-- a scheduler that makes the same choices whatever the number of steps left reaches what the memoryless one does
abbrev pub SameChoicesAreMemoryless : Type 0
SameChoicesAreMemoryless = (process : Process) (choice : ℕ → ℕ) (n s : ℕ) → timed_reach process (λ left. choice) n s ≡ memoryless_reach process choice n s
