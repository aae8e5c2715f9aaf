-- Memoryless schedulers, which make one choice per state whatever came before: the textbook's finite-horizon reachability for them, and the runs that are still undecided. Without fractions, as for any scheduler.
use Rattle.std.specs.Prelude.{ℕ, zero, suc, Bool, List, [], ℤ, pos, slice_index_or, if◌then◌else◌}
use Rattle.lift_model.specs.Process.{Process, Move, power, weighted_sum}

-- the moves of the choice that is made in the state; none where the state has no such choice
abbrev pub chosen : Process → (ℕ → ℕ) → ℕ → List Move
chosen process choice s = slice_index_or (process.choices s) (choice s) []

-- The probability that the goal is reached from the state within n steps is this number over the n-th power of the total.
abbrev pub memoryless_reach : Process → (ℕ → ℕ) → ℕ → ℕ → ℤ
memoryless_reach process choice zero s = if process.goal s then pos 1 else pos 0
memoryless_reach process choice (suc n) s = if process.goal s then power process.total (suc n) else weighted_sum (memoryless_reach process choice n) (chosen process choice s)

-- The probability that a run from the state is still undecided after n steps, since it stayed among the states of this test, is this number over the n-th power of the total.
abbrev pub undecided : Process → (ℕ → ℕ) → (ℕ → Bool) → ℕ → ℕ → ℤ
undecided process choice test zero s = if test s then pos 1 else pos 0
undecided process choice test (suc n) s = if test s then weighted_sum (undecided process choice test n) (chosen process choice s) else pos 0
