-- A scheduler that makes the same choices whatever the number of steps left.
use Rattle.std.proofs.Common.{◌≡◌, ℕ, zero, suc, cond, List, [], ◌∷◌, ℤ, refl, ap}
use Rattle.lift_model.specs.Process.{Move, power, weighted_sum}
use Rattle.lift_model.specs.Memoryless.{chosen, memoryless_reach}
use Rattle.lift_model.specs.Timed.{timed_reach, SameChoicesAreMemoryless}

-- a weighted sum of equal numbers is equal
sum-same : (f g : ℕ → ℤ) (moves : List Move) → ((t : ℕ) → f t ≡ g t) → weighted_sum f moves ≡ weighted_sum g moves
sum-same f g [] same = refl
sum-same f g (m ∷ moves) same = let first = same m.0 in let others = sum-same f g moves same in rw (first, others)

pub same_choices_are_memoryless : SameChoicesAreMemoryless
same_choices_are_memoryless process choice zero s = refl
same_choices_are_memoryless process choice (suc n) s =
    ap (λ r. cond (process.goal s) (power process.total (suc n)) r)
    (sum-same (timed_reach process (λ left. choice) n) (memoryless_reach process choice n) (chosen process choice s) (λ t. same_choices_are_memoryless process choice n t))
