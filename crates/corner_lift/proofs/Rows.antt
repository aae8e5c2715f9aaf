-- The numbers of a vector.
use Rattle.std.proofs.Common.{ℕ, zero, suc, ◌^◌, ◌<◌, ◌≤◌, ◌⊎◌, List, [], ◌∷◌, ℤ, pos, ◌≤ℤ◌, All, arith}
use Rattle.std.proofs.lemmas.List.Elements.{All-head, All-tail}
use Rattle.lift_poly.proofs.Ring.{linear}
use Rattle.corner_lift.specs.Certificate.{AreNumbers}
use Rattle.corner_lift.specs.Case.{CaseData, number}

-- whether a state is one of so many
pub in_or_past : (s count : ℕ) → (s < count) ⊎ (count ≤ s)
in_or_past s count = grind arith

pub all_numbers : (P : ℤ → Type 0) (x : List ℤ) → P (pos 0) → All P x → (s : ℕ) → P (number x s)
all_numbers P [] zero_in h s = zero_in
all_numbers P (n ∷ x) zero_in h zero = All-head P n x h
all_numbers P (n ∷ x) zero_in h (suc s) = all_numbers P x zero_in (All-tail P n x h) s

-- each number lies from 0 to 2 ^ w, also that of no state, which is 0
pub number_range : (k : CaseData) (x : List ℤ) → AreNumbers k x → (s : ℕ) → (pos 0 ≤ℤ number x s) × (number x s ≤ℤ pos (2 ^ k.w))
number_range k x h s = all_numbers (λ n. (pos 0 ≤ℤ n) × (n ≤ℤ pos (2 ^ k.w))) x (omega (arith, linear), omega (arith, linear)) h.range s
