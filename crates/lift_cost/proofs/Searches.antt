-- Searches among finitely many numbers.
use Rattle.std.proofs.Common.{◌≡◌, ℕ, zero, suc, ◌<◌, ◌≤◌, ◌⊎◌, inl, inr, ⊎_elim, arith, subst}
use Rattle.std.proofs.lemmas.Bool.{cases_lt}

-- what holds before n and at n holds before n + 1
pub one_more_place : (P : ℕ → Type 0) (n : ℕ) → ((i : ℕ) → i < n → P i) → P n → (i : ℕ) → i < suc n → P i
one_more_place P n before here i lt =
    ⊎_elim
    (λ (less : i < n). before i less)
    (λ (past : n ≤ i). let same : n ≡ i = omega (arith, past, lt) in subst P same here)
    (cases_lt i n)

-- of the numbers below n, each has P or one has Q
pub all_or_some : (P Q : ℕ → Type 0) → ((i : ℕ) → P i ⊎ Q i) → (n : ℕ) → ((i : ℕ) → i < n → P i) ⊎ ((i : ℕ) × ((i < n) × Q i))
all_or_some P Q each zero = inl (λ i lt. absurd (omega (arith, lt)))
all_or_some P Q each (suc n) = more (each n) (all_or_some P Q each n)
  where
    more : P n ⊎ Q n → ((i : ℕ) → i < n → P i) ⊎ ((i : ℕ) × ((i < n) × Q i)) → ((i : ℕ) → i < suc n → P i) ⊎ ((i : ℕ) × ((i < suc n) × Q i))
    more here (inr one) = inr (one.0, (omega (arith, one.1.0), one.1.1))
    more (inr here) (inl all) = inr (n, (omega arith, here))
    more (inl here) (inl all) = inl (one_more_place P n all here)
