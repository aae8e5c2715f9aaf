-- Searches among finitely many numbers, and lists that are made place by place.
use Rattle.std.proofs.Common.{◌≡◌, ℕ, zero, suc, ◌<◌, ◌≤◌, ◌⊎◌, inl, inr, ⊎_elim, List, [], ◌∷◌, length, get_or, ℤ, ◌≤ℤ◌, refl, arith, subst}
use Rattle.std.proofs.lemmas.Bool.{cases_lt}
use Rattle.std.proofs.lemmas.Int.{by_lt_z}
use Rattle.lift_poly.proofs.Ring.{linear}

-- ---- what holds or doesn't

pub at_most_or_not : (a b : ℤ) → (a ≤ℤ b) ⊎ (a ≤ℤ b → ⊥)
at_most_or_not a b = by_lt_z b a (λ lt. inr (λ le. omega (arith, linear, lt, le))) (λ le. inl le)

pub both_or_not : {P Q : Type 0} → P ⊎ (P → ⊥) → Q ⊎ (Q → ⊥) → (P × Q) ⊎ (P × Q → ⊥)
both_or_not (inl p) (inl q) = inl (p, q)
both_or_not (inl p) (inr o) = inr (λ both. o both.1)
both_or_not (inr o) d = inr (λ both. o both.0)

-- what holds before n and at n holds before n + 1
pub one_more_place : (P : ℕ → Type 0) (n : ℕ) → ((i : ℕ) → i < n → P i) → P n → (i : ℕ) → i < suc n → P i
one_more_place P n before here i lt =
    ⊎_elim
    (λ (less : i < n). before i less)
    (λ (past : n ≤ i). let same : n ≡ i = omega (arith, past, lt) in subst P same here)
    (cases_lt i n)

-- whether all numbers below n have P
pub all_or_not : (P : ℕ → Type 0) → ((i : ℕ) → P i ⊎ (P i → ⊥)) → (n : ℕ) → ((i : ℕ) → i < n → P i) ⊎ (((i : ℕ) → i < n → P i) → ⊥)
all_or_not P decide zero = inl (λ i lt. absurd (omega (arith, lt)))
all_or_not P decide (suc n) =
    ⊎_elim
    (λ (before : (i : ℕ) → i < n → P i). both_then before (decide n))
    (λ (none : ((i : ℕ) → i < n → P i) → ⊥). inr (λ all. none (λ i lt. all i (omega (arith, lt)))))
    (all_or_not P decide n)
  where
    both_then : ((i : ℕ) → i < n → P i) → P n ⊎ (P n → ⊥) → ((i : ℕ) → i < suc n → P i) ⊎ (((i : ℕ) → i < suc n → P i) → ⊥)
    both_then before (inl here) = inl (one_more_place P n before here)
    both_then before (inr none) = inr (λ all. none (all n (omega arith)))

-- ---- the least number

-- the least number that has P
pub record IsFirst (P : ℕ → Type 0) (n : ℕ) : Type 0 where
  pub holds : P n
  pub least : (m : ℕ) → P m → n ≤ m

-- none of the numbers below n has P, or there is a least one
pub first_or_none : (P : ℕ → Type 0) → ((i : ℕ) → P i ⊎ (P i → ⊥)) → (n : ℕ) → ((i : ℕ) → i < n → P i → ⊥) ⊎ ((m : ℕ) × IsFirst P m)
first_or_none P decide zero = inl (λ i lt p. absurd (omega (arith, lt)))
first_or_none P decide (suc n) =
    ⊎_elim
    (λ (none : (i : ℕ) → i < n → P i → ⊥).
    ⊎_elim
    (λ (here : P n). inr (n, record { holds = here; least = λ m p. ⊎_elim (λ (less : m < n). absurd (none m less p)) (λ (past : n ≤ m). past) (cases_lt m n) }))
    (λ (other : P n → ⊥). inl (one_more_place (λ i. P i → ⊥) n none other))
    (decide n))
    (λ (found : (m : ℕ) × IsFirst P m). inr found)
    (first_or_none P decide n)

-- where a number has P, there is a least one
pub first : (P : ℕ → Type 0) → ((i : ℕ) → P i ⊎ (P i → ⊥)) → (n : ℕ) → P n → (m : ℕ) × IsFirst P m
first P decide n holds =
    ⊎_elim
    (λ (none : (i : ℕ) → i < suc n → P i → ⊥). absurd (none n (omega arith) holds))
    (λ (found : (m : ℕ) × IsFirst P m). found)
    (first_or_none P decide (suc n))

-- ---- lists

module _ {A : Type 0} (d : A) where
  behind_head : (P : ℕ → A → Type 0) (n : ℕ) (a : A) (xs : List A) → P 0 a → ((i : ℕ) → i < n → P (suc i) (get_or xs i d)) → (i : ℕ) → i < suc n → P i (get_or (a ∷ xs) i d)
  behind_head P n a xs here rest zero lt = here
  behind_head P n a xs here rest (suc i) lt = rest i (omega (arith, lt))

  -- where each place below n can be filled, a list of n fills them
  pub filled : (P : ℕ → A → Type 0) (n : ℕ) → ((i : ℕ) → i < n → (a : A) × P i a) → (xs : List A) × ((length xs ≡ n) × ((i : ℕ) → i < n → P i (get_or xs i d)))
  filled P zero each = ([], (refl, λ i lt. absurd (omega (arith, lt))))
  filled P (suc n) each =
      let head = each 0 (omega arith) in
      let tail = filled (λ i. P (suc i)) n (λ i lt. each (suc i) (omega (arith, lt))) in
      (head.0 ∷ tail.0, (omega (arith, tail.1.0), behind_head P n head.0 tail.0 head.1 tail.1.1))
