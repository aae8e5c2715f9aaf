-- The first place of some at which something isn't so, for what is so or not at each place.
use Rattle.std.proofs.Common.{◌≡◌, ℕ, zero, suc, ◌<◌, ◌⊎◌, inl, inr, ⊎_elim, sym, subst, arith}
use Rattle.lift_rows.specs.Fault.{ComesBefore}

-- ---- one number

-- the first of so many places with Q; P holds at each before it
pub record First (P Q : ℕ → Type 0) (count : ℕ) : Type 0 where
  pub place : ℕ
  pub within : place < count
  pub found : Q place
  pub before : (i : ℕ) → i < place → P i

last_of : (i n : ℕ) → i < suc n → (i ≡ n) ⊎ (i < n)
last_of i n lt = grind arith

one_more : (P Q : ℕ → Type 0) (n : ℕ) → ((i : ℕ) → i < n → P i) → P n ⊎ Q n → ((i : ℕ) → i < suc n → P i) ⊎ First P Q (suc n)
one_more P Q n all (inl p) = inl (λ i lt. ⊎_elim (λ (e : i ≡ n). subst P (sym e) p) (λ (less : i < n). all i less) (last_of i n lt))
one_more P Q n all (inr q) = inr (record { place = n; within = omega arith; found = q; before = all })

-- all of so many places have P, or there is a first one with Q
pub first_or_none : (P Q : ℕ → Type 0) → ((i : ℕ) → P i ⊎ Q i) → (n : ℕ) → ((i : ℕ) → i < n → P i) ⊎ First P Q n
first_or_none P Q test zero = inl (λ i lt. absurd (omega arith))
first_or_none P Q test (suc n) =
    ⊎_elim
    (λ (all : (i : ℕ) → i < n → P i). one_more P Q n all (test n))
    (λ (first : First P Q n). inr (record { place = first.place; within = omega (arith, first.within); found = first.found; before = first.before }))
    (first_or_none P Q test n)

-- ---- two numbers

-- the first of the places in so many rows, each with so many, with Q; P holds at each place before it
pub record FirstPair (P Q : ℕ → ℕ → Type 0) (rows : ℕ) (places : ℕ → ℕ) : Type 0 where
  pub row : ℕ
  pub place : ℕ
  pub row_in : row < rows
  pub place_in : place < places row
  pub found : Q row place
  pub before : (i j : ℕ) → j < places i → ComesBefore (i, j) (row, place) → P i j

-- all of them have P, or there is a first one with Q
pub first_pair_or_none : (P Q : ℕ → ℕ → Type 0) → ((i j : ℕ) → P i j ⊎ Q i j) → (rows : ℕ) (places : ℕ → ℕ)
    → ((i j : ℕ) → i < rows → j < places i → P i j) ⊎ FirstPair P Q rows places
first_pair_or_none P Q test rows places =
    let Holds : ℕ → Type 0 = λ i. (j : ℕ) → j < places i → P i j in
    let Fails : ℕ → Type 0 = λ i. First (P i) (Q i) (places i) in
    ⊎_elim
    (λ (all : (i : ℕ) → i < rows → Holds i). inl (λ i j lt at. all i lt j at))
    (λ (first : First Holds Fails rows).
    inr
    (record {
      row = first.place;
      place = first.found.place;
      row_in = first.within;
      place_in = first.found.within;
      found = first.found.found;
      before = λ i j at.
          ⊎_elim
          (λ (less : i < first.place). first.before i less j at)
          (λ (same : (i ≡ first.place) × (j < first.found.place)). let At : ℕ → Type 0 = λ n. P n j in subst At (sym same.0) (first.found.before j same.1));
    }))
    (first_or_none Holds Fails (λ i. first_or_none (P i) (Q i) (test i) (places i)) rows)
