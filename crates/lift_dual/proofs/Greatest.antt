-- What is left of a vector, place by place.
use Rattle.std.proofs.Common.{◌≡◌, ℕ, ◌+◌, ◌<◌, ◌≤◌, List, length, set, ℤ, ◌-ℤ◌, refl, sym, subst, ◌∙◌, arith, ◌⊎◌, ⊎_elim, get_or-set_same, get_or-set_other}
use Rattle.corner_lift.specs.Case.{number}
use Rattle.lift_dual.proofs.Inside.{in_or_past}

-- one more place
pub done_more : (P : ℕ → ℤ → Type 0) (x : List ℤ) (s : ℕ) (v : ℤ) → s < length x → ((i : ℕ) → i < s → P i (number x i)) → P s v → (i : ℕ) → i < s + 1 → P i (number (set x s v) i)
done_more P x s v lt before here i less = ⊎_elim
    (λ (earlier : i < s). subst (P i) (sym (let ne : i ≡ s → ⊥ = λ e. omega (arith, e, earlier) in get_or-set_other x s i v _ ne)) (before i earlier))
    (λ (le : s ≤ i). let same : s ≡ i = omega (arith, less, le) in subst (λ j. P j (number (set x s v) j)) same (subst (P s) (sym (get_or-set_same x s v _ lt)) here))
    (in_or_past i s)

-- the places behind it
pub others_more : (x old : List ℤ) (s : ℕ) (v : ℤ) → ((i : ℕ) → s ≤ i → number x i ≡ number old i) → (i : ℕ) → s + 1 ≤ i → number (set x s v) i ≡ number old i
others_more x old s v same i le = let ne : i ≡ s → ⊥ = λ e. omega (arith, e, le) in get_or-set_other x s i v _ ne ∙ same i (omega (arith, le))
