-- Flags of positions, one after another.
use Rattle.std.proofs.Common.{◌≡◌, ℕ, ◌+◌, ◌<◌, ◌≤◌, ◌⊎◌, ⊎_elim, Bool, true, false, List, [], ◌∷◌, ◌++◌, All, length, sym, ◌∙◌, subst, arith, refl}
use Rattle.std.proofs.lemmas.List.{get_or_append_left, get_or_push, get_or_past}
use Rattle.lift_model.specs.Before.{at, AreFirst}

pub length_push : (flags : List Bool) (flag : Bool) → length (flags ++ flag ∷ []) ≡ length flags + 1
length_push [] flag = refl
length_push (x ∷ xs) flag = omega (arith, length_push xs flag)

-- one more
pub first_push : (positions : List ℕ) (lists : ℕ → List ℕ) (flags : List Bool) (s : ℕ) (flag : Bool) → length flags ≡ s → AreFirst positions lists flags → (flag ≡ true → All (λ p. at positions s ≤ p) (lists s)) → AreFirst positions lists (flags ++ flag ∷ [])
first_push positions lists flags s flag count first next t is = ⊎_elim
    (λ (below : t < length flags). first t (sym (get_or_append_left flags (flag ∷ []) false t below) ∙ is))
    (λ (rest : length flags ≤ t). ⊎_elim
    (λ (e : t ≡ s). subst (λ u. All (λ p. at positions u ≤ p) (lists u)) (sym e) (next (sym (get_or_push flags flag false t (count ∙ sym e)) ∙ is)))
    (λ (past : s < t). absurd (no (sym (get_or_past (flags ++ flag ∷ []) t false (omega (arith, past, count, length_push flags flag))) ∙ is)))
    (split_above t rest))
    (split t)
  where
    no : false ≡ true → ⊥
    no e = cc

    split : (t : ℕ) → (t < length flags) ⊎ (length flags ≤ t)
    split t = grind arith

    split_above : (t : ℕ) → length flags ≤ t → (t ≡ s) ⊎ (s < t)
    split_above t le = grind (arith, le, count)
