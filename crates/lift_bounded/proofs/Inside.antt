-- Cases that are told apart, and what lies inside a model.
use Rattle.std.proofs.Common.{◌≡◌, ℕ, ◌<◌, ◌≤◌, Bool, true, false, List, [], length, get_or, refl, ap, arith, ◌⊎◌, inl, inr, ⊎_elim}
use Rattle.std.proofs.lemmas.List.{get_or_past}
use Rattle.lift_model.specs.declared.entry.Entry.{Entry}

pub in_or_past : (s n : ℕ) → (s < n) ⊎ (n ≤ s)
in_or_past s n = grind arith

pub true_or_false : (b : Bool) → (b ≡ true) ⊎ (b ≡ false)
true_or_false true = inl refl
true_or_false false = inr refl

-- a state with a choice is one of the model
pub state_of : (states : List (List (List Entry))) (s a : ℕ) → a < length (get_or states s []) → s < length states
state_of states s a lt = ⊎_elim
    (λ (inside : s < length states). inside)
    (λ (past : length states ≤ s). absurd (let none = get_or_past states s [] past in omega (arith, lt, ap (length {A = List Entry}) none)))
    (in_or_past s (length states))
