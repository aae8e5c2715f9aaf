-- Cases that are told apart, and what lies inside.
use Rattle.std.proofs.Common.{◌≡◌, ℕ, ◌<◌, ◌≤◌, Bool, true, false, List, [], length, refl, ap, arith, ◌⊎◌, ⊎_elim}
use Rattle.std.proofs.lemmas.Bool.{both_ways}
use Rattle.std.proofs.lemmas.List.{get_or_past}
use Rattle.lift_model.specs.declared.entry.Entry.{Entry}
use Rattle.lift_model.specs.Model.{is_goal, choices}
use Rattle.corner_lift.specs.Case.{CaseData, IsCase}
use Rattle.corner_lift.specs.Laws.{HasRow}

pub either_way : {P : Type 0} (b : Bool) → (b ≡ true → P) → (b ≡ false → P) → P
either_way true f g = f refl
either_way false f g = g refl

pub in_or_past : (s count : ℕ) → (s < count) ⊎ (count ≤ s)
in_or_past s count = grind arith

-- a state with a choice is one of the model's
pub choice_inside : (k : CaseData) (s a : ℕ) → a < length (choices k.model s) → s < length k.model.states
choice_inside k s a lt = ⊎_elim
    (λ (state : s < length k.model.states). state)
    (λ (past : length k.model.states ≤ s). absurd (let none = get_or_past k.model.states s [] past in omega (arith, lt, ap (length {A = List Entry}) none)))
    (in_or_past s (length k.model.states))

-- and so is a goal state
pub goal_inside : (k : CaseData) (s : ℕ) → IsCase k → is_goal k.model s ≡ true → s < length k.model.states
goal_inside k s is g = ⊎_elim
    (λ (lt : s < length k.model.states). lt)
    (λ (past : length k.model.states ≤ s). absurd (both_ways (is_goal k.model s) (get_or_past k.model.goal s false (omega (arith, past, is.asked.model.goals))) g))
    (in_or_past s (length k.model.states))

pub has_row : (k : CaseData) (s a : ℕ) → a < length (choices k.model s) → HasRow k s a
has_row k s a lt = record { state = choice_inside k s a lt; choice = lt }
