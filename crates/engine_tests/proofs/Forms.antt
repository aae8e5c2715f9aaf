-- The form of a rejecting certificate of three states, of which the second alone is a goal state and the third has no rank.
use Rattle.std.proofs.Common.{Bool, ◌≡◌, ◌≤◌, ◌<◌, ◌^◌, ◌⊎◌, inl, ℕ, zero, suc, true, false, List, [], ◌∷◌, length, All, ℤ, pos, ◌≤ℤ◌, refl, sym, subst, ◌∙◌, arith}
use Rattle.std.proofs.lemmas.List.{get_or_past}
use Rattle.lift_grid.specs.Tree.{RejectData}
use Rattle.lift_model.specs.Model.{is_goal, choices}
use Rattle.corner_lift.specs.Case.{CaseData, IsCase}
use Rattle.corner_lift.specs.Certificate.{unmarked, mark}
use Rattle.lift_cert.specs.RejectMiss.{HasRejectForm, IsUnmarked, IsMarked}
use Rattle.engine_tests.specs.Lane.{IsInLane}

-- the certificate with these numbers, the chosen row and the rank of state 0, and this e
abbrev pub data_of : List ℤ → ℕ → ℕ → ℕ → RejectData
data_of y pick rank e = record { numbers = y; picks = pick ∷ unmarked ∷ unmarked ∷ []; ranks = rank ∷ 0 ∷ unmarked ∷ []; e = e; k = 1 }

apart : (b : Bool) → b ≡ true → b ≡ false → ⊥
apart b e f = let wrong : true ≡ false = sym e ∙ f in cc wrong

module _ (k : CaseData) (is : IsCase k) (states : length k.model.states ≡ 3) where
  -- state 0 may have rank 1 and pick its first choice
  pub marked_of : (y : List ℤ) (e : ℕ) → IsMarked k (data_of y 0 1 e) 0
  marked_of y e =
      let one : 1 ≤ 1 = omega arith in
      let some : 1 ≤ length (choices k.model 0) = is.asked.model.some_choice 0 [] (omega (arith, states)) in
      let first : 0 < length (choices k.model 0) = omega (arith, some) in
      record { rank = (one, one); pick = first }

  past : (s : ℕ) → is_goal k.model (suc (suc (suc s))) ≡ false
  past s = get_or_past k.model.goal (suc (suc (suc s))) false (omega (arith, is.asked.model.goals, states))

  goal_at : is_goal k.model 0 ≡ false → is_goal k.model 2 ≡ false → (y : List ℤ) (pick rank e : ℕ) → let r = data_of y pick rank e in (s : ℕ) → is_goal k.model s ≡ true → (mark r.ranks s ≡ 0) × (mark r.picks s ≡ unmarked)
  goal_at first third y pick rank e zero is_one = absurd (apart (is_goal k.model 0) is_one first)
  goal_at first third y pick rank e (suc zero) is_one = (refl, refl)
  goal_at first third y pick rank e (suc (suc zero)) is_one = absurd (apart (is_goal k.model 2) is_one third)
  goal_at first third y pick rank e (suc (suc (suc s))) is_one = absurd (apart (is_goal k.model (suc (suc (suc s)))) is_one (past s))

  other_at : is_goal k.model 1 ≡ true → (y : List ℤ) (pick rank e : ℕ) → let r = data_of y pick rank e in IsUnmarked r 0 ⊎ IsMarked k r 0 → (s : ℕ) → is_goal k.model s ≡ false → IsUnmarked r s ⊎ IsMarked k r s
  other_at second y pick rank e marks zero is_none = marks
  other_at second y pick rank e marks (suc zero) is_none = absurd (apart (is_goal k.model 1) second is_none)
  other_at second y pick rank e marks (suc (suc zero)) is_none = inl (refl, refl)
  other_at second y pick rank e marks (suc (suc (suc s))) is_none = inl (refl, refl)

  pub form_of : k.w ≡ 4 → is_goal k.model 0 ≡ false → is_goal k.model 1 ≡ true → is_goal k.model 2 ≡ false → (y : List ℤ) → length y ≡ 3 → All IsInLane y → (pick rank e : ℕ) → e ≤ 126 → IsUnmarked (data_of y pick rank e) 0 ⊎ IsMarked k (data_of y pick rank e) 0 → HasRejectForm k (data_of y pick rank e)
  form_of w first second third y size range pick rank e rate marks =
      let least : 1 ≤ 1 = omega arith in
      let most : 1 ≤ 65536 = omega arith in
      record {
        numbers = record { size = size ∙ sym states; range = subst (λ w. All (λ n. (pos 0 ≤ℤ n) × (n ≤ℤ pos (2 ^ w))) y) (sym w) range };
        sizes = (sym states, sym states);
        bounds = (rate, least, most);
        goal = goal_at first third y pick rank e;
        others = other_at second y pick rank e marks;
      }
