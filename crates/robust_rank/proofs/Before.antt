-- The states before a state.
use Rattle.std.proofs.Common.{ℕ, zero, suc, ◌<◌, ◌≤◌, ⊎_elim, List, [], ◌∷◌, length, get_or, map, Contains, refl, subst, arith}
use Rattle.std.specs.List.{concat}
use Rattle.std.proofs.lemmas.List.{get_or_past}
use Rattle.std.proofs.lemmas.List.Elements.{Contains-get_or, Contains-append_left, Contains-append_right}
use Rattle.lift_model.specs.declared.entry.Entry.{Entry}
use Rattle.lift_model.specs.Model.{ModelData, choices, row_at}
use Rattle.lift_model.specs.Links.{LinksData, AreLinks, Leads, targets_of, states_before}
use Rattle.corner_lift.specs.Corner.{no_entry}
use Rattle.robust_rank.proofs.Means.{in_or_past}

-- a state that leads somewhere is one
leads_in_range : (m : ModelData) (t s : ℕ) → Leads m t s → t < length m.states
leads_in_range m t s leads = ⊎_elim (λ (lt : t < length m.states). lt) (λ (past : length m.states ≤ t). absurd (none (subst (λ rows. Contains (concat (map targets_of rows)) s) (get_or_past m.states t [] past) leads))) (in_or_past t (length m.states))
  where
    none : Contains (concat (map targets_of [])) s → ⊥
    none there = omega (arith, there.1)

pub before_in_range : (m : ModelData) (l : LinksData) (s i : ℕ) → AreLinks m l → s < length m.states → i < length (states_before l s) → get_or (states_before l s) i 0 < length m.states
before_in_range m l s i links lt inside = leads_in_range m (get_or (states_before l s) i 0) s ((links.before s lt).only (get_or (states_before l s) i 0) (Contains-get_or (states_before l s) i 0 inside))

-- the targets of a row's entries
target_in : (row : List Entry) (i : ℕ) → i < length row → Contains (targets_of row) (get_or row i no_entry).target
target_in [] i lt = absurd (omega (arith, lt))
target_in (entry ∷ row) zero lt = (0, omega arith, refl)
target_in (entry ∷ row) (suc i) lt = Contains-append_right (entry.target ∷ []) (targets_of row) (get_or row i no_entry).target (target_in row i (omega (arith, lt)))

target_of_rows : (rows : List (List Entry)) (a i : ℕ) → a < length rows → i < length (get_or rows a []) → Contains (concat (map targets_of rows)) (get_or (get_or rows a []) i no_entry).target
target_of_rows [] a i lt inside = absurd (omega (arith, lt))
target_of_rows (row ∷ rows) zero i lt inside = Contains-append_left (targets_of row) (concat (map targets_of rows)) (get_or row i no_entry).target (target_in row i inside)
target_of_rows (row ∷ rows) (suc a) i lt inside = Contains-append_right (targets_of row) (concat (map targets_of rows)) (get_or (get_or rows a []) i no_entry).target (target_of_rows rows a i (omega (arith, lt)) inside)

-- a state with an entry into another stands before it
pub stands_before : (m : ModelData) (l : LinksData) (s a i : ℕ) → AreLinks m l → a < length (choices m s) → i < length (row_at m s a) → (get_or (row_at m s a) i no_entry).target < length m.states → Contains (states_before l (get_or (row_at m s a) i no_entry).target) s
stands_before m l s a i links choice inside lt = (links.before (get_or (row_at m s a) i no_entry).target lt).all s (target_of_rows (choices m s) a i choice inside)
