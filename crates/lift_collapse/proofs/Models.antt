-- What is built of the states that are kept is a model.
use Rattle.std.proofs.Common.{◌≡◌, ◌<◌, ◌≤◌, ℕ, List, Bool, true, [], length, map, get_or, sum_by, All, Contains, sym, ap, subst, ◌∙◌, arith}
use Rattle.std.proofs.lemmas.List.{get_or-map, length-map}
use Rattle.lift_model.specs.declared.entry.Entry.{Entry}
use Rattle.lift_model.specs.Model.{ModelData, is_goal, choices}
use Rattle.lift_model.specs.Valid.{IsEntry, IsRow, IsModel, most_choices, most_transitions}
use Rattle.corner_lift.specs.Corner.{no_entry}
use Rattle.lift_collapse.specs.Building.{States, HasTargets, AreParts, built, entry_at_place, row_at_places, states_at_places, goals_at_places}

placed_is_row : (states parameters count : ℕ) (places : List ℕ) (row : List Entry) → IsRow states parameters row → HasTargets count (row_at_places places row) → IsRow count parameters (row_at_places places row)
placed_is_row states parameters count places row is has = record {
  entries = λ k d lt.
      let inside : k < length row = omega (arith, lt, length-map row (entry_at_place places)) in
      let same : get_or (row_at_places places row) k d ≡ entry_at_place places (get_or row k no_entry) = get_or-map (entry_at_place places) row k no_entry d inside in
      let there : IsEntry states parameters (get_or row k no_entry) = is.entries k no_entry inside in
      subst (IsEntry count parameters) (sym same) (record { target = subst (λ (e : Entry). e.target < count) same (has.below k d lt); polynomial = there.polynomial; sets = there.sets; sizes = there.sizes });
  distinct = has.distinct;
}

module _ (m : ModelData) (places kept : List ℕ) (is : IsModel m) (parts : AreParts m places kept) where
  abbrev rows_of : ℕ → List (List Entry)
  rows_of s = map (row_at_places places) (choices m s)

  here : (i : ℕ) (d : List (List Entry)) → i < length kept → get_or (states_at_places m places kept) i d ≡ rows_of (get_or kept i 0)
  here i d lt = get_or-map rows_of kept i 0 d lt

  size : length (states_at_places m places kept) ≡ length kept
  size = length-map kept rows_of

  -- what holds of the choices of each state of the model holds of the choices that are built of them
  each : (P : List (List Entry) → Type 0) → ((s : ℕ) → s < length m.states → P (rows_of s)) → All P (states_at_places m places kept)
  each P holds i d lt =
      let inside : i < length kept = omega (arith, lt, size) in
      subst P (sym (here i d inside)) (holds (get_or kept i 0) (parts.states i 0 inside))

  as_many : (s : ℕ) → length (rows_of s) ≡ length (choices m s)
  as_many s = length-map (choices m s) (row_at_places places)

  rows : All (All (IsRow (length (states_at_places m places kept)) (length m.names))) (states_at_places m places kept)
  rows i d lt j e below =
      let inside : i < length kept = omega (arith, lt, size) in
      let s = get_or kept i 0 in
      let among : j < length (choices m s) = omega (arith, below, ap length (here i d inside), as_many s) in
      let same : get_or (get_or (states_at_places m places kept) i d) j e ≡ row_at_places places (get_or (choices m s) j []) = ap (λ (r : List (List Entry)). get_or r j e) (here i d inside) ∙ get_or-map (row_at_places places) (choices m s) j [] e among in
      let valid : IsRow (length m.states) (length m.names) (get_or (choices m s) j []) = is.rows s [] (parts.states i 0 inside) j [] among in
      let has : HasTargets (length kept) (row_at_places places (get_or (choices m s) j [])) = subst (HasTargets (length kept)) same (parts.rows i d lt j e below) in
      subst (IsRow (length (states_at_places m places kept)) (length m.names)) (sym same) (subst (λ n. IsRow n (length m.names) (row_at_places places (get_or (choices m s) j []))) (sym size) (placed_is_row (length m.states) (length m.names) (length kept) places (get_or (choices m s) j []) valid has))

  pub built_is_model : IsModel (built m places kept)
  built_is_model = record {
    count = (omega (arith, size, parts.init), omega (arith, size, parts.few, is.count.1));
    goals = length-map kept (is_goal m) ∙ sym size;
    some_goal = parts.goal;
    first = omega (arith, size, parts.init);
    denominator = is.denominator;
    parameters = is.parameters;
    some_choice = each (λ rows. 1 ≤ length rows) (λ s lt. omega (arith, as_many s, is.some_choice s [] lt));
    one_choice = λ chain. each (λ rows. length rows ≡ 1) (λ s lt. as_many s ∙ is.one_choice chain s [] lt);
    rows = rows;
    choices = parts.choices;
    transitions = parts.transitions;
  }

-- what is tested, as the code has it
pub parts_of : {X : Type 0} (items : X → List (List Entry)) (m : ModelData) (places kept : List ℕ) (states : List X) (goal : List Bool) → map items states ≡ states_at_places m places kept → goal ≡ goals_at_places m kept
    → length kept ≤ length m.states → All (λ s. s < length m.states) kept → get_or places m.init 0 < length kept → Contains goal true
    → All (All (HasTargets (length states))) (map items states) → sum_by length (map items states) ≤ most_choices → sum_by (sum_by length) (map items states) ≤ most_transitions
    → AreParts m places kept
parts_of items m places kept states goal same_states same_goal few below init some rows few_choices transitions =
    let size : length states ≡ length kept = sym (length-map states items) ∙ ap length same_states ∙ length-map kept (λ s. map (row_at_places places) (choices m s)) in
    record {
      few = few;
      states = below;
      init = init;
      goal = subst (λ (g : List Bool). Contains g true) same_goal some;
      rows = subst (λ (n : ℕ). All (All (HasTargets n)) (states_at_places m places kept)) size (subst (λ (s : States). All (All (HasTargets (length states))) s) same_states rows);
      choices = subst (λ (s : States). sum_by length s ≤ most_choices) same_states few_choices;
      transitions = subst (λ (s : States). sum_by (sum_by length) s ≤ most_transitions) same_states transitions;
    }
