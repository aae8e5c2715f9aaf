-- The states of a model after the cut one by one, and that it is a model.
use Rattle.std.proofs.Common.{◌≡◌, ◌≢◌, ℕ, zero, suc, ◌+◌, ◌-◌, ◌^◌, ◌<◌, ◌≤◌, Bool, true, false, cond, List, [], ◌∷◌, ◌++◌, length, map, take, get_or, sum_by, ℤ, pos, negsuc, unsigned_abs, ◌≤ℤ◌, All, refl, sym, ap, ap₂, subst, ◌∙◌, arith, rules}
use Rattle.std.proofs.lemmas.List.{get_or_default, get_or-map, length-map, length-take, map_push, take_more}
use Rattle.std.proofs.lemmas.List.Sums.{sum_by-cons}
use Rattle.lift_poly.specs.Polynomial.{Term}
use Rattle.lift_poly.proofs.Ring.{linear}
use Rattle.lift_model.specs.declared.entry.Entry.{Entry}
use Rattle.lift_model.specs.Model.{ModelData, choices}
use Rattle.lift_model.specs.Valid.{IsEntry, IsRow, IsModel, coefficient_limit, common_limit}
use Rattle.property_text.specs.Restricted.{is_kept, certain, staying, cut_from, restricted}

abbrev Rows : Type 0
Rows = List (List Entry)

either : {X : Type 0} (P : X → Type 0) (b : Bool) (x y : X) → P x → P y → P (cond b x y)
either P true x y p q = p
either P false x y p q = q

module _ (poly : List Term) (kept : ℕ → Bool) where
  -- the choices of a state after the cut
  abbrev pub after : ℕ → Rows → Rows
  after s rows = cond (kept s) rows (map (staying poly s) rows)

  from_zero : (s : ℕ) (rows : Rows) → after s [] ≡ []
  from_zero s rows = either (λ r. r ≡ []) (kept s) [] [] refl refl

  pub cut-at : (first s : ℕ) (states : List Rows) → get_or (cut_from poly kept first states) s [] ≡ after (first + s) (get_or states s [])
  cut-at first s [] = sym (from_zero (first + s) [])
  cut-at first zero (rows ∷ states) = ap (λ i. after i rows) (omega arith)
  cut-at first (suc s) (rows ∷ states) = cut-at (suc first) s states ∙ ap (λ i. after i (get_or states s [])) (omega arith)

  pub length-cut : (first : ℕ) (states : List Rows) → length (cut_from poly kept first states) ≡ length states
  length-cut first [] = refl
  length-cut first (rows ∷ states) = ap suc (length-cut (suc first) states)

  -- with one more state
  pub cut-more : (first : ℕ) (states : List Rows) (rows : Rows) → cut_from poly kept first (states ++ rows ∷ []) ≡ cut_from poly kept first states ++ after (first + length states) rows ∷ []
  cut-more first [] rows = ap (λ i. after i rows ∷ []) (omega arith)
  cut-more first (x ∷ states) rows = ap (λ l. after first x ∷ l) (cut-more (suc first) states rows ∙ ap (λ i. cut_from poly kept (suc first) states ++ after i rows ∷ []) (omega arith))

  -- the same of states that are kept as something else
  pub one_state_more : {V : Type 0} (items : V → Rows) (vs : List V) (v : V) (states : List Rows) (s : ℕ) → s < length states → map items vs ≡ cut_from poly kept 0 (take s states) → items v ≡ after s (get_or states s [])
      → map items (vs ++ v ∷ []) ≡ cut_from poly kept 0 (take (s + 1) states)
  one_state_more items vs v states s lt before is =
      let place : 0 + length (take s states) ≡ s = omega (arith, length-take s states) in
      map_push items vs v ∙ ap₂ (λ l r. l ++ r ∷ []) before (is ∙ ap (λ i. after i (get_or states s [])) (sym place))
      ∙ sym (cut-more 0 (take s states) (get_or states s [])) ∙ ap (cut_from poly kept 0) (sym (take_more states s [] lt))

  stays-short : (s : ℕ) (row : List Entry) → length (staying poly s row) ≤ length row
  stays-short s [] = omega arith
  stays-short s (entry ∷ row) = omega arith

  fewer : (s : ℕ) (rows : Rows) → sum_by length (map (staying poly s) rows) ≤ sum_by length rows
  fewer s [] = omega arith
  fewer s (row ∷ rows) = omega (arith, sum_by-cons length (staying poly s row) (map (staying poly s) rows), sum_by-cons length row rows, stays-short s row, fewer s rows)

  as_many : (s : ℕ) (rows : Rows) → length (after s rows) ≡ length rows
  as_many s rows = either (λ (r : Rows). length r ≡ length rows) (kept s) rows (map (staying poly s) rows) refl (length-map rows (staying poly s))

  pub same_choices : (first : ℕ) (states : List Rows) → sum_by length (cut_from poly kept first states) ≡ sum_by length states
  same_choices first [] = refl
  same_choices first (rows ∷ states) = sum_by-cons length (after first rows) (cut_from poly kept (suc first) states) ∙ ap₂ ◌+◌ (as_many first rows) (same_choices (suc first) states) ∙ sym (sum_by-cons length rows states)

  pub few_transitions : (first : ℕ) (states : List Rows) → sum_by (sum_by length) (cut_from poly kept first states) ≤ sum_by (sum_by length) states
  few_transitions first [] = omega arith
  few_transitions first (rows ∷ states) =
      let here : sum_by length (after first rows) ≤ sum_by length rows = either (λ (r : Rows). sum_by length r ≤ sum_by length rows) (kept first) rows (map (staying poly first) rows) (omega arith) (fewer first rows) in
      omega (arith, sum_by-cons (sum_by length) (after first rows) (cut_from poly kept (suc first) states), sum_by-cons (sum_by length) rows states, here, few_transitions (suc first) states)

small : (n : ℤ) → pos 1 ≤ℤ n → n ≤ℤ pos (common_limit - 1) → unsigned_abs n < coefficient_limit
small (pos n) low high = omega (arith, linear, high)
small (negsuc n) low high = absurd (omega (arith, linear, low))

module _ (m : ModelData) (safe : List Bool) (is : IsModel m) where
  abbrev rows_of : ℕ → Rows
  rows_of s = after (certain m.common) (is_kept m safe) s (choices m s)

  size : length (restricted m safe).states ≡ length m.states
  size = length-cut (certain m.common) (is_kept m safe) 0 m.states

  at : (i : ℕ) (d : Rows) → i < length m.states → get_or (restricted m safe).states i d ≡ rows_of i
  at i d lt =
      let inside : i < length (restricted m safe).states = omega (arith, lt, size) in
      let e : 0 + i ≡ i = omega arith in
      get_or_default (restricted m safe).states i d [] inside ∙ cut-at (certain m.common) (is_kept m safe) 0 i m.states ∙ ap (λ j. after (certain m.common) (is_kept m safe) j (choices m i)) e

  -- what holds of the choices of each state
  each : (P : Rows → Type 0) → ((s : ℕ) → s < length m.states → P (rows_of s)) → All P (restricted m safe).states
  each P holds i d lt =
      let inside : i < length m.states = omega (arith, lt, size) in
      subst P (sym (at i d inside)) (holds i inside)

  one_entry : (s : ℕ) → s < length m.states → IsEntry (length m.states) (length m.names) (record { target = s; poly = certain m.common })
  one_entry s lt = record {
    target = lt;
    polynomial = record { ascending = λ k h. absurd (omega arith); coefficients = λ k d h. only k d h };
    sets = λ k d h. sets k d h;
    sizes = λ k d h. sizes k d h;
  }
    where
      only : (k : ℕ) (d : Term) → k < 1 → (get_or (certain m.common) k d).1 ≢ pos 0
      only zero d h = λ e. omega (arith, linear, is.denominator.0, e)
      only (suc k) d h = absurd (omega arith)

      sets : (k : ℕ) (d : Term) → k < 1 → (get_or (certain m.common) k d).0 < 2 ^ length m.names
      sets zero d h = search rules
      sets (suc k) d h = absurd (omega arith)

      sizes : (k : ℕ) (d : Term) → k < 1 → unsigned_abs (get_or (certain m.common) k d).1 < coefficient_limit
      sizes zero d h = small m.common is.denominator.0 is.denominator.1
      sizes (suc k) d h = absurd (omega arith)

  stays_row : (s : ℕ) (row : List Entry) → s < length m.states → IsRow (length m.states) (length m.names) (staying (certain m.common) s row)
  stays_row s [] lt = record { entries = λ k d h. absurd (omega arith); distinct = λ i j d a b. absurd (omega arith) }
  stays_row s (entry ∷ row) lt = record { entries = entries; distinct = λ i j d a b. absurd (omega arith) }
    where
      entries : (k : ℕ) (d : Entry) → k < 1 → IsEntry (length m.states) (length m.names) (get_or (record { target = s; poly = certain m.common } ∷ []) k d)
      entries zero d h = one_entry s lt
      entries (suc k) d h = absurd (omega arith)

  rows_valid : (s : ℕ) → s < length m.states → All (IsRow (length m.states) (length m.names)) (rows_of s)
  rows_valid s lt = either (All (IsRow (length m.states) (length m.names))) (is_kept m safe s) (choices m s) (map (staying (certain m.common) s) (choices m s))
      (is.rows s [] lt)
      (λ k d h.
      let inside : k < length (choices m s) = omega (arith, h, length-map (choices m s) (staying (certain m.common) s)) in
      subst (IsRow (length m.states) (length m.names)) (sym (get_or-map (staying (certain m.common) s) (choices m s) k [] d inside)) (stays_row s (get_or (choices m s) k []) lt))

  pub cut_is_model : IsModel (restricted m safe)
  cut_is_model = record {
    count = (omega (arith, size, is.count.0), omega (arith, size, is.count.1));
    goals = is.goals ∙ sym size;
    some_goal = is.some_goal;
    first = omega (arith, size, is.first);
    denominator = is.denominator;
    parameters = is.parameters;
    some_choice = each (λ rows. 1 ≤ length rows) (λ s lt. omega (arith, as_many (certain m.common) (is_kept m safe) s (choices m s), is.some_choice s [] lt));
    one_choice = λ chain. each (λ rows. length rows ≡ 1) (λ s lt. as_many (certain m.common) (is_kept m safe) s (choices m s) ∙ is.one_choice chain s [] lt);
    rows = subst (λ n. All (All (IsRow n (length m.names))) (restricted m safe).states) (sym size) (each (All (IsRow (length m.states) (length m.names))) rows_valid);
    choices = omega (arith, same_choices (certain m.common) (is_kept m safe) 0 m.states, is.choices);
    transitions = omega (arith, few_transitions (certain m.common) (is_kept m safe) 0 m.states, is.transitions);
  }
