-- The quotient of a chain is a model.
use Rattle.std.proofs.Common.{◌≡◌, ◌≢◌, ℕ, zero, suc, ◌+◌, ◌-◌, ◌^◌, ◌<◌, ◌≤◌, Bool, true, false, cond, List, [], ◌∷◌, ◌++◌, length, map, drop, get_or, sum_by, ℤ, pos, unsigned_abs, All, AllPairs, Contains, nat_eq, int_eq, refl, sym, ap, ◌∙◌, subst, arith, length-append}
use Rattle.std.specs.List.Sorted.{IsStrictlyIncreasing}
use Rattle.std.proofs.lemmas.List.{get_or-map, length-map, get_or_default, drop-drop}
use Rattle.std.proofs.lemmas.List.Elements.{All-nil, All-cons, All-head, All-tail, All-map, All-weaker}
use Rattle.std.proofs.lemmas.List.Kept.{AllPairs-from_increasing}
use Rattle.std.proofs.lemmas.List.Sums.{sum_by-cons, sum_by-drop_more, sum_by-take-drop, sum_by-le, get_or-le-sum_by}
use Rattle.lift_poly.specs.Polynomial.{Term, IsPolynomial, constant}
use Rattle.lift_poly.specs.Laws.{TermsSumToPolynomial}
use Rattle.lift_poly.specs.Arithmetic.{collected}
use Rattle.lift_poly.proofs.Ring.{linear}
use Rattle.lift_model.specs.declared.kind.Kind.TheVariants.{Dtmc}
use Rattle.lift_model.specs.declared.entry.Entry.{Entry}
use Rattle.lift_model.specs.Model.{ModelData, is_goal, choices, row_at}
use Rattle.lift_model.specs.Valid.{IsRow, IsModel, coefficient_limit}
use Rattle.lift_lump.specs.Lumping.{Partition, terms_into, sum_into, in_block, IsRight}
use Rattle.lift_lump.specs.Quotient.{Blocks, block, first, AreNumbered, one_entry, entries_into, quotient_row, quotient}
use Rattle.lift_lump.specs.Laws.{GoalsHaveEntries, HasSmallCoefficients, QuotientsAreModels}
use Rattle.lift_lump.proofs.Entries.{either, collected-sets, into-sets, entries-hold, entries-apart, measured, at_block, total}
use Rattle.lift_lump.proofs.One.{at_or_above}
use Rattle.lift_lump.proofs.Holding.{row_entries}
use Rattle.std.proofs.lemmas.Nat.{pow_pos}

-- ---- rising lists of states

-- the i-th of states that rise is i at least
rising_at : (xs : List ℕ) → IsStrictlyIncreasing xs → (i : ℕ) → i < length xs → i ≤ get_or xs i 0
rising_at xs h i lt = at_or_above (λ k. get_or xs k 0) (length xs) (λ k j before below. AllPairs-from_increasing xs h k j 0 before below) i lt

-- so there are as many of them as states at most
no_more : (xs : List ℕ) (n : ℕ) → IsStrictlyIncreasing xs → ((i : ℕ) → i < length xs → get_or xs i 0 < n) → length xs ≤ n
no_more xs n h below = by (length xs) refl
  where
    by : (k : ℕ) → length xs ≡ k → length xs ≤ n
    by zero e = omega (arith, e)
    by (suc k) e = let lt : k < length xs = omega (arith, e) in omega (arith, e, rising_at xs h k lt, below k lt)

-- sums over states that rise are part of the sum over all
module _ {X : Type 0} (g : X → ℕ) (all : List X) (d : X) where
  rising_sum : (xs : List ℕ) (low : ℕ) → ((i : ℕ) → i < length xs → low ≤ get_or xs i 0) → ((i j : ℕ) → i < j → j < length xs → get_or xs i 0 < get_or xs j 0) → ((i : ℕ) → i < length xs → get_or xs i 0 < length all)
      → sum_by (λ s. g (get_or all s d)) xs ≤ sum_by g (drop low all)
  rising_sum [] low above rises below = omega arith
  rising_sum (x ∷ xs) low above rises below =
      let here : x < length all = below 0 (omega arith) in
      let more = sum_by-drop_more g all x d here in
      let rest = rising_sum xs (x + 1) (λ i lt. let r : x < get_or xs i 0 = rises 0 (suc i) (omega arith) (omega (arith, lt)) in omega (arith, r)) (λ i j lt le. rises (suc i) (suc j) (omega (arith, lt)) (omega (arith, le))) (λ i lt. below (suc i) (omega (arith, lt))) in
      omega (arith, sum_by-cons (λ s. g (get_or all s d)) x xs, more, rest, dropped low x (above 0 (omega arith)))
    where
      dropped : (a b : ℕ) → a ≤ b → sum_by g (drop b all) ≤ sum_by g (drop a all)
      dropped a b le =
          let apart = sum_by-take-drop g (drop a all) (b - a) in
          let e : a + (b - a) ≡ b = omega (arith, le) in
          let same : drop (b - a) (drop a all) ≡ drop b all = drop-drop (b - a) a all ∙ ap (λ i. drop i all) e in
          omega (arith, apart, ap (sum_by g) same)

-- a sum over a list that is made of another, term by term
sum_map_le : {Y : Type 0} (f : Y → ℕ) (h : ℕ → Y) (g : ℕ → ℕ) (xs : List ℕ) → All (λ s. f (h s) ≤ g s) xs → sum_by f (map h xs) ≤ sum_by g xs
sum_map_le f h g [] all = omega arith
sum_map_le f h g (x ∷ xs) all =
    omega (arith, sum_by-cons f (h x) (map h xs), sum_by-cons g x xs, All-head (λ s. f (h s) ≤ g s) x xs all, sum_map_le f h g xs (All-tail (λ s. f (h s) ≤ g s) x xs all))

-- ---- how many entries

module _ (block : Partition) where
  counted : List Term → ℕ
  counted ts = 1

  none_there : (b : ℕ) (row : List Entry) → at_block block (λ ts. 1) b row ≡ 0 → terms_into (in_block block b) row ≡ []
  none_there b [] e = refl
  none_there b (x ∷ row) e = by (nat_eq (block x.target) b) (omega (arith, e)) (λ g. none_there b row g)
    where
      by : (t : Bool) → cond t 1 0 + at_block block (λ ts. 1) b row ≡ 0 → (at_block block (λ ts. 1) b row ≡ 0 → terms_into (in_block block b) row ≡ []) → cond t x.poly [] ++ terms_into (in_block block b) row ≡ []
      by true e rest = absurd (omega (arith, e))
      by false e rest = rest (omega (arith, e))

  one-length : (b : ℕ) (ts : List Term) → length (one_entry b ts) ≤ 1
  one-length b [] = omega arith
  one-length b (t ∷ ts) = omega arith

  one-fits : (b : ℕ) (row : List Entry) → length (one_entry b (sum_into (in_block block b) row)) ≤ at_block block (λ ts. 1) b row
  one-fits b row = by (at_block block (λ ts. 1) b row) refl
    where
      by : (n : ℕ) → at_block block (λ ts. 1) b row ≡ n → length (one_entry b (sum_into (in_block block b) row)) ≤ at_block block (λ ts. 1) b row
      by zero e =
          let same : length (one_entry b (sum_into (in_block block b) row)) ≡ 0 = ap (λ (ts : List Term). length (one_entry b (collected ts))) (none_there b row e) in
          omega (arith, same)
      by (suc n) e = omega (arith, e, one-length b (sum_into (in_block block b) row))

  total-length : (row : List Entry) → total block (λ ts. 1) row ≡ length row
  total-length [] = refl
  total-length (e ∷ row) = omega (arith, total-length row)

  pub entries-few : (row : List Entry) (count : ℕ) → length (entries_into block row count) ≤ length row
  entries-few row count =
      let m = measured block (λ ts. 1) length refl row (λ xs b. omega (arith, length-append xs (one_entry b (sum_into (in_block block b) row)), one-fits b row)) count in
      omega (arith, m, total-length row)

-- ---- the rows

-- an entry but for the sizes of its coefficients
record IsShape (states parameters : ℕ) (e : Entry) : Type 0 where
  target : e.target < states
  polynomial : IsPolynomial e.poly
  sets : All (λ term. term.0 < 2 ^ parameters) e.poly

abbrev IsSmall : Entry → Type 0
IsSmall e = All (λ term. unsigned_abs term.1 < coefficient_limit) e.poly

none-polynomial : IsPolynomial []
none-polynomial = record { ascending = λ k lt. absurd (omega (arith, lt)); coefficients = All-nil (λ (t : Term). t.1 ≢ pos 0) }

one-polynomial : (c : ℤ) → c ≢ pos 0 → IsPolynomial ((0, c) ∷ [])
one-polynomial c some = record { ascending = λ k lt. absurd (omega (arith, lt)); coefficients = All-cons (λ (t : Term). t.1 ≢ pos 0) (0, c) [] some (All-nil (λ (t : Term). t.1 ≢ pos 0)) }

module _ (polynomial : TermsSumToPolynomial) (m : ModelData) (p : Blocks) (is : IsModel m) (right : IsRight m (block p)) (numbered : AreNumbered (length m.states) p) (entries : GoalsHaveEntries m) where
  abbrev count : ℕ
  count = length p.firsts

  abbrev parameters : ℕ
  parameters = length m.names

  positive : m.common ≢ pos 0
  positive e = let low = is.denominator.0 in absurd (omega (arith, linear, low, e))

  power_some : (n : ℕ) → 0 < 2 ^ n
  power_some n = pow_pos n

  goal_poly : IsPolynomial (constant m.common)
  goal_poly = either IsPolynomial (int_eq m.common (pos 0)) [] ((0, m.common) ∷ []) none-polynomial (one-polynomial m.common positive)

  goal_sets : All (λ (term : Term). term.0 < 2 ^ parameters) (constant m.common)
  goal_sets = either (λ (ts : List Term). All (λ (term : Term). term.0 < 2 ^ parameters) ts) (int_eq m.common (pos 0)) [] ((0, m.common) ∷ []) (All-nil (λ (term : Term). term.0 < 2 ^ parameters)) (All-cons (λ (term : Term). term.0 < 2 ^ parameters) (0, m.common) [] (power_some parameters) (All-nil (λ (term : Term). term.0 < 2 ^ parameters)))

  -- the sets of a row of the model
  row_sets : (s : ℕ) → All (λ (e : Entry). All (λ (term : Term). term.0 < 2 ^ parameters) e.poly) (row_at m s 0)
  row_sets s i d lt = (row_entries m is s i d lt).sets

  shapes : (s : ℕ) → s < length m.states → All (IsShape count parameters) (quotient_row m p s)
  shapes s lt =
      either (All (IsShape count parameters)) (is_goal m s) (record { target = block p s; poly = constant m.common } ∷ []) (entries_into (block p) (row_at m s 0) count)
      (All-cons (IsShape count parameters) (record { target = block p s; poly = constant m.common }) [] (record { target = (numbered.inside s lt).0; polynomial = goal_poly; sets = goal_sets }) (All-nil (IsShape count parameters)))
      (entries-hold (IsShape count parameters) (block p) (row_at m s 0) count (λ b below. record { target = below; polynomial = polynomial (terms_into (in_block (block p) b) (row_at m s 0)); sets = collected-sets (λ set. set < 2 ^ parameters) (terms_into (in_block (block p) b) (row_at m s 0)) (into-sets (λ set. set < 2 ^ parameters) (in_block (block p) b) (row_at m s 0) (row_sets s)) }))

  apart : (s : ℕ) → AllPairs (λ (a b : Entry). a.target ≢ b.target) (quotient_row m p s)
  apart s =
      either (AllPairs (λ (a b : Entry). a.target ≢ b.target)) (is_goal m s) (record { target = block p s; poly = constant m.common } ∷ []) (entries_into (block p) (row_at m s 0) count)
      (λ i j d lt le. absurd (omega (arith, lt, le))) (entries-apart (block p) (row_at m s 0) count)

  few : (s : ℕ) → s < length m.states → length (quotient_row m p s) ≤ length (row_at m s 0)
  few s lt = by (is_goal m s) refl
    where
      by : (goal : Bool) → is_goal m s ≡ goal → length (cond (is_goal m s) (record { target = block p s; poly = constant m.common } ∷ []) (entries_into (block p) (row_at m s 0) count)) ≤ length (row_at m s 0)
      by true is_one = rw is_one (entries s lt is_one)
      by false not = rw not (entries-few (block p) (row_at m s 0) count)

  -- ---- the model

  abbrev made : ℕ → List (List Entry)
  made s = quotient_row m p s ∷ []

  state_of : (b : ℕ) → b < count → first p b < length m.states
  state_of b lt = (numbered.least b lt).0

  as_many : length (quotient m p).states ≡ count
  as_many = length-map p.firsts made

  -- the choices of a block
  made_at : (b : ℕ) (d : List (List Entry)) → b < count → get_or (quotient m p).states b d ≡ made (first p b)
  made_at b d lt = get_or-map made p.firsts b 0 d lt

  each : (P : List (List Entry) → Type 0) → ((s : ℕ) → s < length m.states → P (made s)) → All P (quotient m p).states
  each P holds = All-map P made p.firsts (λ i d lt. holds (get_or p.firsts i d) (subst (λ s. s < length m.states) (get_or_default p.firsts i 0 d lt) (state_of i lt)))

  few_states : count ≤ length m.states
  few_states = no_more p.firsts (length m.states) numbered.ascending state_of

  few_transitions : sum_by (sum_by length) (quotient m p).states ≤ sum_by (sum_by length) m.states
  few_transitions =
      let rows = sum_map_le (sum_by length) made (λ s. sum_by length (choices m s)) p.firsts (λ i d lt.
      let s_in : get_or p.firsts i d < length m.states = subst (λ s. s < length m.states) (get_or_default p.firsts i 0 d lt) (state_of i lt) in
      let s = get_or p.firsts i d in
      let some : 1 ≤ length (choices m s) = is.some_choice s [] s_in in
      let part = get_or-le-sum_by (length {A = Entry}) (choices m s) 0 [] some in
      omega (arith, sum_by-cons (length {A = Entry}) (quotient_row m p s) [], few s s_in, part)) in
      let all = rising_sum (sum_by (length {A = Entry})) m.states [] p.firsts 0 (λ i lt. omega arith) (λ i j lt le. AllPairs-from_increasing p.firsts numbered.ascending i j 0 lt le) state_of in
      omega (arith, rows, all)

  valid_rows : HasSmallCoefficients (quotient m p) → All (All (IsRow count parameters)) (quotient m p).states
  valid_rows small i d lt =
      let inside : i < count = omega (arith, lt, as_many) in
      let s = first p i in
      let s_in = state_of i inside in
      let sizes : All (All IsSmall) (made s) = subst (All (All IsSmall)) (made_at i [] inside) (small i [] lt) in
      let row_sizes : All IsSmall (quotient_row m p s) = All-head (All IsSmall) (quotient_row m p s) [] sizes in
      let shaped = shapes s s_in in
      let row : IsRow count parameters (quotient_row m p s) = record {
        entries = λ j e below. let shape = shaped j e below in record { target = shape.target; polynomial = shape.polynomial; sets = shape.sets; sizes = row_sizes j e below };
        distinct = apart s;
      } in
      subst (All (IsRow count parameters)) (sym (made_at i d inside)) (All-cons (IsRow count parameters) (quotient_row m p s) [] row (All-nil (IsRow count parameters)))

  is_chain : All (λ (rows : List (List Entry)). length rows ≡ 1) (quotient m p).states
  is_chain = each (λ (rows : List (List Entry)). length rows ≡ 1) (λ s lt. refl)

  some_goal : Contains (quotient m p).goal true
  some_goal =
      let goal = is.some_goal in
      let s = goal.0 in
      let lt : s < length m.states = omega (arith, goal.1, is.goals) in
      let yes : is_goal m s ≡ true = get_or_default m.goal s false true goal.1 ∙ goal.2 in
      let b = block p s in
      let inside = (numbered.inside s lt).0 in
      let least = numbered.least b inside in
      let there : is_goal m (first p b) ≡ true = right.goals (first p b) s (record { states = (least.0, lt); same = least.1 }) ∙ yes in
      (b, omega (arith, length-map p.firsts (is_goal m), inside), get_or-map (is_goal m) p.firsts b 0 true inside ∙ there)

  modelled : m.kind ≡ Dtmc → HasSmallCoefficients (quotient m p) → IsModel (quotient m p)
  modelled chain small = record {
    count =
        let zero_in : 0 < length m.states = is.count.0 in
        let some = (numbered.inside 0 zero_in).0 in
        (omega (arith, as_many, some), omega (arith, as_many, few_states, is.count.1));
    goals = length-map p.firsts (is_goal m) ∙ sym as_many;
    some_goal = some_goal;
    first = omega (arith, as_many, (numbered.inside m.init is.first).0);
    denominator = is.denominator;
    parameters = is.parameters;
    some_choice = All-weaker (λ (rows : List (List Entry)). length rows ≡ 1) (λ (rows : List (List Entry)). 1 ≤ length rows) (λ rows e. omega (arith, e)) (quotient m p).states is_chain;
    one_choice = λ kind. is_chain;
    rows = subst (λ n. All (All (IsRow n parameters)) (quotient m p).states) (sym as_many) (valid_rows small);
    choices =
        let most = sum_by-le (length {A = List Entry}) 1 (quotient m p).states (All-weaker (λ (rows : List (List Entry)). length rows ≡ 1) (λ (rows : List (List Entry)). length rows ≤ 1) (λ rows e. omega (arith, e)) (quotient m p).states is_chain) in
        omega (arith, most, as_many, few_states, is.count.1);
    transitions = omega (arith, few_transitions, is.transitions);
  }

pub quotients_are_models : TermsSumToPolynomial → QuotientsAreModels
quotients_are_models polynomial m p is chain right numbered entries small = modelled polynomial m p is right numbered entries chain small
