-- States that are collected with their keys.
use Rattle.std.proofs.Common.{◌≡◌, ◌≢◌, ◌⊎◌, inl, inr, ⊎_elim, ℕ, zero, suc, ◌+◌, ◌/◌, ◌^◌, ◌<◌, ◌≤◌, List, [], ◌∷◌, ◌++◌, length, get_or, set, map, take, All, Contains, refl, sym, ap, ◌∙◌, subst, arith}
use Rattle.std.proofs.lemmas.List.{take_all, take_more, map_push, get_or-set_other, get_or-map, length-map, get_or-take, length-take-le, get_or_append_left, get_or_push, length_push, get_or_default}
use Rattle.std.proofs.lemmas.List.Elements.{All-nil, All-push, Contains-push_cases}
use Rattle.std.proofs.lemmas.List.Sorted.{IsPermutation-map, Contains-permutation, All-permutation}
use Rattle.std.specs.List.Sorted.{IsPermutation}
use Rattle.std.proofs.lemmas.Nat.{div-mul-add}
use Rattle.lift_lump.specs.Search.{AreVisited}
use Rattle.lift_lump.specs.declared.touch.Touched.{Touched}
use Rattle.lift_lump.specs.Renaming.{key_of, no_touched, key_at, state_at, IsTouched, StandsIn, AreTouched, IsLookedAt, AreLookedAt, AreAllTouched, AreKeyed}
use Rattle.lift_lump.specs.Splitting.{AreAdded, AreGathered, HaveRest, HaveNone, IsLeft}
use Rattle.lift_lump.proofs.Sides.{side, same_or_not}

abbrev HasNumber : List ℕ → Touched → Type 0
HasNumber numbers t = get_or numbers t.state 0 ≢ 0

pub looked_kept : (labels numbers : List ℕ) (s : ℕ) (old : List Touched) → (s < length labels → get_or numbers s 0 ≢ 0 → ⊥) → IsLookedAt labels numbers s old old
looked_kept labels numbers s old none = record { each = λ all. all; some = λ all. all; kept = λ t there. there; here = λ lt some. absurd (none lt some) }

pub looked_pushed : (labels numbers : List ℕ) (s : ℕ) (old : List Touched) (key : ℕ) → s < length labels → key ≡ key_of labels numbers s → get_or numbers s 0 ≢ 0 → IsLookedAt labels numbers s old (old ++ record { key = key; state = s } ∷ [])
looked_pushed labels numbers s old key lt is some = record {
  each = λ all. All-push (IsTouched labels numbers) old (record { key = key; state = s }) all (record { inside = lt; key = is });
  some = λ all. All-push (HasNumber numbers) old (record { key = key; state = s }) all some;
  kept = λ t there. (there.0, omega (arith, there.1, length_push old (record { key = key; state = s })), ap (λ (x : Touched). x.state) (get_or_append_left old (record { key = key; state = s } ∷ []) no_touched there.0 there.1) ∙ there.2);
  here = λ inside number. (length old, omega (arith, length_push old (record { key = key; state = s })), ap (λ (x : Touched). x.state) (get_or_push old (record { key = key; state = s }) no_touched (length old) refl));
}

pub looked_none : (labels numbers visited : List ℕ) → AreLookedAt labels numbers (take 0 visited) []
looked_none labels numbers visited = record { each = All-nil (IsTouched labels numbers); some = All-nil (HasNumber numbers); all = λ k lt. absurd (omega (arith, lt)) }

pub looked_more : (labels numbers visited : List ℕ) (i : ℕ) (old new : List Touched) → i < length visited → AreLookedAt labels numbers (take i visited) old → IsLookedAt labels numbers (get_or visited i 0) old new → AreLookedAt labels numbers (take (i + 1) visited) new
looked_more labels numbers visited i old new i_in are more = record {
  each = more.each are.each;
  some = more.some are.some;
  all = λ k k_in inside some. at k k_in inside some (side k i);
}
  where
    at : (k : ℕ) → k < length (take (i + 1) visited) → get_or (take (i + 1) visited) k 0 < length labels → get_or numbers (get_or (take (i + 1) visited) k 0) 0 ≢ 0 → (k < i) ⊎ (i ≤ k) → StandsIn new (get_or (take (i + 1) visited) k 0)
    at k k_in inside some (inl before) =
        let same : get_or (take (i + 1) visited) k 0 ≡ get_or (take i visited) k 0 = get_or-take (i + 1) visited k 0 (omega (arith, before)) ∙ sym (get_or-take i visited k 0 before) in
        let k_before : k < length (take i visited) = omega (arith, before, length-take-le i visited (omega (arith, i_in))) in
        subst (StandsIn new) (sym same) (more.kept (get_or (take i visited) k 0) (are.all k k_before (subst (λ s. s < length labels) same inside) (subst (λ s. get_or numbers s 0 ≢ 0) same some)))
    at k k_in inside some (inr from) =
        let e : k ≡ i = omega (arith, from, k_in, length-take-le (i + 1) visited (omega (arith, i_in))) in
        let same : get_or (take (i + 1) visited) k 0 ≡ get_or visited i 0 = get_or-take (i + 1) visited k 0 (omega (arith, e)) ∙ ap (λ j. get_or visited j 0) e in
        subst (StandsIn new) (sym same) (more.here (subst (λ s. s < length labels) same inside) (subst (λ s. get_or numbers s 0 ≢ 0) same some))

abbrev states_of : List Touched → List ℕ
states_of touched = map (λ (t : Touched). t.state) touched

stands_to : (touched : List Touched) (s : ℕ) → StandsIn touched s → Contains (states_of touched) s
stands_to touched s there = (there.0, omega (arith, there.1, length-map touched (λ (t : Touched). t.state)), get_or-map (λ (t : Touched). t.state) touched there.0 no_touched s there.1 ∙ there.2)

stands_from : (touched : List Touched) (s : ℕ) → Contains (states_of touched) s → StandsIn touched s
stands_from touched s there =
    let lt : there.0 < length touched = omega (arith, there.1, length-map touched (λ (t : Touched). t.state)) in
    (there.0, lt, sym (get_or-map (λ (t : Touched). t.state) touched there.0 no_touched s lt) ∙ there.2)

only_one : (s t : ℕ) → Contains (s ∷ []) t → s ≡ t
only_one s t there = by there.0 there.1 there.2
  where
    by : (k : ℕ) → k < 1 → get_or (s ∷ []) k t ≡ t → s ≡ t
    by zero lt e = e
    by (suc k) lt e = absurd (omega (arith, lt))

-- each state of the list that was gone over stands there, if its number isn't 0
pub looked_some : (labels numbers visited : List ℕ) (i : ℕ) (list : List Touched) → length numbers ≡ length labels → length visited ≤ i → AreVisited numbers visited → AreLookedAt labels numbers (take i visited) list → AreAllTouched labels numbers list
looked_some labels numbers visited i list size past are_visited are t t_in some =
    let found = are_visited t (omega (arith, size, t_in)) some in
    let at : get_or (take i visited) found.0 0 ≡ t = get_or-take i visited found.0 0 (omega (arith, found.1, past)) ∙ get_or_default visited found.0 0 t found.1 ∙ found.2 in
    let whole : length (take i visited) ≡ length visited = ap length (take_all i visited past) in
    let found_in : found.0 < length (take i visited) = omega (arith, found.1, whole) in
    subst (StandsIn list) at (are.all found.0 found_in (subst (λ u. u < length labels) (sym at) t_in) (subst (λ u. get_or numbers u 0 ≢ 0) (sym at) some))

pub looked_all : (labels numbers visited : List ℕ) (i : ℕ) (list : List Touched) → length numbers ≡ length labels → length visited ≤ i → AreVisited numbers visited → AreLookedAt labels numbers (take i visited) list → AreTouched labels numbers list
looked_all labels numbers visited i list size past are_visited are = record {
  each = are.each;
  all = λ s t t_in block number there.
      let some : get_or numbers s 0 ≢ 0 = subst (λ u. get_or numbers u 0 ≢ 0) there.2 (are.some there.0 no_touched there.1) in
      looked_some labels numbers visited i list size past are_visited are t t_in (λ none. some (number ∙ none));
}

-- the same states in another order
pub stands_back : (old new : List Touched) → IsPermutation new old → (s : ℕ) → StandsIn new s → StandsIn old s
stands_back old new back s there = stands_from old s (Contains-permutation (states_of new) (states_of old) s (IsPermutation-map (λ (x : Touched). x.state) new old back) (stands_to new s there))

pub gathered_sorted : (old new : List Touched) → IsPermutation old new → IsPermutation new old → (labels numbers : List ℕ) (members : List (List ℕ)) → AreGathered labels numbers members old → AreGathered labels numbers members new
gathered_sorted old new moved back labels numbers members are = record {
  touched = record {
    each = All-permutation (IsTouched labels numbers) old new moved are.touched.each;
    all = λ s t t_in block number there. to t (are.touched.all s t t_in block number (from s there));
  };
  some = λ s lt some. to s (are.some s lt some);
  listed = λ s lt. ⊎_elim (λ (in_list : Contains (get_or members (get_or labels s 0) []) s). inl in_list) (λ (there : StandsIn old s). inr (to s there)) (are.listed s lt);
}
  where
    to : (t : ℕ) → StandsIn old t → StandsIn new t
    to t there = stands_from new t (Contains-permutation (states_of old) (states_of new) t (IsPermutation-map (λ (x : Touched). x.state) old new moved) (stands_to old t there))

    from : (t : ℕ) → StandsIn new t → StandsIn old t
    from = stands_back old new back

-- ---- the rest of a block

pub added_none : (labels numbers : List ℕ) (b : ℕ) (states : List ℕ) (old : List Touched) → AreAdded labels numbers b (take 0 states) old old
added_none labels numbers b states old = record { each = λ all. all; kept = λ t there. there; only = λ t there. inl there; all = λ t there. absurd (let lt : there.0 < 0 = there.1 in omega (arith, lt)) }

pub added_not : (labels numbers : List ℕ) (b s : ℕ) (old : List Touched) → (get_or labels s 0 ≡ b → get_or numbers s 0 ≡ 0 → ⊥) → AreAdded labels numbers b (s ∷ []) old old
added_not labels numbers b s old none = record {
  each = λ all. all;
  kept = λ t there. there;
  only = λ t there. inl there;
  all = λ t there block zero_is.
      let e = only_one s t there in
      absurd (none (ap (λ u. get_or labels u 0) e ∙ block) (ap (λ u. get_or numbers u 0) e ∙ zero_is));
}

abbrev keyed : List ℕ → List ℕ → ℕ → Touched
keyed labels numbers s = record { key = key_of labels numbers s; state = s }

pub added_one : (labels numbers : List ℕ) (b s : ℕ) (old : List Touched) → s < length labels → get_or labels s 0 ≡ b → get_or numbers s 0 ≡ 0 → AreAdded labels numbers b (s ∷ []) old (old ++ record { key = key_of labels numbers s; state = s } ∷ [])
added_one labels numbers b s old lt block none = record {
  each = λ all. All-push (IsTouched labels numbers) old (keyed labels numbers s) all (record { inside = lt; key = refl });
  kept = λ t there. (there.0, omega (arith, there.1, length_push old (keyed labels numbers s)), ap (λ (y : Touched). y.state) (get_or_append_left old (keyed labels numbers s ∷ []) no_touched there.0 there.1) ∙ there.2);
  only = λ t there. cases t (Contains-push_cases (states_of old) s t (subst (λ (xs : List ℕ). Contains xs t) (map_push (λ (y : Touched). y.state) old (keyed labels numbers s)) (stands_to (old ++ keyed labels numbers s ∷ []) t there)));
  all = λ t there _ _. subst (StandsIn (old ++ keyed labels numbers s ∷ [])) (only_one s t there) (length old, omega (arith, length_push old (keyed labels numbers s)), ap (λ (y : Touched). y.state) (get_or_push old (keyed labels numbers s) no_touched (length old) refl));
}
  where
    cases : (t : ℕ) → Contains (states_of old) t ⊎ (s ≡ t) → StandsIn old t ⊎ ((get_or labels t 0 ≡ b) × (get_or numbers t 0 ≡ 0))
    cases t (inl there) = inl (stands_from old t there)
    cases t (inr e) = inr (ap (λ u. get_or labels u 0) (sym e) ∙ block, ap (λ u. get_or numbers u 0) (sym e) ∙ none)

pub added_more : (labels numbers : List ℕ) (b : ℕ) (states : List ℕ) (i : ℕ) (old mid new : List Touched) → i < length states → AreAdded labels numbers b (take i states) old mid → AreAdded labels numbers b (get_or states i 0 ∷ []) mid new → AreAdded labels numbers b (take (i + 1) states) old new
added_more labels numbers b states i old mid new i_in first next = record {
  each = λ all. next.each (first.each all);
  kept = λ t there. next.kept t (first.kept t there);
  only = λ t there. ⊎_elim (λ (before : StandsIn mid t). first.only t before) (λ (rest : (get_or labels t 0 ≡ b) × (get_or numbers t 0 ≡ 0)). inr rest) (next.only t there);
  all = λ t there block none. cases t block none (Contains-push_cases (take i states) (get_or states i 0) t (subst (λ (xs : List ℕ). Contains xs t) (take_more states i 0 i_in) there));
}
  where
    cases : (t : ℕ) → get_or labels t 0 ≡ b → get_or numbers t 0 ≡ 0 → Contains (take i states) t ⊎ (get_or states i 0 ≡ t) → StandsIn new t
    cases t block none (inl there) = next.kept t (first.all t there block none)
    cases t block none (inr e) = next.all t (0, omega arith, e) block none

-- where the rest of a block is touched too, its list may be gone
pub gathered_rest : (labels numbers : List ℕ) (members : List (List ℕ)) (b : ℕ) (old new : List Touched) → b < length members → AreGathered labels numbers members old → AreAdded labels numbers b (get_or members b []) old new → AreGathered labels numbers (set members b []) new
gathered_rest labels numbers members b old new b_in are added = record {
  touched = record {
    each = added.each are.touched.each;
    all = λ s t t_in block number there. touched_all s t t_in block number (added.only s there);
  };
  some = λ s lt some. added.kept s (are.some s lt some);
  listed = λ s lt. listed s lt (same_or_not (get_or labels s 0) b);
}
  where
    -- a state of the block is touched, whatever its number
    of_block : (s : ℕ) → s < length labels → get_or labels s 0 ≡ b → StandsIn new s
    of_block s lt block = by (same_or_not (get_or numbers s 0) 0)
      where
        in_list : Contains (get_or members (get_or labels s 0) []) s ⊎ StandsIn old s → get_or numbers s 0 ≡ 0 → StandsIn new s
        in_list (inl there) none = added.all s (subst (λ l. Contains (get_or members l []) s) block there) block none
        in_list (inr there) none = added.kept s there

        by : (get_or numbers s 0 ≡ 0) ⊎ (get_or numbers s 0 ≢ 0) → StandsIn new s
        by (inl none) = in_list (are.listed s lt) none
        by (inr some) = added.kept s (are.some s lt some)

    touched_all : (s t : ℕ) → t < length labels → get_or labels s 0 ≡ get_or labels t 0 → get_or numbers s 0 ≡ get_or numbers t 0 → StandsIn old s ⊎ ((get_or labels s 0 ≡ b) × (get_or numbers s 0 ≡ 0)) → StandsIn new t
    touched_all s t t_in block number (inl there) = added.kept t (are.touched.all s t t_in block number there)
    touched_all s t t_in block number (inr rest) = of_block t t_in (sym block ∙ rest.0)

    listed : (s : ℕ) → s < length labels → (get_or labels s 0 ≡ b) ⊎ (get_or labels s 0 ≢ b) → Contains (get_or (set members b []) (get_or labels s 0) []) s ⊎ StandsIn new s
    listed s lt (inl block) = inr (of_block s lt block)
    listed s lt (inr other) = ⊎_elim
        (λ (there : Contains (get_or members (get_or labels s 0) []) s). inl (subst (λ (xs : List ℕ). Contains xs s) (sym (get_or-set_other members b (get_or labels s 0) [] [] other)) there))
        (λ (there : StandsIn old s). inr (added.kept s there)) (are.listed s lt)

-- a state has one key
pub one_key : (labels numbers : List ℕ) (touched : List Touched) → AreTouched labels numbers touched → (i j : ℕ) → i < length touched → j < length touched → state_at touched i ≡ state_at touched j → key_at touched i ≡ key_at touched j
one_key labels numbers touched are i j i_in j_in same = (are.each i no_touched i_in).key ∙ ap (key_of labels numbers) same ∙ sym (are.each j no_touched j_in).key

pub states_inside : (labels numbers : List ℕ) (touched : List Touched) → AreTouched labels numbers touched → All (λ (t : Touched). t.state < length labels) touched
states_inside labels numbers touched are i d lt = (are.each i d lt).inside

-- ---- blocks

-- the block of a key is the state's label
pub keyed_of : (labels numbers : List ℕ) (touched : List Touched) → ((s : ℕ) → get_or numbers s 0 < 2 ^ 64) → AreTouched labels numbers touched → AreKeyed labels touched
keyed_of labels numbers touched small are i lt =
    let s = state_at touched i in
    ap (λ k. k / 2 ^ 64) (are.each i no_touched lt).key ∙ div-mul-add (get_or labels s 0) (2 ^ 64) (get_or numbers s 0) (small s)

-- a state whose number is 0 isn't touched
pub looked_only : (labels numbers visited : List ℕ) (list : List Touched) → AreLookedAt labels numbers visited list → (s : ℕ) → get_or numbers s 0 ≡ 0 → StandsIn list s → ⊥
looked_only labels numbers visited list are s none there = are.some there.0 no_touched there.1 (ap (λ u. get_or numbers u 0) there.2 ∙ none)

-- ---- states that are left

pub rest_sorted : (labels : List ℕ) (members : List (List ℕ)) (old new : List Touched) → ((s : ℕ) → StandsIn new s → StandsIn old s) → HaveRest labels members old → HaveRest labels members new
rest_sorted labels members old new back rest s there =
    ⊎_elim (λ (gone : get_or members (get_or labels s 0) [] ≡ []). inl gone)
    (λ (left : IsLeft labels old (get_or labels s 0)). inr (record { state = left.state; inside = left.inside; label = left.label; untouched = λ t. left.untouched (back left.state t) }))
    (rest s (back s there))

-- where only states are touched whose number isn't 0, a state of each of their labels is left
pub rest_none : (labels numbers : List ℕ) (members : List (List ℕ)) (touched : List Touched) → ((s : ℕ) → get_or numbers s 0 ≡ 0 → StandsIn touched s → ⊥) → All (λ (t : Touched). t.state < length labels) touched → HaveNone labels numbers → HaveRest labels members touched
rest_none labels numbers members touched only states none s there =
    let inside : s < length labels = subst (λ u. u < length labels) there.2 (states there.0 no_touched there.1) in
    let u = none s inside (λ zero_is. only s zero_is there) in
    inr (record { state = u.0; inside = u.1; label = u.2; untouched = only u.0 u.3 })
