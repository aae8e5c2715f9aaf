-- Names and values that stand beside each other.
use Rattle.std.proofs.Common.{◌≡◌, ◌+◌, ◌<◌, ◌≤◌, ℕ, suc, Bool, true, false, cond, refl, List, [], ◌∷◌, ◌++◌, length, sym, ◌∙◌, ap, arith, one-add, length-append, None, Some}
use Rattle.std.specs.Prelude.{position, find, slice_get, slice_index_or, is_some, nat_lt, ◌↔◌, IsTrue, Contains, if◌then◌else◌}
use Rattle.std.specs.List.{list_any, position_or_len}
use Rattle.std.specs.Option.{option_map}
use Rattle.std.specs.Str.{bytes_eq}
use Rattle.std.proofs.lemmas.Bool.Decides.{nat_tests}
use Rattle.std.proofs.lemmas.Option.{slice_get_past, slice_get-get_or}
use Rattle.std.proofs.lemmas.Cmp.{nat_list_eq_equiv}
use Rattle.std.proofs.lemmas.Map.Views.{list_any-from_Contains}
use Rattle.drn_expr.specs.RatPolys.{OverOne}
use Rattle.drn_read.specs.Sections.{Placeholder}
use Rattle.drn_read.specs.Shown.{paired}
use Rattle.drn_read.specs.Judging.{most_placeholders}

pub length-paired : (names : List (List ℕ)) (values : List OverOne) → length names ≡ length values → length (paired names values) ≡ length values
length-paired [] [] e = refl
length-paired [] (v ∷ values) e = cc
length-paired (n ∷ names) [] e = cc
length-paired (n ∷ names) (v ∷ values) e = let more = length-paired names values (omega (arith, e)) in omega (arith, more)

-- a test of names passes one of them where it passes one of the placeholders
pub any-paired : (p : List ℕ → Bool) (names : List (List ℕ)) (values : List OverOne) → length names ≡ length values
    → list_any (λ place. p place.name) (paired names values) ≡ list_any p names
any-paired p [] [] e = refl
any-paired p [] (v ∷ values) e = cc
any-paired p (n ∷ names) [] e = cc
any-paired p (n ∷ names) (v ∷ values) e = let f : length names ≡ length values = omega (arith, e) in simp (any-paired p names values f)

-- names and values with one more
pub paired_push : (names : List (List ℕ)) (values : List OverOne) (name : List ℕ) (value : OverOne) → length names ≡ length values
    → paired (names ++ name ∷ []) (values ++ value ∷ []) ≡ paired names values ++ record { name = name; value = value } ∷ []
paired_push [] [] name value e = refl
paired_push [] (v ∷ values) name value e = cc
paired_push (n ∷ names) [] name value e = cc
paired_push (n ∷ names) (v ∷ values) name value e =
    ap (λ (ps : List Placeholder). record { name = n; value = v } ∷ ps) (paired_push names values name value (omega (arith, e)))

some_by : (b : Bool) (n : ℕ) → is_some (cond b (Some n) None) ≡ b
some_by true n = refl
some_by false n = refl

lt_suc : (k n : ℕ) (b : Bool) → nat_lt k n ≡ b → nat_lt (suc k) (suc n) ≡ b
lt_suc k n true e = grind (arith, nat_tests)
lt_suc k n false e = grind (arith, nat_tests)

some_place : {A : Type 0} (p : A → Bool) (x : A) (xs : List A) (b : Bool) → p x ≡ b → nat_lt (position_or_len p xs) (length xs) ≡ list_any p xs
    → nat_lt (position_or_len p (x ∷ xs)) (length (x ∷ xs)) ≡ list_any p (x ∷ xs)
some_place p x xs true e more = rw e (grind (arith, nat_tests))
some_place p x xs false e more = rw (e, one-add) (lt_suc (position_or_len p xs) (length xs) (list_any p xs) more)

pub below : {A : Type 0} (p : A → Bool) (xs : List A) → nat_lt (position_or_len p xs) (length xs) ≡ list_any p xs
below p [] = grind (arith, nat_tests)
below p (x ∷ xs) = some_place p x xs (p x) refl (below p xs)

-- there is a place exactly where one passes
pub any_position : {A : Type 0} (p : A → Bool) (xs : List A) → is_some (position p xs) ≡ list_any p xs
any_position p xs = some_by (nat_lt (position_or_len p xs) (length xs)) (position_or_len p xs) ∙ below p xs

next_place : {A : Type 0} (p : A → Bool) (x : A) (xs : List A) → p x ≡ false → position_or_len p (x ∷ xs) ≡ suc (position_or_len p xs)
next_place p x xs e = rw e (omega arith)

found_by : (p : List ℕ → Bool) (n : List ℕ) (v : OverOne) (names : List (List ℕ)) (values : List OverOne) (b : Bool) → p n ≡ b
    → option_map (λ place. place.value) (find (λ place. p place.name) (paired names values)) ≡ slice_get values (position_or_len p names)
    → option_map (λ place. place.value) (find (λ place. p place.name) (paired (n ∷ names) (v ∷ values))) ≡ slice_get (v ∷ values) (position_or_len p (n ∷ names))
found_by p n v names values true e more =
    rw e refl
found_by p n v names values false e more =
    let right : slice_get (v ∷ values) (position_or_len p (n ∷ names)) ≡ slice_get values (position_or_len p names) = ap (slice_get (v ∷ values)) (next_place p n names e) in
    let left : option_map (λ place. place.value) (find (λ place. p place.name) (paired (n ∷ names) (v ∷ values))) ≡ option_map (λ place. place.value) (find (λ place. p place.name) (paired names values)) = rw e refl in
    left ∙ more ∙ sym right

-- The value of the first placeholder that passes stands at the place of its name. Where none passes, that place is behind the last value.
pub find-paired : (p : List ℕ → Bool) (names : List (List ℕ)) (values : List OverOne) → length names ≡ length values
    → option_map (λ place. place.value) (find (λ place. p place.name) (paired names values)) ≡ slice_get values (position_or_len p names)
find-paired p [] [] e = refl
find-paired p [] (v ∷ values) e = cc
find-paired p (n ∷ names) [] e = cc
find-paired p (n ∷ names) (v ∷ values) e = found_by p n v names values (p n) refl (find-paired p names values (omega (arith, e)))

last_by : (old new : List (List ℕ)) (name : List ℕ) (added : Bool) → ((IsTrue added → ⊥) → ⊥) → new ≡ (if added then old ++ name ∷ [] else old) → new ≡ old ++ name ∷ []
last_by old new name true h e = e
last_by old new name false h e = absurd (h (λ t. cc))

-- a name that isn't there goes last
pub name_goes_last : (old new : List (List ℕ)) (name : List ℕ) (added : Bool) → (IsTrue added ↔ (Contains old name → ⊥)) → new ≡ (if added then old ++ name ∷ [] else old)
    → list_any (bytes_eq name) old ≡ false → new ≡ old ++ name ∷ []
name_goes_last old new name added h e absent =
    let out : Contains old name → ⊥ = (λ c. let t : list_any (bytes_eq name) old ≡ true = list_any-from_Contains nat_list_eq_equiv name old c in cc) in
    last_by old new name added (λ no. no (h.1 out)) e

some_below : {A : Type 0} (p : A → Bool) (xs : List A) (b : Bool) (i : ℕ) → nat_lt (position_or_len p xs) (length xs) ≡ b → cond b (Some (position_or_len p xs)) None ≡ Some i
    → (position_or_len p xs ≡ i) × (i < length xs)
some_below p xs true i e h = let f : position_or_len p xs ≡ i = cc in (f, grind (arith, nat_tests))
some_below p xs false i e h = cc

-- the value at the place of a name that is there
pub value_at : (p : List ℕ → Bool) (names : List (List ℕ)) (values : List OverOne) (view : List Placeholder) (i : ℕ) (value : OverOne) → length names ≡ length values → paired names values ≡ view
    → Some i ≡ position p names → value ≡ slice_index_or values i value
    → Some value ≡ option_map (λ place. place.value) (find (λ place. p place.name) view)
value_at p names values view i value same is e v =
    let at = some_below p names (nat_lt (position_or_len p names) (length names)) i refl (sym e) in
    let got : slice_get values i ≡ Some value = slice_get-get_or values i value (omega (arith, at.1, same)) ∙ ap (λ (w : OverOne). Some w) (sym v) in
    sym (ap (λ (ps : List Placeholder). option_map (λ place. place.value) (find (λ place. p place.name) ps)) (sym is) ∙ find-paired p names values same ∙ ap (slice_get values) at.0 ∙ got)

none_below : {A : Type 0} (p : A → Bool) (xs : List A) (b : Bool) → nat_lt (position_or_len p xs) (length xs) ≡ b → cond b (Some (position_or_len p xs)) None ≡ None → length xs ≤ position_or_len p xs
none_below p xs true e h = cc
none_below p xs false e h = grind (arith, nat_tests)

-- no value where no name is there
pub no_value : (p : List ℕ → Bool) (names : List (List ℕ)) (values : List OverOne) (view : List Placeholder) → length names ≡ length values → paired names values ≡ view
    → None ≡ position p names → None ≡ option_map (λ place. place.value) (find (λ place. p place.name) view)
no_value p names values view same is e =
    let past = none_below p names (nat_lt (position_or_len p names) (length names)) refl (sym e) in
    sym (ap (λ (ps : List Placeholder). option_map (λ place. place.value) (find (λ place. p place.name) ps)) (sym is) ∙ find-paired p names values same ∙ slice_get_past values (position_or_len p names) (omega (arith, past, same)))

-- one more name and one more value
pub one_more : (names new : List (List ℕ)) (values values' : List OverOne) (view : List Placeholder) (name : List ℕ) (value : OverOne) (added : Bool)
    → length names ≡ length values → paired names values ≡ view → length view < most_placeholders → list_any (λ place. bytes_eq name place.name) view ≡ false
    → (IsTrue added ↔ (Contains names name → ⊥)) → new ≡ (if added then names ++ name ∷ [] else names) → values' ≡ values ++ value ∷ []
    → (paired new values' ≡ view ++ record { name = name; value = value } ∷ []) × (length new ≡ length values') × (length new ≤ most_placeholders)
one_more names new values values' view name value added same is room absent h e more =
    let out : list_any (bytes_eq name) names ≡ false = sym (any-paired (bytes_eq name) names values same) ∙ ap (list_any (λ place. bytes_eq name place.name)) is ∙ absent in
    let last : new ≡ names ++ name ∷ [] = name_goes_last names new name added h e out in
    let long : length new ≡ length names + 1 = rw last (length-append names (name ∷ [])) in
    let long' : length values' ≡ length values + 1 = rw more (length-append values (value ∷ [])) in
    let few : length view ≡ length values = ap length (sym is) ∙ length-paired names values same in
    (rw (last, more) (paired_push names values name value same ∙ ap (λ ps. ps ++ record { name = name; value = value } ∷ []) is), omega (arith, long, long', same), omega (arith, long, same, few, room))
