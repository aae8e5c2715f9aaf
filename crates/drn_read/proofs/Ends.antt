-- Loops over the states at the end of a text.
use Rattle.std.proofs.Common.{◌≡◌, ℕ, ℤ, pos, to_z, ◌+◌, ◌<◌, ◌≤◌, suc, cond, not, nat_lt, ◌||◌, ◌==◌, ◌-◌, ◌%◌, Bool, true, false, refl, List, [], ◌∷◌, ◌++◌, length, get_or, take, drop, map, fold, sym, ◌∙◌, ap, arith, drop-cons, Option, Some, None, Result, Err}
use Rattle.std.proofs.lemmas.Bool.Decides.{nat_tests}
use Rattle.std.proofs.lemmas.List.Folds.{list_any-append}
use Rattle.std.proofs.lemmas.List.Sums.{fold_more, fold-append, prefix_len-le-length}
use Rattle.std.proofs.lemmas.List.{drop_all}
use Rattle.std.specs.Int.{w64}
use Rattle.std.proofs.lemmas.Int.{to_z_pos}
use Rattle.std.specs.List.{flat_map, find, list_any, position, position_or_len}
use Rattle.std.specs.Option.{option_map, unwrap_or}
use Rattle.std.specs.Prelude.{nat_le, All}
use Rattle.std.proofs.lemmas.Bool.{leb-false}
use Rattle.std.proofs.lemmas.List.Elements.{All-weaker}
use Rattle.drn_read.proofs.Lists.{find_none, All-from_flat_map}
use Rattle.lift_frac.specs.Parts.{capped}
use Rattle.lift_frac.specs.Laws.{LcmIsAtLeast, LcmIsMultiple, LcmIsLeast}
use Rattle.std.specs.Int.{◌∣◌}
use Rattle.std.proofs.lemmas.Nat.Gcd.{dvd_refl, dvd_antisymm, dvd_of_mod-eq-zero}
use Rattle.lift_model.specs.declared.kind.Kind.{Kind}
use Rattle.lift_model.specs.declared.kind.Kind.TheVariants.{Dtmc}
use Rattle.lift_model.specs.declared.entry.Entry.{Entry}
use Rattle.lift_model.specs.Model.{ModelData}
use Rattle.lift_model.specs.Valid.{common_limit}
use Rattle.drn_read.specs.Sections.{Header}
use Rattle.drn_read.specs.Faults.{first_of, when, reported}
use Rattle.drn_read.specs.States.{StateText}
use Rattle.drn_read.specs.Parts.{last}
use Rattle.drn_read.specs.Judging.{choiceless}
use Rattle.drn_read.specs.declared.error.DrnCause.TheVariants.{NoChoice, TargetRange, CommonDenominator}
use Rattle.drn_read.specs.declared.error.DrnError.{DrnError}
use Rattle.lift_frac.specs.Gcd.{lcm}
use Rattle.drn_read.specs.Reading.{all_transitions, common, is_large, entry, model, common_fault}
use Rattle.drn_read.specs.Shown.{first_in, outside, with_den, Becomes, refusal}
use Rattle.drn_read.specs.declared.state.Transition.{Transition}

-- ---- what is found first

front : {A B : Type 0} (f : A → Option B) (x : A) (xs : List A) (o : Option B) → f x ≡ o → first_in f (x ∷ xs) ≡ elim o [ Some y ↦ Some y | None ↦ first_in f xs ]
front f x xs None e = rw e refl
front f x xs (Some y) e = rw e refl

cut : {A B : Type 0} (f : A → Option B) (xs : List A) (i : ℕ) (d : A) → i < length xs → first_in f (drop i xs) ≡ first_in f (get_or xs i d ∷ drop (i + 1) xs)
cut f xs i d h =
    let e : suc i ≡ i + 1 = omega arith in
    ap (first_in f) (drop-cons xs i d h) ∙ ap (λ (k : ℕ). first_in f (get_or xs i d ∷ drop k xs)) e

pub found_here : {A B : Type 0} (f : A → Option B) (xs : List A) (i : ℕ) (x d : A) (y : B) → first_in f (drop i xs) ≡ first_in f xs → i < length xs → x ≡ get_or xs i d → f x ≡ Some y → first_in f xs ≡ Some y
found_here f xs i x d y same h is e = sym same ∙ cut f xs i d h ∙ front f (get_or xs i d) (drop (i + 1) xs) (Some y) (ap f (sym is) ∙ e)

pub not_here : {A B : Type 0} (f : A → Option B) (xs : List A) (i : ℕ) (x d : A) → first_in f (drop i xs) ≡ first_in f xs → i < length xs → x ≡ get_or xs i d → f x ≡ None → first_in f (drop (i + 1) xs) ≡ first_in f xs
not_here f xs i x d same h is e = sym (front f (get_or xs i d) (drop (i + 1) xs) None (ap f (sym is) ∙ e)) ∙ sym (cut f xs i d h) ∙ same

first_in-step : {A B C : Type 0} (f : B → Option C) (g : A → B) (x : A) (xs : List A) (o : Option C) → f (g x) ≡ o → first_in f (map g xs) ≡ first_in (λ y. f (g y)) xs
    → first_in f (map g (x ∷ xs)) ≡ first_in (λ y. f (g y)) (x ∷ xs)
first_in-step f g x xs None e rest = rw e rest
first_in-step f g x xs (Some y) e rest = rw e refl

pub first_in-map : {A B C : Type 0} (f : B → Option C) (g : A → B) (xs : List A) → first_in f (map g xs) ≡ first_in (λ x. f (g x)) xs
first_in-map f g [] = refl
first_in-map f g (x ∷ xs) = first_in-step f g x xs (f (g x)) refl (first_in-map f g xs)

pub past_end : {A B : Type 0} (f : A → Option B) (xs : List A) (i : ℕ) → first_in f (drop i xs) ≡ first_in f xs → length xs ≤ i → first_in f xs ≡ None
past_end f xs i same h = sym same ∙ ap (first_in f) (drop_all i xs h)

first_in-join : {A B : Type 0} (f : A → Option B) (xs ys : List A) → first_in f (xs ++ ys) ≡ elim (first_in f xs) [ Some y ↦ Some y | None ↦ first_in f ys ]
first_in-join f [] ys = refl
first_in-join f (x ∷ xs) ys = joined f x xs ys (f x) refl (first_in-join f xs ys)
  where
    joined : {A B : Type 0} (f : A → Option B) (x : A) (xs ys : List A) (o : Option B) → f x ≡ o → first_in f (xs ++ ys) ≡ elim (first_in f xs) [ Some y ↦ Some y | None ↦ first_in f ys ]
        → first_in f (x ∷ xs ++ ys) ≡ elim (first_in f (x ∷ xs)) [ Some y ↦ Some y | None ↦ first_in f ys ]
    joined f x xs ys None e rest = rw e rest
    joined f x xs ys (Some y) e rest = rw e refl

first_in-flat : {A B C : Type 0} (f : B → Option C) (g : A → List B) (xs : List A) → first_in (λ x. first_in f (g x)) xs ≡ first_in f (flat_map g xs)
first_in-flat f g [] = refl
first_in-flat {A} {B} {C} f g (x ∷ xs) =
    front (λ (y : A). first_in f (g y)) x xs (first_in f (g x)) refl
    ∙ ap (λ (o : Option C). elim (first_in f (g x)) [ Some y ↦ Some y | None ↦ o ]) (first_in-flat f g xs)
    ∙ sym (first_in-join f (g x) (flat_map g xs))

first_in-same : {A B : Type 0} (f g : A → Option B) (xs : List A) → ((x : A) → f x ≡ g x) → first_in f xs ≡ first_in g xs
first_in-same f g [] h = refl
first_in-same f g (x ∷ xs) h = front f x xs (g x) (h x) ∙ ap (λ o. elim (g x) [ Some y ↦ Some y | None ↦ o ]) (first_in-same f g xs h) ∙ sym (front g x xs (g x) refl)

outside_found : (count : ℕ) (ts : List Transition) → first_in (outside count) ts ≡ option_map (λ t. t.line) (find (λ t. nat_le count t.target) ts)
outside_found count [] = refl
outside_found count (t ∷ ts) = by_test count t ts (nat_le count t.target) refl (outside_found count ts)
  where
    by_test : (count : ℕ) (t : Transition) (ts : List Transition) (b : Bool) → nat_le count t.target ≡ b → first_in (outside count) ts ≡ option_map (λ t. t.line) (find (λ t. nat_le count t.target) ts)
        → first_in (outside count) (t ∷ ts) ≡ option_map (λ t. t.line) (find (λ t. nat_le count t.target) (t ∷ ts))
    by_test count t ts true e rest = rw e refl
    by_test count t ts false e rest = rw e rest

pub all_outside : (count : ℕ) (states : List StateText) → first_in (λ s. first_in (first_in (outside count)) s.choices) states ≡ option_map (λ t. t.line) (find (λ t. nat_le count t.target) (all_transitions states))
all_outside count states =
    first_in-same (λ (s : StateText). first_in (first_in (outside count)) s.choices) (λ s. first_in (outside count) (flat_map (λ choice. choice) s.choices)) states (λ s. first_in-flat (outside count) (λ (choice : List Transition). choice) s.choices)
    ∙ first_in-flat (outside count) (λ (s : StateText). flat_map (λ choice. choice) s.choices) states
    ∙ outside_found count (all_transitions states)

-- how a target that is no state is told
pub target_reported : (o : Option Transition) (line : Option ℕ) → line ≡ option_map (λ t. t.line) o
    → option_map {U = DrnError} (λ (n : ℕ). record { line = n; cause = TargetRange }) line ≡ option_map {U = DrnError} (λ t. record { line = t.line; cause = TargetRange }) o
target_reported None line e = rw e refl
target_reported (Some t) line e = rw e refl

none_found : (o : Option Transition) → None ≡ option_map (λ t. t.line) o → o ≡ None
none_found None e = refl
none_found (Some t) e = cc

-- where none is outside, each target is a state
pub all_inside : (states : List StateText) (count : ℕ) → None ≡ first_in (λ s. first_in (first_in (outside count)) s.choices) states → All (λ s. All (All (λ t. t.target < count)) s.choices) states
all_inside states count e =
    let Inside : Transition → Type 0 = λ t. t.target < count in
    let none = none_found (find (λ t. nat_le count t.target) (all_transitions states)) (e ∙ all_outside count states) in
    let flat : All Inside (all_transitions states) = All-weaker (λ (t : Transition). nat_le count t.target ≡ false) Inside (λ t no. leb-false count t.target no) (all_transitions states) (find_none (λ (t : Transition). nat_le count t.target) (all_transitions states) none) in
    All-weaker (λ (s : StateText). All Inside (flat_map (λ choice. choice) s.choices)) (λ s. All (All Inside) s.choices) (λ s h. All-from_flat_map Inside (λ (choice : List Transition). choice) s.choices h) states
    (All-from_flat_map Inside (λ (s : StateText). flat_map (λ choice. choice) s.choices) states flat)

-- ---- one test after the other

pub skip : {A : Type 0} (test : Option A) (tests : List (Option A)) → test ≡ None → first_of (test ∷ tests) ≡ first_of tests
skip test tests e = rw e refl

pub stop : {A : Type 0} (test : Option A) (tests : List (Option A)) (fault : A) → test ≡ Some fault → first_of (test ∷ tests) ≡ Some fault
stop test tests fault e = rw e refl

pub refused : {X : Type 0} (r : Result X DrnError) (error : DrnError) (last : Option DrnError) → r ≡ Err error → Some error ≡ first_of (refusal r ∷ last ∷ [])
refused r error last e = rw e refl

-- ---- the common denominator

some_none : (c : ℕ) → Some c ≡ None → ⊥
some_none c e = cc

too_large : (limit c : ℕ) → limit ≤ c → capped limit c ≡ None
too_large limit c h = let e : nat_lt c limit ≡ false = grind (arith, nat_tests) in rw e refl

none_means : (limit c : ℕ) → capped limit c ≡ None → limit ≤ c
none_means limit c e = by_test (nat_lt c limit) refl
  where
    by_test : (b : Bool) → nat_lt c limit ≡ b → limit ≤ c
    by_test true is = absurd (some_none c (rw is at e))
    by_test false is = grind (arith, nat_tests)

some_means : (limit c d : ℕ) → capped limit c ≡ Some d → c ≡ d
some_means limit c d e = by_test (nat_lt c limit) refl
  where
    by_test : (b : Bool) → nat_lt c limit ≡ b → c ≡ d
    by_test true is = let same : Some c ≡ Some d = rw is at e in cc
    by_test false is = let none : None ≡ Some d = rw is at e in absurd (cc)

-- a multiple stays as it is
pub stays : (multiple : LcmIsMultiple) (least : LcmIsLeast) (old : Option ℕ) (m den : ℕ) → old ≡ Some m → m % den ≡ 0 → Becomes old old (λ c. lcm c den)
stays multiple least old m den there divides = record {
  is = λ c e.
      let same : c ≡ m = some_means common_limit c m (sym e ∙ there) in
      let over : den ∣ c = dvd_of_mod-eq-zero den (rw same divides) in
      e ∙ ap (capped common_limit) (dvd_antisymm (multiple c den).0 (least c den c (dvd_refl c) over));
}

-- none stays none
pub no_more : (law : LcmIsAtLeast) (old : Option ℕ) (den : ℕ) → old ≡ None → 0 < den → Becomes old None (λ c. lcm c den)
no_more law old den none h = record { is = λ c e. sym (too_large common_limit (lcm c den) (let above : common_limit ≤ c = none_means common_limit c (sym e ∙ none) in let more = law c den h in omega (arith, above, more))) }

pub nothing_yet : (old : Option ℕ) → Becomes old old (λ c. c)
nothing_yet old = record { is = λ c e. e }

pub one_more : {A : Type 0} (step : ℕ → A → ℕ) (xs : List A) (i : ℕ) (x d : A) (a b r : Option ℕ) → i < length xs → x ≡ get_or xs i d
    → Becomes a b (λ c. fold step c (take i xs)) → Becomes b r (λ c. step c x) → Becomes a r (λ c. fold step c (take (i + 1) xs))
one_more step xs i x d a b r h is before here = record {
  is = λ c e. here.is (fold step c (take i xs)) (before.is c e) ∙ ap (capped common_limit) (ap (step (fold step c (take i xs))) is ∙ sym (fold_more step c xs i d h));
}

fold-map : {A B : Type 0} (step : ℕ → B → ℕ) (g : A → B) (c : ℕ) (xs : List A) → fold (λ d x. step d (g x)) c xs ≡ fold step c (map g xs)
fold-map step g c [] = refl
fold-map step g c (x ∷ xs) = fold-map step g (step c (g x)) xs

pub over_map : {A B : Type 0} (step : ℕ → B → ℕ) (g : A → B) (xs ys : List A) (a b : Option ℕ) → ys ≡ xs → Becomes a b (λ c. fold (λ d x. step d (g x)) c ys) → Becomes a b (λ c. fold step c (map g xs))
over_map step g xs ys a b same h = record { is = λ c e. h.is c e ∙ ap (capped common_limit) (ap (fold (λ d x. step d (g x)) c) same ∙ fold-map step g c xs) }

fold-flat : {A B : Type 0} (step : ℕ → B → ℕ) (f : A → List B) (c : ℕ) (xs : List A) → fold (λ d x. fold step d (f x)) c xs ≡ fold step c (flat_map f xs)
fold-flat step f c [] = refl
fold-flat step f c (x ∷ xs) = fold-flat step f (fold step c (f x)) xs ∙ sym (fold-append step c (f x) (flat_map f xs))

fold-same : {A : Type 0} (f g : ℕ → A → ℕ) (c : ℕ) (xs : List A) → ((d : ℕ) (x : A) → f d x ≡ g d x) → fold f c xs ≡ fold g c xs
fold-same f g c [] h = refl
fold-same f g c (x ∷ xs) h = ap (λ (d : ℕ). fold f d xs) (h c x) ∙ fold-same f g (g c x) xs h

pub common_is : (states : List StateText) → fold (λ c s. fold (fold with_den) c s.choices) 1 states ≡ common states
common_is states =
    fold-same (λ c (s : StateText). fold (fold with_den) c s.choices) (λ c s. fold with_den c (flat_map (λ choice. choice) s.choices)) 1 states (λ c s. fold-flat with_den (λ (choice : List Transition). choice) c s.choices)
    ∙ fold-flat with_den (λ (s : StateText). flat_map (λ choice. choice) s.choices) 1 states

-- ---- the last state

last_is : {A : Type 0} (xs : List A) (d : A) → 1 ≤ length xs → last xs ≡ Some (get_or xs (length xs - 1) d)
last_is [] d h = absurd (omega arith)
last_is (x ∷ []) d h = refl
last_is (x ∷ y ∷ xs) d h =
    let rest = last_is (y ∷ xs) d (omega arith) in
    let e : length (x ∷ y ∷ xs) - 1 ≡ suc (length (y ∷ xs) - 1) = omega arith in
    rest ∙ ap (λ (k : ℕ). Some (get_or (x ∷ y ∷ xs) k d)) (sym e)

abbrev reported_if : Bool → ℕ → Option DrnError
reported_if true line = Some (record { line = line; cause = NoChoice })
reported_if false line = None

no_rows : {R : Type 0} (f : R → List Transition) (line : ℕ) (i g : Bool) (rows : List R)
    → choiceless ((record { line = line; init = i; goal = g; choices = map f rows }) ∷ []) ≡ reported_if (length rows == 0) line
no_rows f line i g [] = refl
no_rows f line i g (r ∷ rows) = let e : (length (r ∷ rows) == 0) ≡ false = grind (arith, nat_tests) in ap (λ (b : Bool). reported_if b line) (sym e)

only_last : (states : List StateText) (s : StateText) → last states ≡ Some s → choiceless states ≡ choiceless (s ∷ [])
only_last states s e = rw e refl

pub last_reported : {R : Type 0} (f : R → List Transition) (states : List StateText) (s : StateText) (line : ℕ) (i g : Bool) (rows : List R) (b : Bool)
    → 1 ≤ length states → s ≡ get_or states (length states - 1) s → record { line = line; init = i; goal = g; choices = map f rows } ≡ s → (length rows == 0) ≡ b → reported_if b line ≡ choiceless states
last_reported f states s line i g rows b h at view e =
    sym (only_last states s (last_is states s h ∙ ap Some (sym at)) ∙ ap (λ (t : StateText). choiceless (t ∷ [])) (sym view) ∙ no_rows f line i g rows ∙ ap (λ (b : Bool). reported_if b line) e)

-- ---- the last test

any-flat : {A B : Type 0} (p : B → Bool) (f : A → List B) (xs : List A) → list_any (λ x. list_any p (f x)) xs ≡ list_any p (flat_map f xs)
any-flat p f [] = refl
any-flat p f (x ∷ xs) = ap (λ b. list_any p (f x) || b) (any-flat p f xs) ∙ sym (list_any-append p (f x) (flat_map f xs))

any-same : {A : Type 0} (p q : A → Bool) (xs : List A) → ((x : A) → p x ≡ q x) → list_any p xs ≡ list_any q xs
any-same p q [] h = refl
any-same p q (x ∷ xs) h = ap (λ b. b || list_any p xs) (h x) ∙ ap (λ b. q x || b) (any-same p q xs h)

large_rows : (c : ℕ) (states : List StateText) → list_any (λ s. list_any (list_any (is_large c)) s.choices) states ≡ list_any (is_large c) (all_transitions states)
large_rows c states =
    any-same (λ (s : StateText). list_any (list_any (is_large c)) s.choices) (λ s. list_any (is_large c) (flat_map (λ choice. choice) s.choices)) states (λ s. any-flat (is_large c) (λ (choice : List Transition). choice) s.choices)
    ∙ any-flat (is_large c) (λ (s : StateText). flat_map (λ choice. choice) s.choices) states

pub capped_some : (limit c n : ℕ) → Some n ≡ capped limit c → (n ≡ c) × (nat_le limit c ≡ false)
capped_some limit c n e = by_test limit c n (nat_lt c limit) refl e
  where
    by_test : (limit c n : ℕ) (b : Bool) → nat_lt c limit ≡ b → Some n ≡ cond b (Some c) None → (n ≡ c) × (nat_le limit c ≡ false)
    by_test limit c n true is e = let same : n ≡ c = cc in (same, grind (arith, nat_tests))
    by_test limit c n false is e = cc

pub last_fault : (states : List StateText) (n : ℕ) → Some n ≡ capped common_limit (common states)
    → when (list_any (λ s. list_any (list_any (is_large n)) s.choices) states) CommonDenominator ≡ common_fault states
last_fault states n e =
    let h = capped_some common_limit (common states) n e in
    ap (λ (c : ℕ). when (list_any (λ s. list_any (list_any (is_large c)) s.choices) states) CommonDenominator) h.0
    ∙ ap (λ large. when large CommonDenominator) (large_rows (common states) states ∙ ap (λ b. b || list_any (is_large (common states)) (all_transitions states)) (sym h.1))

-- ---- the first place

pub place_or_len : {A : Type 0} (p : A → Bool) (xs : List A) (o : Option ℕ) → o ≡ position p xs → unwrap_or o (length xs) ≡ position_or_len p xs
place_or_len p xs o e = rw e (by_test (position_or_len p xs) (length xs) (nat_lt (position_or_len p xs) (length xs)) refl (prefix_len-le-length (λ x. not (p x)) xs))
  where
    by_test : (i n : ℕ) (b : Bool) → nat_lt i n ≡ b → i ≤ n → unwrap_or (cond b (Some i) None) n ≡ i
    by_test i n true is h = refl
    by_test i n false is h = grind (arith, nat_tests)

-- ---- the model

abbrev parts : Kind → ℤ → List (List ℕ) → List Bool → ℕ → List (List (List Entry)) → ModelData
parts k a ns gs i rs = record { kind = k; common = a; names = ns; goal = gs; init = i; states = rs }

same_data : (k l : Kind) (a b : ℤ) (ns ms : List (List ℕ)) (gs hs : List Bool) (i j : ℕ) (rs ts : List (List (List Entry))) → k ≡ l → a ≡ b → ns ≡ ms → gs ≡ hs → i ≡ j → rs ≡ ts
    → parts k a ns gs i rs ≡ parts l b ms hs j ts
same_data k l a b ns ms gs hs i j rs ts e f g h m n = cc

-- the model from its parts
pub model_is : (header : Header) (states : List StateText) (kind : Option Kind) (k : Kind) (c : ℕ) (ns : List (List ℕ)) (gs : List Bool) (i : ℕ) (rs : List (List (List Entry)))
    → kind ≡ header.kind → k ≡ unwrap_or kind Dtmc → c ≡ common states → c < common_limit → ns ≡ header.names → gs ≡ map (λ s. s.goal) states → i ≡ position_or_len (λ s. s.init) states
    → rs ≡ map (λ s. map (map (entry (common states))) s.choices) states → model (record { header = header; states = states }) ≡ parts k (to_z w64 c) ns gs i rs
unfolding model
model_is header states kind k c ns gs i rs f g same small h m n o =
    let number : to_z w64 c ≡ pos c = to_z_pos w64 c (omega (arith, small)) in
    same_data (unwrap_or header.kind Dtmc) k (pos (common states)) (to_z w64 c) header.names ns (map (λ (s : StateText). s.goal) states) gs (position_or_len (λ (s : StateText). s.init) states) i
    (map (λ (s : StateText). map (map (entry (common states))) s.choices) states) rs
    (sym (g ∙ ap (λ (k : Option Kind). unwrap_or k Dtmc) f)) (sym (number ∙ ap pos same)) (sym h) (sym m) (sym n) (sym o)

-- where the last test finds nothing either, the whole text is without fault
pub no_fault : (fault : Option DrnError) (first : Option DrnError) (number : ℕ) (states : List StateText) → fault ≡ first_of (first ∷ reported number (common_fault states) ∷ []) → first ≡ None → common_fault states ≡ None → fault ≡ None
no_fault fault first number states e f g = e ∙ skip first (reported number (common_fault states) ∷ []) f ∙ rw g refl
