-- Names, each of which differs from those before it.
use Rattle.std.proofs.Common.{◌≡◌, ℕ, zero, suc, ◌+◌, ◌<◌, ◌≤◌, Bool, true, false, List, [], ◌∷◌, length, map, drop, get_or, reverse, Ok, Err, codes, refl, sym, ap, ◌∙◌, arith}
use Rattle.std.specs.Prelude.{Contains, ◌↔◌, IsTrue, not, ◌||◌, nat_le}
use Rattle.std.specs.List.{list_any}
use Rattle.std.specs.Str.{bytes_eq}
use Rattle.std.proofs.lemmas.Bool.{leb-true, leb-false}
use Rattle.std.proofs.lemmas.Slice.Eq.{bytes_eq-Decides}
use Rattle.std.proofs.lemmas.Map.Views.{Contains-from_any}
use Rattle.std.proofs.lemmas.List.{drop_more}
use Rattle.std.proofs.lemmas.List.Sorted.{IsPermutation-reverse, list_any-IsPermutation}
use Rattle.lift_model.specs.Valid.{most_name_bytes, most_parameters}
use Rattle.line_text.specs.declared.error.TextCause.{TextCause}
use Rattle.line_text.specs.declared.error.TextCause.TheVariants.{Syntax, Limit}
use Rattle.line_text.specs.Reading.{◌>>=◌}
use Rattle.line_text.specs.Parts.{Words, Read, must, counted}
use Rattle.cert_text.specs.Lines.{names_in, name_of, parameters_of}
use Rattle.cert_text.specs.Shown.{name_in, distinct_names}

same_bytes : (x y : List ℕ) → bytes_eq x y ≡ true → x ≡ y
same_bytes x y e = (bytes_eq-Decides x y).0 e

or_true : (b : Bool) → (b || true) ≡ true
or_true true = refl
or_true false = refl

any_there : {A : Type 0} (p : A → Bool) (xs : List A) (x : A) (k : ℕ) → Contains xs x → p x ≡ true → list_any p xs ≡ true
any_there p [] x k h e = absurd (omega (arith, h.1))
any_there p (y ∷ xs) x k (zero, lt, is) e = ap (λ z. p z || list_any p xs) is ∙ ap (λ b. b || list_any p xs) e
any_there p (y ∷ xs) x k (suc i, lt, is) e = ap (λ b. p y || b) (any_there p xs x i (i, omega (arith, lt), is) e) ∙ or_true (p y)

-- whether a name stands among those that were added, the last one first
any_is : (names : Words) (name : List ℕ) (added : Bool) → (IsTrue added ↔ ¬ Contains names name) → not (list_any (bytes_eq name) (reverse names)) ≡ added
any_is names name added h =
    ap not (sym (list_any-IsPermutation (bytes_eq name) names (reverse names) (IsPermutation-reverse names))) ∙ by_any (list_any (bytes_eq name) names) refl added h
  where
    by_any : (b : Bool) → list_any (bytes_eq name) names ≡ b → (added : Bool) → (IsTrue added ↔ ¬ Contains names name) → not b ≡ added
    by_any true e true h = absurd (h.0 refl (Contains-from_any same_bytes name names e))
    by_any true e false h = refl
    by_any false e true h = refl
    by_any false e false h =
        let none : Contains names name → ⊥ = λ c. let t : true ≡ false = sym (any_there (bytes_eq name) names name 0 c ((bytes_eq-Decides name name).1 refl)) ∙ e in absurd cc in
        let f : false ≡ true = h.1 none in
        absurd cc

pub old_name : (names : Words) (name : List ℕ) (added : Bool) → (IsTrue added ↔ ¬ Contains names name) → added ≡ false → name_in (reverse names) name ≡ Err Syntax
old_name names name added h e = ap (λ b. must b Syntax >>= λ _. must (nat_le (length name) most_name_bytes) Limit) (any_is names name added h ∙ e)

pub long_name : (names : Words) (name : List ℕ) (added : Bool) → (IsTrue added ↔ ¬ Contains names name) → added ≡ true → most_name_bytes < length name → name_in (reverse names) name ≡ Err Limit
long_name names name added h e long = ap (λ b. must b Syntax >>= λ _. must (nat_le (length name) most_name_bytes) Limit) (any_is names name added h ∙ e) ∙ by_le (nat_le (length name) most_name_bytes) refl
  where
    by_le : (b : Bool) → nat_le (length name) most_name_bytes ≡ b → must b Limit ≡ Err Limit
    by_le true t = absurd (omega (arith, leb-true (length name) most_name_bytes t, long))
    by_le false t = refl

pub new_name : (names : Words) (name : List ℕ) (added : Bool) → (IsTrue added ↔ ¬ Contains names name) → added ≡ true → length name ≤ most_name_bytes → name_in (reverse names) name ≡ Ok tt
new_name names name added h e short = ap (λ b. must b Syntax >>= λ _. must (nat_le (length name) most_name_bytes) Limit) (any_is names name added h ∙ e) ∙ by_le (nat_le (length name) most_name_bytes) refl
  where
    by_le : (b : Bool) → nat_le (length name) most_name_bytes ≡ b → must b Limit ≡ Ok tt
    by_le true t = refl
    by_le false t = absurd (omega (arith, leb-false (length name) most_name_bytes t, short))

-- a name that isn't taken ends the names
pub names_stop : (before all rest : Words) (name : List ℕ) (cause : TextCause) → names_in [] all ≡ names_in before (name ∷ rest) → name_in before name ≡ Err cause → distinct_names all ≡ Err cause
names_stop before all rest name cause same e =
    ap (λ r. r >>= λ _. Ok all) same ∙ by_first (must (not (list_any (bytes_eq name) before)) Syntax) (must (nat_le (length name) most_name_bytes) Limit) e
  where
    by_first : (a b : Read (Unit {0})) → (a >>= λ _. b) ≡ Err cause → ((a >>= λ _. b >>= λ _. names_in (name ∷ before) rest) >>= λ _. Ok all) ≡ Err cause
    by_first (Ok x) (Ok y) e = absurd cc
    by_first (Ok x) (Err f) e = cc
    by_first (Err f) b e = cc

pub names_stop_at : {W : Type 0} (shows : W → List ℕ) (ws : List W) (i : ℕ) (d : W) (names : Words) (cause : TextCause) → i < length ws → names_in [] (map shows ws) ≡ names_in (reverse names) (map shows (drop i ws)) → name_in (reverse names) (shows (get_or ws i d)) ≡ Err cause → distinct_names (map shows ws) ≡ Err cause
names_stop_at shows ws i d names cause lt same e =
    names_stop (reverse names) (map shows ws) (map shows (drop (i + 1) ws)) (shows (get_or ws i d)) cause (same ∙ ap (λ t. names_in (reverse names) (map shows t)) (drop_more ws i d lt)) e

-- the line's names are those that are announced, unless they are too many
pub parameters_are : (ws names : Words) → counted (codes "parameters") name_of ws ≡ Ok names → length names ≤ most_parameters → parameters_of ws ≡ distinct_names names
parameters_are ws names e few =
    ap (λ r. r >>= λ names. must (nat_le (length names) most_parameters) Limit >>= λ _. names_in [] names >>= λ _. Ok names) e ∙ by_le (nat_le (length names) most_parameters) refl
  where
    by_le : (b : Bool) → nat_le (length names) most_parameters ≡ b → (must b Limit >>= λ _. names_in [] names >>= λ _. Ok names) ≡ distinct_names names
    by_le true t = refl
    by_le false t = absurd (omega (arith, leb-false (length names) most_parameters t, few))
