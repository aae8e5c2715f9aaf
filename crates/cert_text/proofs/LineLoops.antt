-- Reading the numbers or the marks of a line word by word, where those out of range are told behind the form of all.
use Rattle.std.proofs.Common.{◌≡◌, ℕ, suc, ◌+◌, ◌<◌, ◌≤◌, Bool, true, false, cond, List, [], ◌∷◌, ◌++◌, length, drop, get_or, Ok, Err, Option, Some, None, refl, sym, ap, ◌∙◌, append_assoc, append-nil, length-append, zero-add, add-zero, arith, ◌⊎◌, ⊎_elim, drop-cons}
use Rattle.std.specs.Prelude.{ℤ, pos, negsuc, nat_lt, ◌&&◌, ◌==◌}
use Rattle.std.specs.List.{list_all}
use Rattle.std.proofs.lemmas.Bool.{eqb-true, ne_eqb, le-leb}
use Rattle.std.proofs.lemmas.List.{drop_all}
use Rattle.std.specs.Option.{option_map}
use Rattle.line_text.specs.declared.error.TextCause.TheVariants.{Syntax, Limit}
use Rattle.line_text.specs.Words.{number_of}
use Rattle.line_text.specs.Reading.{◌>>=◌}
use Rattle.line_text.specs.Parts.{Words, Read, must, spelled, each}
use Rattle.line_text.specs.Shown.{first_of, is_none_left}
use Rattle.cert_text.specs.Lines.{is_value, mark_of, mark_in, marks_in}
use Rattle.cert_text.specs.Shown.{in_values}
use Rattle.cert_text.specs.Left.{value_first, mark_first, marks_by, values_left, in_marks, marks_so, marks_left}

-- ---- word by word

abbrev pair_in : {A : Type 0} → A × Words → Option (A × Words) → A × Words
pair_in d None = d
pair_in d (Some p) = p

pub option_first : {A : Type 0} (o : Option A) (ws behind : Words) (x : A) → option_map {U = A × Words} (λ y. (y, ws)) o ≡ Some (x, behind) → (o ≡ Some x) × (ws ≡ behind)
option_first None ws behind x e = absurd (cc e)
option_first {A} (Some y) ws behind x e =
    let pair : ◌≡◌ {A = A × Words} (y, ws) (x, behind) = ap (pair_in (y, ws)) e in
    (ap (λ p. Some p.0) pair, ap (λ p. p.1) pair)

pub each_first : {A : Type 0} (of : List ℕ → Option A) (rest behind : Words) (x : A) → first_of of rest ≡ Some (x, behind) → each of rest ≡ (each of behind >>= λ xs. Ok (x ∷ xs))
each_first of [] behind x e = absurd cc
each_first of (w ∷ ws) behind x e =
    let parts = option_first (of w) ws behind x e in
    ap (λ o. spelled o >>= λ y. each of ws >>= λ xs. Ok (y ∷ xs)) parts.0 ∙ ap (λ vs. each of vs >>= λ xs. Ok (x ∷ xs)) parts.1

-- behind the first word fewer are left
pub first_shorter : {A : Type 0} (of : List ℕ → Option A) (rest behind : Words) (x : A) → first_of of rest ≡ Some (x, behind) → length behind < length rest
first_shorter of [] behind x e = absurd (cc e)
first_shorter of (w ∷ ws) behind x e = let same = ap length (option_first (of w) ws behind x e).1 in omega (arith, same)

option_none : {A : Type 0} (o : Option A) (ws : Words) → option_map {U = A × Words} (λ y. (y, ws)) o ≡ None → o ≡ None
option_none None ws e = refl
option_none (Some y) ws e = absurd cc

pub each_none : {A : Type 0} (of : List ℕ → Option A) (rest : Words) → first_of of rest ≡ None → is_none_left rest ≡ false → each of rest ≡ Err Syntax
each_none of [] e some = absurd cc
each_none of (w ∷ ws) e some = ap (λ o. spelled o >>= λ y. each of ws >>= λ xs. Ok (y ∷ xs)) (option_none (of w) ws e)

pub each_end : {A : Type 0} (of : List ℕ → Option A) (rest : Words) → is_none_left rest ≡ true → each of rest ≡ Ok []
each_end of [] e = refl
each_end of (w ∷ ws) e = absurd cc

pub first_map : {A B : Type 0} (f : A → B) (o : Option (A × Words)) (y : B) (behind : Words) → option_map {U = B × Words} (λ x. (f x.0, x.1)) o ≡ Some (y, behind) → (x : A) × (o ≡ Some (x, behind)) × (f x ≡ y)
first_map f None y behind e = absurd (cc e)
first_map {A} {B} f (Some x) y behind e =
    let pair : ◌≡◌ {A = B × Words} (f x.0, x.1) (y, behind) = ap (pair_in (f x.0, x.1)) e in
    (x.0, ap (λ ws. Some (x.0, ws)) (ap (λ p. p.1) pair), ap (λ p. p.0) pair)

pub map_none : {A B : Type 0} (f : A → B) (o : Option (A × Words)) → option_map {U = B × Words} (λ x. (f x.0, x.1)) o ≡ None → o ≡ None
map_none f None e = refl
map_none f (Some x) e = absurd cc

-- ---- numbers

and_false : (b : Bool) → b && false ≡ false
and_false true = refl
and_false false = refl

-- what is made of the numbers that are left
abbrev finish_with : ℕ → ℕ → List ℤ → Bool → List ℤ → Read (List ℤ)
finish_with count u done fit zs = must (length (done ++ zs) == count) Syntax >>= λ _. must (fit && list_all (is_value u) zs) Limit >>= λ _. Ok (done ++ zs)

one_in : (count u : ℕ) (done : List ℤ) (fit : Bool) (z : ℤ) (zs : List ℤ) → is_value u z ≡ true → finish_with count u done fit (z ∷ zs) ≡ finish_with count u (done ++ z ∷ []) fit zs
one_in count u done fit z zs is = rw (is, append_assoc done (z ∷ []) zs) refl

same_size : (done zs : List ℤ) (z w : ℤ) → length (done ++ z ∷ zs) ≡ length ((done ++ w ∷ []) ++ zs)
same_size done zs z w = omega (arith, length-append done (z ∷ zs), length-append (done ++ w ∷ []) zs, length-append done (w ∷ []))

one_out : (count u : ℕ) (done : List ℤ) (fit : Bool) (z w : ℤ) (zs : List ℤ) → is_value u z ≡ false → finish_with count u done fit (z ∷ zs) ≡ finish_with count u (done ++ w ∷ []) false zs
one_out count u done fit z w zs is = rw (is, and_false fit, same_size done zs z w) refl

pub regroup : {A C : Type 0} (r : Read (List A)) (x : A) (f g : List A → Read C) → ((xs : List A) → f (x ∷ xs) ≡ g xs) → ((r >>= λ xs. Ok (x ∷ xs)) >>= f) ≡ (r >>= g)
regroup (Ok xs) x f g same = same xs
regroup (Err e) x f g same = refl

-- what the test of a number says
value_fits : (u : ℕ) (z n : ℤ) → in_values u z ≡ Some n → (is_value u z ≡ true) × (z ≡ n)
value_fits u z n e = by_test (is_value u z) refl e
  where
    by_test : (b : Bool) → is_value u z ≡ b → cond b (Some z) None ≡ Some n → (is_value u z ≡ true) × (z ≡ n)
    by_test true t e = (t, cc)
    by_test false t e = absurd (cc e)

value_misses : (u : ℕ) (z : ℤ) → in_values u z ≡ None → is_value u z ≡ false
value_misses u z e = by_test (is_value u z) refl e
  where
    by_test : (b : Bool) → is_value u z ≡ b → cond b (Some z) None ≡ None → is_value u z ≡ false
    by_test true t e = absurd (cc e)
    by_test false t e = t

value_in : (count u : ℕ) (done : List ℤ) (fit : Bool) (rest behind : Words) (z : ℤ) → first_of number_of rest ≡ Some (z, behind) → is_value u z ≡ true → values_left count u done fit rest ≡ values_left count u (done ++ z ∷ []) fit behind
value_in count u done fit rest behind z e is =
    ap (λ r. r >>= finish_with count u done fit) (each_first number_of rest behind z e)
    ∙ regroup (each number_of behind) z (finish_with count u done fit) (finish_with count u (done ++ z ∷ []) fit) (λ zs. one_in count u done fit z zs is)

value_out : (count u : ℕ) (done : List ℤ) (fit : Bool) (rest behind : Words) (z w : ℤ) → first_of number_of rest ≡ Some (z, behind) → is_value u z ≡ false → values_left count u done fit rest ≡ values_left count u (done ++ w ∷ []) false behind
value_out count u done fit rest behind z w e is =
    ap (λ r. r >>= finish_with count u done fit) (each_first number_of rest behind z e)
    ∙ regroup (each number_of behind) z (finish_with count u done fit) (finish_with count u (done ++ w ∷ []) false) (λ zs. one_out count u done fit z w zs is)

pub value_none : (count u : ℕ) (done : List ℤ) (fit : Bool) (rest : Words) → value_first u rest ≡ None → is_none_left rest ≡ false → values_left count u done fit rest ≡ Err Syntax
value_none count u done fit rest e some = ap (λ r. r >>= finish_with count u done fit) (each_none number_of rest (map_none (in_values u) (first_of number_of rest) e) some)

pub value_kept : (count u : ℕ) (done : List ℤ) (fit : Bool) (rest behind : Words) (n : ℤ) → value_first u rest ≡ Some (Some n, behind) → values_left count u done fit rest ≡ values_left count u (done ++ n ∷ []) fit behind
value_kept count u done fit rest behind n e =
    let one = first_map (in_values u) (first_of number_of rest) (Some n) behind e in
    let fits = value_fits u one.0 n one.2 in
    value_in count u done fit rest behind one.0 one.1 fits.0 ∙ ap (λ m. values_left count u (done ++ m ∷ []) fit behind) fits.1

pub value_lost : (count u : ℕ) (done : List ℤ) (fit : Bool) (rest behind : Words) (w : ℤ) → value_first u rest ≡ Some (None, behind) → values_left count u done fit rest ≡ values_left count u (done ++ w ∷ []) false behind
value_lost count u done fit rest behind w e =
    let one = first_map (in_values u) (first_of number_of rest) None behind e in
    value_out count u done fit rest behind one.0 w one.1 (value_misses u one.0 one.2)

pub value_end : (count u : ℕ) (done : List ℤ) (fit : Bool) (rest : Words) → is_none_left rest ≡ true → values_left count u done fit rest ≡ (must (length done == count) Syntax >>= λ _. must fit Limit >>= λ _. Ok done)
value_end count u done fit rest e = ap (λ r. r >>= finish_with count u done fit) (each_end number_of rest e) ∙ rw (append-nil done, and_true fit) refl
  where
    and_true : (b : Bool) → b && true ≡ b
    and_true true = refl
    and_true false = refl

-- ---- marks

-- what is made of the marks that are left
abbrev marks_with : List ℕ → List ℕ → Bool → List (Option ℤ) → Read (List ℕ)
marks_with ends done fit ms = must (length done + length ms == length ends) Syntax >>= λ _. must fit Limit >>= λ _. marks_in (drop (length done) ends) ms >>= λ more. Ok (done ++ more)

pub same_read : {A : Type 0} (r : Read A) → (r >>= λ x. Ok x) ≡ r
same_read (Ok x) = refl
same_read (Err e) = refl

pub then_same : {A B : Type 0} (r : Read A) (f g : A → Read B) → ((x : A) → f x ≡ g x) → (r >>= f) ≡ (r >>= g)
then_same (Ok x) f g same = same x
then_same (Err e) f g same = refl

pub marks_begin : (ends : List ℕ) (words : Words) → marks_left ends [] true words ≡ marks_by ends words
marks_begin ends words = then_same (each mark_of words) (marks_with ends [] true) (marks_so ends) (λ ms. rw (zero-add (length ms)) (then_same (must (length ms == length ends) Syntax) (λ _. marks_in ends ms >>= λ more. Ok more) (λ _. marks_in ends ms) (λ _. same_read (marks_in ends ms))))

mark_found : (end : ℕ) (m : Option ℤ) (k : ℕ) → in_marks end m ≡ Some k → mark_in end m ≡ Ok k
mark_found end None k e = cc
mark_found end (Some (pos n)) k e = rw (le-leb 0 n (omega arith)) (by_test (nat_lt n end) e)
  where
    by_test : (b : Bool) → cond b (Some n) None ≡ Some k → (must b Limit >>= λ _. Ok n) ≡ Ok k
    by_test true e = cc
    by_test false e = absurd cc
mark_found end (Some (negsuc n)) k e = absurd cc

mark_lost : (end : ℕ) (m : Option ℤ) → in_marks end m ≡ None → mark_in end m ≡ Err Limit
mark_lost end None e = absurd cc
mark_lost end (Some (pos n)) e = rw (le-leb 0 n (omega arith)) (by_test (nat_lt n end) e)
  where
    by_test : (b : Bool) → cond b (Some n) None ≡ None → (must b Limit >>= λ _. Ok n) ≡ Err Limit
    by_test true e = absurd cc
    by_test false e = refl
mark_lost end (Some (negsuc n)) e = refl

sizes_are : (done : List ℕ) (k : ℕ) (ms : List (Option ℤ)) (m : Option ℤ) → length done + length (m ∷ ms) ≡ length (done ++ k ∷ []) + length ms
sizes_are done k ms m = omega (arith, length-append done (k ∷ []))

size_more : (done : List ℕ) (k : ℕ) → length (done ++ k ∷ []) ≡ suc (length done)
size_more done k = omega (arith, length-append done (k ∷ []))

regroup_marks : (r : Read (List ℕ)) (done : List ℕ) (k : ℕ) → ((r >>= λ marks. Ok (k ∷ marks)) >>= λ more. Ok (done ++ more)) ≡ (r >>= λ more. Ok ((done ++ k ∷ []) ++ more))
regroup_marks (Ok xs) done k = ap (λ ys. Ok ys) (sym (append_assoc done (k ∷ []) xs))
regroup_marks (Err e) done k = refl

mark_kept : (ends done : List ℕ) (fit : Bool) (m : Option ℤ) (k : ℕ) (ms : List (Option ℤ)) → length done < length ends → in_marks (get_or ends (length done) 0) m ≡ Some k → marks_with ends done fit (m ∷ ms) ≡ marks_with ends (done ++ k ∷ []) fit ms
mark_kept ends done fit m k ms lt is =
    let there = mark_found (get_or ends (length done) 0) m k is in
    rw (drop-cons ends (length done) 0 lt, there, sizes_are done k ms m, size_more done k, regroup_marks (marks_in (drop (suc (length done)) ends) ms) done k) refl

both_out : (size fit : Bool) → ◌≡◌ {A = Read (List ℕ)} (must size Syntax >>= λ _. must fit Limit >>= λ _. Err Limit) (must size Syntax >>= λ _. Err Limit)
both_out true true = refl
both_out true false = refl
both_out false fit = refl

mark_missed : (ends done : List ℕ) (fit : Bool) (m : Option ℤ) (k : ℕ) (ms : List (Option ℤ)) → length done < length ends → in_marks (get_or ends (length done) 0) m ≡ None → marks_with ends done fit (m ∷ ms) ≡ marks_with ends (done ++ k ∷ []) false ms
mark_missed ends done fit m k ms lt is =
    let lost = mark_lost (get_or ends (length done) 0) m is in
    rw (drop-cons ends (length done) 0 lt, lost, sizes_are done k ms m) (both_out (length (done ++ k ∷ []) + length ms == length ends) fit)

unlike : (a b : ℕ) → b < a → (a == b) ≡ false
unlike a b lt = ne_eqb a b (λ e. omega (arith, e, lt))

mark_past : (ends done : List ℕ) (fit now : Bool) (m : Option ℤ) (k : ℕ) (ms : List (Option ℤ)) → length ends ≤ length done → marks_with ends done fit (m ∷ ms) ≡ marks_with ends (done ++ k ∷ []) now ms
mark_past ends done fit now m k ms le =
    let far : (length (done ++ k ∷ []) + length ms == length ends) ≡ false = unlike (length (done ++ k ∷ []) + length ms) (length ends) (omega (arith, size_more done k, le)) in
    rw (sizes_are done k ms m, far) refl

in_or_past : (i n : ℕ) → (i < n) ⊎ (n ≤ i)
in_or_past i n = grind arith

marks_in_end : (ends done : List ℕ) (fit : Bool) (rest behind : Words) (m : Option ℤ) (k : ℕ) → first_of mark_of rest ≡ Some (m, behind) → (length done < length ends → in_marks (get_or ends (length done) 0) m ≡ Some k) → marks_left ends done fit rest ≡ marks_left ends (done ++ k ∷ []) fit behind
marks_in_end ends done fit rest behind m k e is =
    ap (λ r. r >>= marks_with ends done fit) (each_first mark_of rest behind m e)
    ∙ regroup (each mark_of behind) m (marks_with ends done fit) (marks_with ends (done ++ k ∷ []) fit)
    (λ ms. ⊎_elim (λ (lt : length done < length ends). mark_kept ends done fit m k ms lt (is lt)) (λ (le : length ends ≤ length done). mark_past ends done fit fit m k ms le) (in_or_past (length done) (length ends)))

marks_out_end : (ends done : List ℕ) (fit : Bool) (rest behind : Words) (m : Option ℤ) (k : ℕ) → first_of mark_of rest ≡ Some (m, behind) → (length done < length ends → in_marks (get_or ends (length done) 0) m ≡ None) → marks_left ends done fit rest ≡ marks_left ends (done ++ k ∷ []) false behind
marks_out_end ends done fit rest behind m k e is =
    ap (λ r. r >>= marks_with ends done fit) (each_first mark_of rest behind m e)
    ∙ regroup (each mark_of behind) m (marks_with ends done fit) (marks_with ends (done ++ k ∷ []) false)
    (λ ms. ⊎_elim (λ (lt : length done < length ends). mark_missed ends done fit m k ms lt (is lt)) (λ (le : length ends ≤ length done). mark_past ends done fit false m k ms le) (in_or_past (length done) (length ends)))

pub marks_none : (ends done : List ℕ) (fit : Bool) (rest : Words) (end : ℕ) → mark_first end rest ≡ None → is_none_left rest ≡ false → marks_left ends done fit rest ≡ Err Syntax
marks_none ends done fit rest end e some = ap (λ r. r >>= marks_with ends done fit) (each_none mark_of rest (map_none (in_marks end) (first_of mark_of rest) e) some)

pub one_mark : (ends done : List ℕ) (fit : Bool) (rest behind : Words) (k : ℕ) → mark_first (get_or ends (length done) 0) rest ≡ Some (Some k, behind) → marks_left ends done fit rest ≡ marks_left ends (done ++ k ∷ []) fit behind
one_mark ends done fit rest behind k e =
    let one = first_map (in_marks (get_or ends (length done) 0)) (first_of mark_of rest) (Some k) behind e in
    marks_in_end ends done fit rest behind one.0 k one.1 (λ _. one.2)

pub no_mark : (ends done : List ℕ) (fit : Bool) (rest behind : Words) (k : ℕ) → mark_first (get_or ends (length done) 0) rest ≡ Some (None, behind) → marks_left ends done fit rest ≡ marks_left ends (done ++ k ∷ []) false behind
no_mark ends done fit rest behind k e =
    let one = first_map (in_marks (get_or ends (length done) 0)) (first_of mark_of rest) None behind e in
    marks_out_end ends done fit rest behind one.0 k one.1 (λ _. one.2)

pub marks_end : (ends done : List ℕ) (fit : Bool) (rest : Words) → is_none_left rest ≡ true → marks_left ends done fit rest ≡ (must (length done == length ends) Syntax >>= λ _. must fit Limit >>= λ _. Ok done)
marks_end ends done fit rest e = ap (λ r. r >>= marks_with ends done fit) (each_end mark_of rest e) ∙ rw (add-zero (length done)) (by_size (length done == length ends) refl)
  where
    all_in : length done ≡ length ends → (marks_in (drop (length done) ends) [] >>= λ more. Ok (done ++ more)) ≡ Ok done
    all_in e = rw (drop_all (length done) ends (omega (arith, e)), append-nil done) refl

    by_size : (b : Bool) → (length done == length ends) ≡ b → (must b Syntax >>= λ _. must fit Limit >>= λ _. marks_in (drop (length done) ends) [] >>= λ more. Ok (done ++ more)) ≡ (must b Syntax >>= λ _. must fit Limit >>= λ _. Ok done)
    by_size false t = refl
    by_size true t = rw (all_in (eqb-true (length done) (length ends) t)) refl
