-- Reading entries one after the other, with a mark for each target.
use Rattle.std.proofs.Common.{◌≡◌, ℕ, suc, ◌+◌, ◌-◌, ◌<◌, ◌≤◌, Bool, true, false, List, [], ◌∷◌, ◌++◌, length, map, replicate, reverse, set, get_or, Result, Ok, Err, Option, Some, None, codes, refl, sym, ap, ◌∙◌, append_assoc, append-nil, arith}
use Rattle.std.specs.Prelude.{ℤ, pos, negsuc, not, nat_eq, nat_le, nat_lt, ◌&&◌, ◌==◌, ◌||◌}
use Rattle.std.specs.Prelude.{All}
use Rattle.std.specs.List.{list_any}
use Rattle.std.proofs.lemmas.List.{get_or-set_same, get_or-set_other, length-set, map-append, reverse-append}
use Rattle.std.proofs.lemmas.List.Elements.{All-replicate}
use Rattle.std.proofs.lemmas.Bool.{ltb-true, eqb-true, eqb-false}
use Rattle.lift_model.specs.declared.entry.Entry.{Entry}
use Rattle.lift_poly.specs.Polynomial.{Term}
use Rattle.line_text.specs.declared.error.TextError.{TextError}
use Rattle.line_text.specs.declared.error.TextCause.TheVariants.{Syntax, Limit}
use Rattle.line_text.specs.Reading.{◌>>=◌, Cursor, line_at, at, due}
use Rattle.line_text.specs.Words.{words, number_of, pair_of}
use Rattle.line_text.specs.Parts.{Words, Read, must, first, spelled, keyed, each, between, count_of}
use Rattle.cert_text.specs.Lines.{entry_of, most_terms, terms_in}
use Rattle.cert_text.specs.Head.{entries_at}
use Rattle.cert_text.specs.Recent.{ReadsEntries}
use Rattle.cert_text.specs.Shown.{entry_in, entry_by, terms_of, has_mark, AreMarked, targets_back}
use Rattle.cert_text.proofs.Decimals.{and_right}

-- the entry of a target and what was read of its terms
with_target : (ℕ → Bool) → Read (List Term) → ℕ → Read Entry
with_target taken read target = must (not (taken target)) Syntax >>= λ _. read >>= λ poly. Ok (record { target = target; poly = poly })

-- tests that agree below the number of states read the same
same_target : (states : ℕ) (f g : ℕ → Bool) (z : ℤ) (read : Read (List Term)) → ((s : ℕ) → s < states → f s ≡ g s) → (between 0 states z >>= with_target f read) ≡ (between 0 states z >>= with_target g read)
unfolding with_target
same_target states f g (negsuc n) read same = refl
same_target states f g (pos n) read same = by_test (nat_le 0 n && nat_lt n states) refl
  where
    by_test : (t : Bool) → (nat_le 0 n && nat_lt n states) ≡ t → ((must t Limit >>= λ _. Ok n) >>= with_target f read) ≡ ((must t Limit >>= λ _. Ok n) >>= with_target g read)
    by_test false e = refl
    by_test true e = ap (λ b. must (not b) Syntax >>= λ _. read >>= λ poly. Ok (record { target = n; poly = poly })) (same n (ltb-true n states (and_right (nat_le 0 n) (nat_lt n states) e)))

same_entry : (states parameters : ℕ) (f g : ℕ → Bool) (z : ℤ) (ws : Words) → ((s : ℕ) → s < states → f s ≡ g s) → entry_in states parameters f z ws ≡ entry_in states parameters g z ws
unfolding with_target
same_entry states parameters f g z ws same = by_read (terms_of parameters ws)
  where
    by_read : (r : Read (Read (List Term))) → (r >>= λ read. between 0 states z >>= with_target f read) ≡ (r >>= λ read. between 0 states z >>= with_target g read)
    by_read (Err e) = refl
    by_read (Ok read) = same_target states f g z read same

-- the entry of a target and terms, behind the form of all
entry_of_terms : (states parameters : ℕ) (taken : ℕ → Bool) (z : ℤ) (ws : Words) → ◌≡◌ {A = Read Entry} (each (pair_of 58) ws >>= λ terms. must (nat_le (length terms) most_terms) Syntax >>= λ _. between 0 states z >>= λ target. must (not (taken target)) Syntax >>= λ _. terms_in parameters 0 None terms >>= λ poly. Ok (record { target = target; poly = poly })) (entry_in states parameters taken z ws)
entry_of_terms states parameters taken z ws = by_pairs (each (pair_of 58) ws)
  where
    by_size : (b : Bool) (terms : List (ℤ × ℤ)) → ◌≡◌ {A = Read Entry} (must b Syntax >>= λ _. between 0 states z >>= λ target. must (not (taken target)) Syntax >>= λ _. terms_in parameters 0 None terms >>= λ poly. Ok (record { target = target; poly = poly })) ((must b Syntax >>= λ _. Ok (terms_in parameters 0 None terms)) >>= λ read. between 0 states z >>= λ target. must (not (taken target)) Syntax >>= λ _. read >>= λ poly. Ok (record { target = target; poly = poly }))
    by_size true terms = refl
    by_size false terms = refl

    by_pairs : (r : Read (List (ℤ × ℤ))) → ◌≡◌ {A = Read Entry} (r >>= λ terms. must (nat_le (length terms) most_terms) Syntax >>= λ _. between 0 states z >>= λ target. must (not (taken target)) Syntax >>= λ _. terms_in parameters 0 None terms >>= λ poly. Ok (record { target = target; poly = poly })) ((r >>= λ terms. must (nat_le (length terms) most_terms) Syntax >>= λ _. Ok (terms_in parameters 0 None terms)) >>= λ read. between 0 states z >>= λ target. must (not (taken target)) Syntax >>= λ _. read >>= λ poly. Ok (record { target = target; poly = poly }))
    by_pairs (Err e) = refl
    by_pairs (Ok terms) = by_size (nat_le (length terms) most_terms) terms

-- the words of an entry's line, by its first number and the rest
with_rest : Words → ℤ → Read (ℤ × Words)
with_rest rest z = Ok (z, rest)

parts_of : Words → Read (ℤ × Words)
parts_of rest = first rest >>= λ parts. spelled (number_of parts.0) >>= with_rest parts.1

entry_parts : (states parameters : ℕ) (before : List ℕ) (ws : Words) → entry_of states parameters before ws ≡ entry_by states parameters (λ s. list_any (nat_eq s) before) ws
unfolding with_rest parts_of
entry_parts states parameters before ws = by_keyed (keyed (codes "to") ws)
  where
    pairs_entry : ℤ → Words → Read Entry
    pairs_entry z rest = each (pair_of 58) rest >>= λ terms. must (nat_le (length terms) most_terms) Syntax >>= λ _. between 0 states z >>= λ target. must (not (list_any (nat_eq target) before)) Syntax >>= λ _. terms_in parameters 0 None terms >>= λ poly. Ok (record { target = target; poly = poly })

    by_spelled : (o : Option ℤ) (rest : Words) → (spelled o >>= λ z. pairs_entry z rest) ≡ ((spelled o >>= with_rest rest) >>= λ c. entry_in states parameters (λ s. list_any (nat_eq s) before) c.0 c.1)
    by_spelled None rest = refl
    by_spelled (Some z) rest = entry_of_terms states parameters (λ s. list_any (nat_eq s) before) z rest

    by_keyed : (k : Read Words) → (k >>= λ rest. first rest >>= λ parts. spelled (number_of parts.0) >>= λ z. pairs_entry z parts.1) ≡ ((k >>= parts_of) >>= λ c. entry_in states parameters (λ s. list_any (nat_eq s) before) c.0 c.1)
    by_keyed (Err e) = refl
    by_keyed (Ok []) = refl
    by_keyed (Ok (w ∷ rest)) = by_spelled (number_of w) rest

pub entry_is : (states parameters mark : ℕ) (marks before : List ℕ) (ws : Words) → states ≡ length marks → AreMarked mark marks before → entry_by states parameters (has_mark mark marks) ws ≡ entry_of states parameters before ws
entry_is states parameters mark marks before ws size marked = by_count (count_of (codes "to") ws) ∙ sym (entry_parts states parameters before ws)
  where
    by_count : (r : Read (ℤ × Words)) → (r >>= λ c. entry_in states parameters (has_mark mark marks) c.0 c.1) ≡ (r >>= λ c. entry_in states parameters (λ s. list_any (nat_eq s) before) c.0 c.1)
    by_count (Err e) = refl
    by_count (Ok c) = same_entry states parameters (has_mark mark marks) (λ s. list_any (nat_eq s) before) c.0 c.1 (λ s h. marked s (omega (arith, h, size)))

behind : Cursor → Entry → Result (Entry × Cursor) TextError
behind c entry = Ok (entry, c)

pub line_is : (states parameters mark : ℕ) (marks before : List ℕ) (c : Cursor) → states ≡ length marks → AreMarked mark marks before → line_at (entry_by states parameters (has_mark mark marks)) c ≡ line_at (entry_of states parameters before) c
unfolding line_at behind
line_is states parameters mark marks before c size marked = by_due (due c)
  where
    by_due : (r : Result (List ℕ × Cursor) TextError) → (r >>= λ l. at c.0 (entry_by states parameters (has_mark mark marks) (words l.0)) >>= behind l.1) ≡ (r >>= λ l. at c.0 (entry_of states parameters before (words l.0)) >>= behind l.1)
    by_due (Err e) = refl
    by_due (Ok l) = ap (λ r. at c.0 r >>= behind l.1) (entry_is states parameters mark marks before (words l.0) size marked)

-- what the next entry's line reads, by the marks of what entries are read by
pub marked_line : (r : ReadsEntries) (states parameters : ℕ) (before : List ℕ) (c : Cursor) → length r.marks ≡ states → r.parameters ≡ parameters → AreMarked r.mark r.marks before → line_at (entry_of states parameters before) c ≡ line_at (entry_by (length r.marks) r.parameters (has_mark r.mark r.marks)) c
marked_line r states parameters before c size same marked =
    ap (λ n. line_at (entry_of n parameters before) c) (sym size) ∙ ap (λ n. line_at (entry_of (length r.marks) n before) c) (sym same) ∙ sym (line_is (length r.marks) r.parameters r.mark r.marks before c refl marked)

-- ---- marks

-- at first no mark is above 0
pub unmarked : (n : ℕ) → All (λ m. m ≤ 0) (replicate n 0)
unmarked n = All-replicate (λ m. m ≤ 0) n 0 (omega arith)

same_mark : (m : ℕ) → (m == m) ≡ true
same_mark m = by_test (m == m) refl
  where
    by_test : (t : Bool) → (m == m) ≡ t → t ≡ true
    by_test true e = refl
    by_test false e = absurd (eqb-false m m e refl)

other_mark : (m n : ℕ) → m < n → (m == n) ≡ false
other_mark m n h = by_test (m == n) refl
  where
    by_test : (t : Bool) → (m == n) ≡ t → t ≡ false
    by_test true e = absurd (omega (arith, h, eqb-true m n e))
    by_test false e = refl

pub marked_none : (mark : ℕ) (marks : List ℕ) → All (λ m. m < mark) marks → AreMarked mark marks []
marked_none mark marks h = λ s lt. other_mark (get_or marks s 0) mark (h s 0 lt)

pub marked_more : (mark : ℕ) (marks before : List ℕ) (t : ℕ) → t < length marks → AreMarked mark marks before → AreMarked mark (set marks t mark) (t ∷ before)
marked_more mark marks before t lt h = λ s k. by_test s (omega (arith, k, length-set marks t mark)) (nat_eq s t) refl
  where
    by_test : (s : ℕ) → s < length marks → (b : Bool) → nat_eq s t ≡ b → has_mark mark (set marks t mark) s ≡ (b || list_any (nat_eq s) before)
    by_test s k true e = ap (λ i. get_or (set marks t mark) i 0 == mark) (eqb-true s t e) ∙ ap (λ m. m == mark) (get_or-set_same marks t mark 0 lt) ∙ same_mark mark
    by_test s k false e = ap (λ m. m == mark) (get_or-set_other marks t s mark 0 (eqb-false s t e)) ∙ h s k

-- ---- entries in turn

-- what was read before, and what is still read
abbrev pub with_front : {A : Type 0} → List A → Result (List A × Cursor) TextError → Result (List A × Cursor) TextError
with_front front read = read >>= λ x. Ok (front ++ x.0, x.1)

pub regroup : {A : Type 0} (front : List A) (n : A) (read : Result (List A × Cursor) TextError) → with_front front (read >>= λ x. Ok (n ∷ x.0, x.1)) ≡ with_front (front ++ n ∷ []) read
regroup front n (Ok x) = ap (λ ns. Ok (ns, x.1)) (sym (append_assoc front (n ∷ []) x.0))
regroup front n (Err f) = refl

abbrev pub Entries : Type 0
Entries = Result (List Entry × Cursor) TextError

pub entries_start : (read : Entries) → with_front [] read ≡ read
entries_start (Ok x) = refl
entries_start (Err f) = refl

pub entries_go : (states parameters : ℕ) (before : List ℕ) (front : List Entry) (count i : ℕ) (c after : Cursor) (e : Entry) (total : Entries) → i < count → line_at (entry_of states parameters before) c ≡ Ok (e, after)
    → with_front front (entries_at states parameters before (count - i) c) ≡ total → with_front (front ++ e ∷ []) (entries_at states parameters (e.target ∷ before) (count - (i + 1)) after) ≡ total
unfolding entries_at
entries_go states parameters before front count i c after e total lt h so_far =
    let k : count - i ≡ suc (count - (i + 1)) = omega (arith, lt) in
    let one : with_front front (entries_at states parameters before (count - i) c) ≡ with_front (front ++ e ∷ []) (entries_at states parameters (e.target ∷ before) (count - (i + 1)) after) = rw (k, h) (regroup front e (entries_at states parameters (e.target ∷ before) (count - (i + 1)) after)) in
    sym one ∙ so_far

pub entries_fail : (states parameters : ℕ) (before : List ℕ) (front : List Entry) (count i : ℕ) (c : Cursor) (fault : TextError) (total : Entries) → i < count → line_at (entry_of states parameters before) c ≡ Err fault
    → with_front front (entries_at states parameters before (count - i) c) ≡ total → total ≡ Err fault
unfolding entries_at
entries_fail states parameters before front count i c fault total lt h so_far =
    let k : count - i ≡ suc (count - (i + 1)) = omega (arith, lt) in
    let one : with_front front (entries_at states parameters before (count - i) c) ≡ Err fault = rw (k, h) refl in
    sym so_far ∙ one

pub entries_done : (states parameters : ℕ) (before : List ℕ) (front : List Entry) (count i : ℕ) (c : Cursor) (total : Entries) → count ≤ i → with_front front (entries_at states parameters before (count - i) c) ≡ total → total ≡ Ok (front, c)
unfolding entries_at
entries_done states parameters before front count i c total le so_far =
    let k : count - i ≡ 0 = omega (arith, le) in
    let one : with_front front (entries_at states parameters before (count - i) c) ≡ Ok (front, c) = rw k (ap (λ (ns : List Entry). Ok (ns, c)) (append-nil front)) in
    sym so_far ∙ one

pub targets_more : (front : List Entry) (e : Entry) → targets_back (front ++ e ∷ []) ≡ e.target ∷ targets_back front
targets_more front e = ap reverse (map-append (λ (x : Entry). x.target) front (e ∷ [])) ∙ reverse-append (map (λ (x : Entry). x.target) front) (e.target ∷ [])

pub entries_begin : (states parameters count : ℕ) (c : Cursor) → entries_at states parameters [] count c ≡ with_front [] (entries_at states parameters [] (count - 0) c)
entries_begin states parameters count c =
    let k : count ≡ count - 0 = omega arith in
    ap (λ (n : ℕ). entries_at states parameters [] n c) k ∙ sym (entries_start (entries_at states parameters [] (count - 0) c))
