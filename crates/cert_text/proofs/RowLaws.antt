-- The rows of a report's head, both ways.
use Rattle.std.proofs.Common.{◌≡◌, ◌≢◌, ℕ, zero, suc, ◌+◌, ◌-◌, ◌^◌, ◌<◌, ◌≤◌, Bool, true, false, List, [], ◌∷◌, ◌++◌, length, map, Ok, refl, sym, ap, subst, ◌∙◌, arith, inl, inr, ◌⊎◌}
use Rattle.std.specs.Prelude.{codes}
use Rattle.std.specs.List.{sum_by, join_with_byte}
use Rattle.std.specs.Bool.{Decides}
use Rattle.std.specs.Str.{bytes_eq}
use Rattle.std.specs.Str.Parse.{digits_value}
use Rattle.std.specs.Fmt.{decimal}
use Rattle.std.proofs.lemmas.Fmt.{decimal_is_IsNumeral_wide}
use Rattle.std.proofs.lemmas.List.{append-nil}
use Rattle.std.proofs.lemmas.Slice.Eq.{bytes_eq-Decides}
use Rattle.std.proofs.lemmas.Bool.Decides.{Decides-and}
use Rattle.lift_model.specs.declared.entry.Entry.{Entry}
use Rattle.lift_model.specs.declared.kind.Kind.{Kind}
use Rattle.lift_model.specs.declared.kind.Kind.TheVariants.{Dtmc, Mdp}
use Rattle.cert_text.specs.Report.{line, row_words, row_line, row_lines, entry_words, numbered, state_lines}
use Rattle.line_text.specs.Words.{words}
use Rattle.line_text.specs.Reading.{◌>>=◌, line_at}
use Rattle.line_text.specs.Parts.{Words}
use Rattle.cert_text.specs.Lines.{row_of, entry_of}
use Rattle.cert_text.specs.Head.{entries_at, row_at, is_row_of, further_at, behind_first, state_at, states_at}
use Rattle.cert_text.proofs.CutLines.{IsLine, line_join, words_join, no_feeds}
use Rattle.cert_text.proofs.Inverting.{Lines, Anything, Inverts, OneLine, Then, Done, Opens, opens_anything, inverts_line, inverts_then, inverts_pass, inverts_done, inverts_so}
use Rattle.cert_text.proofs.Peeking.{First, Begins, opens_first, opens_done, inverts_peek}
use Rattle.cert_text.proofs.FirstLines.{Fresh, AreTerms, IsRowLine, reads_row}
use Rattle.cert_text.proofs.LaterLines.{IsEntryLine, reads_entry}
use Rattle.cert_text.proofs.Fits.{row_line as row_is_line, entry_line as entry_is_line}

-- ---- entries

-- entries among so many states and parameters, whose targets differ from each other and from those before them
abbrev pub AreEntries : ℕ → ℕ → List ℕ → List Entry → Type 0
AreEntries states parameters before [] = Unit {0}
AreEntries states parameters before (e ∷ es) = (e.target < states) × Fresh e.target before × (length e.poly ≤ 16) × AreTerms parameters 0 0 e.poly × AreEntries states parameters (e.target ∷ before) es

-- the limits within which rows are read
pub record IsSized (states parameters : ℕ) : Type 0 where
  pub few : states ≤ 65536
  pub sets : 2 ^ parameters ≤ 2 ^ 16

abbrev pub entry_text : Entry → List ℕ
entry_text e = line (entry_words e)

abbrev pub EntriesLines : ℕ → ℕ → List ℕ → ℕ → List Entry → Lines → Type 0
EntriesLines states parameters before count es ls = (ls ≡ map entry_text es) × (length es ≡ count) × AreEntries states parameters before es

pub inverts_entries : (states parameters : ℕ) → IsSized states parameters → (count : ℕ) (before : List ℕ) → Inverts Anything (EntriesLines states parameters before count) (entries_at states parameters before count)
unfolding entries_at
inverts_entries states parameters sized zero before =
    inverts_so (inverts_done Anything []) (EntriesLines states parameters before zero)
    (λ es ls (same, none). subst (λ y. EntriesLines states parameters before zero y ls) same (none, refl, tt))
    (λ es ls (is, size, _). (nothing es size, is ∙ ap (map entry_text) (sym (nothing es size))))
  where
    nothing : (es : List Entry) → length es ≡ 0 → [] ≡ es
    nothing [] e = refl
    nothing (x ∷ es) e = absurd (omega (arith, e))
inverts_entries states parameters sized (suc count) before =
    inverts_so
    (inverts_pass (inverts_line Anything (λ e ws. IsEntryLine states parameters before e ws) (entry_of states parameters before) (λ ws. reads_entry states parameters before ws (omega (arith, sized.few)) (omega (arith, sized.sets)))
    (λ e ws l. subst IsLine (sym l.is) (entry_is_line states parameters before e ws sized.few sized.sets l)))
    (λ e ls _. inverts_pass (inverts_entries states parameters sized count (e.target ∷ before)) (λ es ls _. inverts_done Anything (e ∷ es))))
    (EntriesLines states parameters before (suc count))
    (λ all ls (e, first, last, (ws, l, one), (es, mid, end, (is, size, are), (same, none), parts), whole).
    subst (λ y. EntriesLines states parameters before (suc count) y ls) same (
      whole ∙ ap (λ t. t ++ last) (one ∙ ap (λ t. line t ∷ []) l.is) ∙ ap (λ t. entry_text e ∷ t) (parts ∙ ap (λ t. t ++ end) is ∙ ap (λ t. map entry_text es ++ t) none ∙ append-nil (map entry_text es)),
      ap suc size,
      (l.target, l.fresh, l.few, l.terms, are),
    ))
    (λ all ls (is, size, are). back all ls is size are)
  where
    back : (all : List Entry) (ls : Lines) → ls ≡ map entry_text all → length all ≡ suc count → AreEntries states parameters before all → Then (OneLine (λ e ws. IsEntryLine states parameters before e ws)) (λ e. Then (EntriesLines states parameters (e.target ∷ before) count) (λ es. Done (e ∷ es))) all ls
    back [] ls is size are = absurd (omega (arith, size))
    back (e ∷ es) ls is size (target, fresh, few, terms, are) = (
      e,
      entry_text e ∷ [],
      map entry_text es,
      (entry_words e, record { is = refl; target = target; fresh = fresh; few = few; terms = terms }, refl),
      (es, map entry_text es, [], (refl, omega (arith, size), are), (refl, refl), sym (append-nil (map entry_text es))),
      is,
    )

-- ---- a row

-- a row, where so many choices and transitions are left
abbrev pub IsRowText : ℕ → ℕ → ℕ → ℕ → List Entry → Type 0
IsRowText states parameters choices transitions row = (0 < choices) × (length row ≤ transitions) × AreEntries states parameters [] row

abbrev pub RowLines : ℕ → ℕ → ℕ → ℕ → ℕ → ℕ → List Entry → Lines → Type 0
RowLines states parameters choices transitions s a row ls = (ls ≡ row_lines s a row) × IsRowText states parameters choices transitions row

pub inverts_row : (states parameters choices transitions s a : ℕ) → IsSized states parameters → s < 10 ^ 8 → a < 10 ^ 8 → transitions < 10 ^ 8 → Inverts Anything (RowLines states parameters choices transitions s a) (row_at states parameters choices transitions s a)
unfolding row_at row_line
inverts_row states parameters choices transitions s a sized hs ha ht =
    inverts_so
    (inverts_pass (inverts_line Anything (λ n ws. IsRowLine s a choices transitions n ws) (row_of s a choices transitions) (λ ws. reads_row s a choices transitions ws (omega (arith, hs)) (omega (arith, ha)) (omega (arith, ht)))
    (λ n ws l. subst IsLine (sym l.0) (row_is_line s a n hs ha (omega (arith, l.2, ht)))))
    (λ n ls _. inverts_entries states parameters sized n []))
    (RowLines states parameters choices transitions s a)
    (λ row ls (n, first, last, (ws, (is, some, few), one), (are-lines, size, are), whole).
    (whole ∙ ap (λ t. t ++ last) (one ∙ ap (λ t. line t ∷ []) is) ∙ ap (λ t. line (row_words s a n) ∷ t) are-lines ∙ ap (λ t. line (row_words s a t) ∷ map entry_text row) (sym size), (some, omega (arith, few, size), are)))
    (λ row ls (is, (some, few, are)).
    (length row, line (row_words s a (length row)) ∷ [], map entry_text row, (row_words s a (length row), (refl, some, few), refl), (refl, refl, are), is))

-- ---- the rows of a state

abbrev pub of_state : ℕ → List ℕ → Bool
of_state s l = is_row_of s (words l)

-- the text goes on with a line that is none of a row of state s
abbrev pub NoRowOf : ℕ → List ℕ → Type 0
NoRowOf s rest = First (of_state s) false rest

pub words_say : (s : ℕ) (key state : List ℕ) (ws : Words) (b : Bool) → Decides b ((key ≡ codes "row") × (state ≡ decimal s)) → is_row_of s (key ∷ state ∷ ws) ≡ b
words_say s key state ws b d = one (is_row_of s (key ∷ state ∷ ws)) b (Decides-and (bytes_eq key (codes "row")) (bytes_eq state (decimal s)) (bytes_eq-Decides key (codes "row")) (bytes_eq-Decides state (decimal s))) d
  where
    one : {P : Type 0} (a b : Bool) → Decides a P → Decides b P → a ≡ b
    one true true d e = refl
    one true false d e = sym (e.1 (d.0 refl))
    one false true d e = d.1 (e.0 refl)
    one false false d e = refl

-- lines that begin with that of those words
pub begins_words : (test : Words → Bool) (b : Bool) (ws : Words) (more : Lines) → IsLine ws → test ws ≡ b → Begins (λ l. test (words l)) b (line ws ∷ more)
begins_words test b ws more l e = record { line = join_with_byte 32 ws; more = more; is = ap (λ t. t ∷ more) (line_join ws l.some); clean = no_feeds ws l.words; short = l.short; says = ap test (words_join ws l.some l.words) ∙ e }

pub other_state : (s t : ℕ) → s < 10 ^ 8 → t < 10 ^ 8 → s ≢ t → (decimal t ≡ decimal s) → ⊥
other_state s t hs ht no-way e = no-way (sym (decimal_is_IsNumeral_wide s (omega (arith, hs))).1 ∙ ap (digits_value 10) (sym e) ∙ (decimal_is_IsNumeral_wide t (omega (arith, ht))).1)

-- so many rows of one state
abbrev pub AreRows : ℕ → ℕ → ℕ → ℕ → List (List Entry) → Type 0
AreRows states parameters choices transitions [] = Unit {0}
AreRows states parameters choices transitions (row ∷ rows) = IsRowText states parameters choices transitions row × AreRows states parameters (choices - 1) (transitions - length row) rows

abbrev pub FurtherLines : ℕ → ℕ → ℕ → ℕ → ℕ → ℕ → List (List Entry) → Lines → Type 0
FurtherLines states parameters choices transitions s a rows ls = (ls ≡ numbered (row_lines s) a rows) × AreRows states parameters choices transitions rows

abbrev Never : List (List Entry) → Lines → Type 0
Never x ls = ⊥

-- with no choice left no row is read
no_row : (s a transitions : ℕ) (Next : List ℕ → Type 0) → s < 10 ^ 8 → a < 10 ^ 8 → transitions < 10 ^ 8 → Inverts Next Never (λ c. line_at (row_of s a 0 transitions) c >>= λ x. Ok ([], x.1))
no_row s a transitions Next hs ha ht =
    inverts_so
    (inverts_then Anything Next (OneLine (λ n ws. IsRowLine s a 0 transitions n ws)) (λ n. Done []) (line_at (row_of s a 0 transitions)) (λ n c. Ok ([], c))
    (inverts_line Anything (λ n ws. IsRowLine s a 0 transitions n ws) (row_of s a 0 transitions) (λ ws. reads_row s a 0 transitions ws (omega (arith, hs)) (omega (arith, ha)) (omega (arith, ht))) (λ n ws l. absurd (omega (arith, l.1))))
    (λ n ls _. inverts_done Next []) (λ n rows last _. opens_anything Next last))
    Never
    (λ rows ls (n, first, last, (ws, l, one), _, _). omega (arith, l.1))
    (λ rows ls never. absurd never)

pub inverts_further : (states parameters choices transitions s a : ℕ) → IsSized states parameters → s < 10 ^ 8 → a + choices < 10 ^ 8 → transitions < 10 ^ 8 → Inverts (NoRowOf s) (FurtherLines states parameters choices transitions s a) (further_at states parameters choices transitions s a)
unfolding further_at row_line
inverts_further states parameters zero transitions s a sized hs ha ht =
    inverts_so
    (inverts_peek (of_state s) (no_row s a transitions (NoRowOf s) hs (omega (arith, ha)) ht) (inverts_done (NoRowOf s) [])
    (λ rows ls never. absurd never)
    (λ rows ls (_, none). opens_done (NoRowOf s) (λ rest goes. goes) none))
    (FurtherLines states parameters zero transitions s a)
    (λ rows ls t. elim t [ inl never ↦ absurd never | inr (same, none) ↦ subst (λ y. FurtherLines states parameters zero transitions s a y ls) same (none, tt) ])
    (λ rows ls (is, are). inr (back rows ls is are))
  where
    back : (rows : List (List Entry)) (ls : Lines) → ls ≡ numbered (row_lines s) a rows → AreRows states parameters zero transitions rows → Done [] rows ls
    back [] ls is are = (refl, is)
    back (row ∷ rows) ls is are = absurd (omega (arith, are.0.0))
inverts_further states parameters (suc choices) transitions s a sized hs ha ht =
    inverts_so
    (inverts_peek (of_state s)
    (inverts_pass (inverts_row states parameters (suc choices) transitions s a sized hs (omega (arith, ha)) ht)
    (λ row ls _. inverts_then (NoRowOf s) (NoRowOf s) (FurtherLines states parameters choices (transitions - length row) s (a + 1)) (λ rows. Done (row ∷ rows)) (further_at states parameters choices (transitions - length row) s (a + 1)) (λ rows c. Ok (row ∷ rows, c))
    (inverts_further states parameters choices (transitions - length row) s (a + 1) sized hs (omega (arith, ha)) (omega (arith, ht)))
    (λ rows ls _. inverts_done (NoRowOf s) (row ∷ rows))
    (λ rows all ls (_, none). opens_done (NoRowOf s) (λ rest goes. goes) none)))
    (inverts_done (NoRowOf s) [])
    (λ all ls (row, first, last, (is, are), _, whole). opens_first (NoRowOf s) (starts row first last ls is are whole))
    (λ rows ls (_, none). opens_done (NoRowOf s) (λ rest goes. goes) none))
    (FurtherLines states parameters (suc choices) transitions s a)
    (λ all ls t. elim t [
      | inl (row, first, last, (is, are), (rows, mid, end, (are-lines, more), (same, none), parts), whole) ↦
          subst (λ y. FurtherLines states parameters (suc choices) transitions s a y ls) same
          (whole ∙ ap (λ t. t ++ last) is ∙ ap (λ t. row_lines s a row ++ t) (parts ∙ ap (λ t. mid ++ t) none ∙ append-nil mid ∙ are-lines), (are, subst (λ k. AreRows states parameters k (transitions - length row) rows) (sym one_less) more))
      | inr (same, none) ↦ subst (λ y. FurtherLines states parameters (suc choices) transitions s a y ls) same (none, tt)
    ])
    (λ all ls (is, are). back all ls is are)
  where
    one_less : suc choices - 1 ≡ choices
    one_less = omega arith

    starts : (row : List Entry) (first last ls : Lines) → first ≡ row_lines s a row → IsRowText states parameters (suc choices) transitions row → ls ≡ first ++ last → Begins (of_state s) true ls
    starts row first last ls is are whole =
        subst (λ t. Begins (of_state s) true t) (sym (whole ∙ ap (λ t. t ++ last) is))
        (begins_words (is_row_of s) true (row_words s a (length row)) (map entry_text row ++ last) (row_is_line s a (length row) hs (omega (arith, ha)) (omega (arith, are.1, ht)))
        (words_say s (codes "row") (decimal s) (decimal a ∷ decimal (length row) ∷ []) true ((λ _. (refl, refl)), (λ _. refl))))

    back : (all : List (List Entry)) (ls : Lines) → ls ≡ numbered (row_lines s) a all → AreRows states parameters (suc choices) transitions all
        → Then (RowLines states parameters (suc choices) transitions s a) (λ row. Then (FurtherLines states parameters choices (transitions - length row) s (a + 1)) (λ rows. Done (row ∷ rows))) all ls ⊎ Done [] all ls
    back [] ls is are = inr (refl, is)
    back (row ∷ rows) ls is (one, more) =
        inl (
          row,
          row_lines s a row,
          numbered (row_lines s) (a + 1) rows,
          (refl, one),
          (rows, numbered (row_lines s) (a + 1) rows, [], (refl, subst (λ k. AreRows states parameters k (transitions - length row) rows) one_less more), (refl, refl), sym (append-nil (numbered (row_lines s) (a + 1) rows))),
          is,
        )

-- the rows of a state: one in a chain, and at least one in a decision process
pub record IsState (kind : Kind) (states parameters choices transitions : ℕ) (rows : List (List Entry)) : Type 0 where
  pub some : 0 < length rows
  pub one : kind ≡ Dtmc → length rows ≡ 1
  pub rows_fit : AreRows states parameters choices transitions rows

abbrev pub StateLines : Kind → ℕ → ℕ → ℕ → ℕ → ℕ → List (List Entry) → Lines → Type 0
StateLines kind states parameters choices transitions s rows ls = (ls ≡ state_lines s rows) × IsState kind states parameters choices transitions rows

-- the rows behind the first
abbrev BehindLines : Kind → ℕ → ℕ → ℕ → ℕ → ℕ → List (List Entry) → Lines → Type 0
BehindLines kind states parameters choices transitions s rows ls = (ls ≡ numbered (row_lines s) 1 rows) × (kind ≡ Dtmc → rows ≡ []) × AreRows states parameters choices transitions rows

inverts_behind : (kind : Kind) (states parameters choices transitions s : ℕ) → IsSized states parameters → s < 10 ^ 8 → 1 + choices < 10 ^ 8 → transitions < 10 ^ 8 → Inverts (NoRowOf s) (BehindLines kind states parameters choices transitions s) (behind_first kind states parameters choices transitions s)
unfolding behind_first row_line
inverts_behind Dtmc states parameters choices transitions s sized hs hc ht =
    inverts_so (inverts_done (NoRowOf s) []) (BehindLines Dtmc states parameters choices transitions s)
    (λ rows ls (same, none). subst (λ y. BehindLines Dtmc states parameters choices transitions s y ls) same (none, (λ _. refl), tt))
    (λ rows ls (is, one, are). (sym (one refl), is ∙ ap (numbered (row_lines s) 1) (one refl)))
inverts_behind Mdp states parameters choices transitions s sized hs hc ht =
    inverts_so (inverts_further states parameters choices transitions s 1 sized hs hc ht) (BehindLines Mdp states parameters choices transitions s)
    (λ rows ls (is, are). (is, (λ e. absurd (cc)), are))
    (λ rows ls (is, one, are). (is, are))

pub inverts_state : (kind : Kind) (states parameters choices transitions s : ℕ) → IsSized states parameters → s < 10 ^ 8 → 1 + choices < 10 ^ 8 → transitions < 10 ^ 8 → Inverts (NoRowOf s) (StateLines kind states parameters choices transitions s) (state_at kind states parameters choices transitions s)
unfolding state_at row_line
inverts_state kind states parameters choices transitions s sized hs hc ht =
    inverts_so
    (inverts_pass (inverts_row states parameters choices transitions s 0 sized hs (omega arith) ht)
    (λ row ls _. inverts_then (NoRowOf s) (NoRowOf s) (BehindLines kind states parameters (choices - 1) (transitions - length row) s) (λ rows. Done (row ∷ rows)) (behind_first kind states parameters (choices - 1) (transitions - length row) s) (λ rows c. Ok (row ∷ rows, c))
    (inverts_behind kind states parameters (choices - 1) (transitions - length row) s sized hs (omega (arith, hc)) (omega (arith, ht)))
    (λ rows ls _. inverts_done (NoRowOf s) (row ∷ rows))
    (λ rows all ls (_, none). opens_done (NoRowOf s) (λ rest goes. goes) none)))
    (StateLines kind states parameters choices transitions s)
    (λ all ls (row, first, last, (is, are), (rows, mid, end, (are-lines, one, more), (same, none), parts), whole).
    subst (λ y. StateLines kind states parameters choices transitions s y ls) same (
      whole ∙ ap (λ t. t ++ last) is ∙ ap (λ t. row_lines s 0 row ++ t) (parts ∙ ap (λ t. mid ++ t) none ∙ append-nil mid ∙ are-lines ∙ ap (λ k. numbered (row_lines s) k rows) (omega arith)),
      record { some = omega arith; one = λ chain. ap (λ y. suc (length y)) (one chain); rows_fit = (are, more) },
    ))
    (λ all ls (is, fit). back all ls is fit)
  where
    back : (all : List (List Entry)) (ls : Lines) → ls ≡ state_lines s all → IsState kind states parameters choices transitions all
        → Then (RowLines states parameters choices transitions s 0) (λ row. Then (BehindLines kind states parameters (choices - 1) (transitions - length row) s) (λ rows. Done (row ∷ rows))) all ls
    back [] ls is fit = absurd (omega (arith, fit.some))
    back (row ∷ rows) ls is fit =
        let f = fit.rows_fit in (
          row,
          row_lines s 0 row,
          numbered (row_lines s) 1 rows,
          (refl, f.0),
          (rows, numbered (row_lines s) 1 rows, [], (refl, (λ chain. nothing rows (fit.one chain)), f.1), (refl, refl), sym (append-nil (numbered (row_lines s) 1 rows))),
          is ∙ ap (λ k. row_lines s 0 row ++ numbered (row_lines s) k rows) (omega arith),
        )
      where
        nothing : (rows : List (List Entry)) → length (row ∷ rows) ≡ 1 → rows ≡ []
        nothing [] e = refl
        nothing (x ∷ rows) e = absurd (omega (arith, e))

-- ---- all states

-- so many states' rows, each within the choices and transitions that those before it left
abbrev pub AreStates : Kind → ℕ → ℕ → ℕ → ℕ → List (List (List Entry)) → Type 0
AreStates kind states parameters choices transitions [] = Unit {0}
AreStates kind states parameters choices transitions (rows ∷ others) = IsState kind states parameters choices transitions rows × AreStates kind states parameters (choices - length rows) (transitions - sum_by length rows) others

abbrev pub StatesLines : Kind → ℕ → ℕ → ℕ → ℕ → ℕ → ℕ → List (List (List Entry)) → Lines → Type 0
StatesLines kind states parameters left choices transitions s all ls = (ls ≡ numbered state_lines s all) × (length all ≡ left) × AreStates kind states parameters choices transitions all

-- whether the words are those of a row's line
abbrev pub is_row : Words → Bool
is_row [] = false
is_row (key ∷ ws) = bytes_eq key (codes "row")

-- the text goes on with a line that is none of a row
abbrev pub NoRow : List ℕ → Type 0
NoRow rest = First (λ l. is_row (words l)) false rest

not_of : (s : ℕ) (ws : Words) → is_row ws ≡ false → is_row_of s ws ≡ false
not_of s [] e = refl
not_of s (key ∷ []) e = refl
not_of s (key ∷ state ∷ ws) e = rw e refl

no_row_of : (s : ℕ) (rest : List ℕ) → NoRow rest → NoRowOf s rest
no_row_of s rest f = record { line = f.line; more = f.more; is = f.is; clean = f.clean; short = f.short; says = not_of s (words f.line) f.says }

pub inverts_states : (kind : Kind) (states parameters left choices transitions s : ℕ) → IsSized states parameters → s + left < 10 ^ 8 → 1 + choices < 10 ^ 8 → transitions < 10 ^ 8 → Inverts NoRow (StatesLines kind states parameters left choices transitions s) (states_at kind states parameters left choices transitions s)
unfolding states_at row_line
inverts_states kind states parameters zero choices transitions s sized hs hc ht =
    inverts_so (inverts_done NoRow []) (StatesLines kind states parameters zero choices transitions s)
    (λ all ls (same, none). subst (λ y. StatesLines kind states parameters zero choices transitions s y ls) same (none, refl, tt))
    (λ all ls (is, size, _). (nothing all size, is ∙ ap (numbered state_lines s) (sym (nothing all size))))
  where
    nothing : (all : List (List (List Entry))) → length all ≡ 0 → [] ≡ all
    nothing [] e = refl
    nothing (x ∷ all) e = absurd (omega (arith, e))
inverts_states kind states parameters (suc left) choices transitions s sized hs hc ht =
    inverts_so
    (inverts_then (NoRowOf s) NoRow (StateLines kind states parameters choices transitions s) (λ rows. Then (StatesLines kind states parameters left (choices - length rows) (transitions - sum_by length rows) (s + 1)) (λ others. Done (rows ∷ others))) (state_at kind states parameters choices transitions s) (λ rows c. states_at kind states parameters left (choices - length rows) (transitions - sum_by length rows) (s + 1) c >>= λ others. Ok (rows ∷ others.0, others.1))
    (inverts_state kind states parameters choices transitions s sized (omega (arith, hs)) hc ht)
    (λ rows ls _. inverts_then NoRow NoRow (StatesLines kind states parameters left (choices - length rows) (transitions - sum_by length rows) (s + 1)) (λ others. Done (rows ∷ others)) (states_at kind states parameters left (choices - length rows) (transitions - sum_by length rows) (s + 1)) (λ others c. Ok (rows ∷ others, c))
    (inverts_states kind states parameters left (choices - length rows) (transitions - sum_by length rows) (s + 1) sized (omega (arith, hs)) (omega (arith, hc)) (omega (arith, ht)))
    (λ others ls _. inverts_done NoRow (rows ∷ others))
    (λ others all ls (_, none). opens_done NoRow (λ rest goes. goes) none))
    (λ rows all last (others, mid, end, (is, size, are), (same, none), parts). opens rows others last (choices - length rows) (transitions - sum_by length rows) (omega (arith, hc)) (omega (arith, ht)) size are (parts ∙ ap (λ t. mid ++ t) none ∙ append-nil mid ∙ is)))
    (StatesLines kind states parameters (suc left) choices transitions s)
    (λ all ls (rows, first, last, (is, fit), (others, mid, end, (are-lines, size, are), (same, none), parts), whole).
    subst (λ y. StatesLines kind states parameters (suc left) choices transitions s y ls) same
    (whole ∙ ap (λ t. t ++ last) is ∙ ap (λ t. state_lines s rows ++ t) (parts ∙ ap (λ t. mid ++ t) none ∙ append-nil mid ∙ are-lines), ap suc size, (fit, are)))
    (λ all ls (is, size, are). back all ls is size are)
  where
    opens : (rows : List (List Entry)) (others : List (List (List Entry))) (last : Lines) (choices transitions : ℕ) → 1 + choices < 10 ^ 8 → transitions < 10 ^ 8 → length others ≡ left → AreStates kind states parameters choices transitions others → last ≡ numbered state_lines (s + 1) others → Opens (NoRowOf s) NoRow last
    opens rows [] last choices transitions hc ht size are is = opens_done (NoRowOf s) (no_row_of s) is
    opens rows ([] ∷ others) last choices transitions hc ht size are is = absurd (omega (arith, are.0.some))
    opens rows ((row ∷ more) ∷ others) last choices transitions hc ht size are is =
        let fit = are.0.rows_fit in
        opens_first NoRow
        (subst (λ t. Begins (of_state s) false t) (sym is)
        (begins_words (is_row_of s) false (row_words (s + 1) 0 (length row)) ((map entry_text row ++ numbered (row_lines (s + 1)) (0 + 1) more) ++ numbered state_lines (s + 1 + 1) others) (row_is_line (s + 1) 0 (length row) (omega (arith, hs, size)) (omega arith) (omega (arith, fit.0.1, ht)))
        (words_say s (codes "row") (decimal (s + 1)) (decimal 0 ∷ decimal (length row) ∷ []) false ((λ e. absurd (cc)), (λ p. absurd (other_state s (s + 1) (omega (arith, hs)) (omega (arith, hs, size)) (λ e. omega (arith, e)) p.1))))))

    back : (all : List (List (List Entry))) (ls : Lines) → ls ≡ numbered state_lines s all → length all ≡ suc left → AreStates kind states parameters choices transitions all
        → Then (StateLines kind states parameters choices transitions s) (λ rows. Then (StatesLines kind states parameters left (choices - length rows) (transitions - sum_by length rows) (s + 1)) (λ others. Done (rows ∷ others))) all ls
    back [] ls is size are = absurd (omega (arith, size))
    back (rows ∷ others) ls is size are = (
      rows,
      state_lines s rows,
      numbered state_lines (s + 1) others,
      (refl, are.0),
      (others, numbered state_lines (s + 1) others, [], (refl, omega (arith, size), are.1), (refl, refl), sym (append-nil (numbered state_lines (s + 1) others))),
      is,
    )
