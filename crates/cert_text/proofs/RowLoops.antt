-- Reading the rows of a state one after the other, and those of all states.
use Rattle.std.proofs.Common.{◌≡◌, ℕ, zero, suc, ◌-◌, ◌+◌, ◌<◌, ◌^◌, Bool, true, false, List, [], ◌∷◌, ◌++◌, length, Result, Ok, Err, refl, sym, ap, ◌∙◌, append-nil, arith}
use Rattle.std.specs.List.{sum_by}
use Rattle.std.proofs.lemmas.List.{length-append}
use Rattle.std.proofs.lemmas.List.Sums.{sum_by_push}
use Rattle.lift_model.specs.declared.entry.Entry.{Entry}
use Rattle.lift_model.specs.declared.kind.Kind.{Kind}
use Rattle.lift_model.specs.declared.kind.Kind.TheVariants.{Dtmc, Mdp}
use Rattle.line_text.specs.declared.error.TextError.{TextError}
use Rattle.line_text.specs.Reading.{◌>>=◌, Cursor, line_at, at, due}
use Rattle.line_text.specs.Words.{words}
use Rattle.cert_text.specs.Lines.{row_of}
use Rattle.cert_text.specs.Head.{entries_at, row_at, further_at, is_row_of, behind_first, state_at, states_at}
use Rattle.cert_text.specs.Rows.{row_due, Leaves}
use Rattle.cert_text.specs.declared.rows.Left.{Left}
use Rattle.cert_text.proofs.Inverting.{bind_is, at_is}
use Rattle.cert_text.proofs.FirstLines.{reads_row}
use Rattle.cert_text.proofs.EntryLoop.{with_front, regroup}

-- ---- the rows of a state

abbrev pub Rows : Type 0
Rows = Result (List (List Entry) × Cursor) TextError

peeked : {A : Type 0} (s : ℕ) (c : Cursor) (b : Bool) (here other : Result (A × Cursor) TextError) → row_due s c ≡ Ok b → (due c >>= λ l. elim (is_row_of s (words l.0)) [ true ↦ here | false ↦ other ]) ≡ elim b [ true ↦ here | false ↦ other ]
peeked s c b here other e = by_due (due c) e
  where
    ok : (x y : Bool) → ◌≡◌ {A = Result Bool TextError} (Ok x) (Ok y) → x ≡ y
    ok x y e = cc

    by_due : (r : Result (List ℕ × Cursor) TextError) → (r >>= λ l. Ok (is_row_of s (words l.0))) ≡ Ok b → (r >>= λ l. elim (is_row_of s (words l.0)) [ true ↦ here | false ↦ other ]) ≡ elim b [ true ↦ here | false ↦ other ]
    by_due (Ok l) e = ap (λ t. elim t [ true ↦ here | false ↦ other ]) (ok (is_row_of s (words l.0)) b e)
    by_due (Err f) e = absurd cc

-- another line than one of a row of state s ends the rows
pub no_more : (states parameters choices transitions s a : ℕ) (front : List (List Entry)) (c : Cursor) (total : Rows) → row_due s c ≡ Ok false → with_front front (further_at states parameters choices transitions s a c) ≡ total → total ≡ Ok (front, c)
unfolding further_at
no_more states parameters zero transitions s a front c total d so_far =
    sym so_far ∙ ap (with_front front) (peeked s c false (line_at (row_of s a 0 transitions) c >>= λ x. Ok ([], x.1)) (Ok ([], c)) d) ∙ ap (λ (ns : List (List Entry)). Ok (ns, c)) (append-nil front)
no_more states parameters (suc choices) transitions s a front c total d so_far =
    sym so_far ∙ ap (with_front front) (peeked s c false (row_at states parameters (suc choices) transitions s a c >>= λ row. further_at states parameters choices (transitions - length row.0) s (a + 1) row.1 >>= λ rows. Ok (row.0 ∷ rows.0, rows.1)) (Ok ([], c)) d) ∙ ap (λ (ns : List (List Entry)). Ok (ns, c)) (append-nil front)

pub due_fails : (states parameters choices transitions s a : ℕ) (front : List (List Entry)) (c : Cursor) (fault : TextError) → due c ≡ Err fault → with_front front (further_at states parameters choices transitions s a c) ≡ Err fault
unfolding further_at
due_fails states parameters zero transitions s a front c fault d = rw d refl
due_fails states parameters (suc choices) transitions s a front c fault d = rw d refl

-- with no choice left no row's line is read
none_left : (s a transitions : ℕ) (c : Cursor) (x : ℕ × Cursor) → s < 2 ^ 32 → a < 2 ^ 32 → transitions < 2 ^ 32 → line_at (row_of s a 0 transitions) c ≡ Ok x → ⊥
unfolding line_at
none_left s a transitions c x hs ha ht e =
    let l = bind_is (due c) (λ l. at c.0 (row_of s a 0 transitions (words l.0)) >>= λ x. Ok (x, l.1)) x e in
    let r = bind_is (at c.0 (row_of s a 0 transitions (words l.0.0))) (λ x. Ok (x, l.0.1)) x l.2 in
    omega (arith, ((reads_row s a 0 transitions (words l.0.0) (omega (arith, hs)) (omega (arith, ha)) (omega (arith, ht))).takes r.0 (at_is c.0 (row_of s a 0 transitions (words l.0.0)) r.0 r.1)).1)

pub row_fails : (states parameters choices transitions s a : ℕ) (front : List (List Entry)) (c : Cursor) (fault : TextError) (total : Rows) → s < 2 ^ 32 → a < 2 ^ 32 → transitions < 2 ^ 32 → row_due s c ≡ Ok true → row_at states parameters choices transitions s a c ≡ Err fault → with_front front (further_at states parameters choices transitions s a c) ≡ total → total ≡ Err fault
unfolding further_at row_at
row_fails states parameters zero transitions s a front c fault total hs ha ht d r so_far =
    sym so_far ∙ ap (with_front front) (peeked s c true (line_at (row_of s a 0 transitions) c >>= λ x. Ok ([], x.1)) (Ok ([], c)) d) ∙ by_line (line_at (row_of s a 0 transitions) c) refl r
  where
    by_line : (q : Result (ℕ × Cursor) TextError) → line_at (row_of s a 0 transitions) c ≡ q → (q >>= λ count. entries_at states parameters [] count.0 count.1) ≡ Err fault → with_front front (q >>= λ x. Ok ([], x.1)) ≡ Err fault
    by_line (Ok x) e f = absurd (none_left s a transitions c x hs ha ht e)
    by_line (Err g) e f = cc
row_fails states parameters (suc choices) transitions s a front c fault total hs ha ht d r so_far =
    sym so_far ∙ ap (with_front front) (peeked s c true (row_at states parameters (suc choices) transitions s a c >>= λ row. further_at states parameters choices (transitions - length row.0) s (a + 1) row.1 >>= λ rows. Ok (row.0 ∷ rows.0, rows.1)) (Ok ([], c)) d)
    ∙ ap (λ (q : Result (List Entry × Cursor) TextError). with_front front (q >>= λ row. further_at states parameters choices (transitions - length row.0) s (a + 1) row.1 >>= λ rows. Ok (row.0 ∷ rows.0, rows.1))) r

pub one_row : (states parameters choices transitions s a : ℕ) (front : List (List Entry)) (c after : Cursor) (row : List Entry) (total : Rows) → 0 < choices → row_due s c ≡ Ok true → row_at states parameters choices transitions s a c ≡ Ok (row, after) → with_front front (further_at states parameters choices transitions s a c) ≡ total → with_front (front ++ row ∷ []) (further_at states parameters (choices - 1) (transitions - length row) s (a + 1) after) ≡ total
unfolding further_at
one_row states parameters zero transitions s a front c after row total some d r so_far = absurd (omega (arith, some))
one_row states parameters (suc choices) transitions s a front c after row total some d r so_far =
    let k : suc choices - 1 ≡ choices = omega arith in
    ap (λ n. with_front (front ++ row ∷ []) (further_at states parameters n (transitions - length row) s (a + 1) after)) k
    ∙ sym (regroup front row (further_at states parameters choices (transitions - length row) s (a + 1) after))
    ∙ sym (ap (λ (q : Result (List Entry × Cursor) TextError). with_front front (q >>= λ row. further_at states parameters choices (transitions - length row.0) s (a + 1) row.1 >>= λ rows. Ok (row.0 ∷ rows.0, rows.1))) r)
    ∙ sym (ap (with_front front) (peeked s c true (row_at states parameters (suc choices) transitions s a c >>= λ row. further_at states parameters choices (transitions - length row.0) s (a + 1) row.1 >>= λ rows. Ok (row.0 ∷ rows.0, rows.1)) (Ok ([], c)) d))
    ∙ so_far

pub leaves_more : (before left next : Left) (rows more : List (List Entry)) (row : List Entry) → Leaves before left (length rows) (sum_by length rows) → next.choices ≡ left.choices - 1 → next.transitions ≡ left.transitions - length row → more ≡ rows ++ row ∷ [] → Leaves before next (length more) (sum_by length more)
leaves_more before left next rows more row l c t m =
    let len : length more ≡ length rows + 1 = omega (arith, ap length m, length-append rows (row ∷ [])) in
    let sum : sum_by length more ≡ sum_by length rows + length row = ap (sum_by length) m ∙ sum_by_push length rows row in
    record { choices = omega (arith, c, l.choices, len); transitions = omega (arith, t, l.transitions, sum) }

-- ---- all states

abbrev pub States : Type 0
States = Result (List (List (List Entry)) × Cursor) TextError

pub state_goes : (kind : Kind) (states parameters left choices transitions s : ℕ) (front : List (List (List Entry))) (c after : Cursor) (rows : List (List Entry)) (n choices₂ transitions₂ : ℕ) (total : States) → left ≡ suc n → state_at kind states parameters choices transitions s c ≡ Ok (rows, after) → choices₂ ≡ choices - length rows → transitions₂ ≡ transitions - sum_by length rows
    → with_front front (states_at kind states parameters left choices transitions s c) ≡ total → with_front (front ++ rows ∷ []) (states_at kind states parameters n choices₂ transitions₂ (s + 1) after) ≡ total
unfolding states_at
state_goes kind states parameters left choices transitions s front c after rows n choices₂ transitions₂ total k h e f so_far =
    ap (λ p. with_front (front ++ rows ∷ []) (states_at kind states parameters n p transitions₂ (s + 1) after)) e
    ∙ ap (λ p. with_front (front ++ rows ∷ []) (states_at kind states parameters n (choices - length rows) p (s + 1) after)) f
    ∙ sym (regroup front rows (states_at kind states parameters n (choices - length rows) (transitions - sum_by length rows) (s + 1) after))
    ∙ sym (ap (λ (r : Result (List (List Entry) × Cursor) TextError). with_front front (r >>= λ rows. states_at kind states parameters n (choices - length rows.0) (transitions - sum_by length rows.0) (s + 1) rows.1 >>= λ others. Ok (rows.0 ∷ others.0, others.1))) h)
    ∙ sym (ap (λ l. with_front front (states_at kind states parameters l choices transitions s c)) k)
    ∙ so_far

pub state_fails : (kind : Kind) (states parameters left choices transitions s : ℕ) (front : List (List (List Entry))) (c : Cursor) (n : ℕ) (fault : TextError) (total : States) → left ≡ suc n → state_at kind states parameters choices transitions s c ≡ Err fault → with_front front (states_at kind states parameters left choices transitions s c) ≡ total → total ≡ Err fault
unfolding states_at
state_fails kind states parameters left choices transitions s front c n fault total k h so_far =
    sym so_far ∙ ap (λ l. with_front front (states_at kind states parameters l choices transitions s c)) k
    ∙ ap (λ (r : Result (List (List Entry) × Cursor) TextError). with_front front (r >>= λ rows. states_at kind states parameters n (choices - length rows.0) (transitions - sum_by length rows.0) (s + 1) rows.1 >>= λ others. Ok (rows.0 ∷ others.0, others.1))) h

pub states_done : (kind : Kind) (states parameters left choices transitions s : ℕ) (front : List (List (List Entry))) (c : Cursor) (total : States) → left ≡ 0 → with_front front (states_at kind states parameters left choices transitions s c) ≡ total → total ≡ Ok (front, c)
unfolding states_at
states_done kind states parameters left choices transitions s front c total k so_far =
    sym so_far ∙ ap (λ l. with_front front (states_at kind states parameters l choices transitions s c)) k ∙ ap (λ (ns : List (List (List Entry))). Ok (ns, c)) (append-nil front)

-- ---- as they are read

pub row_is_read : (states parameters choices transitions s a : ℕ) (c : Cursor) → row_at states parameters choices transitions s a c ≡ (line_at (row_of s a choices transitions) c >>= λ count. entries_at states parameters [] count.0 count.1)
unfolding row_at
row_is_read states parameters choices transitions s a c = refl

pub state_is_read : (kind : Kind) (states parameters choices transitions s : ℕ) (c : Cursor)
    → state_at kind states parameters choices transitions s c ≡ (row_at states parameters choices transitions s 0 c >>= λ row. behind_first kind states parameters (choices - 1) (transitions - length row.0) s row.1 >>= λ rows. Ok (row.0 ∷ rows.0, rows.1))
unfolding state_at
state_is_read kind states parameters choices transitions s c = refl

pub front_none : {A : Type 0} (read : Result (List A × Cursor) TextError) → read ≡ with_front [] read
front_none (Ok x) = refl
front_none (Err f) = refl

pub chain_first : (states parameters choices transitions s : ℕ) (c : Cursor) → behind_first Dtmc states parameters choices transitions s c ≡ Ok ([], c)
unfolding behind_first
chain_first states parameters choices transitions s c = refl

pub process_first : (states parameters choices transitions s : ℕ) (c : Cursor) → behind_first Mdp states parameters choices transitions s c ≡ further_at states parameters choices transitions s 1 c
unfolding behind_first
process_first states parameters choices transitions s c = refl
