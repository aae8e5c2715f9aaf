-- A node's lines, both ways.
use Rattle.std.proofs.Common.{◌≡◌, ℕ, zero, suc, ◌+◌, ◌-◌, ◌*◌, ◌^◌, ◌<◌, ◌≤◌, Bool, true, false, ◌&&◌, List, [], ◌∷◌, ◌++◌, length, map, Result, Ok, Err, Some, refl, sym, ap, subst, ◌∙◌, arith, inl, inr, ◌⊎◌}
use Rattle.std.specs.Prelude.{ℤ, pos, negsuc, codes, unsigned_abs, slice_index_or}
use Rattle.std.specs.Prelude.{Option, None}
use Rattle.std.specs.Option.{unwrap_or}
use Rattle.std.specs.List.{concat, AllByRecursion, list_all, sum_by}
use Rattle.std.specs.Bool.{Decides}
use Rattle.std.specs.Ordering.{int_eq}
use Rattle.std.specs.Str.{bytes_eq}
use Rattle.std.specs.Fmt.{decimal, signed_decimal}
use Rattle.std.proofs.lemmas.List.{length-append}
use Rattle.std.proofs.lemmas.Bool.{leb-true, le-leb}
use Rattle.std.proofs.lemmas.Bool.Decides.{Decides-and, Decides-int_eq}
use Rattle.std.proofs.Math.Pow.{pow_mono}
use Rattle.std.proofs.Math.Nat.{mul-le-mul_right}
use Rattle.corner_lift.specs.Case.{number}
use Rattle.corner_lift.specs.Certificate.{unmarked}
use Rattle.line_text.specs.declared.error.TextCause.TheVariants.{Syntax}
use Rattle.line_text.specs.declared.error.TextError.{TextError}
use Rattle.cert_text.specs.Head.{HeadData, least_precision, at_precision}
use Rattle.cert_text.specs.Report.{line, number_words, numbers_words, reject_words, mark_word, at_lines}
use Rattle.line_text.specs.Words.{words, number_of, pair_of}
use Rattle.line_text.specs.Reading.{◌>>=◌, Cursor, Reader, at, due, fault, line_at}
use Rattle.line_text.specs.Parts.{Words, must, keyed, first, ended}
use Rattle.cert_text.specs.Lines.{is_value, values_of, marks_of, Rejected, named, reject_of}
use Rattle.lift_grid.specs.Tree.{RejectData}
use Rattle.std.specs.Prelude.{◌≤ℤ◌}
use Rattle.std.proofs.lemmas.Int.{ints}
use Rattle.std.proofs.lemmas.List.Elements.{All-from_recursion, recursion_from_All}
use Rattle.corner_lift.specs.Case.{CaseData}
use Rattle.corner_lift.specs.Certificate.{AreNumbers}
use Rattle.cert_text.specs.Forms.{AreMarks, IsReject, IsNode, IsPrecision}
use Rattle.cert_text.specs.Nodes.{Node, split, accept, reject, unknown, begins, fit_states, fits_leaf, split_at, accept_at, rejecting_at, reject_at, unknown_at, node_by, decided_by, reported_at, second_by, node_in, node_at, node_lines}
use Rattle.cert_text.proofs.Steps.{Reads, reads_ok, reads_spelled, reads_first, reads_ended, reads_so, reads_pass}
use Rattle.cert_text.proofs.Decimals.{number_back, number_again}
use Rattle.cert_text.proofs.CutLines.{IsPlain, IsLine, every_append}
use Rattle.cert_text.proofs.Fields.{IsSmall, reads_keyed, reads_between}
use Rattle.cert_text.proofs.NumberWords.{signed_numeric, pair_back, pair_again}
use Rattle.cert_text.proofs.Inverting.{Lines, Anything, Inverts, OneLine, Then, inverts_line, inverts_line_in, inverts_pass, inverts_done, inverts_so}
use Rattle.cert_text.proofs.Peeking.{Begins, opens_first, peek, inverts_peek}
use Rattle.cert_text.proofs.LaterLines.{no_slash, AreValues, AreEnds, reads_values, reads_marks}
use Rattle.cert_text.proofs.Fits.{Fits, key_fits, is_line, number_line, and_both, decimal_fits, signed_fits, values_line, marks_line}
use Rattle.cert_text.proofs.RowLaws.{begins_words, AreRows, AreStates}
use Rattle.cert_text.proofs.FirstLines.{map_len}
use Rattle.lift_model.specs.declared.entry.Entry.{Entry}
use Rattle.lift_model.specs.declared.kind.Kind.{Kind}
use Rattle.cert_text.proofs.HeadLaws.{HeadForm, NumberLine, number_step, put}

-- ---- the first line of a rejecting leaf

-- the words of m and of b as they stand there
pub record IsRejected (r : Rejected) (ws : Words) : Type 0 where
  pub mw : List ℕ
  pub bw : List ℕ
  pub is : ws ≡ codes "reject" ∷ codes "e" ∷ decimal r.e ∷ codes "k" ∷ decimal r.k ∷ codes "m" ∷ mw ∷ codes "b" ∷ bw ∷ []
  pub e_low : r.e < 127
  pub k_some : 1 ≤ r.k
  pub k_low : r.k < 65537
  pub m_is : number_of mw ≡ Some r.m
  pub b_is : pair_of 47 bw ≡ Some (r.y, r.z)

reads_named : (key : List ℕ) (ws : Words) → Reads (λ p. ws ≡ key ∷ p.0 ∷ p.1) (named key ws)
reads_named key ws =
    reads_so (reads_pass (reads_keyed key ws) (λ rest _. reads_first rest)) (λ p. ws ≡ key ∷ p.0 ∷ p.1)
    (λ p (rest, is, parted). is ∙ ap (λ t. key ∷ t) parted)
    (λ p is. (p.0 ∷ p.1, is, refl))

pub reads_reject : (ws : Words) → Reads (λ r. IsRejected r ws) (reject_of ws)
reads_reject ws =
    reads_so (reads_pass (reads_keyed (codes "reject") ws) (λ rest _.
    reads_pass (reads_named (codes "e") rest) (λ e _. reads_pass (reads_spelled (number_of e.0)) (λ ze _.
    reads_pass (reads_named (codes "k") e.1) (λ k _. reads_pass (reads_spelled (number_of k.0)) (λ zk _.
    reads_pass (reads_named (codes "m") k.1) (λ m _. reads_pass (reads_spelled (number_of m.0)) (λ zm _.
    reads_pass (reads_named (codes "b") m.1) (λ b _. reads_pass (reads_spelled (pair_of 47 b.0)) (λ zb _.
    reads_pass (reads_ended b.1) (λ _ _.
    reads_pass (reads_between 0 127 ze) (λ re _. reads_pass (reads_between 1 65537 zk) (λ rk _. reads_ok (record { e = re; k = rk; m = zm; y = zb.0; z = zb.1 }))))))))))))))
    (λ r. IsRejected r ws)
    (λ r (rest, is, (e, is_e, (ze, n_e, (k, is_k, (zk, n_k, (m, is_m, (zm, n_m, (b, is_b, (zb, n_b, (_, end, (re, (e_is, e_from, e_to), (rk, (k_is, k_from, k_to), same)))))))))))).
    let we : decimal re ≡ e.0 = number_back e.0 (pos re) (n_e ∙ ap (λ y. Some y) e_is) (omega (arith, e_to)) in
    let wk : decimal rk ≡ k.0 = number_back k.0 (pos rk) (n_k ∙ ap (λ y. Some y) k_is) (omega (arith, k_to)) in
    subst (λ y. IsRejected y ws) same
    (record {
      mw = m.0;
      bw = b.0;
      is = is ∙ ap (λ t. codes "reject" ∷ t) (is_e ∙ ap (λ t. codes "e" ∷ e.0 ∷ t) (is_k ∙ ap (λ t. codes "k" ∷ k.0 ∷ t) (is_m ∙ ap (λ t. codes "m" ∷ m.0 ∷ t) (is_b ∙ ap (λ t. codes "b" ∷ b.0 ∷ t) end))))
          ∙ ap (λ t. codes "reject" ∷ codes "e" ∷ t ∷ codes "k" ∷ k.0 ∷ codes "m" ∷ m.0 ∷ codes "b" ∷ b.0 ∷ []) (sym we)
          ∙ ap (λ t. codes "reject" ∷ codes "e" ∷ decimal re ∷ codes "k" ∷ t ∷ codes "m" ∷ m.0 ∷ codes "b" ∷ b.0 ∷ []) (sym wk);
      e_low = e_to;
      k_some = k_from;
      k_low = k_to;
      m_is = n_m;
      b_is = n_b;
    }))
    (λ r l.
    let t0 : Words = codes "b" ∷ l.bw ∷ [] in
    let t1 : Words = codes "m" ∷ l.mw ∷ t0 in
    let t2 : Words = codes "k" ∷ decimal r.k ∷ t1 in
    let t3 : Words = codes "e" ∷ decimal r.e ∷ t2 in
    (t3, l.is, ((decimal r.e, t2), refl, (pos r.e, number_again (pos r.e) (omega (arith, l.e_low)), ((decimal r.k, t1), refl, (pos r.k, number_again (pos r.k) (omega (arith, l.k_low)), ((l.mw, t0), refl, (r.m, l.m_is, ((l.bw, []), refl, ((r.y, r.z), l.b_is, (tt, refl, (r.e, (refl, omega arith, l.e_low), (r.k, (refl, l.k_some, l.k_low), refl)))))))))))))

-- ---- what a node keeps

abbrev pub choice_ends : HeadData → List ℕ
choice_ends h = map length h.asked.model.states

abbrev pub rank_ends : HeadData → ℕ → List ℕ
rank_ends h k = map (λ _. k + 1) h.asked.model.states

abbrev pub AreVector : HeadData → List ℤ → Type 0
AreVector h zs = AreValues (length h.asked.model.states) h.asked.w zs

pub record RejectForm (h : HeadData) (e k : ℕ) (y : List ℤ) (picks ranks : List ℕ) : Type 0 where
  pub e_low : e < 127
  pub k_some : 1 ≤ k
  pub k_low : k < 65537
  pub vector : AreVector h y
  pub choices_fit : AreMarks (choice_ends h) picks
  pub ranks_fit : AreMarks (rank_ends h k) ranks
  pub states_fit : fit_states h.asked.model.goal picks ranks ≡ true

abbrev reported : ℕ → ℕ → List ℤ → List ℕ → List ℕ → RejectData
reported e k y picks ranks = record { numbers = y; picks = picks; ranks = ranks; e = e; k = k }

abbrev pub NodeLines : HeadData → Node → Lines → Type 0
NodeLines h node ls = (ls ≡ node_lines h.from h.asked.model.init node) × IsNode h node

-- ---- the four nodes

first_of : (key : List ℕ) (ws : Words) (b : Bool) → begins key ws ≡ b → (more : Lines) → IsLine ws → Begins (λ l. begins key (words l)) b (line ws ∷ more)
first_of key ws b e more l = begins_words (begins key) b ws more l e

SplitLines : HeadData → Node → Lines → Type 0
SplitLines h node ls = (axis : ℕ) × (node ≡ split axis) × (ls ≡ line (number_words (codes "split") axis) ∷ []) × (axis < length h.asked.model.names)

inverts_split : (h : HeadData) → HeadForm h → Inverts Anything (SplitLines h) (split_at h)
unfolding split_at SplitLines
inverts_split h k =
    inverts_so
    (inverts_pass (number_step (codes "split") 0 (length h.asked.model.names) (omega (arith, k.declared.few)) (key_fits 22 (codes "split") refl refl)) (λ axis _ _. inverts_done Anything (split axis)))
    (SplitLines h)
    (λ node ls (axis, first, last, (ws, (is, low, high), one), (same, none), whole).
    (axis, sym same, whole ∙ ap (λ t. t ++ last) one ∙ ap (λ t. line ws ∷ t) none ∙ ap (λ t. line t ∷ []) is, high))
    (λ node ls (axis, is, are, high). (axis, line (number_words (codes "split") axis) ∷ [], [], (number_words (codes "split") axis, (refl, omega arith, high), refl), (sym is, refl), are))

AcceptLines : HeadData → Node → Lines → Type 0
AcceptLines h node ls = (x : List ℤ) × (node ≡ accept h.asked.w x) × (ls ≡ line (numbers_words (codes "accept") x) ∷ []) × AreVector h x

precise : (h : HeadData) → HeadForm h → 2 ^ h.asked.w ≤ 2 ^ 40
precise h k = let low : h.asked.w ≤ 40 = omega (arith, k.w.1) in pow_mono low

inverts_values : (h : HeadData) → HeadForm h → (key : List ℕ) → Fits 14 key → Inverts Anything (OneLine (λ zs ws. (ws ≡ numbers_words key zs) × AreVector h zs)) (line_at (values_of key (length h.asked.model.states) h.asked.w))
inverts_values h k key f =
    inverts_line Anything (λ zs ws. (ws ≡ numbers_words key zs) × AreVector h zs) (values_of key (length h.asked.model.states) h.asked.w) (λ ws. reads_values key (length h.asked.model.states) h.asked.w ws (omega (arith, precise h k)))
    (λ zs ws l. subst IsLine (sym l.0) (values_line key (length h.asked.model.states) h.asked.w zs f (omega (arith, k.states.1)) (precise h k) l.1))

inverts_accept : (h : HeadData) → HeadForm h → Inverts Anything (AcceptLines h) (accept_at h)
unfolding accept_at AcceptLines
inverts_accept h k =
    inverts_so
    (inverts_pass (inverts_values h k (codes "accept") (key_fits 14 (codes "accept") refl refl)) (λ x _ _. inverts_done Anything (accept h.asked.w x)))
    (AcceptLines h)
    (λ node ls (x, first, last, (ws, (is, v), one), (same, none), whole).
    (x, sym same, whole ∙ ap (λ t. t ++ last) one ∙ ap (λ t. line ws ∷ t) none ∙ ap (λ t. line t ∷ []) is, v))
    (λ node ls (x, is, are, v). (x, line (numbers_words (codes "accept") x) ∷ [], [], (numbers_words (codes "accept") x, (refl, v), refl), (sym is, refl), are))

UnknownLines : Node → Lines → Type 0
UnknownLines node ls = (node ≡ unknown) × (ls ≡ line (codes "unknown" ∷ []) ∷ [])

inverts_unknown : Inverts Anything UnknownLines unknown_at
unfolding unknown_at UnknownLines
inverts_unknown =
    inverts_so
    (inverts_pass (inverts_line Anything (λ (_ : Unit {0}) ws. ws ≡ codes "unknown" ∷ []) (λ words. keyed (codes "unknown") words >>= ended)
    (λ ws. reads_so (reads_pass (reads_keyed (codes "unknown") ws) (λ rest _. reads_ended rest)) (λ _. ws ≡ codes "unknown" ∷ []) (λ _ (rest, is, none). is ∙ ap (λ t. codes "unknown" ∷ t) none) (λ _ is. ([], is, refl)))
    (λ _ ws l. subst IsLine (sym l) (is_line 10 (codes "unknown" ∷ []) (omega arith) (key_fits 10 (codes "unknown") refl refl, tt) (omega arith))))
    (λ _ _ _. inverts_done Anything unknown))
    UnknownLines
    (λ node ls (_, first, last, (ws, is, one), (same, none), whole). (sym same, whole ∙ ap (λ t. t ++ last) one ∙ ap (λ t. line ws ∷ t) none ∙ ap (λ t. line t ∷ []) is))
    (λ node ls (is, are). (tt, line (codes "unknown" ∷ []) ∷ [], [], (codes "unknown" ∷ [], refl, refl), (sym is, refl), are))

-- ---- a rejecting leaf

abbrev Tested : {A : Type 0} → Type 0 → A → A → Lines → Type 0
Tested X v y ls = X × (v ≡ y) × (ls ≡ [])

inverts_tested : {A : Type 0} (Next : List ℕ → Type 0) (X : Type 0) (b : Bool) (v : A) → Decides b X → Inverts Next (Tested X v) (λ c. at (c.0 - 4) (must b Syntax) >>= λ _. Ok (v, c))
inverts_tested Next X true v d =
    inverts_so (inverts_done Next v) (Tested X v) (λ x ls (same, none). (d.0 refl, same, none)) (λ x ls (_, same, none). (same, none))
inverts_tested Next X false v d = record {
  takes = λ n m text rest x e. absurd cc;
  again = λ n x ls rest s _. let e = d.1 s.0 in absurd cc;
  short = λ n x ls front back s e some. let f = d.1 s.0 in absurd cc;
  stops = λ n x ls more s _. let e = d.1 s.0 in absurd cc;
  feeds = λ x ls s. let e = d.1 s.0 in absurd cc;
}

-- the tests at the end
abbrev LeafFits : HeadData → Rejected → List ℤ → List ℕ → List ℕ → Type 0
LeafFits h r y picks ranks = (r.m ≡ pos (r.e * r.k)) × ((r.y ≡ number y h.asked.model.init) × ((r.z ≡ pos (2 ^ h.asked.w)) × (fit_states h.asked.model.goal picks ranks ≡ true)))

decides_leaf : (h : HeadData) (r : Rejected) (y : List ℤ) (picks ranks : List ℕ) → Decides (fits_leaf h r y picks ranks) (LeafFits h r y picks ranks)
decides_leaf h r y picks ranks =
    let a = int_eq r.m (pos (r.e * r.k)) in
    let b = int_eq r.y (number y h.asked.model.init) in
    let c = int_eq r.z (pos (2 ^ h.asked.w)) in
    let d = fit_states h.asked.model.goal picks ranks in
    Decides-and a (b && (c && d)) (Decides-int_eq r.m (pos (r.e * r.k))) (Decides-and b (c && d) (Decides-int_eq r.y (number y h.asked.model.init)) (Decides-and c d (Decides-int_eq r.z (pos (2 ^ h.asked.w))) (λ e. e, λ e. e)))

ends_low : {A : Type 0} (f : A → ℕ) (xs : List A) → AllByRecursion (λ x. f x ≤ unmarked) xs → AreEnds (map f xs)
ends_low f [] h = tt
ends_low f (x ∷ xs) h = (h.0, ends_low f xs h.1)

rows_few : (states parameters choices transitions : ℕ) (rows : List (List Entry)) → AreRows states parameters choices transitions rows → length rows ≤ choices
rows_few states parameters choices transitions [] h = omega arith
rows_few states parameters choices transitions (row ∷ rows) h = omega (arith, h.0.0, rows_few states parameters (choices - 1) (transitions - length row) rows h.1)

states_few : (kind : Kind) (states parameters choices transitions : ℕ) (all : List (List (List Entry))) → choices ≤ 131072 → AreStates kind states parameters choices transitions all → AllByRecursion (λ rows. length rows ≤ unmarked) all
states_few kind states parameters choices transitions [] low h = tt
states_few kind states parameters choices transitions (rows ∷ all) low h =
    (omega (arith, low, rows_few states parameters choices transitions rows h.0.rows_fit), states_few kind states parameters (choices - length rows) (transitions - sum_by length rows) all (omega (arith, low)) h.1)

choice_ends_low : (h : HeadData) → HeadForm h → AreEnds (choice_ends h)
choice_ends_low h k = ends_low length h.asked.model.states (states_few h.asked.model.kind (length h.asked.model.states) (length h.asked.model.names) 131072 262144 h.asked.model.states (omega arith) k.rows)

all_low : {A : Type 0} (xs : List A) (n : ℕ) → n ≤ unmarked → AllByRecursion (λ (_ : A). n ≤ unmarked) xs
all_low [] n h = tt
all_low (x ∷ xs) n h = (h, all_low xs n h)

rank_ends_low : (h : HeadData) (k : ℕ) → k < 65537 → AreEnds (rank_ends h k)
rank_ends_low h k low = ends_low (λ _. k + 1) h.asked.model.states (all_low h.asked.model.states (k + 1) (omega (arith, low)))

inverts_marks : (h : HeadData) → HeadForm h → (key : List ℕ) (f : List (List Entry) → ℕ) → Fits 12 key → AreEnds (map f h.asked.model.states) → Inverts Anything (OneLine (λ marks ws. (ws ≡ key ∷ map mark_word marks) × AreMarks (map f h.asked.model.states) marks)) (line_at (marks_of key (map f h.asked.model.states)))
inverts_marks h k key f fit low =
    inverts_line Anything (λ marks ws. (ws ≡ key ∷ map mark_word marks) × AreMarks (map f h.asked.model.states) marks) (marks_of key (map f h.asked.model.states)) (λ ws. reads_marks key (map f h.asked.model.states) ws low)
    (λ marks ws l. subst IsLine (sym l.0) (marks_line key (map f h.asked.model.states) marks fit (omega (arith, k.states.1, map_len f h.asked.model.states)) low l.1))

value_at : (u : ℕ) (zs : List ℤ) (i : ℕ) → list_all (is_value u) zs ≡ true → is_value u (slice_index_or zs i (pos 0)) ≡ true
value_at u [] i e = le-leb 0 (2 ^ u) (omega arith)
value_at u (z ∷ zs) zero e = (and_both (is_value u z) (list_all (is_value u) zs) e).0
value_at u (z ∷ zs) (suc i) e = value_at u zs i (and_both (is_value u z) (list_all (is_value u) zs) e).1

value_fits : (u : ℕ) (z : ℤ) → 2 ^ u ≤ 2 ^ 40 → is_value u z ≡ true → unsigned_abs z < 10 ^ 13
value_fits u (pos n) h e = omega (arith, h, leb-true n (2 ^ u) e)
value_fits u (negsuc n) h e = absurd cc

number_fits : (h : HeadData) → HeadForm h → (y : List ℤ) → AreVector h y → unsigned_abs (number y h.asked.model.init) < 10 ^ 13
number_fits h k y v = value_fits h.asked.w (number y h.asked.model.init) (precise h k) (value_at h.asked.w y h.asked.model.init v.range)

product_low : (e k : ℕ) → e < 127 → k < 65537 → e * k < 10 ^ 8
product_low e k he hk = let low : e ≤ 126 = omega (arith, he) in omega (arith, hk, mul-le-mul_right k low)

abbrev pub RejectLines : HeadData → Node → Lines → Type 0
RejectLines h node ls = (e : ℕ) × (k : ℕ) × (y : List ℤ) × (picks : List ℕ) × (ranks : List ℕ) × (node ≡ reject h.asked.w (reported e k y picks ranks)) × (ls ≡ node_lines None h.asked.model.init (reject h.asked.w (reported e k y picks ranks))) × RejectForm h e k y picks ranks

-- the words of the first line, of a leaf that passes the tests
first_words : (h : HeadData) (r : Rejected) (ws : Words) (y : List ℤ) (picks ranks : List ℕ) → HeadForm h → IsRejected r ws → AreVector h y → LeafFits h r y picks ranks → ws ≡ reject_words r.e r.k (number y h.asked.model.init) (2 ^ h.asked.w)
first_words h r ws y picks ranks k l v (m, (n, (z, _))) =
    let one : decimal (r.e * r.k) ≡ l.mw = number_back l.mw (pos (r.e * r.k)) (l.m_is ∙ ap (λ t. Some t) m) (omega (arith, product_low r.e r.k l.e_low l.k_low)) in
    let both : (r.y, r.z) ≡ (number y h.asked.model.init, pos (2 ^ h.asked.w)) = ap (λ t. (t, r.z)) n ∙ ap (λ t. (number y h.asked.model.init, t)) z in
    let two : l.bw ≡ signed_decimal (number y h.asked.model.init) ++ 47 ∷ decimal (2 ^ h.asked.w) = pair_back 47 l.bw (number y h.asked.model.init) (pos (2 ^ h.asked.w)) (l.b_is ∙ ap (λ t. Some t) both) (omega (arith, number_fits h k y v)) (omega (arith, precise h k)) in
    l.is
    ∙ ap (λ t. codes "reject" ∷ codes "e" ∷ decimal r.e ∷ codes "k" ∷ decimal r.k ∷ codes "m" ∷ t ∷ codes "b" ∷ l.bw ∷ []) (sym one)
    ∙ ap (λ t. codes "reject" ∷ codes "e" ∷ decimal r.e ∷ codes "k" ∷ decimal r.k ∷ codes "m" ∷ decimal (r.e * r.k) ∷ codes "b" ∷ t ∷ []) two

wider : (k m : ℕ) (w : List ℕ) → Fits k w → k ≤ m → Fits m w
wider k m w f h = record { word = f.word; len = omega (arith, f.len, h) }

reject_is_line : (h : HeadData) (e k : ℕ) (y : List ℤ) → HeadForm h → AreVector h y → e < 127 → k < 65537 → IsLine (reject_words e k (number y h.asked.model.init) (2 ^ h.asked.w))
reject_is_line h e k y head v he hk =
    let n = number y h.asked.model.init in
    let fe = decimal_fits 7 e (omega (arith, he)) (omega (arith, he)) in
    let fk = decimal_fits 7 k (omega (arith, hk)) (omega (arith, hk)) in
    let fm = decimal_fits 7 (e * k) (product_low e k he hk) (omega (arith, product_low e k he hk)) in
    let fy = signed_fits 12 n (number_fits h head y v) (omega (arith, number_fits h head y v)) in
    let fz = decimal_fits 12 (2 ^ h.asked.w) (omega (arith, precise h head)) (omega (arith, precise h head)) in
    let fb : Fits 40 (signed_decimal n ++ 47 ∷ decimal (2 ^ h.asked.w)) = record { word = every_append IsPlain (signed_decimal n) (47 ∷ decimal (2 ^ h.asked.w)) fy.word ((refl, refl), fz.word); len = omega (arith, fy.len, fz.len, length-append (signed_decimal n) (47 ∷ decimal (2 ^ h.asked.w))) } in
    is_line 40 (reject_words e k n (2 ^ h.asked.w)) (omega arith)
    (key_fits 40 (codes "reject") refl refl, (key_fits 40 (codes "e") refl refl, (wider 9 40 (decimal e) fe (omega arith), (key_fits 40 (codes "k") refl refl, (wider 9 40 (decimal k) fk (omega arith), (key_fits 40 (codes "m") refl refl, (wider 9 40 (decimal (e * k)) fm (omega arith), (key_fits 40 (codes "b") refl refl, (fb, tt)))))))))
    (omega arith)

inverts_reject : (h : HeadData) → HeadForm h → Inverts Anything (RejectLines h) (reject_at h)
unfolding reject_at rejecting_at
inverts_reject h k =
    inverts_so
    (inverts_pass (inverts_line_in Anything (λ r ws. IsRejected r ws) reject_of reads_reject) (λ r _ (ws0, (l, _), _).
    inverts_pass (inverts_values h k (codes "y") (key_fits 14 (codes "y") refl refl)) (λ y _ _.
    inverts_pass (inverts_marks h k (codes "choice") length (key_fits 12 (codes "choice") refl refl) (choice_ends_low h k)) (λ picks _ _.
    inverts_pass (inverts_marks h k (codes "rank") (λ _. r.k + 1) (key_fits 12 (codes "rank") refl refl) (rank_ends_low h r.k l.k_low)) (λ ranks _ _.
    inverts_tested Anything (LeafFits h r y picks ranks) (fits_leaf h r y picks ranks) (reject h.asked.w (reported r.e r.k y picks ranks)) (decides_leaf h r y picks ranks))))))
    (RejectLines h)
    (λ node ls (r, f0, l0, (ws0, (l, _), one0), (y, f1, l1, (ws1, (is1, v), one1), (picks, f2, l2, (ws2, (is2, fit2), one2), (ranks, f3, l3, (ws3, (is3, fit3), one3), (tests, same, none), e3), e2), e1), e0).
    let w0 = first_words h r ws0 y picks ranks k l v tests in
    let r3 : l2 ≡ line (codes "rank" ∷ map mark_word ranks) ∷ [] = put l2 f3 l3 (line (codes "rank" ∷ map mark_word ranks) ∷ []) [] e3 (one3 ∙ ap (λ t. line t ∷ []) is3) none in
    let r2 : l1 ≡ line (codes "choice" ∷ map mark_word picks) ∷ line (codes "rank" ∷ map mark_word ranks) ∷ [] = put l1 f2 l2 (line (codes "choice" ∷ map mark_word picks) ∷ []) (line (codes "rank" ∷ map mark_word ranks) ∷ []) e2 (one2 ∙ ap (λ t. line t ∷ []) is2) r3 in
    let r1 : l0 ≡ line (numbers_words (codes "y") y) ∷ line (codes "choice" ∷ map mark_word picks) ∷ line (codes "rank" ∷ map mark_word ranks) ∷ [] = put l0 f1 l1 (line (numbers_words (codes "y") y) ∷ []) (line (codes "choice" ∷ map mark_word picks) ∷ line (codes "rank" ∷ map mark_word ranks) ∷ []) e1 (one1 ∙ ap (λ t. line t ∷ []) is1) r2 in
    let r0 : ls ≡ node_lines None h.asked.model.init (reject h.asked.w (reported r.e r.k y picks ranks)) = put ls f0 l0 (line (reject_words r.e r.k (number y h.asked.model.init) (2 ^ h.asked.w)) ∷ []) (line (numbers_words (codes "y") y) ∷ line (codes "choice" ∷ map mark_word picks) ∷ line (codes "rank" ∷ map mark_word ranks) ∷ []) e0 (one0 ∙ ap (λ t. line t ∷ []) w0) r1 in
    (r.e, r.k, y, picks, ranks, sym same, r0, record { e_low = l.e_low; k_some = l.k_some; k_low = l.k_low; vector = v; choices_fit = fit2; ranks_fit = fit3; states_fit = tests.1.1.1 }))
    (λ node ls (e, kk, y, picks, ranks, is, are, l). back node ls e kk y picks ranks is are l)
  where
    back : (node : Node) (ls : Lines) (e kk : ℕ) (y : List ℤ) (picks ranks : List ℕ) → node ≡ reject h.asked.w (reported e kk y picks ranks) → ls ≡ node_lines None h.asked.model.init (reject h.asked.w (reported e kk y picks ranks)) → RejectForm h e kk y picks ranks
        → Then (OneLine (λ r ws. IsRejected r ws × IsLine ws)) (λ r. Then (OneLine (λ zs ws. (ws ≡ numbers_words (codes "y") zs) × AreVector h zs)) (λ y. Then (OneLine (λ marks ws. (ws ≡ codes "choice" ∷ map mark_word marks) × AreMarks (choice_ends h) marks)) (λ picks. Then (OneLine (λ marks ws. (ws ≡ codes "rank" ∷ map mark_word marks) × AreMarks (rank_ends h r.k) marks)) (λ ranks. Tested (LeafFits h r y picks ranks) (reject h.asked.w (reported r.e r.k y picks ranks)))))) node ls
    back node ls e kk y picks ranks is are l =
        let n = number y h.asked.model.init in
        let r : Rejected = record { e = e; k = kk; m = pos (e * kk); y = n; z = pos (2 ^ h.asked.w) } in
        let small_n : IsSmall n = omega (arith, number_fits h k y l.vector) in
        let small_z : IsSmall (pos (2 ^ h.asked.w)) = omega (arith, precise h k) in
        let said : IsRejected r (reject_words e kk n (2 ^ h.asked.w)) = record {
          mw = decimal (e * kk);
          bw = signed_decimal n ++ 47 ∷ decimal (2 ^ h.asked.w);
          is = refl;
          e_low = l.e_low;
          k_some = l.k_some;
          k_low = l.k_low;
          m_is = number_again (pos (e * kk)) (omega (arith, product_low e kk l.e_low l.k_low));
          b_is = pair_again 47 n (pos (2 ^ h.asked.w)) (no_slash (signed_decimal n) (signed_numeric n small_n)) small_n small_z;
        } in
        let x1 : Lines = line (numbers_words (codes "y") y) ∷ [] in
        let x2 : Lines = line (codes "choice" ∷ map mark_word picks) ∷ [] in
        let x3 : Lines = line (codes "rank" ∷ map mark_word ranks) ∷ [] in (
          r,
          line (reject_words e kk n (2 ^ h.asked.w)) ∷ [],
          x1 ++ (x2 ++ x3),
          (reject_words e kk n (2 ^ h.asked.w), (said, reject_is_line h e kk y k l.vector l.e_low l.k_low), refl),
          (
            y,
            x1,
            x2 ++ x3,
            (numbers_words (codes "y") y, (refl, l.vector), refl),
            (
              picks,
              x2,
              x3,
              (codes "choice" ∷ map mark_word picks, (refl, l.choices_fit), refl),
              (ranks, x3, [], (codes "rank" ∷ map mark_word ranks, (refl, l.ranks_fit), refl), ((refl, (refl, (refl, l.states_fit))), sym is, refl), refl),
              refl,
            ),
            refl,
          ),
          are,
        )

-- ---- a node

key_of : (key : List ℕ) → List ℕ → Bool
key_of key l = begins key (words l)

abbrev nested : HeadData → Reader Node
nested h = peek (key_of (codes "split")) (split_at h) (peek (key_of (codes "accept")) (accept_at h) (peek (key_of (codes "reject")) (reject_at h) unknown_at))

chosen : {A : Type 0} → Bool → A → A → A
chosen b x y = elim b [ true ↦ x | false ↦ y ]

peek_ok : {A : Type 0} (test : List ℕ → Bool) (here other : Reader A) (c : Cursor) (l : List ℕ × Cursor) → due c ≡ Ok l → peek test here other c ≡ chosen (test l.0) (here c) (other c)
unfolding chosen
peek_ok test here other c l e = ap (λ (r : Result (List ℕ × Cursor) TextError). r >>= λ l. elim (test l.0) [ true ↦ here c | false ↦ other c ]) e

-- the node whose first line is due, in the first version and in the second one
abbrev first_at : HeadData → Reader Node
first_at h c = due c >>= λ l. node_by h (words l.0) c

abbrev second_at : HeadData → Reader Node
second_at h c = due c >>= λ l. second_by h (words l.0) c

same_node : (h : HeadData) (c : Cursor) → nested h c ≡ first_at h c
unfolding node_by key_of chosen
same_node h c = by_due (due c) refl
  where
    by_due : (r : Result (List ℕ × Cursor) TextError) → due c ≡ r → nested h c ≡ first_at h c
    by_due (Ok l) e =
        let third : peek (key_of (codes "reject")) (reject_at h) unknown_at c ≡ chosen (key_of (codes "reject") l.0) (reject_at h c) (unknown_at c) = peek_ok (key_of (codes "reject")) (reject_at h) unknown_at c l e in
        let second = peek_ok (key_of (codes "accept")) (accept_at h) (peek (key_of (codes "reject")) (reject_at h) unknown_at) c l e ∙ ap (λ x. chosen (key_of (codes "accept") l.0) (accept_at h c) x) third in
        peek_ok (key_of (codes "split")) (split_at h) (peek (key_of (codes "accept")) (accept_at h) (peek (key_of (codes "reject")) (reject_at h) unknown_at)) c l e
        ∙ ap (λ x. chosen (key_of (codes "split") l.0) (split_at h c) x) second
        ∙ sym (ap (λ (r : Result (List ℕ × Cursor) TextError). r >>= λ l. node_by h (words l.0) c) e)
    by_due (Err x) e = rw e refl

-- a line of those words, which begin with another word than the key
begins_other : (key : List ℕ) (first : List ℕ) (rest : Words) (more ls : Lines) → bytes_eq first key ≡ false → IsLine (first ∷ rest) → ls ≡ line (first ∷ rest) ∷ more → Begins (key_of key) false ls
unfolding key_of
begins_other key first rest more ls e l is = subst (λ t. Begins (λ y. begins key (words y)) false t) (sym is) (begins_words (begins key) false (first ∷ rest) more l e)

begins_same : (key : List ℕ) (first : List ℕ) (rest : Words) (more ls : Lines) → bytes_eq first key ≡ true → IsLine (first ∷ rest) → ls ≡ line (first ∷ rest) ∷ more → Begins (key_of key) true ls
unfolding key_of
begins_same key first rest more ls e l is = subst (λ t. Begins (λ y. begins key (words y)) true t) (sym is) (begins_words (begins key) true (first ∷ rest) more l e)

split_is_line : (h : HeadData) (axis : ℕ) → HeadForm h → axis < length h.asked.model.names → IsLine (number_words (codes "split") axis)
split_is_line h axis k low = number_line (codes "split") axis (key_fits 22 (codes "split") refl refl) (omega (arith, low, k.declared.few))

accept_is_line : (h : HeadData) (x : List ℤ) → HeadForm h → AreVector h x → IsLine (numbers_words (codes "accept") x)
accept_is_line h x k v = values_line (codes "accept") (length h.asked.model.states) h.asked.w x (key_fits 14 (codes "accept") refl refl) (omega (arith, k.states.1)) (precise h k) v

unknown_is_line : IsLine (codes "unknown" ∷ [])
unknown_is_line = is_line 10 (codes "unknown" ∷ []) (omega arith) (key_fits 10 (codes "unknown") refl refl, tt) (omega arith)

pub inverts_same : {A : Type 0} {Next : List ℕ → Type 0} {S : A → Lines → Type 0} {read other : Reader A} → ((c : Cursor) → read c ≡ other c) → Inverts Next S read → Inverts Next S other
inverts_same same h = record {
  takes = λ n m text rest x e. h.takes n m text rest x (same (n, text) ∙ e);
  again = λ n x ls rest s goes. sym (same (n, concat ls ++ rest)) ∙ h.again n x ls rest s goes;
  short = λ n x ls front back s e some. sym (same (n, front)) ∙ h.short n x ls front back s e some;
  stops = λ n x ls more s p. elim (h.stops n x ls more s p) [ inl e ↦ inl (sym (same (n, concat ls ++ more)) ∙ e) | inr e ↦ inr (sym (same (n, concat ls ++ more)) ∙ e) ];
  feeds = h.feeds;
}

AllLines : HeadData → Node → Lines → Type 0
AllLines h node ls = SplitLines h node ls ⊎ (AcceptLines h node ls ⊎ (RejectLines h node ls ⊎ UnknownLines node ls))

inverts_nested : (h : HeadData) → HeadForm h → Inverts Anything (AllLines h) (nested h)
unfolding AllLines SplitLines AcceptLines UnknownLines
inverts_nested h k =
    inverts_peek (key_of (codes "split")) (inverts_split h k)
    (inverts_peek (key_of (codes "accept")) (inverts_accept h k)
    (inverts_peek (key_of (codes "reject")) (inverts_reject h k) inverts_unknown
    (λ node ls (e, kk, y, picks, ranks, _, are, l). opens_first Anything (begins_same (codes "reject") (codes "reject") (codes "e" ∷ decimal e ∷ codes "k" ∷ decimal kk ∷ codes "m" ∷ decimal (e * kk) ∷ codes "b" ∷ (signed_decimal (number y h.asked.model.init) ++ 47 ∷ decimal (2 ^ h.asked.w)) ∷ []) (line (numbers_words (codes "y") y) ∷ line (codes "choice" ∷ map mark_word picks) ∷ line (codes "rank" ∷ map mark_word ranks) ∷ []) ls refl (reject_is_line h e kk y k l.vector l.e_low l.k_low) are))
    (λ node ls (_, are). opens_first Anything (begins_other (codes "reject") (codes "unknown") [] [] ls refl unknown_is_line are)))
    (λ node ls (x, _, are, v). opens_first Anything (begins_same (codes "accept") (codes "accept") (map signed_decimal x) [] ls refl (accept_is_line h x k v) are))
    (λ node ls s. elim s [
      | inl (e, kk, y, picks, ranks, _, are, l) ↦ opens_first Anything (begins_other (codes "accept") (codes "reject") (codes "e" ∷ decimal e ∷ codes "k" ∷ decimal kk ∷ codes "m" ∷ decimal (e * kk) ∷ codes "b" ∷ (signed_decimal (number y h.asked.model.init) ++ 47 ∷ decimal (2 ^ h.asked.w)) ∷ []) (line (numbers_words (codes "y") y) ∷ line (codes "choice" ∷ map mark_word picks) ∷ line (codes "rank" ∷ map mark_word ranks) ∷ []) ls refl (reject_is_line h e kk y k l.vector l.e_low l.k_low) are)
      | inr (_, are) ↦ opens_first Anything (begins_other (codes "accept") (codes "unknown") [] [] ls refl unknown_is_line are)
    ]))
    (λ node ls (axis, _, are, low). opens_first Anything (begins_same (codes "split") (codes "split") (decimal axis ∷ []) [] ls refl (split_is_line h axis k low) are))
    (λ node ls s. elim s [
      | inl (x, _, are, v) ↦ opens_first Anything (begins_other (codes "split") (codes "accept") (map signed_decimal x) [] ls refl (accept_is_line h x k v) are)
      | inr (inl (e, kk, y, picks, ranks, _, are, l)) ↦ opens_first Anything (begins_other (codes "split") (codes "reject") (codes "e" ∷ decimal e ∷ codes "k" ∷ decimal kk ∷ codes "m" ∷ decimal (e * kk) ∷ codes "b" ∷ (signed_decimal (number y h.asked.model.init) ++ 47 ∷ decimal (2 ^ h.asked.w)) ∷ []) (line (numbers_words (codes "y") y) ∷ line (codes "choice" ∷ map mark_word picks) ∷ line (codes "rank" ∷ map mark_word ranks) ∷ []) ls refl (reject_is_line h e kk y k l.vector l.e_low l.k_low) are)
      | inr (inr (_, are)) ↦ opens_first Anything (begins_other (codes "split") (codes "unknown") [] [] ls refl unknown_is_line are)
    ])

-- ---- the forms of nodes, in the words of certificates

vector_numbers : (k : CaseData) (zs : List ℤ) → AreValues (length k.model.states) k.w zs → AreNumbers k zs
vector_numbers k zs v = record { size = v.size; range = All-from_recursion (λ z. (pos 0 ≤ℤ z) × (z ≤ℤ pos (2 ^ k.w))) zs (each zs v.range) }
  where
    one : (z : ℤ) → is_value k.w z ≡ true → (pos 0 ≤ℤ z) × (z ≤ℤ pos (2 ^ k.w))
    one (pos n) e = let low = leb-true n (2 ^ k.w) e in (omega (arith, ints), omega (arith, ints, low))
    one (negsuc n) e = absurd cc

    each : (zs : List ℤ) → list_all (is_value k.w) zs ≡ true → AllByRecursion (λ z. (pos 0 ≤ℤ z) × (z ≤ℤ pos (2 ^ k.w))) zs
    each [] e = tt
    each (z ∷ zs) e = let b = and_both (is_value k.w z) (list_all (is_value k.w) zs) e in (one z b.0, each zs b.1)

numbers_vector : (k : CaseData) (zs : List ℤ) → AreNumbers k zs → AreValues (length k.model.states) k.w zs
numbers_vector k zs v = record { size = v.size; range = each zs (recursion_from_All (λ z. (pos 0 ≤ℤ z) × (z ≤ℤ pos (2 ^ k.w))) zs v.range) }
  where
    one : (z : ℤ) → (pos 0 ≤ℤ z) × (z ≤ℤ pos (2 ^ k.w)) → is_value k.w z ≡ true
    one (pos n) h = le-leb n (2 ^ k.w) (omega (arith, ints, h.1))
    one (negsuc n) h = absurd (omega (arith, ints, h.0))

    each : (zs : List ℤ) → AllByRecursion (λ z. (pos 0 ≤ℤ z) × (z ≤ℤ pos (2 ^ k.w))) zs → list_all (is_value k.w) zs ≡ true
    each [] h = refl
    each (z ∷ zs) h = rw (one z h.0, each zs h.1) refl

form_reject : (h : HeadData) (e k : ℕ) (y : List ℤ) (picks ranks : List ℕ) → RejectForm h e k y picks ranks → IsReject h.asked (reported e k y picks ranks)
form_reject h e k y picks ranks f = record {
  numbers = vector_numbers h.asked y f.vector;
  picks = f.choices_fit;
  ranks = f.ranks_fit;
  rate = (omega (arith, f.e_low), f.k_some, omega (arith, f.k_low));
  places = f.states_fit;
}

reject_form : (h : HeadData) (r : RejectData) → IsReject h.asked r → RejectForm h r.e r.k r.numbers r.picks r.ranks
reject_form h r f = record {
  e_low = omega (arith, f.rate.0);
  k_some = f.rate.1;
  k_low = omega (arith, f.rate.2);
  vector = numbers_vector h.asked r.numbers f.numbers;
  choices_fit = f.picks;
  ranks_fit = f.ranks;
  states_fit = f.places;
}

-- ---- a decided leaf behind the line of its precision

-- no line may stand there
abbrev Never : Node → Lines → Type 0
Never node ls = ⊥

refused : Reader Node
refused c = fault c.0 Syntax

inverts_refused : Inverts Anything Never refused
unfolding refused
inverts_refused = record { takes = λ n m text rest x e. absurd cc; again = λ n x ls rest s _. absurd s; short = λ n x ls front back s e some. absurd s; stops = λ n x ls more s p. absurd s; feeds = λ x ls s. absurd s }

abbrev nested_leaf : HeadData → Reader Node
nested_leaf h = peek (key_of (codes "accept")) (accept_at h) (peek (key_of (codes "reject")) (reject_at h) refused)

-- the decided leaf whose line is due
abbrev decided_at : HeadData → Reader Node
decided_at h c = due c >>= λ l. decided_by h (words l.0) c

same_leaf : (h : HeadData) (c : Cursor) → nested_leaf h c ≡ decided_at h c
unfolding decided_by key_of chosen refused
same_leaf h c = by_due (due c) refl
  where
    by_due : (r : Result (List ℕ × Cursor) TextError) → due c ≡ r → nested_leaf h c ≡ decided_at h c
    by_due (Ok l) e =
        let second = peek_ok (key_of (codes "reject")) (reject_at h) refused c l e in
        peek_ok (key_of (codes "accept")) (accept_at h) (peek (key_of (codes "reject")) (reject_at h) refused) c l e
        ∙ ap (λ x. chosen (key_of (codes "accept") l.0) (accept_at h c) x) second
        ∙ sym (ap (λ (r : Result (List ℕ × Cursor) TextError). r >>= λ l. decided_by h (words l.0) c) e)
    by_due (Err x) e = rw e refl

DecidedLines : HeadData → Node → Lines → Type 0
DecidedLines h node ls = AcceptLines h node ls ⊎ (RejectLines h node ls ⊎ Never node ls)

reject_more : List ℤ → List ℕ → List ℕ → Lines
reject_more y picks ranks = line (numbers_words (codes "y") y) ∷ line (codes "choice" ∷ map mark_word picks) ∷ line (codes "rank" ∷ map mark_word ranks) ∷ []

reject_rest : HeadData → ℕ → ℕ → List ℤ → Words
reject_rest h e k y = codes "e" ∷ decimal e ∷ codes "k" ∷ decimal k ∷ codes "m" ∷ decimal (e * k) ∷ codes "b" ∷ (signed_decimal (number y h.asked.model.init) ++ 47 ∷ decimal (2 ^ h.asked.w)) ∷ []

inverts_decided : (h : HeadData) → HeadForm h → Inverts Anything (DecidedLines h) (decided_at h)
unfolding DecidedLines AcceptLines reject_rest reject_more
inverts_decided h k =
    inverts_same (same_leaf h)
    (inverts_peek (key_of (codes "accept")) (inverts_accept h k)
    (inverts_peek (key_of (codes "reject")) (inverts_reject h k) inverts_refused
    (λ node ls (e, kk, y, picks, ranks, _, are, l). opens_first Anything (begins_same (codes "reject") (codes "reject") (reject_rest h e kk y) (reject_more y picks ranks) ls refl (reject_is_line h e kk y k l.vector l.e_low l.k_low) are))
    (λ node ls bad. absurd bad))
    (λ node ls (x, _, are, v). opens_first Anything (begins_same (codes "accept") (codes "accept") (map signed_decimal x) [] ls refl (accept_is_line h x k v) are))
    (λ node ls s. elim s [
      | inl (e, kk, y, picks, ranks, _, are, l) ↦ opens_first Anything (begins_other (codes "accept") (codes "reject") (reject_rest h e kk y) (reject_more y picks ranks) ls refl (reject_is_line h e kk y k l.vector l.e_low l.k_low) are)
      | inr bad ↦ absurd bad
    ]))

-- a head at a precision of its range
at_form : (h : HeadData) (u : ℕ) → HeadForm h → unwrap_or h.from u ≤ u → 1 ≤ u → u ≤ h.asked.w → HeadForm (at_precision u h)
at_form h u k low some high = record {
  declared = k.declared;
  common = k.common;
  states = k.states;
  init = k.init;
  goals = k.goals;
  rows = k.rows;
  bound = k.bound;
  w = (some, omega (arith, high, k.w.1));
  range = (k.range.0, low);
  depth = k.depth;
  grid = k.grid;
  box = k.box;
}

-- the least precision is at least 1, and so is each one of the range
at_some : (from : Option ℕ) (w u : ℕ) → 1 ≤ unwrap_or from 1 → 1 ≤ w → unwrap_or from w ≤ u → (1 ≤ u) × (unwrap_or from u ≤ u)
at_some None w u some low least = (omega (arith, low, least), omega arith)
at_some (Some v) w u some low least = (omega (arith, some, least), least)

ReportedLines : HeadData → Node → Lines → Type 0
ReportedLines h = Then (NumberLine (codes "at") (least_precision h) (h.asked.w + 1)) (λ u. DecidedLines (at_precision u h))

inverts_reported : (h : HeadData) → HeadForm h → Inverts Anything (ReportedLines h) (reported_at h)
unfolding reported_at ReportedLines
inverts_reported h k =
    inverts_pass (number_step (codes "at") (least_precision h) (h.asked.w + 1) (omega (arith, k.w.1)) (key_fits 22 (codes "at") refl refl)) (λ u ls (ws, (is, low, high), one).
    let ranged = at_some h.from h.asked.w u k.range.0 k.w.0 low in inverts_decided (at_precision u h) (at_form h u k ranged.1 ranged.0 (omega (arith, high))))

-- ---- a node in the second version

abbrev nested_second : HeadData → Reader Node
nested_second h = peek (key_of (codes "split")) (split_at h) (peek (key_of (codes "at")) (reported_at h) unknown_at)

same_second : (h : HeadData) (c : Cursor) → nested_second h c ≡ second_at h c
unfolding second_by key_of chosen
same_second h c = by_due (due c) refl
  where
    by_due : (r : Result (List ℕ × Cursor) TextError) → due c ≡ r → nested_second h c ≡ second_at h c
    by_due (Ok l) e =
        let second = peek_ok (key_of (codes "at")) (reported_at h) unknown_at c l e in
        peek_ok (key_of (codes "split")) (split_at h) (peek (key_of (codes "at")) (reported_at h) unknown_at) c l e
        ∙ ap (λ x. chosen (key_of (codes "split") l.0) (split_at h c) x) second
        ∙ sym (ap (λ (r : Result (List ℕ × Cursor) TextError). r >>= λ l. second_by h (words l.0) c) e)
    by_due (Err x) e = rw e refl

SecondLines : HeadData → Node → Lines → Type 0
SecondLines h node ls = SplitLines h node ls ⊎ (ReportedLines h node ls ⊎ UnknownLines node ls)

at_is_line : (h : HeadData) (u : ℕ) → HeadForm h → u < h.asked.w + 1 → IsLine (number_words (codes "at") u)
at_is_line h u k low = number_line (codes "at") u (key_fits 22 (codes "at") refl refl) (omega (arith, low, k.w.1))

-- the first of the lines
reported_first : (u : ℕ) (first last ls : Lines) (ws : Words) → ws ≡ number_words (codes "at") u → first ≡ line ws ∷ [] → ls ≡ first ++ last → ls ≡ line (number_words (codes "at") u) ∷ last
reported_first u first last ls ws is one whole = whole ∙ ap (λ t. t ++ last) (one ∙ ap (λ t. line t ∷ []) is)

inverts_second : (h : HeadData) → HeadForm h → Inverts Anything (SecondLines h) (second_at h)
unfolding SecondLines SplitLines ReportedLines UnknownLines
inverts_second h k =
    inverts_same (same_second h)
    (inverts_peek (key_of (codes "split")) (inverts_split h k)
    (inverts_peek (key_of (codes "at")) (inverts_reported h k) inverts_unknown
    (λ node ls (u, first, last, (ws, (is, low, high), one), _, whole). opens_first Anything (begins_same (codes "at") (codes "at") (decimal u ∷ []) last ls refl (at_is_line h u k high) (reported_first u first last ls ws is one whole)))
    (λ node ls (_, are). opens_first Anything (begins_other (codes "at") (codes "unknown") [] [] ls refl unknown_is_line are)))
    (λ node ls (axis, _, are, low). opens_first Anything (begins_same (codes "split") (codes "split") (decimal axis ∷ []) [] ls refl (split_is_line h axis k low) are))
    (λ node ls s. elim s [
      | inl (u, first, last, (ws, (is, low, high), one), _, whole) ↦ opens_first Anything (begins_other (codes "split") (codes "at") (decimal u ∷ []) last ls refl (at_is_line h u k high) (reported_first u first last ls ws is one whole))
      | inr (_, are) ↦ opens_first Anything (begins_other (codes "split") (codes "unknown") [] [] ls refl unknown_is_line are)
    ]))

-- a node of the second version, as its lines tell it
reported_node : (h : HeadData) (v u : ℕ) (node : Node) (last ls : Lines) → h.from ≡ Some v → least_precision h ≤ u → u < h.asked.w + 1 → ls ≡ line (number_words (codes "at") u) ∷ last → DecidedLines (at_precision u h) node last → NodeLines h node ls
unfolding DecidedLines AcceptLines
reported_node h v u node last ls from low high are (inl (x, is, same, vector)) =
    subst (λ y. NodeLines h y ls) (sym is)
    (are ∙ ap (λ t. line (number_words (codes "at") u) ∷ t) same ∙ ap (λ f. at_lines f u ++ line (numbers_words (codes "accept") x) ∷ []) (sym from), ((low, omega (arith, high)), vector_numbers (at_precision u h).asked x vector))
reported_node h v u node last ls from low high are (inr (inl (e, k, y, picks, ranks, is, same, form))) =
    subst (λ z. NodeLines h z ls) (sym is)
    (are ∙ ap (λ t. line (number_words (codes "at") u) ∷ t) same ∙ ap (λ f. node_lines f h.asked.model.init (reject u (reported e k y picks ranks))) (sym from), ((low, omega (arith, high)), form_reject (at_precision u h) e k y picks ranks form))
reported_node h v u node last ls from low high are (inr (inr bad)) = absurd bad

second_node : (h : HeadData) (v : ℕ) (node : Node) (ls : Lines) → h.from ≡ Some v → SecondLines h node ls → NodeLines h node ls
unfolding SecondLines SplitLines ReportedLines UnknownLines
second_node h v node ls from (inl (axis, is, are, low)) = subst (λ y. NodeLines h y ls) (sym is) (are, low)
second_node h v node ls from (inr (inl (u, first, last, (ws, (is, low, high), one), decided, whole))) = reported_node h v u node last ls from low high (reported_first u first last ls ws is one whole) decided
second_node h v node ls from (inr (inr (is, are))) = subst (λ y. NodeLines h y ls) (sym is) (are, tt)

node_second : (h : HeadData) (v : ℕ) (node : Node) (ls : Lines) → h.from ≡ Some v → NodeLines h node ls → SecondLines h node ls
unfolding SecondLines SplitLines ReportedLines UnknownLines DecidedLines AcceptLines
node_second h v (split axis) ls from (are, low) = inl (axis, refl, are, low)
node_second h v (accept u x) ls from (are, (ranged, numbers)) =
    inr (inl (
      u,
      line (number_words (codes "at") u) ∷ [],
      line (numbers_words (codes "accept") x) ∷ [],
      (number_words (codes "at") u, (refl, ranged.0, omega (arith, ranged.1)), refl),
      inl (x, refl, refl, numbers_vector (at_precision u h).asked x numbers),
      are ∙ ap (λ f. node_lines f h.asked.model.init (accept u x)) from,
    ))
node_second h v (reject u r) ls from (are, (ranged, form)) =
    inr (inl (
      u,
      line (number_words (codes "at") u) ∷ [],
      node_lines None h.asked.model.init (reject u r),
      (number_words (codes "at") u, (refl, ranged.0, omega (arith, ranged.1)), refl),
      inr (inl (r.e, r.k, r.numbers, r.picks, r.ranks, refl, refl, reject_form (at_precision u h) r form)),
      are ∙ ap (λ f. node_lines f h.asked.model.init (reject u r)) from,
    ))
node_second h v unknown ls from (are, _) = inr (inr (refl, are))

-- ---- a node

-- in the first version the only precision is the greatest
pub only_precision : (h : HeadData) (u : ℕ) → h.from ≡ None → IsPrecision h u → u ≡ h.asked.w
only_precision h u from ranged = let least : least_precision h ≡ h.asked.w = ap (λ f. unwrap_or f h.asked.w) from in omega (arith, least, ranged.0, ranged.1)

first_node : (h : HeadData) (node : Node) (ls : Lines) → h.from ≡ None → AllLines h node ls → NodeLines h node ls
unfolding AllLines SplitLines AcceptLines UnknownLines
first_node h node ls from (inl (axis, is, are, low)) = subst (λ y. NodeLines h y ls) (sym is) (are, low)
first_node h node ls from (inr (inl (x, is, are, v))) =
    let least : least_precision h ≡ h.asked.w = ap (λ f. unwrap_or f h.asked.w) from in
    subst (λ y. NodeLines h y ls) (sym is) (are ∙ ap (λ f. node_lines f h.asked.model.init (accept h.asked.w x)) (sym from), ((omega (arith, least), omega arith), vector_numbers h.asked x v))
first_node h node ls from (inr (inr (inl (e, kk, y, picks, ranks, is, are, l)))) =
    let least : least_precision h ≡ h.asked.w = ap (λ f. unwrap_or f h.asked.w) from in
    subst (λ y. NodeLines h y ls) (sym is) (are ∙ ap (λ f. node_lines f h.asked.model.init (reject h.asked.w (reported e kk y picks ranks))) (sym from), ((omega (arith, least), omega arith), form_reject h e kk y picks ranks l))
first_node h node ls from (inr (inr (inr (is, are)))) = subst (λ y. NodeLines h y ls) (sym is) (are, tt)

node_first : (h : HeadData) (node : Node) (ls : Lines) → h.from ≡ None → NodeLines h node ls → AllLines h node ls
unfolding AllLines SplitLines AcceptLines UnknownLines
node_first h (split axis) ls from (are, low) = inl (axis, refl, are, low)
node_first h (accept u x) ls from (are, (ranged, numbers)) =
    let same = only_precision h u from ranged in
    inr (inl (x, ap (λ t. accept t x) same, are ∙ ap (λ f. node_lines f h.asked.model.init (accept u x)) from, subst (λ t. AreValues (length h.asked.model.states) t x) same (numbers_vector (at_precision u h).asked x numbers)))
node_first h (reject u r) ls from (are, (ranged, form)) =
    let same = only_precision h u from ranged in
    inr (inr (inl (r.e, r.k, r.numbers, r.picks, r.ranks, ap (λ t. reject t r) same, are ∙ ap (λ f. node_lines f h.asked.model.init (reject u r)) from ∙ ap (λ t. node_lines None h.asked.model.init (reject t r)) same, reject_form h r (subst (λ t. IsReject (at_precision t h).asked r) same form))))
node_first h unknown ls from (are, _) = inr (inr (inr (refl, are)))

pub inverts_node : (h : HeadData) → HeadForm h → Inverts Anything (NodeLines h) (node_at h)
unfolding node_at
inverts_node h k = by h.from refl
  where
    by : (from : Option ℕ) → h.from ≡ from → Inverts Anything (NodeLines h) (λ c. due c >>= λ l. node_in h from (words l.0) c)
    by None is = inverts_so (inverts_same (same_node h) (inverts_nested h k)) (NodeLines h) (λ node ls s. first_node h node ls is s) (λ node ls s. node_first h node ls is s)
    by (Some v) is = inverts_so (inverts_second h k) (NodeLines h) (λ node ls s. second_node h v node ls is s) (λ node ls s. node_second h v node ls is s)
