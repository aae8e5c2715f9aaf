-- What the lines of entries, of the bound, of the box and of nodes say, both ways.
use Rattle.std.proofs.Common.{◌≡◌, ◌≢◌, ℕ, zero, suc, ◌+◌, ◌*◌, ◌^◌, ◌<◌, ◌≤◌, Bool, true, false, cond, not, ◌&&◌, List, [], ◌∷◌, ◌++◌, length, map, Ok, Option, Some, None, refl, sym, ap, subst, ◌∙◌, arith, inl, inr, ◌⊎◌}
use Rattle.std.specs.Prelude.{ℤ, pos, negsuc, nat_lt, nat_le, nat_eq, unsigned_abs, codes, int_lt, bit_or, ◌==◌}
use Rattle.std.specs.List.{AllByRecursion, list_any, list_all}
use Rattle.std.specs.Option.{option_map}
use Rattle.std.specs.Str.{bytes_eq}
use Rattle.std.specs.Fmt.{decimal, signed_decimal}
use Rattle.std.specs.Bool.{Decides}
use Rattle.std.proofs.lemmas.Bool.Decides.{Decides-and, Decides-eqb}
use Rattle.std.proofs.lemmas.Slice.Eq.{bytes_eq-Decides}
use Rattle.std.proofs.lemmas.Bool.{leb-true, ltb-true, le-leb, lt-ltb}
use Rattle.lift_frac.specs.Gcd.{gcd}
use Rattle.lift_grid.specs.Rectangle.{Spans, spans_of, sides_of}
use Rattle.lift_model.specs.declared.entry.Entry.{Entry}
use Rattle.lift_cert.specs.declared.bound.Bound.{Bound}
use Rattle.corner_lift.specs.Certificate.{unmarked}
use Rattle.line_text.specs.declared.error.TextCause.TheVariants.{Syntax, Limit}
use Rattle.cert_text.specs.Forms.{AreMarks}
use Rattle.cert_text.specs.Report.{numbers_words, entry_words, term_word, bound_words, box_words, mark_word}
use Rattle.line_text.specs.Words.{number_of, pair_of}
use Rattle.line_text.specs.Parts.{Words, Read}
use Rattle.cert_text.specs.Lines.{entry_of, positive, bound_in, bound_of, is_multiple, spans_in, box_of, is_value, values_of, mark_of, marks_in, marks_of}
use Rattle.cert_text.proofs.Steps.{Reads, Both, ok_is, reads_ok, reads_err, reads_spelled, reads_first, reads_single, reads_so, reads_pass, reads_test}
use Rattle.cert_text.proofs.Decimals.{number_back, number_again}
use Rattle.cert_text.proofs.Fields.{Writes, IsSmall, reads_keyed, reads_each, reads_numbers, reads_between, numbers_back, numbers_again}
use Rattle.cert_text.proofs.NumberWords.{IsNumeric, signed_numeric, pair_back, pair_again}
use Rattle.cert_text.proofs.FirstLines.{Fresh, decides_fresh, AreTerms, signed_terms, reads_terms}

-- ---- entries

no_colon : (w : List ℕ) → AllByRecursion IsNumeric w → AllByRecursion (λ x. (x == 58) ≡ false) w
no_colon [] h = tt
no_colon (b ∷ w) h = (h.0.colon, no_colon w h.1)

pub no_slash : (w : List ℕ) → AllByRecursion IsNumeric w → AllByRecursion (λ x. (x == 47) ≡ false) w
no_slash [] h = tt
no_slash (b ∷ w) h = (h.0.slash, no_slash w h.1)

terms_back : (parameters seen least : ℕ) (ws : Words) (terms : List (ℕ × ℤ)) → 2 ^ parameters ≤ 10 ^ 64 → Writes (pair_of 58) ws (signed_terms terms) → AreTerms parameters seen least terms → ws ≡ map term_word terms
terms_back parameters seen least [] [] limit h t = refl
terms_back parameters seen least [] (x ∷ terms) limit h t = absurd h
terms_back parameters seen least (w ∷ ws) [] limit h t = absurd h
terms_back parameters seen least (w ∷ ws) ((set, c) ∷ terms) limit h t =
    ap (λ y. y ∷ ws) (pair_back 58 w (pos set) c h.0 (omega (arith, t.1, limit)) (omega (arith, t.4)))
    ∙ ap (λ y. term_word (set, c) ∷ y) (terms_back parameters (bit_or seen set) (set + 1) ws terms limit h.1 t.5)

terms_again : (parameters seen least : ℕ) (terms : List (ℕ × ℤ)) → 2 ^ parameters ≤ 10 ^ 64 → AreTerms parameters seen least terms → Writes (pair_of 58) (map term_word terms) (signed_terms terms)
terms_again parameters seen least [] limit t = tt
terms_again parameters seen least ((set, c) ∷ terms) limit t =
    let small : IsSmall (pos set) = omega (arith, t.1, limit) in
    (pair_again 58 (pos set) c (no_colon (decimal set) (signed_numeric (pos set) small)) small (omega (arith, t.4)), terms_again parameters (bit_or seen set) (set + 1) terms limit t.5)

-- an entry whose target differs from those before it
pub record IsEntryLine (states parameters : ℕ) (before : List ℕ) (e : Entry) (ws : Words) : Type 0 where
  pub is : ws ≡ entry_words e
  pub target : e.target < states
  pub fresh : Fresh e.target before
  pub few : length e.poly ≤ 16
  pub terms : AreTerms parameters 0 0 e.poly

terms_len : (terms : List (ℕ × ℤ)) → length (signed_terms terms) ≡ length terms
terms_len [] = refl
terms_len (t ∷ terms) = ap suc (terms_len terms)

pub reads_entry : (states parameters : ℕ) (before : List ℕ) (ws : Words) → states ≤ 10 ^ 64 → 2 ^ parameters ≤ 10 ^ 64 → Reads (λ e. IsEntryLine states parameters before e ws) (entry_of states parameters before ws)
reads_entry states parameters before ws limit sets =
    reads_so (reads_pass (reads_keyed (codes "to") ws) (λ rest _. reads_pass (reads_first rest) (λ parts _. reads_pass (reads_spelled (number_of parts.0)) (λ z _. reads_pass (reads_each (pair_of 58) parts.1) (λ terms _.
    reads_test (nat_le (length terms) 16) Syntax (leb-true (length terms) 16, le-leb (length terms) 16) (λ _.
    reads_pass (reads_between 0 states z) (λ target _.
    reads_test (not (list_any (nat_eq target) before)) Syntax (decides_fresh nat_eq Decides-eqb target before) (λ _.
    reads_pass (reads_terms parameters 0 None terms) (λ poly _. reads_ok (record { target = target; poly = poly })))))))))
    )
    (λ e. IsEntryLine states parameters before e ws)
    (λ e (rest, is, (parts, parted, (z, number, (zs, writes, (few, (target, (z-is, low, high), (fresh, (poly, (zs-are, terms), same)))))))).
    let w : decimal target ≡ parts.0 = number_back parts.0 (pos target) (number ∙ ap (λ y. Some y) z-is) (omega (arith, high, limit)) in
    let ts : parts.1 ≡ map term_word poly = terms_back parameters 0 0 parts.1 poly sets (subst (λ y. Writes (pair_of 58) parts.1 y) zs-are writes) terms in
    subst (λ y. IsEntryLine states parameters before y ws) same
    (record {
      is = is ∙ ap (λ t. codes "to" ∷ t) parted ∙ ap (λ t. codes "to" ∷ t ∷ parts.1) (sym w) ∙ ap (λ t. codes "to" ∷ decimal target ∷ t) ts;
      target = high;
      fresh = fresh;
      few = omega (arith, few, ap length zs-are, terms_len poly);
      terms = terms;
    }))
    (λ e l.
    let small : IsSmall (pos e.target) = omega (arith, l.target, limit) in
    (decimal e.target ∷ map term_word e.poly, l.is, ((decimal e.target, map term_word e.poly), refl, (pos e.target, number_again (pos e.target) small, (signed_terms e.poly, terms_again parameters 0 0 e.poly sets l.terms, (omega (arith, l.few, terms_len e.poly), (e.target, (refl, omega arith, l.target), (l.fresh, (e.poly, (refl, l.terms), refl)))))))))

-- ---- the bound

-- a fraction in lowest terms, from 0 to 1
pub record IsBoundText (b : Bound) : Type 0 where
  pub positive : 0 < b.den
  pub lowest : gcd b.num b.den ≡ 1
  pub most : b.num ≤ b.den
  pub small : b.den < 2 ^ 32

reads_positive : (z : ℤ) → Reads (λ n. (z ≡ pos n) × (0 < n)) (positive z)
reads_positive (pos n) =
    reads_so (reads_test (nat_lt 0 n) Limit (ltb-true 0 n, lt-ltb 0 n) (λ _. reads_ok n)) (λ m. (pos n ≡ pos m) × (0 < m))
    (λ m (some, same). (ap pos same, omega (arith, some, same)))
    (λ m (is, some). let same : n ≡ m = cc in (omega arith, same))
reads_positive (negsuc n) = record { takes = λ x e. absurd cc; again = λ x t. let e : negsuc n ≡ pos x = t.0 in absurd cc }

bound_in_law : (p : ℤ × ℤ) → Reads (λ b. (p ≡ (pos b.num, pos b.den)) × IsBoundText b) (bound_in p)
bound_in_law (n, d) =
    reads_so (reads_pass (reads_between 0 (2 ^ 32) n) (λ num _. reads_pass (reads_positive d) (λ den _. reads_test (gcd num den == 1) Syntax (Decides-eqb (gcd num den) 1) (λ _.
    reads_test (nat_lt den (2 ^ 32) && nat_le num den) Limit (Decides-and (nat_lt den (2 ^ 32)) (nat_le num den) (ltb-true den (2 ^ 32), lt-ltb den (2 ^ 32)) (leb-true num den, le-leb num den)) (λ _. reads_ok (record { num = num; den = den }))))))
    (λ b. ◌≡◌ {A = ℤ × ℤ} (n, d) (pos b.num, pos b.den) × IsBoundText b)
    (λ b (num, (n_is, low, high), (den, (d_is, some), (lowest, ((small, most), same)))).
    subst (λ y. ◌≡◌ {A = ℤ × ℤ} (n, d) (pos y.num, pos y.den) × IsBoundText y) same
    (ap (λ t. (t, d)) n_is ∙ ap (λ t. (pos num, t)) d_is, record { positive = some; lowest = lowest; most = most; small = small }))
    (λ b (is, t).
    (b.num, (ap (λ p. p.0) is, omega arith, omega (arith, t.most, t.small)), (b.den, (ap (λ p. p.1) is, t.positive), (t.lowest, ((t.small, t.most), refl)))))

pub reads_bound : (ws : Words) → Reads (λ b. (ws ≡ bound_words b) × IsBoundText b) (bound_of ws)
reads_bound ws =
    reads_so (reads_pass (reads_pass (reads_keyed (codes "bound") ws) (λ rest _. reads_single rest)) (λ w _. reads_pass (reads_spelled (pair_of 47 w)) (λ p _. bound_in_law p)))
    (λ b. (ws ≡ bound_words b) × IsBoundText b)
    (λ b (w, (rest, is, one), (p, writes, (p-is, t))).
    (is ∙ ap (λ y. codes "bound" ∷ y) one ∙ ap (λ y. codes "bound" ∷ y ∷ []) (pair_back 47 w (pos b.num) (pos b.den) (writes ∙ ap (λ y. Some y) p-is) (small_num b t) (small_den b t)), t))
    (λ b (is, t).
    (decimal b.num ++ 47 ∷ decimal b.den, ((decimal b.num ++ 47 ∷ decimal b.den) ∷ [], is, refl), ((pos b.num, pos b.den), pair_again 47 (pos b.num) (pos b.den) (no_slash (decimal b.num) (signed_numeric (pos b.num) (small_num b t))) (small_num b t) (small_den b t), (refl, t))))
  where
    small_num : (b : Bound) → IsBoundText b → IsSmall (pos b.num)
    small_num b t = omega (arith, t.most, t.small)

    small_den : (b : Bound) → IsBoundText b → IsSmall (pos b.den)
    small_den b t = omega (arith, t.small)

-- ---- the box

abbrev pub AreBoxed : ℕ → Spans → Type 0
AreBoxed n [] = Unit {0}
AreBoxed n (s ∷ ss) = (int_lt s.0 s.1 ≡ true) × (is_multiple n s.0 ≡ true) × (unsigned_abs s.0 < 2 ^ 62) × (is_multiple n s.1 ≡ true) × (unsigned_abs s.1 < 2 ^ 62) × AreBoxed n ss

pub reads_spans : (n : ℕ) (ss : Spans) → Reads (λ _. AreBoxed n ss) (spans_in n ss)
reads_spans n [] = record { takes = λ _ _. tt; again = λ u _. refl }
reads_spans n (s ∷ ss) =
    reads_so (reads_test (int_lt s.0 s.1 && is_multiple n s.0) Syntax (Decides-and (int_lt s.0 s.1) (is_multiple n s.0) (λ e. e, λ e. e) (λ e. e, λ e. e)) (λ _.
    reads_test (nat_lt (unsigned_abs s.0) (2 ^ 62)) Limit (ltb-true (unsigned_abs s.0) (2 ^ 62), lt-ltb (unsigned_abs s.0) (2 ^ 62)) (λ _.
    reads_test (is_multiple n s.1) Syntax (λ e. e, λ e. e) (λ _.
    reads_test (nat_lt (unsigned_abs s.1) (2 ^ 62)) Limit (ltb-true (unsigned_abs s.1) (2 ^ 62), lt-ltb (unsigned_abs s.1) (2 ^ 62)) (λ _. reads_spans n ss)))))
    (λ _. AreBoxed n (s ∷ ss))
    (λ _ ((a, b), (c, (d, (e, f)))). (a, b, c, d, e, f))
    (λ _ (a, b, c, d, e, f). ((a, b), (c, (d, (e, f)))))

boxed_small : (n : ℕ) (ss : Spans) → AreBoxed n ss → AllByRecursion IsSmall (sides_of ss)
boxed_small n [] h = tt
boxed_small n (s ∷ ss) h = (omega (arith, h.2), (omega (arith, h.4), boxed_small n ss h.5))

pub paired : (zs : List ℤ) (k : ℕ) → length zs ≡ 2 * k → (sides_of (spans_of zs) ≡ zs) × (length (spans_of zs) ≡ k)
paired [] k e = (refl, omega (arith, e))
paired (z ∷ []) k e = absurd (omega (arith, e))
paired (z ∷ y ∷ zs) zero e = absurd (omega (arith, e))
paired (z ∷ y ∷ zs) (suc k) e = let p = paired zs k (omega (arith, e)) in (ap (λ t. z ∷ y ∷ t) p.0, ap suc p.1)

pub sides_len : (ss : Spans) → length (sides_of ss) ≡ 2 * length ss
sides_len [] = refl
sides_len (s ∷ ss) = omega (arith, sides_len ss)

spans_sides : (ss : Spans) → spans_of (sides_of ss) ≡ ss
spans_sides [] = refl
spans_sides ((a, b) ∷ ss) = ap (λ t. (a, b) ∷ t) (spans_sides ss)

pub record IsBox (parameters depth : ℕ) (root : Spans) : Type 0 where
  pub size : length root ≡ parameters
  pub spans : AreBoxed (2 ^ depth) root

pub reads_box : (parameters depth : ℕ) (ws : Words) → Reads (λ root. (ws ≡ box_words root) × IsBox parameters depth root) (box_of parameters depth ws)
reads_box parameters depth ws =
    reads_so (reads_pass (reads_numbers (codes "box") ws) (λ zs _. reads_test (length zs == 2 * parameters) Syntax (Decides-eqb (length zs) (2 * parameters)) (λ _. reads_pass (reads_spans (2 ^ depth) (spans_of zs)) (λ _ _. reads_ok (spans_of zs)))))
    (λ root. (ws ≡ box_words root) × IsBox parameters depth root)
    (λ root (zs, (rest, is, writes), (size, (_, boxed, same))).
    let p = paired zs parameters size in
    let rest-is : rest ≡ map signed_decimal (sides_of (spans_of zs)) = numbers_back rest (sides_of (spans_of zs)) (subst (λ y. Writes number_of rest y) (sym p.0) writes) (boxed_small (2 ^ depth) (spans_of zs) boxed) in
    subst (λ y. (ws ≡ box_words y) × IsBox parameters depth y) same (is ∙ ap (λ y. codes "box" ∷ y) rest-is, record { size = p.1; spans = boxed }))
    (λ root (is, b).
    (sides_of root, (map signed_decimal (sides_of root), is, numbers_again (sides_of root) (boxed_small (2 ^ depth) root b.spans)), (omega (arith, sides_len root, b.size), (tt, subst (λ y. AreBoxed (2 ^ depth) y) (sym (spans_sides root)) b.spans, spans_sides root))))

-- ---- the nodes' lines

pub record AreValues (count u : ℕ) (zs : List ℤ) : Type 0 where
  pub size : length zs ≡ count
  pub range : list_all (is_value u) zs ≡ true

value_small : (u : ℕ) (z : ℤ) → 2 ^ u < 10 ^ 64 → is_value u z ≡ true → IsSmall z
value_small u (pos n) h e = omega (arith, h, leb-true n (2 ^ u) e)
value_small u (negsuc n) h e = absurd cc

values_small : (u : ℕ) (zs : List ℤ) → 2 ^ u < 10 ^ 64 → list_all (is_value u) zs ≡ true → AllByRecursion IsSmall zs
values_small u [] h e = tt
values_small u (z ∷ zs) h e = (value_small u z h (left (is_value u z) (list_all (is_value u) zs) e), values_small u zs h (right (is_value u z) (list_all (is_value u) zs) e))
  where
    left : (a b : Bool) → (a && b) ≡ true → a ≡ true
    left true b e = refl
    left false b e = absurd cc

    right : (a b : Bool) → (a && b) ≡ true → b ≡ true
    right true b e = e
    right false b e = absurd cc

pub reads_values : (key : List ℕ) (count u : ℕ) (ws : Words) → 2 ^ u < 10 ^ 64 → Reads (λ zs. (ws ≡ numbers_words key zs) × AreValues count u zs) (values_of key count u ws)
reads_values key count u ws limit =
    reads_so (reads_pass (reads_numbers key ws) (λ zs _. reads_test (length zs == count) Syntax (Decides-eqb (length zs) count) (λ _. reads_test (list_all (is_value u) zs) Limit (λ e. e, λ e. e) (λ _. reads_ok zs))))
    (λ zs. (ws ≡ numbers_words key zs) × AreValues count u zs)
    (λ zs (ys, (rest, is, writes), (size, (range, same))).
    subst (λ y. (ws ≡ numbers_words key y) × AreValues count u y) same
    (is ∙ ap (λ t. key ∷ t) (numbers_back rest ys writes (values_small u ys limit range)), record { size = size; range = range }))
    (λ zs (is, v). (zs, (map signed_decimal zs, is, numbers_again zs (values_small u zs limit v.range)), (v.size, (v.range, refl))))

-- ends that no mark but none passes
abbrev pub AreEnds : List ℕ → Type 0
AreEnds ends = AllByRecursion (λ end. end ≤ unmarked) ends

abbrev pub said : ℕ → Option ℤ
said m = cond (m == unmarked) None (Some (pos m))

mark_back : (w : List ℕ) (o : Option ℤ) (m : ℕ) → mark_of w ≡ Some o → o ≡ said m → m ≤ unmarked → w ≡ mark_word m
mark_back w o m e s low = by_test (bytes_eq w (codes "-")) (bytes_eq-Decides w (codes "-")) (m == unmarked) (Decides-eqb m unmarked) e s
  where
    some_is : {C : Type 0} (x y : C) → Some x ≡ Some y → x ≡ y
    some_is x y e = cc

    map_some : (p : Option ℤ) (z : ℤ) → option_map (λ y. Some y) p ≡ Some (Some z) → p ≡ Some z
    map_some None z e = absurd cc
    map_some (Some y) z e = some_is (Some y) (Some z) e

    map_none : (p : Option ℤ) → option_map (λ y. Some y) p ≡ Some None → ⊥
    map_none None e = cc
    map_none (Some y) e = let f = some_is (Some y) None e in cc

    by_test : (a : Bool) → Decides a (w ≡ codes "-") → (b : Bool) → Decides b (m ≡ unmarked) → cond a (Some None) (option_map (λ y. Some y) (number_of w)) ≡ Some o → o ≡ cond b None (Some (pos m)) → w ≡ cond b (codes "-") (decimal m)
    by_test true d true f e s = d.0 refl
    by_test true d false f e s = let g : None ≡ o = some_is None o e in absurd (cc)
    by_test false d true f e s = absurd (map_none (number_of w) (e ∙ ap (λ y. Some y) s))
    by_test false d false f e s = sym (number_back w (pos m) (map_some (number_of w) (pos m) (e ∙ ap (λ y. Some y) s)) (omega (arith, low)))

decimal_dash : (m : ℕ) → m < 10 ^ 64 → bytes_eq (decimal m) (codes "-") ≡ true → ⊥
decimal_dash m small e = let is = (bytes_eq-Decides (decimal m) (codes "-")).0 e in
    let n : number_of (codes "-") ≡ Some (pos m) = ap number_of (sym is) ∙ number_again (pos m) small in cc

mark_again : (m : ℕ) → m ≤ unmarked → mark_of (mark_word m) ≡ Some (said m)
mark_again m low = by_test (m == unmarked)
  where
    other : (b : Bool) → (b ≡ true → ⊥) → cond b (Some None) (option_map (λ y. Some y) (number_of (decimal m))) ≡ Some (Some (pos m))
    other true no-way = absurd (no-way refl)
    other false no-way = rw (number_again (pos m) (omega (arith, low))) refl

    by_test : (b : Bool) → mark_of (cond b (codes "-") (decimal m)) ≡ Some (cond b None (Some (pos m)))
    by_test true = refl
    by_test false = other (bytes_eq (decimal m) (codes "-")) (decimal_dash m (omega (arith, low)))

pub marks_low : (ends marks : List ℕ) → AreEnds ends → AreMarks ends marks → AllByRecursion (λ m. m ≤ unmarked) marks
marks_low [] [] h g = tt
marks_low [] (m ∷ marks) h g = absurd g
marks_low (end ∷ ends) [] h g = absurd g
marks_low (end ∷ ends) (m ∷ marks) h g = (low g.0, marks_low ends marks h.1 g.1)
  where
    low : ((m ≡ unmarked) ⊎ (m < end)) → m ≤ unmarked
    low (inl e) = omega (arith, e)
    low (inr e) = omega (arith, e, h.0)

said_words : (ws : Words) (marks : List ℕ) → AllByRecursion (λ m. m ≤ unmarked) marks → Writes mark_of ws (map said marks) → ws ≡ map mark_word marks
said_words [] [] low h = refl
said_words [] (m ∷ marks) low h = absurd h
said_words (w ∷ ws) [] low h = absurd h
said_words (w ∷ ws) (m ∷ marks) low h = ap (λ t. t ∷ ws) (mark_back w (said m) m h.0 refl low.0) ∙ ap (λ t. mark_word m ∷ t) (said_words ws marks low.1 h.1)

said_again : (marks : List ℕ) → AllByRecursion (λ m. m ≤ unmarked) marks → Writes mark_of (map mark_word marks) (map said marks)
said_again [] low = tt
said_again (m ∷ marks) low = (mark_again m low.0, said_again marks low.1)

said_none : (m : ℕ) → said m ≡ None → m ≡ unmarked
said_none m e = by_test (m == unmarked) (Decides-eqb m unmarked) e
  where
    by_test : (b : Bool) → Decides b (m ≡ unmarked) → cond b None (Some (pos m)) ≡ None → m ≡ unmarked
    by_test true d e = d.0 refl
    by_test false d e = absurd cc

said_some : (m : ℕ) (z : ℤ) → said m ≡ Some z → (z ≡ pos m) × (m ≢ unmarked)
said_some m z e = by_test (m == unmarked) (Decides-eqb m unmarked) e
  where
    by_test : (b : Bool) → Decides b (m ≡ unmarked) → cond b None (Some (pos m)) ≡ Some z → (z ≡ pos m) × (m ≢ unmarked)
    by_test true d e = absurd cc
    by_test false d e = (cc, λ q. let f = d.1 q in cc)

said_below : (m end : ℕ) → end ≤ unmarked → m < end → said m ≡ Some (pos m)
said_below m end h low = by_test (m == unmarked) (Decides-eqb m unmarked)
  where
    by_test : (b : Bool) → Decides b (m ≡ unmarked) → cond b None (Some (pos m)) ≡ Some (pos m)
    by_test true d = absurd (omega (arith, d.0 refl, h, low))
    by_test false d = refl

reads_marks_in : (ends : List ℕ) (ms : List (Option ℤ)) → AreEnds ends → Reads (λ marks. (ms ≡ map said marks) × AreMarks ends marks) (marks_in ends ms)
reads_marks_in [] [] h = record { takes = λ x e. subst (λ y. ([] ≡ map said y) × AreMarks [] y) (ok_is [] x e) (refl, tt); again = λ x t. nothing x t.1 }
  where
    nothing : (x : List ℕ) → AreMarks [] x → ◌≡◌ {A = Read (List ℕ)} (Ok []) (Ok x)
    nothing [] g = refl
    nothing (m ∷ x) g = absurd g
reads_marks_in [] (m ∷ ms) h = reads_err (λ marks. (m ∷ ms ≡ map said marks) × AreMarks [] marks) Syntax no-way
  where
    no-way : (x : List ℕ) → (m ∷ ms ≡ map said x) × AreMarks [] x → ⊥
    no-way [] t = let e = t.0 in cc
    no-way (y ∷ x) t = t.1
reads_marks_in (end ∷ ends) [] h = reads_err (λ marks. ([] ≡ map said marks) × AreMarks (end ∷ ends) marks) Syntax no-way
  where
    no-way : (x : List ℕ) → ([] ≡ map said x) × AreMarks (end ∷ ends) x → ⊥
    no-way [] t = t.1
    no-way (y ∷ x) t = let e = t.0 in cc
reads_marks_in (end ∷ ends) (None ∷ ms) h =
    reads_so (reads_pass (reads_marks_in ends ms h.1) (λ marks _. reads_ok (unmarked ∷ marks))) (λ marks. (None ∷ ms ≡ map said marks) × AreMarks (end ∷ ends) marks)
    (λ marks (rest, (is, fit), same). subst (λ y. (None ∷ ms ≡ map said y) × AreMarks (end ∷ ends) y) same (ap (λ t. None ∷ t) is, (inl refl, fit)))
    (λ marks (is, fit). back marks is fit)
  where
    back : (marks : List ℕ) → None ∷ ms ≡ map said marks → AreMarks (end ∷ ends) marks → Both (λ (rest : List ℕ). (ms ≡ map said rest) × AreMarks ends rest) (λ rest y. unmarked ∷ rest ≡ y) marks
    back [] is fit = absurd fit
    back (m ∷ marks) is fit = let e : None ≡ said m = cc in (marks, (cc, fit.1), ap (λ y. y ∷ marks) (sym (said_none m (sym e))))
reads_marks_in (end ∷ ends) (Some z ∷ ms) h =
    reads_so (reads_pass (reads_between 0 end z) (λ m _. reads_pass (reads_marks_in ends ms h.1) (λ marks _. reads_ok (m ∷ marks)))) (λ marks. (Some z ∷ ms ≡ map said marks) × AreMarks (end ∷ ends) marks)
    (λ marks (m, (is, low, high), (rest, (are, fit), same)).
    subst (λ y. (Some z ∷ ms ≡ map said y) × AreMarks (end ∷ ends) y) same
    (ap (λ t. Some t ∷ ms) is ∙ ap (λ t. t ∷ ms) (sym (said_below m end h.0 high)) ∙ ap (λ t. said m ∷ t) are, (inr high, fit)))
    (λ marks (is, fit). back marks is fit)
  where
    lower : (m : ℕ) → ((m ≡ unmarked) ⊎ (m < end)) → (m ≢ unmarked) → m < end
    lower m (inl e) other = absurd (other e)
    lower m (inr e) other = e

    back : (marks : List ℕ) → Some z ∷ ms ≡ map said marks → AreMarks (end ∷ ends) marks → Both (λ (m : ℕ). (z ≡ pos m) × (0 ≤ m) × (m < end)) (λ m. Both (λ (rest : List ℕ). (ms ≡ map said rest) × AreMarks ends rest) (λ rest y. m ∷ rest ≡ y)) marks
    back [] is fit = absurd fit
    back (m ∷ marks) is fit = let e : Some z ≡ said m = cc in let s = said_some m z (sym e) in (m, (s.0, omega arith, lower m fit.0 s.1), (marks, (cc, fit.1), refl))

pub marks_len : (ends marks : List ℕ) → AreMarks ends marks → length (map said marks) ≡ length ends
marks_len [] [] g = refl
marks_len [] (m ∷ marks) g = absurd g
marks_len (end ∷ ends) [] g = absurd g
marks_len (end ∷ ends) (m ∷ marks) g = ap suc (marks_len ends marks g.1)

pub reads_marks : (key : List ℕ) (ends : List ℕ) (ws : Words) → AreEnds ends → Reads (λ marks. (ws ≡ key ∷ map mark_word marks) × AreMarks ends marks) (marks_of key ends ws)
reads_marks key ends ws h =
    reads_so (reads_pass (reads_pass (reads_keyed key ws) (λ rest _. reads_each mark_of rest)) (λ ms _. reads_test (length ms == length ends) Syntax (Decides-eqb (length ms) (length ends)) (λ _. reads_marks_in ends ms h)))
    (λ marks. (ws ≡ key ∷ map mark_word marks) × AreMarks ends marks)
    (λ marks (ms, (rest, is, writes), (size, (are, fit))).
    (is ∙ ap (λ t. key ∷ t) (said_words rest marks (marks_low ends marks h fit) (subst (λ t. Writes mark_of rest t) are writes)), fit))
    (λ marks (is, fit). (map said marks, (map mark_word marks, is, said_again marks (marks_low ends marks h fit)), (marks_len ends marks fit, (refl, fit))))
