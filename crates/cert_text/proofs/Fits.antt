-- Each line of a report is short, and its words hold no space and no line feed.
use Rattle.std.proofs.Common.{◌≡◌, ℕ, suc, ◌+◌, ◌*◌, ◌^◌, ◌<◌, ◌≤◌, Bool, true, false, cond, not, ◌&&◌, ◌||◌, List, [], ◌∷◌, length, map, refl, sym, ap, ◌∙◌, arith}
use Rattle.std.specs.Prelude.{ℤ, pos, negsuc, unsigned_abs, codes, ◌==◌, nat_le, bit_or}
use Rattle.std.specs.List.{AllByRecursion, list_all}
use Rattle.std.specs.Char.{is_ascii_digit}
use Rattle.std.specs.Fmt.{decimal, signed_decimal}
use Rattle.std.proofs.lemmas.Bool.{leb-true}
use Rattle.std.specs.Bool.{Decides}
use Rattle.std.proofs.lemmas.Bool.Decides.{Decides-eqb}
use Rattle.std.proofs.lemmas.List.{length-append}
use Rattle.lift_grid.specs.Rectangle.{Spans, sides_of}
use Rattle.lift_model.specs.declared.kind.Kind.{Kind}
use Rattle.lift_model.specs.declared.kind.Kind.TheVariants.{Dtmc, Mdp}
use Rattle.lift_model.specs.declared.entry.Entry.{Entry}
use Rattle.lift_cert.specs.declared.bound.Bound.{Bound}
use Rattle.corner_lift.specs.Certificate.{unmarked}
use Rattle.cert_text.specs.Report.{kind_name, kind_words, version_words, number_words, numbers_words, parameters_words, goal_words, goal_states, row_words, entry_words, term_word, bound_words, box_words, mark_word}
use Rattle.lift_bytes.specs.Bytes.{begins_name}
use Rattle.cert_text.specs.Forms.{AreMarks}
use Rattle.lift_bytes.specs.Bytes.{is_name}
use Rattle.line_text.specs.Reading.{is_feed}
use Rattle.line_text.specs.Parts.{Words}
use Rattle.cert_text.specs.Lines.{is_value}
use Rattle.cert_text.proofs.CutLines.{IsPlain, IsWord, IsLine, every_append}
use Rattle.cert_text.proofs.NumberWords.{signed_word, signed_len, join_len}
use Rattle.cert_text.proofs.FirstLines.{Ascending, AreTerms, AreDeclared, AreGoals, Named, goal_asc, asc_len, map_len}
use Rattle.cert_text.proofs.LaterLines.{IsEntryLine, IsBoundText, AreBoxed, IsBox, sides_len, AreValues, AreEnds, marks_low, marks_len, said}

-- a word of at most that length
pub record Fits (k : ℕ) (w : List ℕ) : Type 0 where
  pub word : IsWord w
  pub len : length w ≤ k

words_of : (k : ℕ) (ws : Words) → AllByRecursion (Fits k) ws → AllByRecursion IsWord ws
words_of k [] h = tt
words_of k (w ∷ ws) h = (h.0.word, words_of k ws h.1)

lens_of : (k : ℕ) (ws : Words) → AllByRecursion (Fits k) ws → AllByRecursion (λ w. length w ≤ k) ws
lens_of k [] h = tt
lens_of k (w ∷ ws) h = (h.0.len, lens_of k ws h.1)

pub is_line : (k : ℕ) (ws : Words) → 0 < length ws → AllByRecursion (Fits k) ws → length ws * suc k ≤ 2 ^ 20 → IsLine ws
is_line k ws some h short = record { some = some; words = words_of k ws h; short = omega (arith, join_len ws k (lens_of k ws h), short) }

plain_by : (a b : Bool) → (not a && not b) ≡ true → (a ≡ false) × (b ≡ false)
plain_by true b e = absurd cc
plain_by false true e = absurd cc
plain_by false false e = (refl, refl)

pub and_both : (a b : Bool) → (a && b) ≡ true → (a ≡ true) × (b ≡ true)
and_both true b e = (refl, e)
and_both false b e = absurd cc

pub word_from : (w : List ℕ) → list_all (λ b. not (b == 32) && not (is_feed b)) w ≡ true → IsWord w
word_from [] e = tt
word_from (b ∷ w) e = let h = and_both (not (b == 32) && not (is_feed b)) (list_all (λ b. not (b == 32) && not (is_feed b)) w) e in (plain_by (b == 32) (is_feed b) h.0, word_from w h.1)

-- a word that is written out
pub key_fits : (k : ℕ) (w : List ℕ) → list_all (λ b. not (b == 32) && not (is_feed b)) w ≡ true → nat_le (length w) k ≡ true → Fits k w
key_fits k w e f = record { word = word_from w e; len = leb-true (length w) k f }

pub signed_fits : (k : ℕ) (z : ℤ) → unsigned_abs z < 10 ^ suc k → unsigned_abs z < 10 ^ 64 → Fits (suc (suc k)) (signed_decimal z)
signed_fits k z h small = record { word = signed_word z small; len = signed_len k z h small }

pub decimal_fits : (k : ℕ) (n : ℕ) → n < 10 ^ suc k → n < 10 ^ 64 → Fits (suc (suc k)) (decimal n)
decimal_fits k n h small = signed_fits k (pos n) h small

-- ---- the head

pub version_line : (second : Bool) → IsLine (version_words second)
version_line true = is_line 10 (version_words true) (omega arith) (key_fits 10 (codes "plift") refl refl, (key_fits 10 (codes "2") refl refl, tt)) (omega arith)
version_line false = is_line 10 (version_words false) (omega arith) (key_fits 10 (codes "plift") refl refl, (key_fits 10 (codes "1") refl refl, tt)) (omega arith)

kind_fits : (kind : Kind) → Fits 10 (kind_name kind)
kind_fits Dtmc = key_fits 10 (codes "dtmc") refl refl
kind_fits Mdp = key_fits 10 (codes "mdp") refl refl

pub kind_line : (kind : Kind) → IsLine (kind_words kind)
kind_line kind = is_line 10 (kind_words kind) (omega arith) (key_fits 10 (codes "kind") refl refl, (kind_fits kind, tt)) (omega arith)

-- a word of at most 10 bytes and a number below 2 ^ 62 + 1
pub number_line : (key : List ℕ) (n : ℕ) → Fits 22 key → n < 10 ^ 20 → IsLine (number_words key n)
number_line key n f small = is_line 22 (number_words key n) (omega arith) (f, (wide, tt)) (omega arith)
  where
    wide : Fits 22 (decimal n)
    wide = let d = decimal_fits 19 n small (omega arith) in record { word = d.word; len = omega (arith, d.len) }

name_byte : (b : ℕ) → (begins_name b || is_ascii_digit b) ≡ true → IsPlain b
name_byte b e = (other b 32 e refl, other b 10 e refl)
  where
    other : (b k : ℕ) → (begins_name b || is_ascii_digit b) ≡ true → (begins_name k || is_ascii_digit k) ≡ false → (b == k) ≡ false
    other b k e f = by_test (b == k) (Decides-eqb b k)
      where
        by_test : (t : Bool) → Decides t (b ≡ k) → t ≡ false
        by_test true d = let same = d.0 refl in let g : true ≡ false = sym e ∙ ap (λ x. begins_name x || is_ascii_digit x) same ∙ f in absurd (cc)
        by_test false d = refl

names_fit : (before names : Words) → AllByRecursion (λ n. is_name n ≡ true) names → Named before names → AllByRecursion (Fits 64) names
names_fit before [] h g = tt
names_fit before (n ∷ names) h g = (record { word = name_word n h.0; len = g.1 }, names_fit (n ∷ before) names h.1 g.2)
  where
    name_bytes : (w : List ℕ) → list_all (λ c. begins_name c || is_ascii_digit c) w ≡ true → IsWord w
    name_bytes [] e = tt
    name_bytes (b ∷ w) e = let h = and_both (begins_name b || is_ascii_digit b) (list_all (λ c. begins_name c || is_ascii_digit c) w) e in (name_byte b h.0, name_bytes w h.1)

    or_left : (a b : Bool) → a ≡ true → (a || b) ≡ true
    or_left true b e = refl
    or_left false b e = absurd cc

    name_word : (w : List ℕ) → is_name w ≡ true → IsWord w
    name_word [] e = tt
    name_word (b ∷ w) e = let h = and_both (begins_name b) (list_all (λ c. begins_name c || is_ascii_digit c) w) e in (name_byte b (or_left (begins_name b) (is_ascii_digit b) h.0), name_bytes w h.1)

pub parameters_line : (names : Words) → AreDeclared names → IsLine (parameters_words names)
parameters_line names d =
    let count = decimal_fits 19 (length names) (omega (arith, d.few)) (omega (arith, d.few)) in
    is_line 64 (parameters_words names) (omega arith) (key_fits 64 (codes "parameters") refl refl, (record { word = count.word; len = omega (arith, count.len) }, names_fit [] names d.forms d.named)) (omega (arith, d.few))

goals_fit : (states least : ℕ) (ss : List ℕ) → states ≤ 65536 → Ascending states least ss → AllByRecursion (Fits 10) (map decimal ss)
goals_fit states least [] h asc = tt
goals_fit states least (s ∷ ss) h asc =
    let d = decimal_fits 7 s (omega (arith, asc.1, h)) (omega (arith, asc.1, h)) in
    (record { word = d.word; len = omega (arith, d.len) }, goals_fit states (s + 1) ss h asc.2)

pub goal_line : (states : ℕ) (goal : List Bool) → states ≤ 65536 → AreGoals states goal → IsLine (goal_words goal)
goal_line states goal h g =
    let ss = goal_states 0 goal in
    let asc : Ascending states 0 ss = goal_asc states 0 goal (omega (arith, g.size)) in
    let few : length ss + 0 ≤ states = asc_len states 0 ss asc (omega arith) in
    let count = decimal_fits 7 (length ss) (omega (arith, few, h)) (omega (arith, few, h)) in
    is_line 10 (goal_words goal) (omega arith) (key_fits 10 (codes "goal") refl refl, (record { word = count.word; len = omega (arith, count.len) }, goals_fit states 0 ss h asc)) (omega (arith, few, h, map_len decimal ss))

pub row_line : (s a n : ℕ) → s < 10 ^ 8 → a < 10 ^ 8 → n < 10 ^ 8 → IsLine (row_words s a n)
row_line s a n hs ha hn = is_line 9 (row_words s a n) (omega arith) (key_fits 9 (codes "row") refl refl, (decimal_fits 7 s hs (omega arith), (decimal_fits 7 a ha (omega arith), (decimal_fits 7 n hn (omega arith), tt)))) (omega arith)

terms_fit : (parameters seen least : ℕ) (terms : List (ℕ × ℤ)) → 2 ^ parameters ≤ 2 ^ 16 → AreTerms parameters seen least terms → AllByRecursion (Fits 60) (map term_word terms)
terms_fit parameters seen least [] h t = tt
terms_fit parameters seen least ((set, c) ∷ terms) h t =
    let a = decimal_fits 7 set (omega (arith, t.1, h)) (omega (arith, t.1, h)) in
    let b = signed_fits 31 c (omega (arith, t.4)) (omega (arith, t.4)) in
    (record { word = every_append IsPlain (decimal set) (58 ∷ signed_decimal c) a.word ((refl, refl), b.word); len = omega (arith, a.len, b.len, length-append (decimal set) (58 ∷ signed_decimal c)) }, terms_fit parameters (bit_or seen set) (set + 1) terms h t.5)

pub entry_line : (states parameters : ℕ) (before : List ℕ) (e : Entry) (ws : Words) → states ≤ 65536 → 2 ^ parameters ≤ 2 ^ 16 → IsEntryLine states parameters before e ws → IsLine (entry_words e)
entry_line states parameters before e ws h p l =
    let t = decimal_fits 7 e.target (omega (arith, l.target, h)) (omega (arith, l.target, h)) in
    is_line 60 (entry_words e) (omega arith) (key_fits 60 (codes "to") refl refl, (record { word = t.word; len = omega (arith, t.len) }, terms_fit parameters 0 0 e.poly p l.terms)) (omega (arith, l.few, map_len term_word e.poly))

pub bound_line : (b : Bound) → IsBoundText b → IsLine (bound_words b)
bound_line b t =
    let x = decimal_fits 19 b.num (omega (arith, t.most, t.small)) (omega (arith, t.most, t.small)) in
    let y = decimal_fits 19 b.den (omega (arith, t.small)) (omega (arith, t.small)) in
    is_line 60 (bound_words b) (omega arith) (key_fits 60 (codes "bound") refl refl, (record { word = every_append IsPlain (decimal b.num) (47 ∷ decimal b.den) x.word ((refl, refl), y.word); len = omega (arith, x.len, y.len, length-append (decimal b.num) (47 ∷ decimal b.den)) }, tt)) (omega arith)

boxed_fit : (n : ℕ) (ss : Spans) → AreBoxed n ss → AllByRecursion (Fits 22) (map signed_decimal (sides_of ss))
boxed_fit n [] h = tt
boxed_fit n (s ∷ ss) h =
    let a = signed_fits 19 s.0 (omega (arith, h.2)) (omega (arith, h.2)) in
    let b = signed_fits 19 s.1 (omega (arith, h.4)) (omega (arith, h.4)) in
    (record { word = a.word; len = omega (arith, a.len) }, (record { word = b.word; len = omega (arith, b.len) }, boxed_fit n ss h.5))

pub box_line : (parameters depth : ℕ) (root : Spans) → parameters ≤ 16 → IsBox parameters depth root → IsLine (box_words root)
box_line parameters depth root h b = is_line 22 (box_words root) (omega arith) (key_fits 22 (codes "box") refl refl, boxed_fit (2 ^ depth) root b.spans) (omega (arith, h, b.size, sides_len root, map_len signed_decimal (sides_of root)))

-- ---- nodes

values_fit : (u : ℕ) (zs : List ℤ) → 2 ^ u ≤ 2 ^ 40 → list_all (is_value u) zs ≡ true → AllByRecursion (Fits 14) (map signed_decimal zs)
values_fit u [] h e = tt
values_fit u (z ∷ zs) h e = let b = and_both (is_value u z) (list_all (is_value u) zs) e in (one z b.0, values_fit u zs h b.1)
  where
    one : (z : ℤ) → is_value u z ≡ true → Fits 14 (signed_decimal z)
    one (pos n) e = let low = leb-true n (2 ^ u) e in signed_fits 12 (pos n) (omega (arith, low, h)) (omega (arith, low, h))
    one (negsuc n) e = absurd cc

pub values_line : (key : List ℕ) (count u : ℕ) (zs : List ℤ) → Fits 14 key → count ≤ 65536 → 2 ^ u ≤ 2 ^ 40 → AreValues count u zs → IsLine (numbers_words key zs)
values_line key count u zs f c h v = is_line 14 (numbers_words key zs) (omega arith) (f, values_fit u zs h v.range) (omega (arith, c, v.size, map_len signed_decimal zs))

marks_fit : (ends marks : List ℕ) → AreEnds ends → AreMarks ends marks → AllByRecursion (Fits 12) (map mark_word marks)
marks_fit ends marks h g = by_marks marks (marks_low ends marks h g)
  where
    one : (m : ℕ) (b : Bool) → m ≤ unmarked → Fits 12 (cond b (codes "-") (decimal m))
    one m true low = key_fits 12 (codes "-") refl refl
    one m false low = let d = decimal_fits 10 m (omega (arith, low)) (omega (arith, low)) in d

    by_marks : (marks : List ℕ) → AllByRecursion (λ m. m ≤ unmarked) marks → AllByRecursion (Fits 12) (map mark_word marks)
    by_marks [] low = tt
    by_marks (m ∷ marks) low = (one m (m == unmarked) low.0, by_marks marks low.1)

pub marks_line : (key : List ℕ) (ends marks : List ℕ) → Fits 12 key → length ends ≤ 65536 → AreEnds ends → AreMarks ends marks → IsLine (key ∷ map mark_word marks)
marks_line key ends marks f c h g = is_line 12 (key ∷ map mark_word marks) (omega arith) (f, marks_fit ends marks h g) (omega (arith, c, marks_len ends marks g, map_len mark_word marks, map_len said marks))
