-- The lines of a text, cut one by one.
use Rattle.std.proofs.Common.{None, Some, ◌≡◌, ℕ, zero, suc, ◌+◌, ◌<◌, ◌≤◌, Bool, true, false, cond, not, List, [], ◌∷◌, ◌++◌, length, take, drop, refl, sym, ap, ap₂, ◌∙◌, arith, append-nil, append_assoc, codes, nat_eq}
use Rattle.std.specs.Prelude.{min}
use Rattle.std.specs.List.{AllByRecursion, concat, onto_first, position_or_len, starts_with}
use Rattle.std.proofs.lemmas.Bool.{false_from_ne_true}
use Rattle.std.proofs.lemmas.List.Sums.{position_or_len_is}
use Rattle.memchr.specs.Find.{IsFirstByte, is_byte}
use Rattle.lift_base.specs.Lines.{feed_at, is_feed}
use Rattle.cert_text.specs.Whole.{feed_count}
use Rattle.cert_text.specs.Migrated.{lines_of, second_line}
use Rattle.cert_text.proofs.CutLines.{NoFeed, feed_count-append}

-- ---- the first line feed

pub no_feed : (text : List ℕ) → IsFirstByte (is_byte 10) text None → feed_at text ≡ length text
no_feed text h = position_or_len_is is_feed text (length text) 0 (omega arith) (λ i below. false_from_ne_true _ (h i (omega arith) below)) (λ bad. absurd (omega (arith, bad)))

pub first_feed : (text : List ℕ) (k : ℕ) → IsFirstByte (is_byte 10) text (Some k) → feed_at text ≡ k
first_feed text k h = position_or_len_is is_feed text k 0 (omega (arith, h.0.high)) (λ i below. false_from_ne_true _ (h.0.before i (omega arith) below)) (λ _. h.1)

-- ---- the first line

feed_here : (b : ℕ) (text : List ℕ) → is_feed b ≡ true → position_or_len is_feed (b ∷ text) ≡ 0
feed_here b text e = ap (λ (t : Bool). cond (not t) (1 + position_or_len is_feed text) 0) e

feed_later : (b : ℕ) (text : List ℕ) → is_feed b ≡ false → position_or_len is_feed (b ∷ text) ≡ 1 + position_or_len is_feed text
feed_later b text e = ap (λ (t : Bool). cond (not t) (1 + position_or_len is_feed text) 0) e

-- the bytes before the first line feed, and that one where there is one, are the first line
pub first_line : (text : List ℕ) (len : ℕ) → 0 < length text → len ≡ min (position_or_len is_feed text + 1) (length text) → lines_of text ≡ take len text ∷ lines_of (drop len text)
first_line [] len some is = absurd (omega arith)
first_line (b ∷ text) zero some is = absurd (omega (arith, is))
first_line (b ∷ []) (suc len) some is = by_test (is_feed b)
  where
    none : len ≡ 0
    none = omega (arith, is)

    by_test : (t : Bool) → cond t ((b ∷ []) ∷ []) ((b ∷ []) ∷ []) ≡ (b ∷ take len []) ∷ lines_of (drop len [])
    by_test true = rw none refl
    by_test false = rw none refl
first_line (b ∷ d ∷ text) (suc len) some is = by_test (is_feed b) refl (λ e. first_line (d ∷ text) len (omega arith) (omega (arith, is, feed_later b (d ∷ text) e)))
  where
    by_test : (t : Bool) → is_feed b ≡ t → (is_feed b ≡ false → lines_of (d ∷ text) ≡ take len (d ∷ text) ∷ lines_of (drop len (d ∷ text)))
        → cond t ((b ∷ []) ∷ lines_of (d ∷ text)) (onto_first b (lines_of (d ∷ text))) ≡ (b ∷ take len (d ∷ text)) ∷ lines_of (drop len (d ∷ text))
    by_test true e rest = let none : len ≡ 0 = omega (arith, is, feed_here b (d ∷ text) e) in rw none refl
    by_test false e rest = ap (onto_first b) (rest e)

-- behind the line of the precision stands that of the range
pub range_line : (precision l : List ℕ) → starts_with nat_eq l (codes "plift ") ≡ false → starts_with nat_eq l (codes "precision ") ≡ true → second_line precision l ≡ l ++ (codes "from " ++ (precision ++ []))
range_line precision l other is = rw (other, is, append-nil precision) refl

-- ---- lines that are told

-- bytes, and a line feed at their end
abbrev pub IsEnded : List ℕ → Type 0
IsEnded l = (t : List ℕ) × (l ≡ t ++ 10 ∷ [])

-- a line: there is no other line feed
abbrev pub IsTextLine : List ℕ → Type 0
IsTextLine l = (t : List ℕ) × NoFeed t × (l ≡ t ++ 10 ∷ [])

cut_reported : (t rest : List ℕ) → NoFeed t → lines_of (t ++ 10 ∷ rest) ≡ (t ++ 10 ∷ []) ∷ lines_of rest
cut_reported [] rest clean = refl
cut_reported (b ∷ t) rest clean = rw clean.0 (ap (onto_first b) (cut_reported t rest clean.1))

lines_reported : (ls : List (List ℕ)) → AllByRecursion IsTextLine ls → lines_of (concat ls) ≡ ls
lines_reported [] all = refl
lines_reported (l ∷ ls) ((t, clean, is), all) =
    ap (λ (x : List ℕ). lines_of (x ++ concat ls)) is
    ∙ ap lines_of (append_assoc t (10 ∷ []) (concat ls))
    ∙ cut_reported t (concat ls) clean
    ∙ ap₂ (λ (x : List ℕ) (xs : List (List ℕ)). x ∷ xs) (sym is) (lines_reported ls all)

-- where told lines begin a text, they are its first lines
pub lines_ahead_reported : (ls : List (List ℕ)) (rest : List ℕ) → AllByRecursion IsTextLine ls → lines_of (concat ls ++ rest) ≡ ls ++ lines_of rest
lines_ahead_reported [] rest all = refl
lines_ahead_reported (l ∷ ls) rest ((t, clean, is), all) =
    ap (λ (x : List ℕ). lines_of ((x ++ concat ls) ++ rest)) is
    ∙ ap lines_of (append_assoc (t ++ 10 ∷ []) (concat ls) rest ∙ append_assoc t (10 ∷ []) (concat ls ++ rest))
    ∙ cut_reported t (concat ls ++ rest) clean
    ∙ ap₂ (λ (x : List ℕ) (xs : List (List ℕ)). x ∷ xs) (sym is) (lines_ahead_reported ls rest all)

concat_onto : (b : ℕ) (ls : List (List ℕ)) → concat (onto_first b ls) ≡ b ∷ concat ls
concat_onto b [] = refl
concat_onto b (l ∷ ls) = refl

-- a text is its lines, one after another
pub concat_lines : (text : List ℕ) → concat (lines_of text) ≡ text
concat_lines [] = refl
concat_lines (b ∷ text) = by_test (is_feed b) (concat_lines text)
  where
    by_test : (t : Bool) → concat (lines_of text) ≡ text → concat (cond t ((b ∷ []) ∷ lines_of text) (onto_first b (lines_of text))) ≡ b ∷ text
    by_test true e = ap (λ (x : List ℕ). b ∷ x) e
    by_test false e = concat_onto b (lines_of text) ∙ ap (λ (x : List ℕ). b ∷ x) e

none_counted : (t : List ℕ) → feed_count t ≡ 0 → NoFeed t
none_counted [] e = tt
none_counted (b ∷ t) e = by_test (is_feed b) refl (none_counted t)
  where
    by_test : (x : Bool) → is_feed b ≡ x → (feed_count t ≡ 0 → NoFeed t) → NoFeed (b ∷ t)
    by_test true is rest = let count : feed_count (b ∷ t) ≡ 1 + feed_count t = ap (λ (x : Bool). cond x 1 0 + feed_count t) is in absurd (omega (arith, e, count))
    by_test false is rest = let count : feed_count (b ∷ t) ≡ 0 + feed_count t = ap (λ (x : Bool). cond x 1 0 + feed_count t) is in (is, rest (omega (arith, e, count)))

ended_count : (l t : List ℕ) → l ≡ t ++ 10 ∷ [] → feed_count l ≡ feed_count t + 1
ended_count l t is = ap feed_count is ∙ feed_count-append t (10 ∷ [])

all_counted : (ls : List (List ℕ)) → AllByRecursion IsEnded ls → length ls ≤ feed_count (concat ls)
all_counted [] all = omega arith
all_counted (l ∷ ls) ((t, is), all) = let more = all_counted ls all in omega (arith, more, feed_count-append l (concat ls), ended_count l t is)

-- ended lines with no more line feeds than lines are the lines of their text
pub one_each : (ls : List (List ℕ)) → AllByRecursion IsEnded ls → feed_count (concat ls) ≡ length ls → AllByRecursion IsTextLine ls
one_each [] all e = tt
one_each (l ∷ ls) ((t, is), all) e =
    let whole = feed_count-append l (concat ls) in
    let own = ended_count l t is in
    let more = all_counted ls all in
    ((t, none_counted t (omega (arith, e, whole, own, more)), is), one_each ls all (omega (arith, e, whole, own, more)))

pub lines_counted : (ls : List (List ℕ)) → AllByRecursion IsEnded ls → feed_count (concat ls) ≡ length ls → lines_of (concat ls) ≡ ls
lines_counted ls all e = lines_reported ls (one_each ls all e)
