-- Lines and their words, and the line that is due, both ways.
use Rattle.std.proofs.Common.{◌≡◌, ℕ, suc, ◌+◌, ◌^◌, ◌<◌, ◌≤◌, Bool, true, false, cond, not, List, [], ◌∷◌, ◌++◌, length, get_or, take, drop, Ok, refl, sym, ap, subst, ◌∙◌, append_assoc, arith}
use Rattle.std.specs.Prelude.{◌==◌, nat_lt}
use Rattle.std.specs.List.{AllByRecursion, onto_first, join_with_byte, position_or_len, before_first, after_first}
use Rattle.std.proofs.lemmas.List.{length-append, length-take}
use Rattle.std.proofs.lemmas.List.Splits.{join_with_byte-slice_split, slice_split_none, slice_split_at, length-slice_split}
use Rattle.std.proofs.lemmas.List.Sums.{split_at_first, prefix_len_stops}
use Rattle.std.proofs.lemmas.List.Elements.{All-from_recursion}
use Rattle.std.proofs.lemmas.Bool.{eqb-true, ltb-true, ltb-false, le-ltb, lt-ltb}
use Rattle.line_text.specs.declared.error.TextCause.TheVariants.{Limit, Truncated}
use Rattle.cert_text.specs.Report.{line}
use Rattle.line_text.specs.Words.{words}
use Rattle.cert_text.specs.Whole.{feed_count}
use Rattle.line_text.specs.Reading.{Cursor, due, fault, is_feed}

-- a word holds no space and no line feed
abbrev pub IsPlain : ℕ → Type 0
IsPlain b = ((b == 32) ≡ false) × (is_feed b ≡ false)

abbrev pub IsWord : List ℕ → Type 0
IsWord w = AllByRecursion IsPlain w

-- words make a line that isn't too long
pub record IsLine (ws : List (List ℕ)) : Type 0 where
  pub some : 0 < length ws
  pub words : AllByRecursion IsWord ws
  pub short : length (join_with_byte 32 ws) ≤ 2 ^ 20

spaces : (w : List ℕ) → IsWord w → AllByRecursion (λ b. (b == 32) ≡ false) w
spaces [] h = tt
spaces (b ∷ w) h = (h.0.0, spaces w h.1)

abbrev pub NoFeed : List ℕ → Type 0
NoFeed t = AllByRecursion (λ b. is_feed b ≡ false) t

feeds : (w : List ℕ) → IsWord w → NoFeed w
feeds [] h = tt
feeds (b ∷ w) h = (h.0.1, feeds w h.1)

pub every_append : {A : Type 0} (P : A → Type 0) (xs ys : List A) → AllByRecursion P xs → AllByRecursion P ys → AllByRecursion P (xs ++ ys)
every_append P [] ys h g = g
every_append P (x ∷ xs) ys h g = (h.0, every_append P xs ys h.1 g)

pub every_back : {A : Type 0} (P : A → Type 0) (xs ys : List A) → AllByRecursion P (xs ++ ys) → AllByRecursion P ys
every_back P [] ys all = all
every_back P (x ∷ xs) ys (here, all) = every_back P xs ys all

pub every_front : {A : Type 0} (P : A → Type 0) (xs ys : List A) → AllByRecursion P (xs ++ ys) → AllByRecursion P xs
every_front P [] ys h = tt
every_front P (x ∷ xs) ys h = (h.0, every_front P xs ys h.1)

-- ---- words of a line

pub line_join : (ws : List (List ℕ)) → 0 < length ws → line ws ≡ join_with_byte 32 ws ++ 10 ∷ []
line_join [] some = absurd (omega arith)
line_join (w ∷ []) some = refl
line_join (w ∷ v ∷ ws) some = ap (λ t. w ++ 32 ∷ t) (line_join (v ∷ ws) (omega arith)) ∙ sym (append_assoc w (32 ∷ join_with_byte 32 (v ∷ ws)) (10 ∷ []))

pub line_words : (t : List ℕ) → line (words t) ≡ t ++ 10 ∷ []
line_words t = line_join (words t) (omega (arith, length-slice_split (λ b. b == 32) t)) ∙ ap (λ x. x ++ 10 ∷ []) (join_with_byte-slice_split 32 t)

pub words_join : (ws : List (List ℕ)) → 0 < length ws → AllByRecursion IsWord ws → words (join_with_byte 32 ws) ≡ ws
words_join [] some all = absurd (omega arith)
words_join (w ∷ []) some all = slice_split_none (λ b. b == 32) w (All-from_recursion (λ b. (b == 32) ≡ false) w (spaces w all.0))
words_join (w ∷ v ∷ ws) some all =
    slice_split_at (λ b. b == 32) w 32 (join_with_byte 32 (v ∷ ws)) (All-from_recursion (λ b. (b == 32) ≡ false) w (spaces w all.0)) refl
    ∙ ap (λ t. w ∷ t) (words_join (v ∷ ws) (omega arith) all.1)

pub no_feeds : (ws : List (List ℕ)) → AllByRecursion IsWord ws → NoFeed (join_with_byte 32 ws)
no_feeds [] all = tt
no_feeds (w ∷ []) all = feeds w all.0
no_feeds (w ∷ v ∷ ws) all = every_append (λ b. is_feed b ≡ false) w (32 ∷ join_with_byte 32 (v ∷ ws)) (feeds w all.0) (refl, no_feeds (v ∷ ws) all.1)

-- ---- the line that is due

pub feed_at : (t rest : List ℕ) → NoFeed t → position_or_len is_feed (t ++ 10 ∷ rest) ≡ length t
feed_at [] rest h = refl
feed_at (b ∷ t) rest h = rw (h.0, feed_at t rest h.1) (omega arith)

pub no_feed_at : (t : List ℕ) → NoFeed t → position_or_len is_feed t ≡ length t
no_feed_at [] h = refl
no_feed_at (b ∷ t) h = rw (h.0, no_feed_at t h.1) (omega arith)

pub take_here : (t : List ℕ) (b : ℕ) (rest : List ℕ) → take (length t) (t ++ b ∷ rest) ≡ t
take_here [] b rest = refl
take_here (a ∷ t) b rest = ap (λ x. a ∷ x) (take_here t b rest)

pub drop_here : (t : List ℕ) (b : ℕ) (rest : List ℕ) → drop (length t + 1) (t ++ b ∷ rest) ≡ rest
drop_here [] b rest = refl
drop_here (a ∷ t) b rest = let e : length (a ∷ t) + 1 ≡ suc (length t + 1) = omega arith in ap (λ k. drop k (a ∷ (t ++ b ∷ rest))) e ∙ drop_here t b rest

pub due_again : (n : ℕ) (t rest : List ℕ) → NoFeed t → length t ≤ 2 ^ 20 → due (n, t ++ 10 ∷ rest) ≡ Ok (t, (n + 1, rest))
unfolding due
due_again n t rest h short =
    let low : nat_lt (2 ^ 20) (length t) ≡ false = le-ltb (2 ^ 20) (length t) short in
    let there : nat_lt (length t) (length (t ++ 10 ∷ rest)) ≡ true = lt-ltb (length t) (length (t ++ 10 ∷ rest)) (omega (arith, length-append t (10 ∷ rest))) in
    rw (feed_at t rest h, low, there, take_here t 10 rest, drop_here t 10 rest) refl

pub due_short : (n : ℕ) (t : List ℕ) → NoFeed t → length t ≤ 2 ^ 20 → due (n, t) ≡ fault n Truncated
unfolding due
due_short n t h short =
    let low : nat_lt (2 ^ 20) (length t) ≡ false = le-ltb (2 ^ 20) (length t) short in
    let there : nat_lt (length t) (length t) ≡ false = le-ltb (length t) (length t) (omega arith) in
    rw (no_feed_at t h, low, there) refl

due_by : {A : Type 0} (a b : Bool) (x : A × Cursor) (n : ℕ) (y : A × Cursor) → cond a (fault n Limit) (cond b (Ok x) (fault n Truncated)) ≡ Ok y → (b ≡ true) × (x ≡ y)
due_by true b x n y e = absurd cc
due_by false true x n y e = (refl, cc)
due_by false false x n y e = absurd cc

pub due_takes : (n m : ℕ) (text t rest : List ℕ) → due (n, text) ≡ Ok (t, (m, rest)) → (text ≡ t ++ 10 ∷ rest) × (m ≡ n + 1)
unfolding due
due_takes n m text t rest e =
    let k = position_or_len is_feed text in
    let d = due_by (nat_lt (2 ^ 20) k) (nat_lt k (length text)) (before_first is_feed text, (n + 1, after_first is_feed text)) n (t, (m, rest)) e in
    let there : k < length text = ltb-true k (length text) d.0 in
    let byte : get_or text k 0 ≡ 10 = eqb-true (get_or text k 0) 10 (found text there) in
    let parts : text ≡ before_first is_feed text ++ (get_or text k 0 ∷ after_first is_feed text) = split_at_first is_feed text 0 there in
    (parts ∙ ap (λ b. before_first is_feed text ++ b ∷ after_first is_feed text) byte ∙ ap (λ (y : List ℕ × Cursor). y.0 ++ 10 ∷ y.1.1) d.1, sym (ap (λ (y : List ℕ × Cursor). y.1.0) d.1))
  where
    found : (text : List ℕ) → position_or_len is_feed text < length text → is_feed (get_or text (position_or_len is_feed text) 0) ≡ true
    found text there = not_false (is_feed (get_or text (position_or_len is_feed text) 0)) (prefix_len_stops (λ x. not (is_feed x)) text 0 there)
      where
        not_false : (b : Bool) → not b ≡ false → b ≡ true
        not_false true e = refl
        not_false false e = absurd cc

-- ---- counting line feeds

pub feed_count-append : (xs ys : List ℕ) → feed_count (xs ++ ys) ≡ feed_count xs + feed_count ys
feed_count-append [] ys = omega arith
feed_count-append (x ∷ xs) ys = rw (feed_count-append xs ys) (omega arith)

pub feed_count-none : (t : List ℕ) → NoFeed t → feed_count t ≡ 0
feed_count-none [] h = refl
feed_count-none (b ∷ t) h = rw (h.0, feed_count-none t h.1) refl

-- ---- a line that was due is one

before_clean : (t : List ℕ) → NoFeed (before_first is_feed t)
before_clean [] = tt
before_clean (b ∷ t) = by_test (is_feed b) refl (before_clean t)
  where
    by_test : (c : Bool) → is_feed b ≡ c → NoFeed (before_first is_feed t) → NoFeed (take (cond (not c) (1 + position_or_len is_feed t) 0) (b ∷ t))
    by_test true e more = tt
    by_test false e more = let k : 1 + position_or_len is_feed t ≡ suc (position_or_len is_feed t) = omega arith in subst (λ k. NoFeed (take k (b ∷ t))) (sym k) (e, more)

due_low : {A : Type 0} (a b : Bool) (x : A × Cursor) (n : ℕ) (y : A × Cursor) → cond a (fault n Limit) (cond b (Ok x) (fault n Truncated)) ≡ Ok y → a ≡ false
due_low true b x n y e = absurd cc
due_low false b x n y e = refl

pub due_clean : (n m : ℕ) (text t rest : List ℕ) → due (n, text) ≡ Ok (t, (m, rest)) → NoFeed t × (length t ≤ 2 ^ 20)
unfolding due
due_clean n m text t rest e =
    let k = position_or_len is_feed text in
    let d = due_by (nat_lt (2 ^ 20) k) (nat_lt k (length text)) (before_first is_feed text, (n + 1, after_first is_feed text)) n (t, (m, rest)) e in
    let low : k ≤ 2 ^ 20 = ltb-false (2 ^ 20) k (due_low (nat_lt (2 ^ 20) k) (nat_lt k (length text)) (before_first is_feed text, (n + 1, after_first is_feed text)) n (t, (m, rest)) e) in
    let same : before_first is_feed text ≡ t = ap (λ (y : List ℕ × Cursor). y.0) d.1 in
    (subst NoFeed same (before_clean text), subst (λ x. length x ≤ 2 ^ 20) same (omega (arith, low, length-take k text)))

split_words : (t : List ℕ) → NoFeed t → AllByRecursion IsWord (words t)
split_words [] h = (tt, tt)
split_words (b ∷ t) h = by_test (b == 32) refl (split_words t h.1)
  where
    onto : (ws : List (List ℕ)) → IsPlain b → AllByRecursion IsWord ws → AllByRecursion IsWord (onto_first b ws)
    onto [] p all = ((p, tt), tt)
    onto (w ∷ ws) p all = ((p, all.0), all.1)

    by_test : (c : Bool) → (b == 32) ≡ c → AllByRecursion IsWord (words t) → AllByRecursion IsWord (cond c ([] ∷ words t) (onto_first b (words t)))
    by_test true e more = (tt, more)
    by_test false e more = onto (words t) (e, h.0) more

pub words_line : (t : List ℕ) → NoFeed t → length t ≤ 2 ^ 20 → IsLine (words t)
words_line t clean short = record { some = omega (arith, length-slice_split (λ b. b == 32) t); words = split_words t clean; short = subst (λ x. length x ≤ 2 ^ 20) (sym (join_with_byte-slice_split 32 t)) short }
