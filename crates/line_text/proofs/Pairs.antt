-- Short numbers with a sign, and pairs of them, read at once with the end of their word.
use Rattle.std.proofs.Common.{◌≡◌, ◌≢◌, ℕ, zero, suc, ◌+◌, ◌-◌, ◌<◌, ◌≤◌, Bool, true, false, cond, List, [], ◌∷◌, ◌++◌, length, take, drop, get_or, Option, Some, None, refl, sym, ap, ap₂, ◌∙◌, arith}
use Rattle.std.specs.Prelude.{ℤ, pos, neg_ℤ, ◌==◌}
use Rattle.std.specs.List.{list_all, position_or_len, onto_first}
use Rattle.std.specs.Option.{option_map, option_zip}
use Rattle.std.specs.Char.{is_ascii_digit}
use Rattle.std.specs.Str.Parse.{digits_value}
use Rattle.std.proofs.lemmas.Bool.{ne_eqb, eq-eqb}
use Rattle.line_text.specs.Words.{are_digits, natural_of, below_zero, number_of, pair_of, words}
use Rattle.line_text.specs.Parts.{Words}
use Rattle.line_text.specs.Shown.{first_of}
use Rattle.line_text.proofs.WordsLeft.{take_rest}
use Rattle.line_text.proofs.Digits.{and_left, and_right}
use Rattle.line_text.proofs.ShortNumbers.{no_space, position_at, position_past, digits_number}

-- ---- a word with digits and a byte at its front

split_front : (text : List ℕ) (len byte : ℕ) (w : List ℕ) (ws : Words) → len < length text → list_all is_ascii_digit (take len text) ≡ true → get_or text len 0 ≡ byte → byte ≢ 32 → words (drop (len + 1) text) ≡ w ∷ ws → words text ≡ (take len text ++ byte ∷ w) ∷ ws
split_front [] len byte w ws lt e at other cut = absurd (omega (arith, lt))
split_front (d ∷ ds) zero byte w ws lt e at other cut =
    ap (λ b. cond b ([] ∷ words ds) (onto_first d (words ds))) (ne_eqb d 32 (λ same. other (sym at ∙ same)))
    ∙ ap (onto_first d) cut ∙ ap (λ x. (x ∷ w) ∷ ws) at
split_front (d ∷ ds) (suc n) byte w ws lt e at other cut =
    let digit = and_left (is_ascii_digit d) (list_all is_ascii_digit (take n ds)) e in
    let next : suc n + 1 ≡ suc (n + 1) = omega arith in
    let more = split_front ds n byte w ws (omega (arith, lt)) (and_right (is_ascii_digit d) (list_all is_ascii_digit (take n ds)) e) at other (ap (λ k. words (drop k (d ∷ ds))) (sym next) ∙ cut) in
    ap (λ b. cond b ([] ∷ words ds) (onto_first d (words ds))) (no_space d digit) ∙ ap (onto_first d) more

byte_at : (ds : List ℕ) (byte : ℕ) (w : List ℕ) → list_all is_ascii_digit ds ≡ true → is_ascii_digit byte ≡ false → position_or_len (λ b. b == byte) (ds ++ byte ∷ w) ≡ length ds
byte_at [] byte w e unlike_digit = position_at (λ b. b == byte) byte w (eq-eqb byte byte refl)
byte_at (d ∷ ds) byte w e unlike_digit =
    let digit = and_left (is_ascii_digit d) (list_all is_ascii_digit ds) e in
    let unlike = ne_eqb d byte (λ same. clash (sym digit ∙ ap is_ascii_digit same ∙ unlike_digit)) in
    let more = byte_at ds byte w (and_right (is_ascii_digit d) (list_all is_ascii_digit ds) e) unlike_digit in
    omega (arith, more, position_past (λ b. b == byte) d (ds ++ byte ∷ w) unlike)
  where
    clash : true ≡ false → ⊥
    clash e = absurd cc

take_here : (t : List ℕ) (b : ℕ) (rest : List ℕ) → take (length t) (t ++ b ∷ rest) ≡ t
take_here [] b rest = refl
take_here (a ∷ t) b rest = ap (λ x. a ∷ x) (take_here t b rest)

drop_here : (t : List ℕ) (b : ℕ) (rest : List ℕ) → drop (length t + 1) (t ++ b ∷ rest) ≡ rest
drop_here [] b rest = refl
drop_here (a ∷ t) b rest = let e : length (a ∷ t) + 1 ≡ suc (length t + 1) = omega arith in ap (λ k. drop k (a ∷ (t ++ b ∷ rest))) e ∙ drop_here t b rest

pair_is : (ds : List ℕ) (byte n : ℕ) (w : List ℕ) (z : ℤ) → list_all is_ascii_digit ds ≡ true → are_digits ds ≡ true → is_ascii_digit byte ≡ false → n ≡ digits_value 10 ds → number_of w ≡ Some z → pair_of byte (ds ++ byte ∷ w) ≡ Some (pos n, z)
pair_is ds byte n w z all are unlike_digit is e =
    let at = byte_at ds byte w all unlike_digit in
    ap₂ option_zip
    (ap (λ k. number_of (take k (ds ++ byte ∷ w))) at ∙ ap number_of (take_here ds byte w) ∙ digits_number ds n are is)
    (ap (λ k. number_of (drop (k + 1) (ds ++ byte ∷ w))) at ∙ ap number_of (drop_here ds byte w) ∙ e)

pair_in : {A : Type 0} → A × Words → Option (A × Words) → A × Words
pair_in d None = d
pair_in d (Some p) = p

option_first : {A : Type 0} (o : Option A) (ws behind : Words) (x : A) → option_map {U = A × Words} (λ y. (y, ws)) o ≡ Some (x, behind) → (o ≡ Some x) × (ws ≡ behind)
unfolding pair_in
option_first None ws behind x e = absurd (cc e)
option_first {A} (Some y) ws behind x e =
    let pair : ◌≡◌ {A = A × Words} (y, ws) (x, behind) = ap (pair_in (y, ws)) e in
    (ap (λ p. Some p.0) pair, ap (λ p. p.1) pair)

-- the pair that the first word writes, by its front and what the rest writes
pub pair_front : (text : List ℕ) (len byte n : ℕ) (z : ℤ) (rest : Words) → len < length text → list_all is_ascii_digit (take len text) ≡ true → are_digits (take len text) ≡ true → get_or text len 0 ≡ byte → byte ≢ 32 → is_ascii_digit byte ≡ false → n ≡ digits_value 10 (take len text) → first_of number_of (words (drop (len + 1) text)) ≡ Some (z, rest) → first_of (pair_of byte) (words text) ≡ Some ((pos n, z), rest)
pair_front text len byte n z rest lt all are at other unlike_digit is e = by_words (words (drop (len + 1) text)) refl e
  where
    by_words : (vs : Words) → words (drop (len + 1) text) ≡ vs → first_of number_of vs ≡ Some (z, rest) → first_of (pair_of byte) (words text) ≡ Some ((pos n, z), rest)
    by_words [] cut e = absurd cc
    by_words (w ∷ ws) cut e =
        let parts = option_first (number_of w) ws rest z e in
        ap (first_of (pair_of byte)) (split_front text len byte w ws lt all at other cut)
        ∙ ap (option_map (λ x. (x, ws))) (pair_is (take len text) byte n w z all are unlike_digit is parts.0)
        ∙ ap (λ vs. Some ((pos n, z), vs)) parts.1

-- ---- a number below 0

natural_is : (w : List ℕ) (n : ℕ) → number_of w ≡ Some (pos n) → natural_of w ≡ Some n
natural_is [] n e = absurd cc
natural_is (b ∷ bs) n e = by_sign (b == 45) e
  where
    below : (o : Option ℕ) → below_zero o ≡ Some (pos n) → natural_of (b ∷ bs) ≡ Some n
    below None e = absurd cc
    below (Some zero) e = absurd cc
    below (Some (suc k)) e = absurd cc

    above : (o : Option ℕ) → option_map pos o ≡ Some (pos n) → o ≡ Some n
    above None e = absurd cc
    above (Some m) e = cc

    by_sign : (t : Bool) → cond t (below_zero (natural_of bs)) (option_map pos (natural_of (b ∷ bs))) ≡ Some (pos n) → natural_of (b ∷ bs) ≡ Some n
    by_sign true e = below (natural_of bs) e
    by_sign false e = above (natural_of (b ∷ bs)) e

minus_front : (digits : List ℕ) (n : ℕ) (rest : Words) → n ≢ 0 → first_of number_of (words digits) ≡ Some (pos n, rest) → first_of number_of (words (45 ∷ digits)) ≡ Some (neg_ℤ (pos n), rest)
minus_front digits n rest some e = by_words (words digits) refl e
  where
    of_size : (m : ℕ) → m ≢ 0 → below_zero (Some m) ≡ Some (neg_ℤ (pos m))
    of_size zero some = absurd (some refl)
    of_size (suc m) some = refl

    by_words : (vs : Words) → words digits ≡ vs → first_of number_of vs ≡ Some (pos n, rest) → first_of number_of (words (45 ∷ digits)) ≡ Some (neg_ℤ (pos n), rest)
    by_words [] cut e = absurd cc
    by_words (w ∷ ws) cut e =
        let parts = option_first (number_of w) ws rest (pos n) e in
        ap (λ vs. first_of number_of (onto_first 45 vs)) cut
        ∙ ap (option_map (λ x. (x, ws))) (ap below_zero (natural_is w n parts.0) ∙ of_size n some)
        ∙ ap (λ vs. Some (neg_ℤ (pos n), vs)) parts.1

-- the same of a text that begins with a minus
pub minus_text : (text : List ℕ) (n : ℕ) (ws rest : Words) → 1 ≤ length text → get_or text 0 0 ≡ 45 → ws ≡ words (take (length text - 1) (drop 1 text)) → n ≢ 0 → first_of number_of ws ≡ Some (pos n, rest) → first_of number_of (words text) ≡ Some (neg_ℤ (pos n), rest)
minus_text [] n ws rest some first cut other e = absurd (omega (arith, some))
minus_text (b ∷ digits) n ws rest some first cut other e =
    ap (λ b. first_of number_of (words (b ∷ digits))) first
    ∙ minus_front digits n rest other (ap (first_of number_of) (sym (cut ∙ ap words (take_rest (b ∷ digits) 1))) ∙ e)
