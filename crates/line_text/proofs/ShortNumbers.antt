-- Numbers of few digits, read at once with the end of their word.
use Rattle.std.proofs.Common.{◌≡◌, ℕ, zero, suc, ◌+◌, ◌-◌, ◌*◌, ◌^◌, ◌<◌, ◌≤◌, Bool, true, false, cond, not, List, [], ◌∷◌, length, take, get_or, Option, Some, Ok, Err, refl, subst, sym, ap, ◌∙◌, arith, add-one, ◌⊎◌, ⊎_elim, inl, inr}
use Rattle.std.specs.Prelude.{pos, ◌==◌}
use Rattle.std.specs.List.{list_all, position_or_len}
use Rattle.std.specs.Option.{option_map}
use Rattle.std.specs.Char.{is_ascii_digit, digit_value}
use Rattle.std.specs.Str.Parse.{digits_value}
use Rattle.std.proofs.lemmas.Bool.{ne_eqb}
use Rattle.std.proofs.lemmas.List.{length-take}
use Rattle.std.proofs.lemmas.Int.Digits.{digits_value_more}
use Rattle.std.proofs.lemmas.Str.{digit_value_digit}
use Rattle.line_text.specs.Words.{are_digits, number_of}
use Rattle.line_text.specs.Parts.{Words, Read, first}
use Rattle.line_text.specs.Shown.{first_of}
use Rattle.line_text.proofs.Digits.{digit_in, and_left, and_right}
use Rattle.line_text.proofs.LongNumbers.{all_digits, digit_at, value_short}

-- ---- digit by digit

digits_suc : (ds : List ℕ) (i : ℕ) → list_all is_ascii_digit (take i ds) ≡ true → i < length ds → is_ascii_digit (get_or ds i 0) ≡ true → list_all is_ascii_digit (take (suc i) ds) ≡ true
digits_suc [] i e lt g = absurd (omega (arith, lt))
digits_suc (d ∷ ds) zero e lt g = rw g refl
digits_suc (d ∷ ds) (suc i) e lt g =
    let here = and_left (is_ascii_digit d) (list_all is_ascii_digit (take i ds)) e in
    rw here (digits_suc ds i (and_right (is_ascii_digit d) (list_all is_ascii_digit (take i ds)) e) (omega (arith, lt)) g)

pub digits_more : (ds : List ℕ) (i : ℕ) → list_all is_ascii_digit (take i ds) ≡ true → i < length ds → is_ascii_digit (get_or ds i 0) ≡ true → list_all is_ascii_digit (take (i + 1) ds) ≡ true
digits_more ds i e lt g = rw (add-one i) (digits_suc ds i e lt g)

pub digit_of : (c : ℕ) → is_ascii_digit c ≡ true → (c - 48 ≡ digit_value c) × (digit_value c < 10)
digit_of c e =
    let r = digit_in c e in
    let k = digit_value_digit c r in
    (omega (arith, k, r), omega (arith, k, r))

pub value_more : (ds : List ℕ) (i n : ℕ) → is_ascii_digit (get_or ds i 0) ≡ true → i < length ds → n ≡ digits_value 10 (take i ds) → n * 10 + (get_or ds i 0 - 48) ≡ digits_value 10 (take (i + 1) ds)
value_more ds i n g lt is = ap (λ k. n * 10 + k) (digit_of (get_or ds i 0) g).0 ∙ ap (λ k. k * 10 + digit_value (get_or ds i 0)) is ∙ sym (digits_value_more 10 ds i lt)

pub front_small : (ds : List ℕ) (i n : ℕ) → list_all is_ascii_digit (take i ds) ≡ true → i ≤ 18 → n ≡ digits_value 10 (take i ds) → n < 10 ^ 18
front_small ds i n e le is = omega (arith, is, value_short (take i ds) e (omega (arith, le, length-take i ds)))

-- so many digits at the front of a text, and the number that they write
pub record IsFront (text : List ℕ) (i n : ℕ) : Type 0 where
  pub digits : list_all is_ascii_digit (take i text) ≡ true
  pub value : n ≡ digits_value 10 (take i text)

pub front_more : (text : List ℕ) (i n m k : ℕ) → IsFront text i n → i < length text → (is_ascii_digit (get_or text i 0) ≡ true) × (m ≡ n * 10 + (get_or text i 0 - 48)) → k ≡ i + 1 → IsFront text k m
front_more text i n m k front lt more next = subst (λ k. IsFront text k m) (sym next) (record {
  digits = digits_more text i front.digits lt more.0;
  value = more.1 ∙ value_more text i n more.0 lt front.value;
})

pub front_below : (text : List ℕ) (i n : ℕ) → IsFront text i n → i ≤ 18 → n < 10 ^ 18
front_below text i n front le = front_small text i n front.digits le front.value

-- ---- the first word

pub no_space : (d : ℕ) → is_ascii_digit d ≡ true → (d == 32) ≡ false
no_space d e = ne_eqb d 32 (λ same. let r = digit_in d e in omega (arith, r, same))

pub position_at : (p : ℕ → Bool) (d : ℕ) (ds : List ℕ) → p d ≡ true → position_or_len p (d ∷ ds) ≡ 0
position_at p d ds e = ap (λ b. cond (not b) (1 + position_or_len p ds) 0) e

pub position_past : (p : ℕ → Bool) (d : ℕ) (ds : List ℕ) → p d ≡ false → position_or_len p (d ∷ ds) ≡ 1 + position_or_len p ds
position_past p d ds e = ap (λ b. cond (not b) (1 + position_or_len p ds) 0) e

-- so many digits, behind which a space stands, or nothing
pub word_len : (text : List ℕ) (len : ℕ) → len ≤ length text → list_all is_ascii_digit (take len text) ≡ true → (len ≡ length text) ⊎ (get_or text len 0 ≡ 32) → len ≡ position_or_len (λ b. b == 32) text
word_len [] zero le e end = refl
word_len [] (suc n) le e end = absurd (omega (arith, le))
word_len (d ∷ ds) zero le e end =
    ⊎_elim (λ (all : 0 ≡ length (d ∷ ds)). absurd (omega (arith, all)))
    (λ (space : d ≡ 32). sym (position_at (λ b. b == 32) d ds (ap (λ b. b == 32) space))) end
word_len (d ∷ ds) (suc n) le e end =
    let digit = and_left (is_ascii_digit d) (list_all is_ascii_digit (take n ds)) e in
    let more = word_len ds n (omega (arith, le)) (and_right (is_ascii_digit d) (list_all is_ascii_digit (take n ds)) e) (⊎_elim (λ (all : suc n ≡ length (d ∷ ds)). inl (omega (arith, all))) (λ (space : get_or ds n 0 ≡ 32). inr space) end) in
    omega (arith, more, position_past (λ b. b == 32) d ds (no_space d digit))

-- ---- the number of a word

no_minus : (d : ℕ) → is_ascii_digit d ≡ true → (d == 45) ≡ false
no_minus d e = ne_eqb d 45 (λ same. let r = digit_in d e in omega (arith, r, same))

pub digits_number : (w : List ℕ) (n : ℕ) → are_digits w ≡ true → n ≡ digits_value 10 w → number_of w ≡ Some (pos n)
digits_number [] n e is = absurd (cc e)
digits_number (d ∷ ds) n e is =
    let digit = digit_at (d ∷ ds) 0 (all_digits (d ∷ ds) e) (omega arith) in
    rw (no_minus d digit, e, is) refl

pair_in : Read (List ℕ × Words) → List ℕ × Words
pair_in (Ok p) = p
pair_in (Err e) = ([], [])

-- what the first word writes
pub first_is : {A : Type 0} (of : List ℕ → Option A) (ws rest : Words) (w : List ℕ) → first ws ≡ Ok (w, rest) → first_of of ws ≡ option_map (λ x. (x, rest)) (of w)
unfolding pair_in
first_is of [] rest w e = absurd (cc e)
first_is of (v ∷ vs) rest w e = ap (λ r. option_map (λ x. (x, (pair_in r).1)) (of (pair_in r).0)) e

-- digits up to the end are all of them
pub whole_digits : (ds : List ℕ) (len : ℕ) → list_all is_ascii_digit (take len ds) ≡ true → length ds ≤ len → list_all is_ascii_digit ds ≡ true
whole_digits [] len e h = refl
whole_digits (d ∷ ds) zero e h = absurd (omega (arith, h))
whole_digits (d ∷ ds) (suc len) e h =
    let here = and_left (is_ascii_digit d) (list_all is_ascii_digit (take len ds)) e in
    rw here (whole_digits ds len (and_right (is_ascii_digit d) (list_all is_ascii_digit (take len ds)) e) (omega (arith, h)))
