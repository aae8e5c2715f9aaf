-- The longest literal at a front is what the grammar writes there.
use Rattle.std.proofs.Common.{◌≡◌, ◌+◌, ℕ, Bool, true, false, List, [], ◌∷◌, ◌++◌, take, drop, length, cond, refl, sym, subst, ap, ◌∙◌, arith, append-nil, append_assoc, one-add, zero-add, ◌<◌}
use Rattle.std.specs.Prelude.{take_while, ◌&&◌, ◌||◌, ◌==◌}
use Rattle.std.specs.List.{list_all, prefix_len}
use Rattle.std.specs.Char.{is_ascii_digit}
use Rattle.std.proofs.Math.Seq.{take-append_seam, drop-append_seam}
use Rattle.std.proofs.lemmas.List.{take-append-drop}
use Rattle.std.proofs.lemmas.Bool.Decides.{nat_tests}
use Rattle.lift_bytes.specs.Bytes as byte
use Rattle.lift_frac.specs.Literal.{Literal, decimals_at, sign_at, exponent_at, literal_at}
use Rattle.lift_frac.proofs.Fronts.{front_passes}
use Rattle.lift_frac.specs.Grammar.{IsDigits, Decimals, no_decimals, point, Sign, no_sign, plus, minus, Mark, small_e, capital_e, Exponent, no_exponent, power, Writes, written}

-- ---- what the grammar writes is read

pub first_of_and : (a b : Bool) → (a && b) ≡ true → a ≡ true
first_of_and true b h = refl
first_of_and false b h = h

pub second_of_and : (a b : Bool) → (a && b) ≡ true → b ≡ true
second_of_and true b h = h
second_of_and false b h = cc

front_none : (rest : List ℕ) → byte.first_passes is_ascii_digit rest ≡ false → prefix_len is_ascii_digit rest ≡ 0
front_none [] h = refl
front_none (b ∷ rest) h = ap (λ t. cond t (1 + prefix_len is_ascii_digit rest) 0) h

-- digits in front of something
pub front_sum : (digits rest : List ℕ) → list_all is_ascii_digit digits ≡ true → prefix_len is_ascii_digit (digits ++ rest) ≡ length digits + prefix_len is_ascii_digit rest
front_sum [] rest all = sym (zero-add (prefix_len is_ascii_digit rest))
front_sum (d ∷ digits) rest all =
    let here = first_of_and (is_ascii_digit d) (list_all is_ascii_digit digits) all in
    let more = front_sum digits rest (second_of_and (is_ascii_digit d) (list_all is_ascii_digit digits) all) in
    ap (λ t. cond t (1 + prefix_len is_ascii_digit (digits ++ rest)) 0) here ∙ omega (arith, more)

-- digits in front of something else are the digits at the front
front_len : (digits rest : List ℕ) → list_all is_ascii_digit digits ≡ true → byte.first_passes is_ascii_digit rest ≡ false → prefix_len is_ascii_digit (digits ++ rest) ≡ length digits
front_len digits rest all other = omega (arith, front_sum digits rest all, front_none rest other)

digits_read : (digits rest : List ℕ) → IsDigits digits → byte.first_passes is_ascii_digit rest ≡ false → take_while is_ascii_digit (digits ++ rest) ≡ digits
digits_read digits rest h other = ap (λ n. take n (digits ++ rest)) (front_len digits rest h.all other) ∙ take-append_seam digits rest

pub rest_read : (digits rest : List ℕ) → IsDigits digits → byte.first_passes is_ascii_digit rest ≡ false → byte.behind is_ascii_digit (digits ++ rest) ≡ rest
rest_read digits rest h other = ap (λ n. drop n (digits ++ rest)) (front_len digits rest h.all other) ∙ drop-append_seam digits rest

pub begins_more : (digits rest : List ℕ) → byte.first_passes is_ascii_digit digits ≡ true → byte.first_passes is_ascii_digit (digits ++ rest) ≡ true
begins_more [] rest h = cc
begins_more (d ∷ digits) rest h = h

-- an exponent begins with no digit
exponent_apart : (tail digits : List ℕ) (negative : Bool) → Exponent tail negative digits → byte.first_passes is_ascii_digit tail ≡ false
exponent_apart _ _ _ no_exponent = refl
exponent_apart _ _ _ (power _ _ _ _ small_e _ _) = refl
exponent_apart _ _ _ (power _ _ _ _ capital_e _ _) = refl

behind_apart : (behind decimals tail digits : List ℕ) (negative : Bool) → Decimals behind decimals → Exponent tail negative digits → byte.first_passes is_ascii_digit (behind ++ tail) ≡ false
behind_apart _ _ tail digits negative no_decimals e = exponent_apart tail digits negative e
behind_apart _ _ tail digits negative (point _ _) e = refl

decimals_read : (behind decimals tail digits : List ℕ) (negative : Bool) → Decimals behind decimals → Exponent tail negative digits → decimals_at (behind ++ tail) ≡ (decimals, tail)
decimals_read _ _ _ _ _ no_decimals no_exponent = refl
decimals_read _ _ _ _ _ no_decimals (power _ _ _ _ small_e _ _) = refl
decimals_read _ _ _ _ _ no_decimals (power _ _ _ _ capital_e _ _) = refl
decimals_read _ _ tail digits negative (point ds h) e =
    let apart = exponent_apart tail digits negative e in
    let taken : (take_while is_ascii_digit (ds ++ tail), byte.behind is_ascii_digit (ds ++ tail)) ≡ (ds, tail) =
    ap (λ t. (t, byte.behind is_ascii_digit (ds ++ tail))) (digits_read ds tail h apart) ∙ ap (λ t. (ds, t)) (rest_read ds tail h apart) in
    ap (λ t. cond t (take_while is_ascii_digit (ds ++ tail), byte.behind is_ascii_digit (ds ++ tail)) ([], 46 ∷ (ds ++ tail))) (begins_more ds tail h.some) ∙ taken

apart_from : (d c : ℕ) → is_ascii_digit d ≡ true → c < 48 → (d == c) ≡ false
apart_from d c h low = grind (arith, nat_tests)

-- a digit is no sign
no_sign_read : (digits : List ℕ) → byte.first_passes is_ascii_digit digits ≡ true → sign_at digits ≡ (false, digits)
no_sign_read [] h = refl
no_sign_read (d ∷ ds) h =
    ap (λ t. cond t (true, ds) (cond (d == 43) (false, ds) (false, d ∷ ds))) (apart_from d 45 h (omega arith))
    ∙ ap (λ t. cond t (false, ds) (false, d ∷ ds)) (apart_from d 43 h (omega arith))

pub sign_read : (sign digits : List ℕ) (negative : Bool) → Sign sign negative → byte.first_passes is_ascii_digit digits ≡ true → sign_at (sign ++ digits) ≡ (negative, digits)
sign_read _ digits _ no_sign h = no_sign_read digits h
sign_read _ digits _ plus h = refl
sign_read _ digits _ minus h = refl

-- what stands behind a mark, with a sign that was read
abbrev pub after_mark : List ℕ → Bool × List ℕ → Bool × List ℕ × List ℕ
after_mark text signed = cond (byte.first_passes is_ascii_digit signed.1) (signed.0, take_while is_ascii_digit signed.1, byte.behind is_ascii_digit signed.1) (false, [], text)

after_mark_read : (text digits : List ℕ) (negative : Bool) → IsDigits digits → after_mark text (negative, digits) ≡ (negative, digits, [])
after_mark_read text digits negative h =
    let alone = append-nil digits in
    let front : take_while is_ascii_digit digits ≡ digits = ap (take_while is_ascii_digit) (sym alone) ∙ digits_read digits [] h refl in
    let rest : byte.behind is_ascii_digit digits ≡ [] = ap (byte.behind is_ascii_digit) (sym alone) ∙ rest_read digits [] h refl in
    ap (λ t. cond t (negative, take_while is_ascii_digit digits, byte.behind is_ascii_digit digits) (false, [], text)) h.some
    ∙ ap (λ t. (negative, t, byte.behind is_ascii_digit digits)) front ∙ ap (λ t. (negative, digits, t)) rest

exponent_read : (tail digits : List ℕ) (negative : Bool) → Exponent tail negative digits → exponent_at tail ≡ (negative, digits, [])
exponent_read _ _ _ no_exponent = refl
exponent_read _ _ _ (power _ sign negative digits small_e s h) =
    ap (after_mark (101 ∷ sign ++ digits)) (sign_read sign digits negative s h.some) ∙ after_mark_read (101 ∷ sign ++ digits) digits negative h
exponent_read _ _ _ (power _ sign negative digits capital_e s h) =
    ap (after_mark (69 ∷ sign ++ digits)) (sign_read sign digits negative s h.some) ∙ after_mark_read (69 ∷ sign ++ digits) digits negative h

-- the parts that were read, put together
abbrev joined : List ℕ → List ℕ → Bool × List ℕ × List ℕ → Literal × List ℕ
joined whole decimals exponent = (record { whole = whole; decimals = decimals; negative = exponent.0; exponent = exponent.1 }, exponent.2)

-- a text that writes a literal is read as that literal
pub written_read : (text : List ℕ) (l : Literal) → Writes text l → literal_at text ≡ (l, [])
written_read _ _ (written whole behind decimals tail exponent negative w d e) =
    let apart = behind_apart behind decimals tail exponent negative d e in
    let text = whole ++ (behind ++ tail) in
    let whole_is = digits_read whole (behind ++ tail) w apart in
    let rest_is = rest_read whole (behind ++ tail) w apart in
    let decimals_is : decimals_at (byte.behind is_ascii_digit text) ≡ (decimals, tail) = ap decimals_at rest_is ∙ decimals_read behind decimals tail exponent negative d e in
    let exponent_is : exponent_at (decimals_at (byte.behind is_ascii_digit text)).1 ≡ (negative, exponent, []) = ap (λ t. exponent_at t.1) decimals_is ∙ exponent_read tail exponent negative e in
    ap (λ t. joined t (decimals_at (byte.behind is_ascii_digit text)).0 (exponent_at (decimals_at (byte.behind is_ascii_digit text)).1)) whole_is
    ∙ ap (λ t. joined whole t.0 (exponent_at (decimals_at (byte.behind is_ascii_digit text)).1)) decimals_is
    ∙ ap (joined whole decimals) exponent_is

-- ---- what is read is what the grammar writes

-- a text that begins with what the grammar writes
pub record Front (P : List ℕ → Type 0) (text rest : List ℕ) : Type 0 where
  pub front : List ℕ
  pub writes : P front
  pub text_is : text ≡ front ++ rest

digits_begin : (text : List ℕ) → byte.first_passes is_ascii_digit text ≡ true → byte.first_passes is_ascii_digit (take_while is_ascii_digit text) ≡ true
digits_begin [] h = h
digits_begin (d ∷ ds) h =
    let n = prefix_len is_ascii_digit ds in
    ap (λ t. byte.first_passes is_ascii_digit (take (cond t (1 + n) 0) (d ∷ ds))) h ∙ rw one-add h

digits_are : (text : List ℕ) → byte.first_passes is_ascii_digit text ≡ true → IsDigits (take_while is_ascii_digit text)
digits_are text h = record { some = digits_begin text h; all = front_passes is_ascii_digit text }

digits_split : (text : List ℕ) → text ≡ take_while is_ascii_digit text ++ byte.behind is_ascii_digit text
digits_split text = sym (take-append-drop (prefix_len is_ascii_digit text) text)

same_byte : (b c : ℕ) → (b == c) ≡ true → b ≡ c
same_byte b c h = grind (arith, nat_tests)

-- what `decimals_at` gives after its test
abbrev pub decimals_by : ℕ → List ℕ → Bool → List ℕ × List ℕ
decimals_by b text test = cond test (take_while is_ascii_digit text, byte.behind is_ascii_digit text) ([], b ∷ text)

decimals_tested : (b : ℕ) (text : List ℕ) (test : Bool) → ((b == 46) && byte.first_passes is_ascii_digit text) ≡ test
    → Front (λ t. Decimals t (decimals_by b text test).0) (b ∷ text) (decimals_by b text test).1
decimals_tested b text true e = record {
  front = 46 ∷ take_while is_ascii_digit text;
  writes = point (take_while is_ascii_digit text) (digits_are text (second_of_and (b == 46) (byte.first_passes is_ascii_digit text) e));
  text_is = ap (λ c. c ∷ text) (same_byte b 46 (first_of_and (b == 46) (byte.first_passes is_ascii_digit text) e)) ∙ ap (λ t. 46 ∷ t) (digits_split text);
}
decimals_tested b text false e = record { front = []; writes = no_decimals; text_is = refl }

pub decimals_front : (text : List ℕ) → Front (λ t. Decimals t (decimals_at text).0) text (decimals_at text).1
decimals_front [] = record { front = []; writes = no_decimals; text_is = refl }
decimals_front (b ∷ text) = decimals_tested b text ((b == 46) && byte.first_passes is_ascii_digit text) refl

-- what `sign_at` gives after its tests
abbrev sign_by : ℕ → List ℕ → Bool → Bool → Bool × List ℕ
sign_by b text is_minus is_plus = cond is_minus (true, text) (cond is_plus (false, text) (false, b ∷ text))

sign_tested : (b : ℕ) (text : List ℕ) (is_minus is_plus : Bool) → (b == 45) ≡ is_minus → (b == 43) ≡ is_plus
    → Front (λ t. Sign t (sign_by b text is_minus is_plus).0) (b ∷ text) (sign_by b text is_minus is_plus).1
sign_tested b text true is_plus e f = record { front = 45 ∷ []; writes = minus; text_is = ap (λ c. c ∷ text) (same_byte b 45 e) }
sign_tested b text false true e f = record { front = 43 ∷ []; writes = plus; text_is = ap (λ c. c ∷ text) (same_byte b 43 f) }
sign_tested b text false false e f = record { front = []; writes = no_sign; text_is = refl }

sign_front : (text : List ℕ) → Front (λ t. Sign t (sign_at text).0) text (sign_at text).1
sign_front [] = record { front = []; writes = no_sign; text_is = refl }
sign_front (b ∷ text) = sign_tested b text (b == 45) (b == 43) refl refl

mark_of : (b : ℕ) → ((b == 101) || (b == 69)) ≡ true → Mark b
mark_of b h = by_first (b == 101) refl
  where
    by_first : (t : Bool) → (b == 101) ≡ t → Mark b
    by_first true e = subst Mark (sym (same_byte b 101 e)) small_e
    by_first false e = subst Mark (sym (same_byte b 69 (ap (λ t. t || (b == 69)) (sym e) ∙ h))) capital_e

-- what `exponent_at` gives after its test
abbrev exponent_by : ℕ → List ℕ → Bool × List ℕ → Bool → Bool × List ℕ × List ℕ
exponent_by b text signed test = cond test (signed.0, take_while is_ascii_digit signed.1, byte.behind is_ascii_digit signed.1) (false, [], b ∷ text)

exponent_tested : (b : ℕ) (text : List ℕ) (test : Bool) → (((b == 101) || (b == 69)) && byte.first_passes is_ascii_digit (sign_at text).1) ≡ test
    → Front (λ t. Exponent t (exponent_by b text (sign_at text) test).0 (exponent_by b text (sign_at text) test).1) (b ∷ text) (exponent_by b text (sign_at text) test).2
exponent_tested b text true e =
    let sign = sign_front text in
    let signed = (sign_at text).1 in
    let digits = digits_are signed (second_of_and ((b == 101) || (b == 69)) (byte.first_passes is_ascii_digit signed) e) in
    record {
      front = b ∷ (sign.front ++ take_while is_ascii_digit signed);
      writes = power b sign.front (sign_at text).0 (take_while is_ascii_digit signed) (mark_of b (first_of_and ((b == 101) || (b == 69)) (byte.first_passes is_ascii_digit signed) e)) sign.writes digits;
      text_is = ap (λ t. b ∷ t) (sign.text_is ∙ ap (λ t. sign.front ++ t) (digits_split signed) ∙ sym (append_assoc sign.front (take_while is_ascii_digit signed) (byte.behind is_ascii_digit signed)));
    }
exponent_tested b text false e = record { front = []; writes = no_exponent; text_is = refl }

pub exponent_front : (text : List ℕ) → Front (λ t. Exponent t (exponent_at text).0 (exponent_at text).1) text (exponent_at text).2
exponent_front [] = record { front = []; writes = no_exponent; text_is = refl }
exponent_front (b ∷ text) = exponent_tested b text (((b == 101) || (b == 69)) && byte.first_passes is_ascii_digit (sign_at text).1) refl

-- a text that begins with a digit begins with the literal that is read
pub literal_front : (text : List ℕ) → byte.first_passes is_ascii_digit text ≡ true → Front (λ t. Writes t (literal_at text).0) text (literal_at text).1
literal_front text h =
    let decimals = decimals_front (byte.behind is_ascii_digit text) in
    let tail = exponent_front (decimals_at (byte.behind is_ascii_digit text)).1 in
    let rest = (literal_at text).1 in
    record {
      front = take_while is_ascii_digit text ++ (decimals.front ++ tail.front);
      writes = written (take_while is_ascii_digit text) decimals.front (literal_at text).0.decimals tail.front (literal_at text).0.exponent (literal_at text).0.negative (digits_are text h) decimals.writes tail.writes;
      text_is = digits_split text ∙ ap (λ t. take_while is_ascii_digit text ++ t) (decimals.text_is ∙ ap (λ t. decimals.front ++ t) tail.text_is ∙ sym (append_assoc decimals.front tail.front rest))
          ∙ sym (append_assoc (take_while is_ascii_digit text) (decimals.front ++ tail.front) rest);
    }

pub writes_begin : (text : List ℕ) (l : Literal) → Writes text l → byte.first_passes is_ascii_digit text ≡ true
writes_begin _ _ (written whole behind _ tail _ _ w _ _) = begins_more whole (behind ++ tail) w.some
