-- How words look that write numbers: their bytes and their lengths.
use Rattle.std.proofs.Common.{◌≡◌, ℕ, suc, ◌+◌, ◌*◌, ◌^◌, ◌<◌, ◌≤◌, Bool, true, false, not, List, [], ◌∷◌, ◌++◌, length, get_or, Option, Some, None, refl, sym, ap, ◌∙◌, arith}
use Rattle.std.specs.Prelude.{ℤ, pos, negsuc, unsigned_abs, ◌==◌}
use Rattle.std.specs.List.{AllByRecursion, join_with_byte, position_or_len, before_first, after_first}
use Rattle.std.specs.Int.{IsInRange}
use Rattle.std.specs.Option.{option_zip}
use Rattle.std.specs.Str.Parse.{AllDigits}
use Rattle.std.specs.Fmt.{decimal, signed_decimal}
use Rattle.std.proofs.lemmas.Fmt.{decimal_is_IsNumeral_wide, length-decimal-le_wide}
use Rattle.std.proofs.lemmas.Str.Parse.{digit_from_value}
use Rattle.std.proofs.lemmas.Bool.{eqb-true, eq-eqb}
use Rattle.std.proofs.lemmas.List.{length-append, length-drop}
use Rattle.std.proofs.lemmas.List.Sums.{split_at_first, prefix_len_stops}
use Rattle.line_text.specs.Words.{number_of, pair_of}
use Rattle.cert_text.proofs.CutLines.{IsPlain, IsWord, take_here, drop_here}
use Rattle.cert_text.proofs.Decimals.{number_back, number_again}
use Rattle.cert_text.proofs.Fields.{IsSmall}

-- ---- bytes

-- a byte of a number
pub record IsNumeric (b : ℕ) : Type 0 where
  pub plain : IsPlain b
  pub slash : (b == 47) ≡ false
  pub colon : (b == 58) ≡ false

numeric : (b : ℕ) → IsInRange 48 57 b → IsNumeric b
numeric b r = record { plain = (grind (arith, r), grind (arith, r)); slash = grind (arith, r); colon = grind (arith, r) }

digits_numeric : (ds : List ℕ) → AllDigits 10 ds → AllByRecursion IsNumeric ds
digits_numeric [] d = tt
digits_numeric (b ∷ ds) d = (numeric b (digit_from_value b d.0), digits_numeric ds d.1)

pub signed_numeric : (z : ℤ) → IsSmall z → AllByRecursion IsNumeric (signed_decimal z)
signed_numeric (pos n) small = digits_numeric (decimal n) (decimal_is_IsNumeral_wide n small).0.1
signed_numeric (negsuc n) small = (record { plain = (refl, refl); slash = refl; colon = refl }, digits_numeric (decimal (suc n)) (decimal_is_IsNumeral_wide (suc n) small).0.1)

pub numeric_word : (w : List ℕ) → AllByRecursion IsNumeric w → IsWord w
numeric_word [] h = tt
numeric_word (b ∷ w) h = (h.0.plain, numeric_word w h.1)

pub signed_word : (z : ℤ) → IsSmall z → IsWord (signed_decimal z)
signed_word z small = numeric_word (signed_decimal z) (signed_numeric z small)

-- ---- lengths

pub signed_len : (k : ℕ) (z : ℤ) → unsigned_abs z < 10 ^ suc k → unsigned_abs z < 10 ^ 64 → length (signed_decimal z) ≤ suc (suc k)
signed_len k (pos n) fits small = omega (arith, length-decimal-le_wide (suc k) n (omega arith) fits small)
signed_len k (negsuc n) fits small = omega (arith, length-decimal-le_wide (suc k) (suc n) (omega arith) fits small)

pub join_len : (ws : List (List ℕ)) (k : ℕ) → AllByRecursion (λ w. length w ≤ k) ws → length (join_with_byte 32 ws) ≤ length ws * suc k
join_len [] k h = omega arith
join_len (w ∷ []) k h = omega (arith, h.0)
join_len (w ∷ v ∷ ws) k h =
    let more = join_len (v ∷ ws) k h.1 in
    let e : length (w ∷ v ∷ ws) * suc k ≡ suc k + length (v ∷ ws) * suc k = grind arith in
    omega (arith, h.0, more, e, length-append w (32 ∷ join_with_byte 32 (v ∷ ws)))

-- ---- two numbers with a byte between them

first_at : (p : ℕ → Bool) (t : List ℕ) (b : ℕ) (rest : List ℕ) → AllByRecursion (λ x. p x ≡ false) t → p b ≡ true → position_or_len p (t ++ b ∷ rest) ≡ length t
first_at p [] b rest h e = rw e refl
first_at p (a ∷ t) b rest h e = rw (h.0, first_at p t b rest h.1 e) (omega arith)

zip_is : {A B : Type 0} (p : Option A) (q : Option B) (a : A) (b : B) → option_zip p q ≡ Some (a, b) → (p ≡ Some a) × (q ≡ Some b)
zip_is None q a b e = absurd cc
zip_is (Some x) None a b e = absurd cc
zip_is (Some x) (Some y) a b e = let both : (x, y) ≡ (a, b) = some_is (x, y) (a, b) e in (ap (λ p. Some p.0) both, ap (λ p. Some p.1) both)
  where
    some_is : {C : Type 0} (x y : C) → Some x ≡ Some y → x ≡ y
    some_is x y e = cc

some_number : (w : List ℕ) (z : ℤ) → number_of w ≡ Some z → 0 < length w
some_number [] z e = absurd cc
some_number (b ∷ w) z e = omega arith

pub pair_back : (byte : ℕ) (w : List ℕ) (a b : ℤ) → pair_of byte w ≡ Some (a, b) → IsSmall a → IsSmall b → w ≡ signed_decimal a ++ byte ∷ signed_decimal b
pair_back byte w a b e sa sb =
    let p : ℕ → Bool = λ x. x == byte in
    let parts = zip_is (number_of (before_first p w)) (number_of (after_first p w)) a b e in
    let there : position_or_len p w < length w = found p w b parts.1 in
    let at : get_or w (position_or_len p w) 0 ≡ byte = eqb-true (get_or w (position_or_len p w) 0) byte (passes p w there) in
    split_at_first p w 0 there
    ∙ ap (λ x. before_first p w ++ x ∷ after_first p w) at
    ∙ ap (λ x. x ++ byte ∷ after_first p w) (sym (number_back (before_first p w) a parts.0 sa))
    ∙ ap (λ x. signed_decimal a ++ byte ∷ x) (sym (number_back (after_first p w) b parts.1 sb))
  where
    found : (p : ℕ → Bool) (w : List ℕ) (b : ℤ) → number_of (after_first p w) ≡ Some b → position_or_len p w < length w
    found p w b e = omega (arith, some_number (after_first p w) b e, length-drop (position_or_len p w + 1) w)

    passes : (p : ℕ → Bool) (w : List ℕ) → position_or_len p w < length w → p (get_or w (position_or_len p w) 0) ≡ true
    passes p w there = not_false (p (get_or w (position_or_len p w) 0)) (prefix_len_stops (λ x. not (p x)) w 0 there)
      where
        not_false : (b : Bool) → not b ≡ false → b ≡ true
        not_false true e = refl
        not_false false e = absurd cc

pub pair_again : (byte : ℕ) (a b : ℤ) → AllByRecursion (λ x. (x == byte) ≡ false) (signed_decimal a) → IsSmall a → IsSmall b → pair_of byte (signed_decimal a ++ byte ∷ signed_decimal b) ≡ Some (a, b)
pair_again byte a b clean sa sb =
    let at = first_at (λ x. x == byte) (signed_decimal a) byte (signed_decimal b) clean (same byte) in
    rw (at, take_here (signed_decimal a) byte (signed_decimal b), drop_here (signed_decimal a) byte (signed_decimal b), number_again a sa, number_again b sb) refl
  where
    same : (n : ℕ) → (n == n) ≡ true
    same n = eq-eqb n n refl
