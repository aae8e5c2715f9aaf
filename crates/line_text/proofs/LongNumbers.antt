-- Numbers of any length, digit by digit.
use Rattle.std.proofs.Common.{◌≡◌, ℕ, zero, suc, ◌+◌, ◌-◌, ◌*◌, ◌%◌, ◌^◌, ◌<◌, ◌≤◌, Bool, true, false, cond, not, ◌&&◌, List, [], ◌∷◌, length, take, get_or, Some, None, refl, sym, ap, ◌∙◌, arith, pow-suc}
use Rattle.std.specs.Prelude.{ℤ, pos, unsigned_abs, int_lt, ◌==◌}
use Rattle.std.proofs.lemmas.Bool.{le-ltb}
use Rattle.std.specs.List.{list_all}
use Rattle.std.specs.Option.{option_map}
use Rattle.std.specs.Char.{is_ascii_digit, digit_value}
use Rattle.std.specs.Str.{bytes_eq}
use Rattle.std.specs.Str.Parse.{digits_value, digits_value_after}
use Rattle.std.proofs.Math.Nat.{mul-le-mul_right, pow-le-pow_right, mod-add-mod}
use Rattle.std.proofs.lemmas.Nat.{mul-mod_first}
use Rattle.std.proofs.lemmas.Int.Digits.{digits_value-lt, digits_value_more}
use Rattle.std.proofs.lemmas.Str.{digit_value_digit}
use Rattle.std.proofs.lemmas.Str.Parse.{digits_value-take-le}
use Rattle.std.proofs.lemmas.Slice.Eq.{bytes_eq-Decides}
use Rattle.std.specs.Prelude.{codes}
use Rattle.line_text.specs.Words.{are_digits, natural_of, below_zero}
use Rattle.line_text.specs.Shown.{signed}
use Rattle.line_text.proofs.Digits.{digit_in, digits_in, and_left, and_right, le_value_after, not_zero}

pub all_digits : (ds : List ℕ) → are_digits ds ≡ true → list_all is_ascii_digit ds ≡ true
all_digits [] e = refl
all_digits (d ∷ []) e = rw e refl
all_digits (d ∷ c ∷ ds) e = and_right (not (d == 48)) (list_all is_ascii_digit (d ∷ c ∷ ds)) e

pub digit_at : (ds : List ℕ) (i : ℕ) → list_all is_ascii_digit ds ≡ true → i < length ds → is_ascii_digit (get_or ds i 0) ≡ true
digit_at [] i e h = absurd (omega (arith, h))
digit_at (d ∷ ds) zero e h = and_left (is_ascii_digit d) (list_all is_ascii_digit ds) e
digit_at (d ∷ ds) (suc i) e h = digit_at ds i (and_right (is_ascii_digit d) (list_all is_ascii_digit ds) e) (omega (arith, h))

-- the digit that stands there
pub digit_is : (ds : List ℕ) (i : ℕ) → list_all is_ascii_digit ds ≡ true → i < length ds → (get_or ds i 0 - 48 ≡ digit_value (get_or ds i 0)) × (digit_value (get_or ds i 0) < 10)
digit_is ds i e h =
    let r = digit_in (get_or ds i 0) (digit_at ds i e h) in
    let k = digit_value_digit (get_or ds i 0) r in
    (omega (arith, k, r), omega (arith, k, r))

-- the number that the digits write up to there
pub value_next : (ds : List ℕ) (i n : ℕ) → list_all is_ascii_digit ds ≡ true → i < length ds → n ≡ digits_value 10 (take i ds) → n * 10 + (get_or ds i 0 - 48) ≡ digits_value 10 (take (i + 1) ds)
value_next ds i n e h is = ap (λ k. n * 10 + k) (digit_is ds i e h).0 ∙ ap (λ k. k * 10 + digit_value (get_or ds i 0)) is ∙ sym (digits_value_more 10 ds i h)

pub value_below : (ds : List ℕ) → list_all is_ascii_digit ds ≡ true → length ds ≤ 31 → digits_value 10 ds < 10 ^ 31
value_below ds e h = let top : 10 ^ length ds ≤ 10 ^ 31 = pow-le-pow_right {n = 10} (omega arith) h in omega (arith, digits_value-lt 10 ds (digits_in ds e), top)

pub front_below : (ds : List ℕ) (i n : ℕ) → list_all is_ascii_digit ds ≡ true → length ds ≤ 31 → n ≡ digits_value 10 (take i ds) → n < 10 ^ 31
front_below ds i n e h is = omega (arith, is, digits_value-take-le 10 ds i (omega arith), value_below ds e h)

pub value_short : (ds : List ℕ) → list_all is_ascii_digit ds ≡ true → length ds ≤ 18 → digits_value 10 ds < 10 ^ 18
value_short ds e h = let top : 10 ^ length ds ≤ 10 ^ 18 = pow-le-pow_right {n = 10} (omega arith) h in omega (arith, digits_value-lt 10 ds (digits_in ds e), top)

pub front_short : (ds : List ℕ) (i n : ℕ) → list_all is_ascii_digit ds ≡ true → length ds ≤ 18 → n ≡ digits_value 10 (take i ds) → n < 10 ^ 18
front_short ds i n e h is = omega (arith, is, digits_value-take-le 10 ds i (omega arith), value_short ds e h)

-- ---- long numbers are wide

one_digit_more : (n v p q most : ℕ) → q ≡ 10 * p → (n * 10 + v) * p ≤ most → n * q ≤ most
one_digit_more n v p q most e h =
    let a : n * 10 * p ≤ (n * 10 + v) * p = mul-le-mul_right p (omega arith) in
    let b : n * (10 * p) ≡ n * 10 * p = grind arith in
    omega (arith, a, b, h, ap (λ x. n * x) e)

pub least_after : (n : ℕ) (ds : List ℕ) → n * 10 ^ length ds ≤ digits_value_after 10 n ds
least_after n [] = omega arith
least_after n (c ∷ cs) = one_digit_more n (digit_value c) (10 ^ length cs) (10 ^ suc (length cs)) (digits_value_after 10 (n * 10 + digit_value c) cs) (omega (arith, pow-suc 10 (length cs))) (least_after (n * 10 + digit_value c) cs)

-- the first digit of several isn't 0
pub first_some : (d c : ℕ) (cs : List ℕ) → are_digits (d ∷ c ∷ cs) ≡ true → 0 < digit_value d
first_some d c cs e =
    let a : is_ascii_digit d && list_all is_ascii_digit (c ∷ cs) ≡ true = and_right (not (d == 48)) (is_ascii_digit d && list_all is_ascii_digit (c ∷ cs)) e in
    let k = digit_value_digit d (digit_in d (and_left (is_ascii_digit d) (list_all is_ascii_digit (c ∷ cs)) a)) in
    let no : d ≡ 48 → ⊥ = not_zero d (and_left (not (d == 48)) (is_ascii_digit d && list_all is_ascii_digit (c ∷ cs)) e) in
    grind (arith, k, no)

pub long_wide : (ds : List ℕ) → are_digits ds ≡ true → 31 < length ds → 2 ^ 100 ≤ digits_value 10 ds
long_wide [] e h = absurd (omega (arith, h))
long_wide (d ∷ []) e h = absurd (omega (arith, h))
long_wide (d ∷ c ∷ cs) e h =
    let least = least_after (0 * 10 + digit_value d) (c ∷ cs) in
    let some : 1 ≤ 0 * 10 + digit_value d = omega (arith, first_some d c cs e) in
    let one : 1 * 10 ^ length (c ∷ cs) ≤ (0 * 10 + digit_value d) * 10 ^ length (c ∷ cs) = mul-le-mul_right (10 ^ length (c ∷ cs)) some in
    let long : 31 ≤ length (c ∷ cs) = omega (arith, h) in
    let top : 10 ^ 31 ≤ 10 ^ length (c ∷ cs) = pow-le-pow_right {n = 10} (omega arith) long in
    omega (arith, least, one, top)

pub size_is : (negative : Bool) (n : ℕ) → unsigned_abs (signed negative n) ≡ n
size_is true zero = refl
size_is true (suc n) = refl
size_is false n = refl

-- ---- numbers below 0

some_value : (ds : List ℕ) → are_digits ds ≡ true → (ds ≡ codes "0" → ⊥) → 0 < digits_value 10 ds
some_value [] e other_than = absurd cc
some_value (d ∷ []) e other_than =
    let k = digit_value_digit d (digit_in d e) in
    let other : d ≡ 48 → ⊥ = λ f. other_than (ap (λ x. x ∷ []) f) in
    grind (arith, k, other)
some_value (d ∷ c ∷ cs) e other_than = omega (arith, first_some d c cs e, le_value_after (0 * 10 + digit_value d) (c ∷ cs))

below_is : (ds : List ℕ) → are_digits ds ≡ true → bytes_eq ds (codes "0") ≡ false → below_zero (natural_of ds) ≡ Some (signed true (digits_value 10 ds))
below_is ds e other = ap (λ b. below_zero (cond b (Some (digits_value 10 ds)) None)) e ∙ by_value (digits_value 10 ds) (some_value ds e (λ same. absurd (clash ((bytes_eq-Decides ds (codes "0")).1 same))))
  where
    clash : bytes_eq ds (codes "0") ≡ true → ⊥
    clash t = let f : true ≡ false = sym t ∙ other in cc

    by_value : (v : ℕ) → 0 < v → below_zero (Some v) ≡ Some (signed true v)
    by_value zero h = absurd (omega (arith, h))
    by_value (suc n) h = refl

-- the number below 0 of a size that isn't 0
pub below_size : (ds : List ℕ) → bytes_eq ds (codes "0") ≡ false → option_map (signed true) (natural_of ds) ≡ below_zero (natural_of ds)
below_size ds other = by_form (are_digits ds) refl
  where
    by_form : (b : Bool) → are_digits ds ≡ b → option_map (signed true) (natural_of ds) ≡ below_zero (natural_of ds)
    by_form true e = ap (λ b. option_map (signed true) (cond b (Some (digits_value 10 ds)) None)) e ∙ sym (below_is ds e other)
    by_form false e = ap (λ b. option_map (signed true) (cond b (Some (digits_value 10 ds)) None)) e ∙ sym (ap (λ b. below_zero (cond b (Some (digits_value 10 ds)) None)) e)

-- ---- what is left at a division

pub remainder_next : (ds : List ℕ) (i by rest : ℕ) → list_all is_ascii_digit ds ≡ true → i < length ds → rest ≡ digits_value 10 (take i ds) % by → (rest * 10 + (get_or ds i 0 - 48)) % by ≡ digits_value 10 (take (i + 1) ds) % by
remainder_next ds i by rest e h is =
    ap (λ k. (k * 10 + (get_or ds i 0 - 48)) % by) is ∙ inner (digits_value 10 (take i ds)) (get_or ds i 0 - 48) by ∙ ap (λ k. k % by) (value_next ds i (digits_value 10 (take i ds)) e h refl)
  where
    inner : (v d by : ℕ) → (v % by * 10 + d) % by ≡ (v * 10 + d) % by
    inner v d by = sym (mod-add-mod (v % by * 10) by d) ∙ ap (λ k. (k + d) % by) (mul-mod_first v 10 by) ∙ mod-add-mod (v * 10) by d

pub below_wide : (negative : Bool) (n : ℕ) (z : ℤ) → signed negative n ≡ z → 2 ^ 100 ≤ unsigned_abs z → negative ≡ int_lt z (pos 0)
below_wide true zero z e h = absurd (omega (arith, h, ap unsigned_abs e))
below_wide true (suc n) z e h = ap (λ x. int_lt x (pos 0)) e
below_wide false n z e h = not_below n ∙ ap (λ x. int_lt x (pos 0)) e
  where
    not_below : (n : ℕ) → false ≡ int_lt (pos n) (pos 0)
    not_below n = sym (le-ltb n 0 (omega arith))
