-- Numbers of few digits, digit by digit.
use Rattle.std.proofs.Common.{◌≡◌, ℕ, zero, suc, ◌+◌, ◌-◌, ◌*◌, ◌^◌, ◌<◌, ◌≤◌, Bool, true, false, ◌&&◌, cond, List, [], ◌∷◌, length, take, get_or, Some, None, refl, sym, ap, ◌∙◌, arith}
use Rattle.std.specs.Prelude.{nat_lt}
use Rattle.std.specs.List.{list_all}
use Rattle.std.specs.Char.{is_ascii_digit, digit_value}
use Rattle.std.specs.Int.{IsInRange}
use Rattle.std.specs.Str.Parse.{AllDigits, digits_value}
use Rattle.std.proofs.lemmas.Bool.{lt-ltb}
use Rattle.std.proofs.Math.Nat.{pow-le-pow_right}
use Rattle.std.proofs.lemmas.Int.Digits.{digits_value-lt, digits_value_more}
use Rattle.std.proofs.lemmas.Str.{digit_value_digit}
use Rattle.std.proofs.lemmas.Str.Parse.{digits_value-take-le}
use Rattle.lift_frac.specs.Parts.{capped}
use Rattle.drn_read.specs.Text.{most_digits}

digit_in : (c : ℕ) → is_ascii_digit c ≡ true → IsInRange 48 57 c
digit_in c e = grind (arith, e)

and_left : (a b : Bool) → (a && b) ≡ true → a ≡ true
and_left true b e = refl
and_left false b e = absurd cc

and_right : (a b : Bool) → (a && b) ≡ true → b ≡ true
and_right true b e = e
and_right false b e = absurd cc

digits_in : (ds : List ℕ) → list_all is_ascii_digit ds ≡ true → AllDigits 10 ds
digits_in [] e = tt
digits_in (d ∷ ds) e =
    let r = digit_in d (and_left _ _ e) in
    (omega (arith, digit_value_digit d r, r), digits_in ds (and_right _ _ e))

digit_at : (ds : List ℕ) (i : ℕ) → list_all is_ascii_digit ds ≡ true → i < length ds → is_ascii_digit (get_or ds i 0) ≡ true
digit_at [] i e h = absurd (omega (arith, h))
digit_at (d ∷ ds) zero e h = and_left (is_ascii_digit d) (list_all is_ascii_digit ds) e
digit_at (d ∷ ds) (suc i) e h = digit_at ds i (and_right (is_ascii_digit d) (list_all is_ascii_digit ds) e) (omega (arith, h))

-- the digit that stands there
pub digit_is : (ds : List ℕ) (i : ℕ) → list_all is_ascii_digit ds ≡ true → i < length ds → (get_or ds i 0 - 48 ≡ digit_value (get_or ds i 0)) × (digit_value (get_or ds i 0) < 10)
digit_is ds i e h =
    let r = digit_in (get_or ds i 0) (digit_at ds i e h) in
    let k = digit_value_digit (get_or ds i 0) r in
    (omega (arith, k, r), omega (arith, k, r))

-- the number that the digits write up to there
pub value_next : (ds : List ℕ) (i n : ℕ) → list_all is_ascii_digit ds ≡ true → i < length ds → n ≡ digits_value 10 (take i ds) → n * 10 + (get_or ds i 0 - 48) ≡ digits_value 10 (take (i + 1) ds)
value_next ds i n e h is = ap (λ k. n * 10 + k) (digit_is ds i e h).0 ∙ ap (λ k. k * 10 + digit_value (get_or ds i 0)) is ∙ sym (digits_value_more 10 ds i h)

value_short : (ds : List ℕ) → list_all is_ascii_digit ds ≡ true → length ds ≤ 18 → digits_value 10 ds < 10 ^ 18
value_short ds e h = let top : 10 ^ length ds ≤ 10 ^ 18 = pow-le-pow_right {n = 10} (omega arith) h in omega (arith, digits_value-lt 10 ds (digits_in ds e), top)

pub front_short : (ds : List ℕ) (i n : ℕ) → list_all is_ascii_digit ds ≡ true → length ds ≤ 18 → n ≡ digits_value 10 (take i ds) → n < 10 ^ 18
front_short ds i n e h is = omega (arith, is, digits_value-take-le 10 ds i (omega arith), value_short ds e h)

pub short_capped : (ds : List ℕ) (n : ℕ) → n ≡ digits_value 10 ds → n < 10 ^ 18 → Some n ≡ capped (10 ^ most_digits) (digits_value 10 ds)
short_capped ds n is small =
    let below : nat_lt n (10 ^ most_digits) ≡ true = lt-ltb _ _ (omega (arith, small)) in
    sym (ap (λ b. cond b (Some n) None) below) ∙ ap (capped (10 ^ most_digits)) is
