-- Numbers that are read digit by digit.
use Rattle.std.proofs.Common.{◌≡◌, ◌+◌, ◌-◌, ◌*◌, ◌<◌, ◌≤◌, ℕ, suc, arith, Bool, true, false, refl, List, [], ◌∷◌, length, get_or, drop, ap, None}
use Rattle.std.specs.List.{list_all}
use Rattle.std.specs.Int.{IsInRange}
use Rattle.std.specs.Char.{is_ascii_digit, digit_value}
use Rattle.std.specs.Str.Parse.{digits_value_after}
use Rattle.std.proofs.Math.Seq.{drop-cons}
use Rattle.std.proofs.lemmas.List.Folds.{list_all_at}
use Rattle.std.proofs.lemmas.Bool.Decides.{nat_tests}
use Rattle.std.proofs.lemmas.Str.{digit_value_digit}
use Rattle.lift_frac.specs.Parts.{capped}

true_unless_false : (b : Bool) → (b ≡ false → ⊥) → b ≡ true
true_unless_false true h = refl
true_unless_false false h = absurd (h refl)

in_range : (c : ℕ) → is_ascii_digit c ≡ true → IsInRange 48 57 c
in_range c h = grind (arith, nat_tests)

-- each byte of digits is a digit
pub digit_in : (word : List ℕ) (i : ℕ) → list_all is_ascii_digit word ≡ true → i < length word → IsInRange 48 57 (get_or word i 0)
digit_in word i h k = in_range (get_or word i 0) (true_unless_false _ (λ e. let f = list_all_at is_ascii_digit word i 0 k e in cc (f, h)))

-- the number never falls
pub grows : (n : ℕ) (ds : List ℕ) → n ≤ digits_value_after 10 n ds
grows n [] = omega arith
grows n (d ∷ ds) = let more = grows (n * 10 + digit_value d) ds in omega (arith, more)

-- one digit more
after_digit : (ds : List ℕ) (i n : ℕ) → list_all is_ascii_digit ds ≡ true → i < length ds
    → digits_value_after 10 n (drop i ds) ≡ digits_value_after 10 (n * 10 + (get_or ds i 0 - 48)) (drop (suc i) ds)
after_digit ds i n h k =
    let range = digit_in ds i h k in
    let value : digit_value (get_or ds i 0) ≡ get_or ds i 0 - 48 = omega (arith, digit_value_digit (get_or ds i 0) range, range) in
    rw (drop-cons ds i 0 k) (ap (λ d. digits_value_after 10 (n * 10 + d) (drop (suc i) ds)) value)

pub capped_none : (limit n : ℕ) → limit ≤ n → None ≡ capped limit n
capped_none limit n h = grind (arith, nat_tests)

-- a number that has reached the limit stays there
pub too_large : (ds : List ℕ) (i n whole limit : ℕ) → list_all is_ascii_digit ds ≡ true → i < length ds
    → whole ≡ digits_value_after 10 n (drop i ds) → limit ≤ n * 10 + (get_or ds i 0 - 48) → None ≡ capped limit whole
too_large ds i n whole limit h k same large =
    let more = grows (n * 10 + (get_or ds i 0 - 48)) (drop (suc i) ds) in
    let next = after_digit ds i n h k in
    capped_none limit whole (omega (arith, more, next, same))
