-- Digits of a number.
use Rattle.std.proofs.Common.{◌≡◌, ℕ, ◌+◌, ◌*◌, ◌≤◌, Bool, true, false, not, ◌&&◌, List, [], ◌∷◌, refl, arith}
use Rattle.std.specs.Prelude.{◌==◌}
use Rattle.std.specs.List.{list_all}
use Rattle.std.specs.Char.{is_ascii_digit, digit_value}
use Rattle.std.specs.Int.{IsInRange}
use Rattle.std.specs.Str.Parse.{AllDigits, digits_value_after}
use Rattle.std.proofs.lemmas.Str.{digit_value_digit}

pub digit_in : (c : ℕ) → is_ascii_digit c ≡ true → IsInRange 48 57 c
digit_in c e = grind (arith, e)

pub and_left : (a b : Bool) → (a && b) ≡ true → a ≡ true
and_left true b e = refl
and_left false b e = absurd cc

pub and_right : (a b : Bool) → (a && b) ≡ true → b ≡ true
and_right true b e = e
and_right false b e = absurd cc

pub digits_in : (ds : List ℕ) → list_all is_ascii_digit ds ≡ true → AllDigits 10 ds
digits_in [] e = tt
digits_in (d ∷ ds) e =
    let r = digit_in d (and_left _ _ e) in
    (omega (arith, digit_value_digit d r, r), digits_in ds (and_right _ _ e))

pub le_value_after : (n : ℕ) (ds : List ℕ) → n ≤ digits_value_after 10 n ds
le_value_after n [] = omega arith
le_value_after n (c ∷ cs) = omega (arith, le_value_after (n * 10 + digit_value c) cs)

pub not_zero : (d : ℕ) → not (d == 48) ≡ true → d ≡ 48 → ⊥
not_zero d e refl = absurd cc
