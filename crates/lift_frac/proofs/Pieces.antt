-- Digits in two pieces.
use Rattle.std.proofs.Common.{◌≡◌, ◌≢◌, ◌+◌, ◌-◌, ◌*◌, ◌≤◌, ℕ, zero, suc, arith, Bool, true, false, refl, List, [], ◌∷◌, ◌++◌, length, take, sym, ◌∙◌, ap, None, Some, length-append, reverse}
use Rattle.std.specs.Prelude.{nat_lt, ◌&&◌}
use Rattle.std.specs.List.{list_all, suffix_len, prefix_len}
use Rattle.std.specs.Char.{digit_value}
use Rattle.std.specs.Str.Parse.{digits_value_after, digits_value}
use Rattle.std.proofs.lemmas.List.{reverse-append, length-reverse}
use Rattle.std.proofs.lemmas.List.Folds.{prefix_len-append}
use Rattle.std.proofs.lemmas.Bool.Decides.{nat_tests}
use Rattle.std.proofs.Math.Seq.{take-append-add}
use Rattle.lift_frac.specs.Parts.{capped}
use Rattle.lift_frac.proofs.Digits.{grows, capped_none}

-- the digits behind others
behind_digits : (xs ys : List ℕ) (n : ℕ) → digits_value_after 10 n (xs ++ ys) ≡ digits_value_after 10 (digits_value_after 10 n xs) ys
behind_digits [] ys n = refl
behind_digits (x ∷ xs) ys n = behind_digits xs ys (n * 10 + digit_value x)

capped_some : (limit x n : ℕ) → Some n ≡ capped limit x → n ≡ x
capped_some limit x n h = by_test (nat_lt x limit) refl
  where
    by_test : (b : Bool) → nat_lt x limit ≡ b → n ≡ x
    by_test true e = let f : capped limit x ≡ Some x = rw e refl in cc
    by_test false e = let f : capped limit x ≡ None = rw e refl in cc

large : (limit x : ℕ) → None ≡ capped limit x → limit ≤ x
large limit x h = by_test (nat_lt x limit) refl
  where
    by_test : (b : Bool) → nat_lt x limit ≡ b → limit ≤ x
    by_test true e = let f : capped limit x ≡ Some x = rw e refl in let g : None ≡ Some x = h ∙ f in cc
    by_test false e = grind (arith, nat_tests)

pub two_some : (limit n : ℕ) (xs ys : List ℕ) → Some n ≡ capped limit (digits_value_after 10 0 xs) → capped limit (digits_value_after 10 n ys) ≡ capped limit (digits_value 10 (xs ++ ys))
two_some limit n xs ys h = ap (λ k. capped limit k) (ap (λ k. digits_value_after 10 k ys) (capped_some limit _ n h) ∙ sym (behind_digits xs ys 0))

pub two_none : (limit : ℕ) (xs ys : List ℕ) → None ≡ capped limit (digits_value_after 10 0 xs) → None ≡ capped limit (digits_value 10 (xs ++ ys))
two_none limit xs ys h =
    let l = large limit (digits_value_after 10 0 xs) h in
    let g = grows (digits_value_after 10 0 xs) ys in
    capped_none limit _ (omega (arith, l, g, behind_digits xs ys 0))

pub capped_same : (limit : ℕ) (xs ys : List ℕ) → xs ≡ ys → capped limit (digits_value 10 ys) ≡ capped limit (digits_value 10 xs)
capped_same limit xs ys e = ap (λ k. capped limit (digits_value 10 k)) (sym e)

-- a front of digits
pub take_passes : {A : Type 0} (p : A → Bool) (xs : List A) (n : ℕ) → list_all p xs ≡ true → list_all p (take n xs) ≡ true
take_passes p [] zero h = refl
take_passes p [] (suc n) h = refl
take_passes p (x ∷ xs) zero h = refl
take_passes p (x ∷ xs) (suc n) h = first_too (p x) (list_all p xs) (list_all p (take n xs)) h (λ k. take_passes p xs n k)
  where
    first_too : (b c d : Bool) → (b && c) ≡ true → (c ≡ true → d ≡ true) → (b && d) ≡ true
    first_too true c d e f = f e
    first_too false c d e f = e

pub in_part : (xs ys : List ℕ) (n : ℕ) → n ≤ length ys → take (length (xs ++ ys) - n) (xs ++ ys) ≡ xs ++ take (length ys - n) ys
in_part xs ys n h =
    let e : length (xs ++ ys) - n ≡ length xs + (length ys - n) = omega (arith, length-append xs ys) in
    ap (λ k. take k (xs ++ ys)) e ∙ take-append-add xs ys (length ys - n)

pub zeros_through : (p : ℕ → Bool) (xs ys : List ℕ) → suffix_len p ys ≡ length ys → suffix_len p ys + suffix_len p xs ≡ suffix_len p (xs ++ ys)
zeros_through p xs ys h = sym (ap (prefix_len p) (reverse-append xs ys) ∙ prefix_len-append p (reverse ys) (reverse xs) ∙ grind (arith, nat_tests, length-reverse ys, h))

pub zeros_within : (p : ℕ → Bool) (xs ys : List ℕ) → suffix_len p ys ≢ length ys → suffix_len p ys ≡ suffix_len p (xs ++ ys)
zeros_within p xs ys h = sym (ap (prefix_len p) (reverse-append xs ys) ∙ prefix_len-append p (reverse ys) (reverse xs) ∙ grind (arith, nat_tests, length-reverse ys, h))
