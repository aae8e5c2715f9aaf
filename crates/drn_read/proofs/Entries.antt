-- A transition's line by its pieces.
use Prim.Native.Char.{code}
use Rattle.std.proofs.Common.{◌≡◌, ◌==◌, ◌&&◌, ◌||◌, ◌≤◌, ◌<◌, ◌+◌, ◌^◌, ℕ, length-take-le, one-add, Bool, true, false, cond, List, [], ◌∷◌, length, take, drop, Option, Some, None, refl, sym, ◌∙◌, ap, arith}
use Rattle.std.specs.Prelude.{is_some, nat_lt, not}
use Rattle.std.specs.List.{list_all, prefix_len}
use Rattle.std.specs.Char.{is_ascii_digit}
use Rattle.std.specs.Str.Parse.{digits_value}
use Rattle.std.proofs.Math.Nat.{pow-le-pow_right}
use Rattle.std.proofs.lemmas.Bool.Decides.{nat_tests}
use Rattle.std.proofs.lemmas.Int.Digits.{digits_value-lt}
use Rattle.lift_frac.specs.Parts.{capped}
use Rattle.lift_bytes.specs.Bytes.{is_blank, first_passes, behind}
use Rattle.drn_read.specs.Faults.{when}
use Rattle.drn_read.specs.Text.{most_digits, behind_colon}
use Rattle.drn_read.specs.States.{target_text}
use Rattle.drn_read.specs.Judging.{target_text_fault}
use Rattle.drn_read.specs.Shown.{rest}
use Rattle.drn_read.specs.ModelSteps.{IsTransitionFront}
use Rattle.drn_read.specs.declared.front.TransitionFront.{TransitionFront}
use Rattle.drn_read.specs.declared.error.DrnCause.TheVariants.{Syntax}
use Rattle.drn_read.proofs.Counts.{all_digits}

-- ---- digits

-- at most twenty digits write a number below 10^20
pub few_digits : (digits : List ℕ) → list_all is_ascii_digit digits ≡ true → length digits ≤ most_digits → capped (10 ^ most_digits) (digits_value 10 digits) ≡ Some (digits_value 10 digits)
few_digits digits all short =
    let below = digits_value-lt 10 digits (all_digits digits all) in
    let ten : 0 < 10 = omega arith in
    let most = pow-le-pow_right {n = 10} ten {i = length digits} {j = 20} short in
    let fits : digits_value 10 digits < 10 ^ 20 = omega (arith, below, most) in
    grind (arith, nat_tests)

while_all : (p : ℕ → Bool) (text : List ℕ) → list_all p (take (prefix_len p text) text) ≡ true
while_all p [] = refl
while_all p (x ∷ xs) = by_first (p x) refl (while_all p xs)
  where
    by_first : (b : Bool) → p x ≡ b → list_all p (take (prefix_len p xs) xs) ≡ true → list_all p (take (cond b (1 + prefix_len p xs) 0) (x ∷ xs)) ≡ true
    by_first true is rest = rw one-add (ap (λ b. b && list_all p (take (prefix_len p xs) xs)) is ∙ rest)
    by_first false is rest = refl

-- the digits at the front of a line, and what stands behind them
pub record DigitsEnd (line : List ℕ) (digits : ℕ) : Type 0 where
  pub front : target_text line ≡ take digits line
  pub rest : behind is_ascii_digit line ≡ drop digits line
  pub all : list_all is_ascii_digit (take digits line) ≡ true

pub digits_end : (line : List ℕ) (digits : ℕ) → digits ≡ prefix_len is_ascii_digit line → DigitsEnd line digits
digits_end line digits e =
    let front : target_text line ≡ take digits line = ap (λ n. take n line) (sym e) in
    record {
      front = front;
      rest = ap (λ n. drop n line) (sym e);
      all = ap (list_all is_ascii_digit) (sym front) ∙ while_all is_ascii_digit line;
    }

-- ---- a target and the colon behind it

-- the test of a line with these digits and what stands behind them
fault_of_parts : (line digits rest : List ℕ) → target_text line ≡ digits → behind is_ascii_digit line ≡ rest
    → target_text_fault line ≡ when (nat_lt most_digits (length digits) || not (first_passes (λ b. b == code ":") (behind is_blank rest))) Syntax
fault_of_parts line digits rest e f =
    ap (λ (ds : List ℕ). when (nat_lt most_digits (length ds) || not (first_passes (λ b. b == code ":") (behind is_blank (behind is_ascii_digit line)))) Syntax) e
    ∙ ap (λ (r : List ℕ). when (nat_lt most_digits (length digits) || not (first_passes (λ b. b == code ":") (behind is_blank r))) Syntax) f

colon_is : (rest : List ℕ) (o : Option (List ℕ)) → behind_colon rest ≡ o → first_passes (λ b. b == code ":") (behind is_blank rest) ≡ is_some o
colon_is rest o e = by_test (first_passes (λ b. b == code ":") (behind is_blank rest)) ∙ ap (λ (o : Option (List ℕ)). is_some o) e
  where
    by_test : (b : Bool) → b ≡ is_some (cond b (Some (drop 1 (behind is_blank rest))) None)
    by_test true = refl
    by_test false = refl

short_is : (line : List ℕ) (digits : ℕ) (o : Option (List ℕ)) → DigitsEnd line digits → digits ≤ length line → digits ≤ most_digits → behind_colon (drop digits line) ≡ o
    → target_text_fault line ≡ when (not (is_some o)) Syntax
short_is line digits o d within short e =
    let size : length (take digits line) ≡ digits = length-take-le digits line within in
    let lt : nat_lt most_digits (length (take digits line)) ≡ false = rw size (grind (arith, nat_tests)) in
    fault_of_parts line (take digits line) (drop digits line) d.front d.rest
    ∙ ap (λ b. when (b || not (first_passes (λ b. b == code ":") (behind is_blank (drop digits line)))) Syntax) lt
    ∙ ap (λ b. when (not b) Syntax) (colon_is (drop digits line) o e)

-- too many digits
pub long_text : (line : List ℕ) (digits : ℕ) → DigitsEnd line digits → digits ≤ length line → most_digits < digits → target_text_fault line ≡ Some Syntax
long_text line digits d within long =
    let size : length (take digits line) ≡ digits = length-take-le digits line within in
    let lt : nat_lt most_digits (length (take digits line)) ≡ true = rw size (grind (arith, nat_tests)) in
    fault_of_parts line (take digits line) (drop digits line) d.front d.rest
    ∙ ap (λ b. when (b || not (first_passes (λ b. b == code ":") (behind is_blank (drop digits line)))) Syntax) lt

-- no colon behind the digits
pub no_colon : (line : List ℕ) (digits : ℕ) → DigitsEnd line digits → digits ≤ length line → digits ≤ most_digits → behind_colon (drop digits line) ≡ None → target_text_fault line ≡ Some Syntax
no_colon line digits d within short e = short_is line digits None d within short e

-- a target and a colon
pub front_is : (line : List ℕ) (digits : ℕ) (front : TransitionFront) → DigitsEnd line digits → digits ≤ length line → digits ≤ most_digits
    → behind_colon (drop digits line) ≡ Some (rest front.value) → front.target ≡ digits_value 10 (take digits line) → IsTransitionFront line front
front_is line digits front d within short e target = record {
  fault = short_is line digits (Some (rest front.value)) d within short e;
  target = target ∙ ap (digits_value 10) (sym d.front);
  value = ap behind_colon d.rest ∙ e;
}
