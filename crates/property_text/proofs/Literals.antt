-- The bytes of literals, and texts that are one literal, or one over another.
use Prim.Native.Char.{code}
use Rattle.std.proofs.Common.{◌≡◌, ◌==◌, ◌&&◌, ℕ, zero, suc, nat_lt, Bool, true, false, not, List, [], ◌∷◌, ◌++◌, Option, Some, None, refl, sym, ◌∙◌, subst, arith}
use Rattle.std.specs.List.{list_all}
use Rattle.std.specs.Char.{is_ascii_digit}
use Rattle.std.specs.Str.{IsAscii, IsUtf8}
use Rattle.std.proofs.lemmas.Str.{IsUtf8-from_ascii}
use Rattle.std.proofs.lemmas.List.Folds.{list_all-append}
use Rattle.std.proofs.lemmas.Bool.Decides.{nat_tests}
use Rattle.lift_bytes.specs.Bytes.{first_passes}
use Rattle.lift_frac.specs.Literal.{Literal}
use Rattle.lift_frac.specs.Grammar.{Writes, IsDigits, Decimals, Sign, Mark, Exponent}
use Rattle.lift_frac.specs.Grammar.Writes.{written}
use Rattle.lift_frac.specs.Grammar.Decimals.{no_decimals, point}
use Rattle.lift_frac.specs.Grammar.Sign.{no_sign, plus, minus}
use Rattle.lift_frac.specs.Grammar.Mark.{small_e, capital_e}
use Rattle.lift_frac.specs.Grammar.Exponent.{no_exponent, power}
use Rattle.lift_frac.specs.Written.{cut_at}
use Rattle.property_text.specs.Grammar.{IsRatio}
use Rattle.property_text.specs.Grammar.IsRatio.{whole, over}
use Rattle.property_text.specs.Reading.{is_bound_byte}
use Rattle.property_text.proofs.Cuts.{cut_first, cut_none}

both : (p : ℕ → Bool) (xs ys : List ℕ) → list_all p xs ≡ true → list_all p ys ≡ true → list_all p (xs ++ ys) ≡ true
both p xs ys a b = list_all-append p xs ys ∙ rw (a, b) refl

one_more : (a b c : Bool) → a ≡ true → (a && b) ≡ true → b ≡ true
one_more true b c e h = h
one_more false b c e h = cc

with_first : (a b : Bool) → a ≡ true → b ≡ true → (a && b) ≡ true
with_first a b e h = rw (e, h) refl

implied : (p q : ℕ → Bool) (a b c : Bool) (f : a ≡ true → c ≡ true) (d : Bool) → (b ≡ true → d ≡ true) → (a && b) ≡ true → (c && d) ≡ true
implied p q true true c f d g h = rw (f refl, g refl) refl
implied p q true false c f d g h = cc
implied p q false b c f d g h = cc

pub each_passes : (p q : ℕ → Bool) → ((b : ℕ) → p b ≡ true → q b ≡ true) → (xs : List ℕ) → list_all p xs ≡ true → list_all q xs ≡ true
each_passes p q f [] h = refl
each_passes p q f (x ∷ xs) h = implied p q (p x) (list_all p xs) (q x) (f x) (list_all q xs) (each_passes p q f xs) h

-- a test that every byte passes of which literals consist
pub record Passes (p : ℕ → Bool) : Type 0 where
  pub digit : (b : ℕ) → is_ascii_digit b ≡ true → p b ≡ true
  pub dot : p (code ".") ≡ true
  pub small : p (code "e") ≡ true
  pub capital : p (code "E") ≡ true
  pub plus_sign : p (code "+") ≡ true
  pub minus_sign : p (code "-") ≡ true

module _ (p : ℕ → Bool) (h : Passes p) where
  digits : (xs : List ℕ) → IsDigits xs → list_all p xs ≡ true
  digits xs d = each_passes is_ascii_digit p h.digit xs d.all

  decimals_pass : (xs ds : List ℕ) → Decimals xs ds → list_all p xs ≡ true
  decimals_pass _ _ no_decimals = refl
  decimals_pass _ _ (point ds d) = with_first (p (code ".")) (list_all p ds) h.dot (digits ds d)

  sign_passes : (xs : List ℕ) (n : Bool) → Sign xs n → list_all p xs ≡ true
  sign_passes _ _ no_sign = refl
  sign_passes _ _ plus = rw h.plus_sign refl
  sign_passes _ _ minus = rw h.minus_sign refl

  mark_passes : (m : ℕ) → Mark m → p m ≡ true
  mark_passes _ small_e = h.small
  mark_passes _ capital_e = h.capital

  exponent_passes : (xs ds : List ℕ) (n : Bool) → Exponent xs n ds → list_all p xs ≡ true
  exponent_passes _ _ _ no_exponent = refl
  exponent_passes _ _ _ (power m sign n ds mark s d) = with_first (p m) (list_all p (sign ++ ds)) (mark_passes m mark) (both p sign ds (sign_passes sign n s) (digits ds d))

  pub literal_passes : (text : List ℕ) (l : Literal) → Writes text l → list_all p text ≡ true
  literal_passes _ _ (written front behind decimals tail exponent n w d e) =
      both p front (behind ++ tail) (digits front w) (both p behind tail (decimals_pass behind decimals d) (exponent_passes tail exponent n e))

starts : (xs ys : List ℕ) → first_passes is_ascii_digit xs ≡ true → first_passes is_ascii_digit (xs ++ ys) ≡ true
starts [] ys h = cc
starts (x ∷ xs) ys h = h

-- a literal begins with a digit
pub literal_starts : (text : List ℕ) (l : Literal) → Writes text l → first_passes is_ascii_digit text ≡ true
literal_starts _ _ (written front behind decimals tail exponent n w d e) = starts front (behind ++ tail) w.some

not_slash : Passes (λ b. not (b == code "/"))
not_slash = record { digit = λ b e. grind (arith, nat_tests); dot = refl; small = refl; capital = refl; plus_sign = refl; minus_sign = refl }

in_bound : Passes is_bound_byte
in_bound = record { digit = λ b e. grind (arith, nat_tests); dot = refl; small = refl; capital = refl; plus_sign = refl; minus_sign = refl }

pub ratio_passes : (text : List ℕ) → IsRatio text → list_all is_bound_byte text ≡ true
ratio_passes _ (whole text l w) = literal_passes is_bound_byte in_bound text l w
ratio_passes _ (over above below a b u v) = both is_bound_byte above (code "/" ∷ below) (literal_passes is_bound_byte in_bound above a u) (literal_passes is_bound_byte in_bound below b v)

pub ratio_starts : (text : List ℕ) → IsRatio text → first_passes is_ascii_digit text ≡ true
ratio_starts _ (whole text l w) = literal_starts text l w
ratio_starts _ (over above below a b u v) = starts above (code "/" ∷ below) (literal_starts above a u)

-- how a bound is cut
pub data Cut : List ℕ → Option (List ℕ × List ℕ) → Type 0 where
  uncut : (text : List ℕ) (l : Literal) → Writes text l → Cut text None
  at_slash : (text above below : List ℕ) (a b : Literal) → Writes above a → Writes below b → Cut text (Some (above, below))

pub ratio_cut : (text : List ℕ) → IsRatio text → Cut text (cut_at (code "/") text)
ratio_cut _ (whole text l w) = subst (Cut text) (sym (cut_none (code "/") text (literal_passes _ not_slash text l w))) (uncut text l w)
ratio_cut _ (over above below a b u v) = subst (Cut (above ++ code "/" ∷ below)) (sym (cut_first (code "/") above below (literal_passes _ not_slash above a u) refl)) (at_slash (above ++ code "/" ∷ below) above below a b u v)

-- where nothing is cut, a bound is a literal
pub is_whole : (text : List ℕ) → Cut text None → (l : Literal) × Writes text l
is_whole _ (uncut text l w) = (l, w)

-- and else both parts are
pub are_parts : (text above below : List ℕ) → Cut text (Some (above, below)) → ((l : Literal) × Writes above l) × ((l : Literal) × Writes below l)
are_parts _ _ _ (at_slash text above below a b u v) = ((a, u), (b, v))

-- ---- bounds are ASCII

ascii : Passes (λ b. nat_lt b 128)
ascii = record { digit = λ b e. grind (arith, nat_tests); dot = refl; small = refl; capital = refl; plus_sign = refl; minus_sign = refl }

apart : (a b : Bool) → (a && b) ≡ true → (a ≡ true) × (b ≡ true)
apart true b h = (refl, h)
apart false b h = cc

one_byte_more : (x : ℕ) (xs : List ℕ) → nat_lt x 128 ≡ true → IsAscii xs → IsAscii (x ∷ xs)
one_byte_more x xs e more zero = grind (arith, nat_tests)
one_byte_more x xs e more (suc i) = more i

bytes_below : (xs : List ℕ) → list_all (λ b. nat_lt b 128) xs ≡ true → IsAscii xs
bytes_below [] h = λ i. omega arith
bytes_below (x ∷ xs) h =
    let parts = apart (nat_lt x 128) (list_all (λ b. nat_lt b 128) xs) h in
    one_byte_more x xs parts.0 (bytes_below xs parts.1)

pub ratio_is_text : (text : List ℕ) → IsRatio text → IsUtf8 text
ratio_is_text text is = IsUtf8-from_ascii text (bytes_below text (passes text is))
  where
    passes : (text : List ℕ) → IsRatio text → list_all (λ b. nat_lt b 128) text ≡ true
    passes _ (whole text l w) = literal_passes _ ascii text l w
    passes _ (over above below a b u v) = both (λ b. nat_lt b 128) above (code "/" ∷ below) (literal_passes _ ascii above a u) (literal_passes _ ascii below b v)
