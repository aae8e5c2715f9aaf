-- What the answer to a text says of the grammar.
use Rattle.std.proofs.Common.{◌≡◌, ◌++◌, length, arith, List, [], ◌∷◌, ℕ, pos, ◌*◌, ◌-◌, ◌^◌, Bool, true, false, Result, Ok, Err, Option, Some, None, cond, refl, sym, ap, ◌∙◌, subst, append-nil}
use Rattle.std.specs.Prelude.{◌&&◌, ◌==◌, ◌↔◌}
use Rattle.lift_bytes.specs.Bytes as byte
use Rattle.std.specs.Char.{is_ascii_digit}
use Rattle.std.proofs.lemmas.Bool.Decides.{nat_tests}
use Rattle.lift_frac.specs.Ratio.{Ratio, lowest, is_wide, fraction}
use Rattle.lift_frac.specs.Frac.{answer_of}
use Rattle.lift_frac.specs.Literal.{Literal, literal_at, is_literal, number, up, down, is_far, scaled, value_of, reading}
use Rattle.lift_frac.specs.Grammar.{Writes}
use Rattle.lift_frac.specs.declared.frac.Frac.{Frac}
use Rattle.lift_frac.specs.declared.error.FracError.{FracError}
use Rattle.lift_frac.specs.declared.error.FracError.TheVariants.{Wide, BadLiteral}
use Rattle.lift_frac.proofs.Writing.{literal_front, written_read, writes_begin, first_of_and, second_of_and}

-- ---- the definitions after their tests

abbrev scaled_by : ℕ → ℕ → ℕ → Bool → Result Ratio FracError
scaled_by n up down far = cond far (Err Wide) (fraction (pos (n * 10 ^ (up - down))) (pos (10 ^ (down - up))))

abbrev value_by : Literal → Bool → Result Ratio FracError
value_by l none = cond none (Ok (record { num = pos 0; den = pos 1 })) (scaled (number l) (up l) (down l))

abbrev reading_by : List ℕ → Bool → Result Ratio FracError
reading_by text fits = cond fits (value_of (literal_at text).0) (Err BadLiteral)

abbrev parts_by : List ℕ → Bool → Option Literal
parts_by text fits = cond fits (Some (literal_at text).0) None

-- ---- what the parts of a text say of its reading

none_tested : (text : List ℕ) (fits : Bool) → None ≡ parts_by text fits → Err BadLiteral ≡ reading_by text fits
none_tested text true h = cc
none_tested text false h = refl

pub reading-none : (text : List ℕ) → None ≡ parts_by text (is_literal text) → Err BadLiteral ≡ reading text
reading-none text h = none_tested text (is_literal text) h

same_literal : (l k : Literal) → Some l ≡ Some k → l ≡ k
same_literal l k h = cc

some_tested : (text : List ℕ) (l : Literal) (fits : Bool) → Some l ≡ parts_by text fits → value_of l ≡ reading_by text fits
some_tested text l true h = ap value_of (same_literal l (literal_at text).0 h)
some_tested text l false h = cc

pub reading-some : (text : List ℕ) (l : Literal) → Some l ≡ parts_by text (is_literal text) → value_of l ≡ reading text
reading-some text l h = some_tested text l (is_literal text) h

-- ---- a literal is never told to be none

fraction_tested : (wide : Bool) (q : Ratio) → cond wide (Err Wide) (Ok q) ≡ Err BadLiteral → ⊥
fraction_tested true q h = cc
fraction_tested false q h = cc

scaled_tested : (n up down : ℕ) (far : Bool) → scaled_by n up down far ≡ Err BadLiteral → ⊥
scaled_tested n up down true h = cc
scaled_tested n up down false h =
    let q = lowest (pos (n * 10 ^ (up - down))) (pos (10 ^ (down - up))) in
    fraction_tested (is_wide q) q h

value_tested : (l : Literal) (none : Bool) → value_by l none ≡ Err BadLiteral → ⊥
value_tested l true h = cc
value_tested l false h = scaled_tested (number l) (up l) (down l) (is_far (number l) (up l) (down l)) h

value_not_bad : (l : Literal) → value_of l ≡ Err BadLiteral → ⊥
value_not_bad l h = value_tested l (number l == 0) h

-- ---- a text that the grammar writes, and one that it doesn't

written_is_literal : (text : List ℕ) (l : Literal) → Writes text l → is_literal text ≡ true
written_is_literal text l w =
    ap (λ t. t && (length (literal_at text).1 == 0)) (writes_begin text l w) ∙ ap (λ t. length t.1 == 0) (written_read text l w)

-- a text that writes a literal is worth what that literal is
pub reading-written : (text : List ℕ) (l : Literal) → Writes text l → reading text ≡ value_of l
reading-written text l w =
    ap (reading_by text) (written_is_literal text l w) ∙ ap (λ t. value_of t.0) (written_read text l w)

written_not_bad : (text : List ℕ) (l : Literal) → Writes text l → reading text ≡ Err BadLiteral → ⊥
written_not_bad text l w h = value_not_bad l (sym (reading-written text l w) ∙ h)

end_is : (rest : List ℕ) → (length rest == 0) ≡ true → rest ≡ []
end_is [] h = refl
end_is (b ∷ rest) h = absurd (grind (arith, nat_tests, h))

-- a text that is a literal is written by the grammar
literal_written : (text : List ℕ) → is_literal text ≡ true → Writes text (literal_at text).0
literal_written text h =
    let begins = first_of_and (byte.first_passes is_ascii_digit text) (length (literal_at text).1 == 0) h in
    let all = literal_front text begins in
    let rest = end_is (literal_at text).1 (second_of_and (byte.first_passes is_ascii_digit text) (length (literal_at text).1 == 0) h) in
    let whole : all.front ≡ text = sym (append-nil all.front) ∙ ap (λ t. all.front ++ t) (sym rest) ∙ sym all.text_is in
    let P : List ℕ → Type 0 = λ t. Writes t (literal_at text).0 in
    subst P whole all.writes

unwritten_is_bad : (text : List ℕ) → ((l : Literal) → Writes text l → ⊥) → reading text ≡ Err BadLiteral
unwritten_is_bad text none = by_test (is_literal text) refl
  where
    by_test : (fits : Bool) → is_literal text ≡ fits → reading_by text fits ≡ Err BadLiteral
    by_test true e = absurd (none (literal_at text).0 (literal_written text e))
    by_test false e = refl

same_cause : (r : Result Frac FracError) (cause : FracError) → answer_of r ≡ Err cause → r ≡ Err cause
same_cause (Ok q) cause h = cc
same_cause (Err other) cause h = cc

-- BadLiteral comes exactly where the grammar writes nothing
pub bad_exactly : (text : List ℕ) (r : Result Frac FracError) → answer_of r ≡ reading text → (r ≡ Err BadLiteral) ↔ ((l : Literal) → ¬ Writes text l)
bad_exactly text r h =
    (λ e l w. written_not_bad text l w (sym h ∙ ap answer_of e), λ none. same_cause r BadLiteral (h ∙ unwritten_is_bad text none))
