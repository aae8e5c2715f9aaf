-- What the first word says of a mark, by what it is found to be.
use Rattle.std.proofs.Common.{◌≡◌, ℕ, Bool, true, false, cond, [], ◌∷◌, Option, Some, None, refl}
use Rattle.std.specs.Prelude.{ℤ}
use Rattle.std.specs.Option.{option_map}
use Rattle.std.specs.Str.{bytes_eq}
use Rattle.corner_lift.specs.Certificate.{unmarked}
use Rattle.line_text.specs.Words.{number_of}
use Rattle.line_text.specs.Parts.{Words}
use Rattle.line_text.specs.Shown.{behind_byte, first_of}
use Rattle.cert_text.specs.Left.{in_marks, mark_first}

-- a mark `-`
pub none_first : (end : ℕ) (words rest : Words) → Some rest ≡ behind_byte 45 words → mark_first end words ≡ Some (Some unmarked, rest)
none_first end [] rest e = absurd (cc e)
none_first end (w ∷ ws) rest e = by_test (bytes_eq w (45 ∷ [])) refl e
  where
    by_test : (b : Bool) → bytes_eq w (45 ∷ []) ≡ b → Some rest ≡ cond b (Some ws) None → mark_first end (w ∷ ws) ≡ Some (Some unmarked, rest)
    by_test true t e = rw t cc
    by_test false t e = absurd (cc e)

-- another word
pub other_first : (end : ℕ) (words : Words) → None ≡ behind_byte 45 words → mark_first end words ≡ option_map {U = Option ℕ × Words} (λ x. (in_marks end (Some x.0), x.1)) (first_of number_of words)
other_first end [] e = refl
other_first end (w ∷ ws) e = by_test (bytes_eq w (45 ∷ [])) refl e
  where
    by_number : (o : Option ℤ) → option_map {U = Option ℕ × Words} (λ x. (in_marks end x.0, x.1)) (option_map {U = Option ℤ × Words} (λ x. (x, ws)) (option_map (λ z. Some z) o)) ≡ option_map {U = Option ℕ × Words} (λ x. (in_marks end (Some x.0), x.1)) (option_map {U = ℤ × Words} (λ x. (x, ws)) o)
    by_number None = refl
    by_number (Some z) = refl

    by_test : (b : Bool) → bytes_eq w (45 ∷ []) ≡ b → None ≡ cond b (Some ws) None → mark_first end (w ∷ ws) ≡ option_map {U = Option ℕ × Words} (λ x. (in_marks end (Some x.0), x.1)) (first_of number_of (w ∷ ws))
    by_test true t e = absurd (cc e)
    by_test false t e = rw t (by_number (number_of w))
