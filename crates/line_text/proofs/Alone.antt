-- A first word of one byte.
use Rattle.std.proofs.Common.{◌≡◌, ◌≢◌, ℕ, ◌<◌, Bool, true, false, cond, List, [], ◌∷◌, length, get_or, refl, sym, ap, ◌∙◌, arith}
use Rattle.std.specs.Prelude.{◌==◌, ◌&&◌}
use Rattle.std.specs.List.{onto_first, position_or_len}
use Rattle.std.specs.Str.{bytes_eq}
use Rattle.std.proofs.lemmas.Bool.{ne_eqb, eqb-true}
use Rattle.line_text.specs.Words.{words}
use Rattle.line_text.specs.Parts.{Words}
use Rattle.line_text.specs.Shown.{begins_alone}
use Rattle.line_text.proofs.ShortNumbers.{position_at, position_past}

-- what the words behind the first byte begin with
word_starts : (x : ℕ) (xs : List ℕ) → x ≢ 32 → words (x ∷ xs) ≡ onto_first x (words xs)
word_starts x xs other = ap (λ b. cond b ([] ∷ words xs) (onto_first x (words xs))) (ne_eqb x 32 other)

space_starts : (x : ℕ) (xs : List ℕ) → x ≡ 32 → words (x ∷ xs) ≡ [] ∷ words xs
space_starts x xs same = ap (λ b. cond b ([] ∷ words xs) (onto_first x (words xs))) (ap (λ b. b == 32) same)

and_false : (b : Bool) → b && false ≡ false
and_false true = refl
and_false false = refl

pub none_alone : (byte : ℕ) (text : List ℕ) → length text ≡ 0 → begins_alone byte (words text) ≡ false
none_alone byte [] e = refl
none_alone byte (x ∷ xs) e = absurd (omega (arith, e))

pub space_alone : (text : List ℕ) → begins_alone 32 (words text) ≡ false
space_alone [] = refl
space_alone (x ∷ xs) = by_test (x == 32) refl
  where
    by_words : (vs : Words) → (x == 32) ≡ false → begins_alone 32 (onto_first x vs) ≡ false
    by_words [] other = ap (λ b. b && true) other
    by_words (w ∷ ws) other = ap (λ b. b && bytes_eq w []) other

    by_test : (b : Bool) → (x == 32) ≡ b → begins_alone 32 (cond b ([] ∷ words xs) (onto_first x (words xs))) ≡ false
    by_test true t = refl
    by_test false t = by_words (words xs) t

pub other_alone : (byte : ℕ) (text : List ℕ) → get_or text 0 0 ≢ byte → begins_alone byte (words text) ≡ false
other_alone byte [] other = refl
other_alone byte (x ∷ xs) other = by_test (x == 32) refl
  where
    by_words : (vs : Words) → (x == byte) ≡ false → begins_alone byte (onto_first x vs) ≡ false
    by_words [] e = ap (λ b. b && true) e
    by_words (w ∷ ws) e = ap (λ b. b && bytes_eq w []) e

    by_test : (b : Bool) → (x == 32) ≡ b → begins_alone byte (cond b ([] ∷ words xs) (onto_first x (words xs))) ≡ false
    by_test true t = refl
    by_test false t = by_words (words xs) (ne_eqb x byte other)

pub last_alone : (byte : ℕ) (text : List ℕ) → byte ≢ 32 → get_or text 0 0 ≡ byte → length text ≡ 1 → (begins_alone byte (words text) ≡ true) × (1 ≡ position_or_len (λ b. b == 32) text)
last_alone byte [] some e one = absurd (omega (arith, one))
last_alone byte (x ∷ []) some e one =
    let other : x ≢ 32 = λ same. some (sym e ∙ same) in
    (ap (begins_alone byte) (word_starts x [] other) ∙ ap (λ b. b && true) (ap (λ y. y == byte) e ∙ same_byte byte), sym (position_past (λ b. b == 32) x [] (ne_eqb x 32 other)))
  where
    same_byte : (n : ℕ) → (n == n) ≡ true
    same_byte n = search (arith)
last_alone byte (x ∷ y ∷ xs) some e one = absurd (omega (arith, one))

pub more_alone : (byte : ℕ) (text : List ℕ) → byte ≢ 32 → get_or text 0 0 ≡ byte → 1 < length text → (b : Bool) → (get_or text 1 0 == 32) ≡ b → (begins_alone byte (words text) ≡ b) × (b ≡ true → 1 ≡ position_or_len (λ b. b == 32) text)
more_alone byte [] some e more b is = absurd (omega (arith, more))
more_alone byte (x ∷ []) some e more b is = absurd (omega (arith, more))
more_alone byte (x ∷ y ∷ ys) some e more b is =
    (ap (begins_alone byte) (word_starts x (y ∷ ys) other) ∙ by_test b is, λ yes. omega (arith, position_past (λ b. b == 32) x (y ∷ ys) (ne_eqb x 32 other), position_at (λ b. b == 32) y ys (is ∙ yes)))
  where
    other : x ≢ 32
    other same = some (sym e ∙ same)

    by_words : (vs : Words) → begins_alone byte (onto_first x (onto_first y vs)) ≡ false
    by_words [] = and_false (x == byte)
    by_words (w ∷ ws) = and_false (x == byte)

    same_byte : (x == byte) ≡ true
    same_byte = search (arith, e)

    by_test : (b : Bool) → (y == 32) ≡ b → begins_alone byte (onto_first x (words (y ∷ ys))) ≡ b
    by_test true t = ap (λ vs. begins_alone byte (onto_first x vs)) (space_starts y ys (eqb-true y 32 t)) ∙ ap (λ b. b && true) same_byte
    by_test false t = ap (λ b. begins_alone byte (onto_first x (cond b ([] ∷ words ys) (onto_first y (words ys))))) t ∙ by_words (words ys)
