-- The words of a line that are left, as the code holds them.
use Rattle.std.proofs.Common.{◌≡◌, ℕ, ◌+◌, ◌-◌, ◌<◌, Bool, true, false, cond, not, List, [], ◌∷◌, length, take, drop, Option, Some, None, Ok, refl, sym, ap, ◌∙◌, arith}
use Rattle.std.specs.Prelude.{◌==◌}
use Rattle.std.specs.List.{slice_split, onto_first, position_or_len}
use Rattle.std.proofs.lemmas.List.{length-drop}
use Rattle.std.proofs.lemmas.List.Splits.{length-slice_split, slice_split_first}
use Rattle.std.specs.Option.{is_some, option_map}
use Rattle.line_text.specs.Shown.{words_left, is_none_left}
use Rattle.line_text.specs.Words.{words}
use Rattle.line_text.specs.Parts.{first}

some_left : (ws : List (List ℕ)) → 0 < length ws → is_none_left ws ≡ false
some_left [] h = absurd (omega arith)
some_left (w ∷ ws) h = refl

-- none is left where the code holds no text
pub none_left : {R : Type 0} (o : Option R) (now : R → List ℕ) (b : Bool) → is_some o ≡ not b → b ≡ is_none_left (words_left (option_map now o))
none_left None now true e = refl
none_left None now false e = absurd (cc e)
none_left (Some text) now true e = absurd (cc e)
none_left (Some text) now false e = sym (some_left (words (now text)) (omega (arith, length-slice_split (λ b. b == 32) (now text))))

alone : (p : ℕ → Bool) (xs : List ℕ) → position_or_len p xs ≡ length xs → slice_split p xs ≡ xs ∷ []
alone p [] e = refl
alone p (x ∷ xs) e = by_test (p x) refl e (alone p xs)
  where
    by_test : (b : Bool) → p x ≡ b → cond (not b) (1 + position_or_len p xs) 0 ≡ length (x ∷ xs) → (position_or_len p xs ≡ length xs → slice_split p xs ≡ xs ∷ []) → cond b ([] ∷ slice_split p xs) (onto_first x (slice_split p xs)) ≡ (x ∷ xs) ∷ []
    by_test true t e more = absurd (omega (arith, e))
    by_test false t e more = ap (onto_first x) (more (omega (arith, e)))

take_all : (xs : List ℕ) (n : ℕ) → n ≡ length xs → take n xs ≡ xs
take_all xs n e = ap (λ k. take k xs) e ∙ whole xs
  where
    whole : (xs : List ℕ) → take (length xs) xs ≡ xs
    whole [] = refl
    whole (x ∷ xs) = ap (λ t. x ∷ t) (whole xs)

-- the rest of a text is all that stands behind so many bytes
pub take_rest : (text : List ℕ) (n : ℕ) → take (length text - n) (drop n text) ≡ drop n text
take_rest text n = take_all (drop n text) (length text - n) (omega (arith, length-drop n text))

pub last_word : (text : List ℕ) (len : ℕ) → len ≡ position_or_len (λ b. b == 32) text → len ≡ length text → first (words text) ≡ Ok (take len text, [])
last_word text len e f = ap first (alone (λ b. b == 32) text (sym e ∙ f)) ∙ ap (λ t. Ok (t, [])) (sym (take_all text len f))

pub first_word : (text : List ℕ) (len : ℕ) → len ≡ position_or_len (λ b. b == 32) text → len < length text → first (words text) ≡ Ok (take len text, words (take (length text - (len + 1)) (drop (len + 1) text)))
first_word text len e f =
    let cut : words text ≡ take len text ∷ words (drop (len + 1) text) = slice_split_first (λ b. b == 32) text 0 (omega (arith, e, f)) ∙ ap (λ k. take k text ∷ words (drop (k + 1) text)) (sym e) in
    ap first cut ∙ ap (λ t. Ok (take len text, words t)) (sym (take_rest text (len + 1)))
