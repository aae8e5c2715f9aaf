-- Texts that are cut at a byte, and how the options of words begin.
use Prim.Native.Char.{code}
use Rattle.std.proofs.Common.{◌≡◌, ◌==◌, ◌||◌, ◌<◌, ℕ, List, [], ◌∷◌, ◌++◌, length, get_or, Some, None, Bool, true, false, refl, ap, ◌∙◌, arith}
use Rattle.std.specs.List.{list_any, position_or_len, before_first, after_first}
use Rattle.std.proofs.lemmas.Bool.Decides.{nat_tests}
use Rattle.std.proofs.lemmas.List.Sums.{split_at_first, passes_at_first}
use Rattle.lift_frac.specs.Written.{cut_at}
use Rattle.plift_words.specs.Line.{attached, options}

pub neither : (a b : Bool) → (a || b) ≡ false → (a ≡ false) × (b ≡ false)
neither false b e = (refl, e)
neither true b e = absurd (cc)

-- where a text has the byte
cut_within : (c : ℕ) (text : List ℕ) → list_any (λ b. b == c) text ≡ true → position_or_len (λ b. b == c) text < length text
cut_within c [] e = absurd (cc)
cut_within c (b ∷ text) e = go (cut_within c text) (b == c) refl
  where
    go : (list_any (λ b. b == c) text ≡ true → position_or_len (λ b. b == c) text < length text) → (t : Bool) → (b == c) ≡ t
        → position_or_len (λ b. b == c) (b ∷ text) < length (b ∷ text)
    go rest true is = rw is (omega arith)
    go rest false is = let h = rest (rw is at e) in rw is (omega arith)

-- a text that has the byte is what stands before its first one, that byte, and what stands behind
cut_is : (c : ℕ) (text : List ℕ) → list_any (λ b. b == c) text ≡ true → text ≡ before_first (λ b. b == c) text ++ c ∷ after_first (λ b. b == c) text
cut_is c text e =
    let within = cut_within c text e in
    let passes = passes_at_first (λ (b : ℕ). b == c) text 0 within in
    let same : get_or text (position_or_len (λ b. b == c) text) 0 ≡ c = grind (arith, nat_tests) in
    split_at_first (λ (b : ℕ). b == c) text 0 within ∙ ap (λ (x : ℕ). before_first (λ b. b == c) text ++ x ∷ after_first (λ b. b == c) text) same

pub cut_parts : (c : ℕ) (text : List ℕ) (parts : List ℕ × List ℕ) → cut_at c text ≡ Some parts → text ≡ parts.0 ++ c ∷ parts.1
cut_parts c text parts e = go (list_any (λ b. b == c) text) refl
  where
    go : (t : Bool) → list_any (λ b. b == c) text ≡ t → text ≡ parts.0 ++ c ∷ parts.1
    go true is = let same : parts ≡ (before_first (λ b. b == c) text, after_first (λ b. b == c) text) = cc (rw is at e) in rw same (cut_is c text is)
    go false is = absurd (cc (rw is at e))

-- how the options of words begin
pub options_one : (word : List ℕ) (words : List (List ℕ)) (parts : List ℕ × List ℕ) → cut_at (code "=") word ≡ Some parts → options (word ∷ words) ≡ record { name = parts.0; value = attached parts.1 } ∷ options words
options_one word [] parts e = rw (e, options) refl
options_one word (next ∷ words) parts e = rw (e, options) refl

pub options_two : (word next : List ℕ) (words : List (List ℕ)) → cut_at (code "=") word ≡ None → options (word ∷ next ∷ words) ≡ record { name = word; value = Some next } ∷ options words
options_two word next words e = rw (e, options) refl

pub options_lone : (word : List ℕ) → cut_at (code "=") word ≡ None → options (word ∷ []) ≡ record { name = word; value = None } ∷ []
options_lone word e = rw (e, options) refl
