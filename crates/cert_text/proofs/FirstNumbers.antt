-- The numbers of a row's line, each read with the words behind it.
use Rattle.std.proofs.Common.{◌≡◌, ℕ, ◌<◌, ◌≤◌, true, List, [], ◌∷◌, Some, Ok, codes, refl, ap, ap₂, ◌∙◌}
use Rattle.std.specs.Prelude.{ℤ, pos, ◌&&◌}
use Rattle.std.specs.Ordering.{int_eq}
use Rattle.std.proofs.lemmas.Bool.{lt-ltb, le-leb}
use Rattle.std.proofs.lemmas.Bool.Decides.{Decides-int_eq}
use Rattle.line_text.specs.declared.error.TextCause.TheVariants.{Syntax, Limit}
use Rattle.line_text.specs.Words.{number_of}
use Rattle.line_text.specs.Reading.{◌>>=◌}
use Rattle.line_text.specs.Parts.{Words, Read, must, keyed, first, single, each, numbers_of}
use Rattle.line_text.specs.Shown.{first_of, is_none_left}
use Rattle.cert_text.specs.Lines.{row_of, count_in}
use Rattle.cert_text.proofs.LineLoops.{each_first, each_end}

pub three_numbers : (key : List ℕ) (ws rest after later last : Words) (x y z : ℤ) → keyed key ws ≡ Ok rest → first_of number_of rest ≡ Some (x, after) → first_of number_of after ≡ Some (y, later) → first_of number_of later ≡ Some (z, last) → is_none_left last ≡ true → numbers_of key ws ≡ Ok (x ∷ y ∷ z ∷ [])
three_numbers key ws rest after later last x y z k ex ey ez end =
    let third : each number_of later ≡ Ok (z ∷ []) = each_first number_of later last z ez ∙ ap (λ (r : Read (List ℤ)). r >>= λ xs. Ok (z ∷ xs)) (each_end number_of last end) in
    let second : each number_of after ≡ Ok (y ∷ z ∷ []) = each_first number_of after later y ey ∙ ap (λ (r : Read (List ℤ)). r >>= λ xs. Ok (y ∷ xs)) third in
    ap (λ (r : Read Words). r >>= each number_of) k ∙ each_first number_of rest after x ex ∙ ap (λ (r : Read (List ℤ)). r >>= λ xs. Ok (x ∷ xs)) second

same_int : (n : ℕ) → int_eq (pos n) (pos n) ≡ true
same_int n = (Decides-int_eq (pos n) (pos n)).1 refl

-- a row's line with the numbers that are due
pub row_is : (s a choices transitions n : ℕ) (ws : Words) → numbers_of (codes "row") ws ≡ Ok (pos s ∷ pos a ∷ pos n ∷ []) → 0 < choices → n ≤ transitions → row_of s a choices transitions ws ≡ Ok n
row_is s a choices transitions n ws e some few =
    ap (λ (r : Read (List ℤ)). r >>= λ zs. first zs >>= λ state. first state.1 >>= λ choice. single choice.1 >>= λ count. must (int_eq state.0 (pos s) && int_eq choice.0 (pos a)) Syntax >>= λ _. count_in choices transitions count) e
    ∙ ap₂ (λ b c. must (b && c) Syntax >>= λ _. count_in choices transitions (pos n)) (same_int s) (same_int a)
    ∙ ap₂ (λ b c. must (b && c) Limit >>= λ _. Ok n) (lt-ltb 0 choices some) (le-leb n transitions few)
