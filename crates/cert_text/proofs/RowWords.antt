-- Which number a word writes.
use Rattle.std.proofs.Common.{◌≡◌, ℕ, ◌^◌, ◌<◌, Bool, true, false, List, [], ◌∷◌, Some, None, Ok, codes, refl, sym, ap, ◌∙◌, arith}
use Rattle.std.specs.Prelude.{ℤ, pos, ◌==◌, ◌&&◌}
use Rattle.std.specs.Bool.{one_answer}
use Rattle.std.specs.Ordering.{int_eq}
use Rattle.std.specs.Str.{bytes_eq}
use Rattle.std.specs.Fmt.{decimal}
use Rattle.std.proofs.lemmas.Bool.{eqb-true, eq-eqb}
use Rattle.std.proofs.lemmas.Bool.Decides.{Decides-int_eq}
use Rattle.std.proofs.lemmas.Slice.Eq.{bytes_eq-Decides}
use Rattle.line_text.specs.Words.{number_of}
use Rattle.line_text.specs.Parts.{Words, Read, first}
use Rattle.line_text.specs.Shown.{first_of}
use Rattle.cert_text.specs.Head.{is_row_of}
use Rattle.cert_text.specs.Rows.{tells}
use Rattle.cert_text.proofs.LineLoops.{option_first}
use Rattle.cert_text.proofs.Decimals.{number_back, number_again}

some_z : (x y : ℤ) → Some x ≡ Some y → x ≡ y
some_z x y e = cc

-- a word writes a number exactly where it is that number's decimal text
pub number_eq : (w : List ℕ) (z : ℤ) (n : ℕ) → n < 10 ^ 64 → number_of w ≡ Some z → int_eq z (pos n) ≡ bytes_eq w (decimal n)
number_eq w z n small e =
    one_answer (int_eq z (pos n)) (bytes_eq w (decimal n)) (Decides-int_eq z (pos n)) (
      (λ t. some_z z (pos n) (sym e ∙ ap number_of ((bytes_eq-Decides w (decimal n)).0 t) ∙ number_again (pos n) small)),
      (λ q. (bytes_eq-Decides w (decimal n)).1 (sym (number_back w (pos n) (e ∙ ap (λ y. Some y) q) (omega (arith, small))))),
    )

-- a word that writes no number is no decimal text
pub none_eq : (w : List ℕ) (n : ℕ) → n < 10 ^ 64 → number_of w ≡ None → false ≡ bytes_eq w (decimal n)
none_eq w n small e = by_test (bytes_eq w (decimal n)) refl
  where
    by_test : (t : Bool) → bytes_eq w (decimal n) ≡ t → false ≡ t
    by_test true t = let g : None ≡ Some (pos n) = sym e ∙ ap number_of ((bytes_eq-Decides w (decimal n)).0 t) ∙ number_again (pos n) small in absurd (cc)
    by_test false t = refl

int_nat : (a b : ℕ) → int_eq (pos a) (pos b) ≡ (a == b)
int_nat a b = one_answer (int_eq (pos a) (pos b)) (a == b) (Decides-int_eq (pos a) (pos b)) ((λ t. ap pos (eqb-true a b t)), (λ q. eq-eqb a b (same q)))
  where
    same : pos a ≡ pos b → a ≡ b
    same q = cc

-- a first word of few digits
pub short_tells : (n number : ℕ) (ws rest : Words) → n < 2 ^ 32 → first_of number_of ws ≡ Some (pos number, rest) → (number == n) ≡ tells n ws
short_tells n number [] rest small e = absurd (cc e)
short_tells n number (w ∷ ws) rest small e = sym (int_nat number n) ∙ number_eq w (pos number) n (omega (arith, small)) (option_first (number_of w) ws rest (pos number) e).0

-- a row's line, by its first word and those behind it
pub row_tells : (s : ℕ) (ws rest : Words) (key : List ℕ) → first ws ≡ Ok (key, rest) → is_row_of s ws ≡ (bytes_eq key (codes "row") && tells s rest)
row_tells s [] rest key e = absurd (cc e)
row_tells s (k ∷ ws) rest key e =
    let parts : ◌≡◌ {A = List ℕ × Words} (k, ws) (key, rest) = ok_first (k, ws) (key, rest) e in
    by_rest ws ∙ ap (λ (p : List ℕ × Words). bytes_eq p.0 (codes "row") && tells s p.1) parts
  where
    ok_first : (p q : List ℕ × Words) → ◌≡◌ {A = Read (List ℕ × Words)} (Ok p) (Ok q) → p ≡ q
    ok_first p q e = cc

    and_false : (b : Bool) → false ≡ (b && false)
    and_false true = refl
    and_false false = refl

    by_rest : (vs : Words) → is_row_of s (k ∷ vs) ≡ (bytes_eq k (codes "row") && tells s vs)
    by_rest [] = and_false (bytes_eq k (codes "row"))
    by_rest (v ∷ vs) = refl
