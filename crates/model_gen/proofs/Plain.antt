-- A line whose bytes are what it says.
use Rattle.std.proofs.Common.{◌≡◌, ◌==◌, ◌≤◌, ◌+◌, ◌-◌, ℕ, true, false, cond, List, [], ◌∷◌, ◌++◌, length, take, drop, reverse, refl, sym, ap, ◌∙◌, None, arith, length-append}
use Rattle.std.specs.Prelude.{nat_eq, ◌&&◌, if◌then◌else◌, codes}
use Rattle.std.specs.List.{list_all, prefix_len, suffix_len, ends_with, starts_with}
use Rattle.std.proofs.lemmas.Bool.{ne_eqb}
use Rattle.std.proofs.lemmas.Bool.Decides.{nat_tests}
use Rattle.std.proofs.lemmas.List.{drop_at, take_all}
use Rattle.std.proofs.lemmas.List.{reverse-append}
use Rattle.lift_bytes.specs.Bytes.{is_blank, first_passes, behind}
use Rattle.lift_bytes.specs.Trimming.{trimmed, trimmed_end}
use Rattle.drn_lexer.specs.Bytes.{is_text_byte}
use Rattle.drn_lexer.specs.Lines.{TextLine, content, without_return, is_comment, is_blank_line, is_long, own_fault}
use Rattle.drn_read.specs.Sections.{is_head}

-- a text that a line says as it stands
pub record IsPlain (text : List ℕ) : Type 0 where
  pub bytes : list_all is_text_byte text ≡ true
  pub short : length text ≤ 17
  pub first : ℕ
  pub rest : List ℕ
  pub begins : text ≡ first ∷ rest
  pub front : List ℕ
  pub last : ℕ
  pub ends : text ≡ front ++ last ∷ []
  pub first_blank : is_blank first ≡ false
  pub first_slash : (47 == first) ≡ false
  pub first_head : (first == 64) ≡ false
  pub last_blank : is_blank last ≡ false
  pub last_return : (13 == last) ≡ false

no_return : (front : List ℕ) (last : ℕ) → (13 == last) ≡ false → without_return (front ++ last ∷ []) ≡ front ++ last ∷ []
no_return front last e =
    let size : length (front ++ last ∷ []) - 1 ≡ length front = omega (arith, length-append front (last ∷ [])) in
    let tail : drop (length (front ++ last ∷ []) - 1) (front ++ last ∷ []) ≡ last ∷ [] = ap (λ n. drop n (front ++ last ∷ [])) size ∙ drop_at front (last ∷ []) (length front) refl in
    let no : ends_with nat_eq (front ++ last ∷ []) (13 ∷ []) ≡ false = ap (λ t. lib.Pointwise.pointwise nat_eq (13 ∷ []) t) tail ∙ ap (λ b. b && true) e in
    ap (λ b. if b then take (length (front ++ last ∷ []) - 1) (front ++ last ∷ []) else (front ++ last ∷ [])) no

no_front : (first : ℕ) (rest : List ℕ) → is_blank first ≡ false → behind is_blank (first ∷ rest) ≡ first ∷ rest
no_front first rest e = ap (λ b. drop (cond b (1 + prefix_len is_blank rest) 0) (first ∷ rest)) e

no_end : (front : List ℕ) (last : ℕ) → is_blank last ≡ false → trimmed_end (front ++ last ∷ []) ≡ front ++ last ∷ []
no_end front last e =
    let none : suffix_len is_blank (front ++ last ∷ []) ≡ 0 = ap (prefix_len is_blank) (reverse-append front (last ∷ [])) ∙ ap (λ b. cond b (1 + prefix_len is_blank (reverse front)) 0) e in
    let size : length (front ++ last ∷ []) - suffix_len is_blank (front ++ last ∷ []) ≡ length (front ++ last ∷ []) = omega (arith, none) in
    take_all _ (front ++ last ∷ []) (omega (arith, size))

said_by : (text : List ℕ) → IsPlain text → trimmed (without_return text) ≡ text
said_by text p =
    let a : without_return text ≡ text = ap without_return p.ends ∙ no_return p.front p.last p.last_return ∙ sym p.ends in
    let b : behind is_blank text ≡ text = ap (behind is_blank) p.begins ∙ no_front p.first p.rest p.first_blank ∙ sym p.begins in
    let c : trimmed_end text ≡ text = ap trimmed_end p.ends ∙ no_end p.front p.last p.last_blank ∙ sym p.ends in
    ap trimmed a ∙ ap trimmed_end b ∙ c

-- the line says the text, has no fault by itself, and is neither a comment nor blank nor the head of a section
pub record SaysPlain (l : TextLine) (text : List ℕ) : Type 0 where
  pub says : content l ≡ text
  pub own : own_fault l ≡ None
  pub no_comment : is_comment l ≡ false
  pub no_blank : is_blank_line l ≡ false
  pub no_head : is_head l ≡ false

pub plain : (l : TextLine) (text : List ℕ) → l.bytes ≡ text → IsPlain text → SaysPlain l text
plain l text e p =
    let says : content l ≡ text = ap (λ t. trimmed (without_return t)) e ∙ said_by text p in
    let comment : is_comment l ≡ false = ap (λ t. starts_with nat_eq t (codes "//")) (says ∙ p.begins) ∙ ap (λ b. b && lib.Pointwise.pointwise nat_eq (47 ∷ []) (take 1 p.rest)) p.first_slash in
    let long : is_long l ≡ false = grind (arith, nat_tests, ap length e, p.short) in
    record {
      says = says;
      own = grind (arith, long, comment, ap (list_all is_text_byte) says, p.bytes);
      no_comment = comment;
      no_blank = ap (λ t. length t == 0) (says ∙ p.begins) ∙ ne_eqb _ 0 (λ h. omega arith);
      no_head = ap (first_passes (λ b. b == 64)) (says ∙ p.begins) ∙ p.first_head;
    }
