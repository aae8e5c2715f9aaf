-- The words and the pieces of a ladder's lines.
use Rattle.std.proofs.Common.{◌≡◌, ◌==◌, ◌≤◌, ◌+◌, ℕ, zero, suc, Bool, true, false, not, cond, List, [], ◌∷◌, ◌++◌, length, take, drop, refl, sym, ap, ◌∙◌, Ok, arith, length-append, append_assoc}
use Rattle.std.specs.Prelude.{◌&&◌, codes, take_while}
use Rattle.std.specs.List.{list_all, prefix_len, position_or_len}
use Rattle.std.specs.Char.{is_ascii_digit}
use Rattle.std.proofs.lemmas.Bool.{and_parts}
use Rattle.std.proofs.lemmas.Bool.Decides.{nat_tests}
use Rattle.std.proofs.lemmas.List.{drop_at, take_at}
use Rattle.std.proofs.lemmas.List.Folds.{list_all-append}
use Rattle.lift_bytes.specs.Bytes.{is_blank, behind}
use Rattle.drn_lexer.specs.Bytes.{is_text_byte}
use Rattle.drn_lexer.specs.Cutting.{Piece, pieces_behind}
use Rattle.drn_lexer.specs.Words.{WordKind, words, word_front}
use Rattle.drn_lexer.specs.declared.word.WordForm.TheVariants.{Plain}
use Rattle.model_gen.proofs.Numbers.{IsNumber, digit}
use Rattle.model_gen.proofs.Lists.{split}
use Rattle.model_gen.proofs.Plain.{IsPlain}

-- a plain word
abbrev pub plain_word : List ℕ → Piece WordKind
plain_word bytes = record { form = Ok Plain; bytes = bytes }

-- ---- a number in front of something else

-- a first digit and those behind it
pub record Digits (ds : List ℕ) : Type 0 where
  pub first : ℕ
  pub rest : List ℕ
  pub is : ds ≡ first ∷ rest
  pub first_is : is_ascii_digit first ≡ true
  pub rest_are : list_all is_ascii_digit rest ≡ true

pub digits_of : (ds : List ℕ) (n : ℕ) → IsNumber ds n → Digits ds
digits_of [] n h = absurd (omega (arith, h.some))
digits_of (b ∷ bs) n h = let parts = and_parts (is_ascii_digit b) (list_all is_ascii_digit bs) h.digits in record { first = b; rest = bs; is = refl; first_is = parts.0; rest_are = parts.1 }

-- a front of digits, where no digit is behind it
digits_front : (ds tail : List ℕ) → list_all is_ascii_digit ds ≡ true → prefix_len is_ascii_digit tail ≡ 0 → prefix_len is_ascii_digit (ds ++ tail) ≡ length ds
digits_front [] tail h e = e
digits_front (b ∷ bs) tail h e =
    let parts = and_parts (is_ascii_digit b) (list_all is_ascii_digit bs) h in
    ap (λ c. cond c (1 + prefix_len is_ascii_digit (bs ++ tail)) 0) parts.0 ∙ omega (arith, digits_front bs tail parts.1 e)

pub behind_digits : (ds tail : List ℕ) → list_all is_ascii_digit ds ≡ true → prefix_len is_ascii_digit tail ≡ 0 → behind is_ascii_digit (ds ++ tail) ≡ tail
behind_digits ds tail h e = ap (λ n. drop n (ds ++ tail)) (digits_front ds tail h e) ∙ drop_at ds tail (length ds) refl

pub front_digits : (ds tail : List ℕ) → list_all is_ascii_digit ds ≡ true → prefix_len is_ascii_digit tail ≡ 0 → take_while is_ascii_digit (ds ++ tail) ≡ ds
front_digits ds tail h e = ap (λ n. take n (ds ++ tail)) (digits_front ds tail h e) ∙ take_at ds tail (length ds) refl

-- digits hold no blank
to_blank : (ds tail : List ℕ) → list_all is_ascii_digit ds ≡ true → position_or_len is_blank tail ≡ 0 → position_or_len is_blank (ds ++ tail) ≡ length ds
to_blank [] tail h e = e
to_blank (b ∷ bs) tail h e =
    let parts = and_parts (is_ascii_digit b) (list_all is_ascii_digit bs) h in
    ap (λ c. cond (not c) (1 + position_or_len is_blank (bs ++ tail)) 0) (digit b parts.0).blank ∙ omega (arith, to_blank bs tail parts.1 e)

-- the words of a line by its first byte
by_first : ℕ → List ℕ → Bool → List (Piece WordKind)
by_first b tail true = words tail
by_first b tail false = record { form = (word_front b tail).1; bytes = b ∷ take (word_front b tail).0 tail } ∷ pieces_behind word_front (word_front b tail).0 tail

words_by : (b : ℕ) (tail : List ℕ) → words (b ∷ tail) ≡ by_first b tail (is_blank b)
unfolding pieces_behind by_first
words_by b tail = refl

-- n bytes fewer
skipped : (n : ℕ) (text : List ℕ) → pieces_behind word_front n text ≡ words (drop n text)
unfolding pieces_behind
skipped zero [] = refl
skipped (suc n) [] = refl
skipped zero (b ∷ tail) = refl
skipped (suc n) (b ∷ tail) = skipped n tail

-- the word at the front
front_word : (b : ℕ) (tail : List ℕ) (n : ℕ) (form : WordKind) → is_blank b ≡ false → Path (ℕ × WordKind) (n, form) (word_front b tail) → words (b ∷ tail) ≡ record { form = form; bytes = b ∷ take n tail } ∷ words (drop n tail)
unfolding by_first
front_word b tail n form e f =
    words_by b tail ∙ ap (by_first b tail) e
    ∙ ap (λ (r : ℕ × WordKind). let piece : Piece WordKind = record { form = r.1; bytes = b ∷ take r.0 tail } in piece ∷ pieces_behind word_front r.0 tail) (sym f)
    ∙ ap (λ (ps : List (Piece WordKind)). let piece : Piece WordKind = record { form = form; bytes = b ∷ take n tail } in piece ∷ ps) (skipped n tail)

first_word : (b : ℕ) (bs tail : List ℕ) → is_ascii_digit b ≡ true → list_all is_ascii_digit bs ≡ true → position_or_len is_blank tail ≡ 0 → words ((b ∷ bs) ++ tail) ≡ plain_word (b ∷ bs) ∷ words tail
first_word b bs tail f h e =
    let d = digit b f in
    let form : Path (ℕ × WordKind) (length bs, Ok Plain) (word_front b (bs ++ tail)) = sym (form_by (b == 34) (b == 91) (bs ++ tail) (length bs) b d.quote d.bracket (to_blank bs tail h e)) in
    front_word b (bs ++ tail) (length bs) (Ok Plain) d.blank form
    ∙ ap (λ t. plain_word (b ∷ t) ∷ words (drop (length bs) (bs ++ tail))) (take_at bs tail (length bs) refl)
    ∙ ap (λ t. plain_word (b ∷ bs) ∷ words t) (drop_at bs tail (length bs) refl)
  where
    form_by : (q g : Bool) (text : List ℕ) (n b : ℕ) → (b == 34) ≡ false → (b == 91) ≡ false → position_or_len is_blank text ≡ n → Path (ℕ × WordKind) (word_front b text) (n, Ok Plain)
    form_by q g text n b e f h = grind (arith, nat_tests, e, f, h)

pub number_word : (ds tail : List ℕ) (n : ℕ) → IsNumber ds n → position_or_len is_blank tail ≡ 0 → words (ds ++ tail) ≡ plain_word ds ∷ words tail
number_word ds tail n h e =
    let d = digits_of ds n h in
    ap (λ t. words (t ++ tail)) d.is ∙ first_word d.first d.rest tail d.first_is d.rest_are e ∙ ap (λ t. plain_word t ∷ words tail) (sym d.is)

by_front : (text : List ℕ) → words (codes "state " ++ text) ≡ plain_word (codes "state") ∷ words text
unfolding pieces_behind
by_front text = refl

pub state_words : (ds label : List ℕ) (n : ℕ) → IsNumber ds n → position_or_len is_blank label ≡ 0 → words ((codes "state " ++ ds) ++ label) ≡ plain_word (codes "state") ∷ plain_word ds ∷ words label
state_words ds label n h e = by_front (ds ++ label) ∙ ap (λ ws. plain_word (codes "state") ∷ ws) (number_word ds label n h e)

-- ---- plain texts

digits_text : (ds : List ℕ) → list_all is_ascii_digit ds ≡ true → list_all is_text_byte ds ≡ true
digits_text [] h = refl
digits_text (b ∷ bs) h =
    let parts = and_parts (is_ascii_digit b) (list_all is_ascii_digit bs) h in
    ap (λ c. c && list_all is_text_byte bs) (digit b parts.0).text ∙ digits_text bs parts.1

-- the last byte is no blank and no return
pub record EndsWell (text : List ℕ) : Type 0 where
  pub front : List ℕ
  pub last : ℕ
  pub is : text ≡ front ++ last ∷ []
  pub blank : is_blank last ≡ false
  pub return : (13 == last) ≡ false

pub digits_end : (ds : List ℕ) (n : ℕ) → IsNumber ds n → EndsWell ds
digits_end ds n h =
    let d = digits_of ds n h in
    let s = split (d.first ∷ d.rest) refl in
    let is = d.is ∙ s.is in
    let all : (list_all is_ascii_digit s.front && (is_ascii_digit s.end && true)) ≡ true = sym (list_all-append is_ascii_digit s.front (s.end ∷ [])) ∙ ap (list_all is_ascii_digit) (sym is) ∙ h.digits in
    let last = and_parts (is_ascii_digit s.end) true (and_parts (list_all is_ascii_digit s.front) (is_ascii_digit s.end && true) all).1 in
    let facts = digit s.end last.0 in
    record { front = s.front; last = s.end; is = is; blank = facts.blank; return = facts.return }

-- something in front
pub ends_behind : (before text : List ℕ) → EndsWell text → EndsWell (before ++ text)
ends_behind before text e = record { front = before ++ e.front; last = e.last; is = ap (λ t. before ++ t) e.is ∙ sym (append_assoc before e.front (e.last ∷ [])); blank = e.blank; return = e.return }

-- a state's line
pub plain_state : (ds label : List ℕ) (n : ℕ) → IsNumber ds n → list_all is_text_byte label ≡ true → length label ≤ 5 → EndsWell (ds ++ label) → IsPlain ((codes "state " ++ ds) ++ label)
plain_state ds label n h t s e =
    let w = ends_behind (codes "state ") (ds ++ label) e in
    record {
      bytes = list_all-append is_text_byte ds label ∙ ap (λ c. c && list_all is_text_byte label) (digits_text ds h.digits) ∙ t;
      short = omega (arith, h.short, s, length-append (codes "state " ++ ds) label, length-append (codes "state ") ds);
      first = 115;
      rest = codes "tate " ++ (ds ++ label);
      begins = refl;
      front = w.front;
      last = w.last;
      ends = w.is;
      first_blank = refl;
      first_slash = refl;
      first_head = refl;
      last_blank = w.blank;
      last_return = w.return;
    }

-- a transition's line
pub plain_transition : (ds tail : List ℕ) (n : ℕ) → IsNumber ds n → list_all is_text_byte tail ≡ true → length tail ≤ 6 → EndsWell tail → IsPlain (ds ++ tail)
plain_transition ds tail n h t s e =
    let d = digits_of ds n h in
    let w = ends_behind ds tail e in
    let f = digit d.first d.first_is in
    record {
      bytes = list_all-append is_text_byte ds tail ∙ ap (λ c. c && list_all is_text_byte tail) (digits_text ds h.digits) ∙ t;
      short = omega (arith, h.short, s, length-append ds tail);
      first = d.first;
      rest = d.rest ++ tail;
      begins = ap (λ x. x ++ tail) d.is;
      front = w.front;
      last = w.last;
      ends = w.is;
      first_blank = f.blank;
      first_slash = f.slash;
      first_head = f.head;
      last_blank = w.blank;
      last_return = w.return;
    }
