-- The lines of the ladder's text, and its length.
use Rattle.std.proofs.Common.{◌≡◌, ◌==◌, ◌<◌, ◌≤◌, ◌+◌, ◌*◌, ◌^◌, ℕ, zero, suc, true, false, List, [], ◌∷◌, ◌++◌, length, refl, ap, subst, ◌∙◌, arith, length-append, append_assoc}
use Rattle.std.specs.Prelude.{codes}
use Rattle.std.specs.Fmt.{decimal}
use Rattle.std.specs.List.{list_all, slice_split}
use Rattle.std.proofs.lemmas.Bool.{and_parts}
use Rattle.std.proofs.lemmas.Bool.Decides.{nat_tests}
use Rattle.std.proofs.lemmas.List.{append-nil}
use Rattle.drn_lexer.specs.Bytes.{is_text_byte}
use Rattle.drn_lexer.specs.Lines.{lines, lines_from, numbered, without_empty_end}
use Rattle.model_gen.specs.Ladder.{most_blocks, block, blocks, first_label, state_line, head_lines, last_lines, ladder_lines, ladder_text, joined}
use Rattle.model_gen.proofs.Numbers.{number}
use Rattle.model_gen.proofs.Plain.{IsPlain}
use Rattle.model_gen.proofs.Words.{plain_state, plain_transition, EndsWell}
use Rattle.model_gen.proofs.Pieces.{no_label, init_label, done_label, p_value, not_p_value, q_value, not_q_value, one_value}

-- a line's text
pub record IsLine (text : List ℕ) : Type 0 where
  pub bytes : list_all is_text_byte text ≡ true
  pub some : 0 < length text
  pub short : length text ≤ 17

from_plain : (text : List ℕ) → IsPlain text → IsLine text
from_plain text p = record { bytes = p.bytes; some = omega (arith, ap length p.begins); short = p.short }

state_text : (n : ℕ) → n < 10 ^ 5 → (label : List ℕ) → list_all is_text_byte label ≡ true → length label ≤ 5 → EndsWell (decimal n ++ label) → IsLine (state_line n ++ label)
state_text n h label b s e = from_plain (state_line n ++ label) (plain_state (decimal n) label n (number n h) b s e)

bare_text : (n : ℕ) → n < 10 ^ 5 → IsLine (state_line n)
bare_text n h = subst IsLine (append-nil (state_line n)) (state_text n h [] refl (omega arith) (no_label.ends (decimal n) n (number n h)))

first_text : (n i : ℕ) → n < 10 ^ 5 → IsLine (state_line n ++ first_label i)
first_text n zero h = state_text n h (codes " init") refl (omega arith) (init_label.ends (decimal n) n (number n h))
first_text n (suc i) h = state_text n h [] refl (omega arith) (no_label.ends (decimal n) n (number n h))

-- each of these is one
abbrev pub AreLines : List (List ℕ) → Type 0
AreLines [] = Unit {0}
AreLines (l ∷ ls) = IsLine l × AreLines ls

joined_lines : (ls ks : List (List ℕ)) → AreLines ls → AreLines ks → AreLines (ls ++ ks)
joined_lines [] ks h g = g
joined_lines (l ∷ ls) ks h g = (h.0, joined_lines ls ks h.1 g)

head_texts : AreLines head_lines
head_texts = (
  record { bytes = refl; some = omega arith; short = omega arith },
  (
    record { bytes = refl; some = omega arith; short = omega arith },
    (
      record { bytes = refl; some = omega arith; short = omega arith },
      (record { bytes = refl; some = omega arith; short = omega arith }, tt),
    ),
  ),
)

to_text : (n : ℕ) (tail : List ℕ) → n < 10 ^ 5 → list_all is_text_byte tail ≡ true → length tail ≤ 6 → EndsWell tail → IsLine (decimal n ++ tail)
to_text n tail h b s e = from_plain (decimal n ++ tail) (plain_transition (decimal n) tail n (number n h) b s e)

block_texts : (n i : ℕ) → i < n → n ≤ most_blocks → AreLines (block n i)
block_texts n i l m = (
  first_text (2 * i) i (omega arith),
  (
    to_text (2 * i + 2) (codes " : p") (omega arith) p_value.bytes p_value.short p_value.ends,
    (
      to_text (2 * i + 1) (codes " : 1-p") (omega arith) not_p_value.bytes not_p_value.short not_p_value.ends,
      (
        bare_text (2 * i + 1) (omega arith),
        (
          to_text (2 * i) (codes " : q") (omega arith) q_value.bytes q_value.short q_value.ends,
          (to_text (2 * n + 1) (codes " : 1-q") (omega arith) not_q_value.bytes not_q_value.short not_q_value.ends, tt),
        ),
      ),
    ),
  ),
)

blocks_texts : (n i : ℕ) → i ≤ n → n ≤ most_blocks → AreLines (blocks n i)
unfolding blocks
blocks_texts n zero l m = tt
blocks_texts n (suc i) l m = joined_lines (blocks n i) (block n i) (blocks_texts n i (omega arith) m) (block_texts n i (omega arith) m)

last_texts : (n : ℕ) → n ≤ most_blocks → AreLines (last_lines n)
last_texts n m = (
  state_text (2 * n) (omega arith) (codes " done") refl (omega arith) (done_label.ends (decimal (2 * n)) (2 * n) (number (2 * n) (omega arith))),
  (
    to_text (2 * n) (codes " : 1") (omega arith) one_value.bytes one_value.short one_value.ends,
    (
      bare_text (2 * n + 1) (omega arith),
      (to_text (2 * n + 1) (codes " : 1") (omega arith) one_value.bytes one_value.short one_value.ends, tt),
    ),
  ),
)

ladder_texts : (n : ℕ) → n ≤ most_blocks → AreLines (ladder_lines n)
ladder_texts n m = joined_lines (head_lines ++ blocks n n) (last_lines n) (joined_lines head_lines (blocks n n) head_texts (blocks_texts n n (omega arith) m)) (last_texts n m)

-- ---- the length

joined_short : (ls : List (List ℕ)) → AreLines ls → length (joined ls) ≤ 18 * length ls
joined_short [] h = omega arith
joined_short (l ∷ ls) h =
    omega (arith, h.0.short, joined_short ls h.1, length-append (l ++ 10 ∷ []) (joined ls), length-append l (10 ∷ []))

blocks_size : (n i : ℕ) → length (blocks n i) ≡ 6 * i
unfolding blocks
blocks_size n zero = refl
blocks_size n (suc i) = omega (arith, blocks_size n i, length-append (blocks n i) (block n i))

-- the text has at most 2^23 bytes
pub text_short : (n : ℕ) → n ≤ most_blocks → length (ladder_text n) ≤ 2 ^ 23
text_short n m = omega (arith, joined_short (ladder_lines n) (ladder_texts n m), blocks_size n n, length-append (head_lines ++ blocks n n) (last_lines n), length-append head_lines (blocks n n))

-- ---- the lines

no_feed : (b : ℕ) → is_text_byte b ≡ true → (b == 10) ≡ false
no_feed b h = grind (arith, nat_tests, h)

split_one : (l rest : List ℕ) → list_all is_text_byte l ≡ true → slice_split (λ b. b == 10) (l ++ 10 ∷ rest) ≡ l ∷ slice_split (λ b. b == 10) rest
split_one [] rest h = refl
split_one (b ∷ l) rest h =
    let parts = and_parts (is_text_byte b) (list_all is_text_byte l) h in
    rw (no_feed b parts.0, split_one l rest parts.1) refl

split_lines : (ls : List (List ℕ)) → AreLines ls → slice_split (λ b. b == 10) (joined ls) ≡ ls ++ [] ∷ []
split_lines [] h = refl
split_lines (l ∷ ls) h =
    ap (slice_split (λ b. b == 10)) (append_assoc l (10 ∷ []) (joined ls)) ∙ split_one l (joined ls) h.0.bytes
    ∙ ap (λ pieces. l ∷ pieces) (split_lines ls h.1)

no_end : (ls : List (List ℕ)) → AreLines ls → without_empty_end (ls ++ [] ∷ []) ≡ ls
no_end [] h = refl
no_end ([] ∷ ls) h = absurd (omega (arith, h.0.some))
no_end ((b ∷ l) ∷ ls) h = ap (λ pieces. (b ∷ l) ∷ pieces) (no_end ls h.1)

pub lines_are : (n : ℕ) → n ≤ most_blocks → lines (ladder_text n) ≡ numbered 1 0 (ladder_lines n)
unfolding lines_from
lines_are n m =
    let h = ladder_texts n m in
    ap (λ pieces. numbered 1 0 (without_empty_end pieces)) (split_lines (ladder_lines n) h) ∙ ap (numbered 1 0) (no_end (ladder_lines n) h)
