-- The first line at a place.
use Prim.Native.Char.{code}
use Rattle.std.proofs.Common.{◌≡◌, ◌+◌, ◌-◌, ◌<◌, ◌≤◌, ℕ, Bool, true, false, refl, List, [], ◌∷◌, length, take, drop, sym, ◌∙◌, ap, inl, inr, not, cond, min, arith, length-drop, length-take-le}
use Rattle.std.specs.Prelude.{◌==◌, slice_range}
use Rattle.std.specs.List.{slice_split, position_or_len}
use Rattle.std.proofs.Math.Nat.{eq-or-lt_of_le}
use Rattle.std.proofs.lemmas.List.{take_all}
use Rattle.std.proofs.lemmas.List.Splits.{slice_split_first, slice_split-cons_no, length-slice_split}
use Rattle.drn_lexer.specs.Lines.{TextLine, numbered, without_empty_end, lines_from, lines_at, place_behind}
use Rattle.drn_lexer.specs.Steps.{text_line, IsAtEnd, IsFirstLine}
use Rattle.drn_lexer.specs.declared.line.Place.{Place}
use Rattle.drn_lexer.proofs.Pieces.{drop-drop, length-range}

-- a piece that isn't the last is a line
not_last : (piece : List ℕ) (pieces : List (List ℕ)) → 0 < length pieces → without_empty_end (piece ∷ pieces) ≡ piece ∷ without_empty_end pieces
not_last piece [] h = absurd (omega arith)
not_last [] (next ∷ pieces) h = refl
not_last (b ∷ piece) (next ∷ pieces) h = refl

-- a line with its line feed
with_feed : (number at len : ℕ) (text : List ℕ) → len ≡ position_or_len (λ b. b == code "\n") text → len < length text
    → lines_from number at text ≡ record { number = number; at = at; bytes = take len text } ∷ lines_from (number + 1) (at + len + 1) (drop (len + 1) text)
unfolding lines_from
with_feed number at len text e h =
    let cut = slice_split_first (λ b. b == code "\n") text 0 (omega (arith, e)) ∙ ap (λ n. take n text ∷ slice_split (λ b. b == code "\n") (drop (n + 1) text)) (sym e) in
    let rest = slice_split (λ b. b == code "\n") (drop (len + 1) text) in
    let some : 0 < length rest = omega (arith, length-slice_split (λ b. b == code "\n") (drop (len + 1) text)) in
    ap (λ ps. numbered number at (without_empty_end ps)) cut
    ∙ ap (numbered number at) (not_last (take len text) rest some)
    ∙ ap (λ n. let line : TextLine = record { number = number; at = at; bytes = take len text } in line ∷ numbered (number + 1) (at + n + 1) (without_empty_end rest)) (length-take-le len text (omega arith))

no_cut_step : (p : ℕ → Bool) (x : ℕ) (xs : List ℕ) (b : Bool) → p x ≡ b → (length xs ≤ position_or_len p xs → slice_split p xs ≡ xs ∷ [])
    → length (x ∷ xs) ≤ cond (not b) (1 + position_or_len p xs) 0 → slice_split p (x ∷ xs) ≡ (x ∷ xs) ∷ []
no_cut_step p x xs true e more h = absurd (omega arith)
no_cut_step p x xs false e more h = slice_split-cons_no p x xs e ∙ rw (more (omega arith)) refl

-- where no element passes, nothing is cut
no_cut : (p : ℕ → Bool) (xs : List ℕ) → length xs ≤ position_or_len p xs → slice_split p xs ≡ xs ∷ []
no_cut p [] h = refl
no_cut p (x ∷ xs) h = no_cut_step p x xs (p x) refl (no_cut p xs) h

-- the last line, without a line feed
without_feed : (number at : ℕ) (text : List ℕ) → length text ≤ position_or_len (λ b. b == code "\n") text → 0 < length text
    → lines_from number at text ≡ record { number = number; at = at; bytes = text } ∷ []
unfolding lines_from
without_feed number at [] h some = absurd (omega arith)
without_feed number at (b ∷ text) h some = ap (λ ps. numbered number at (without_empty_end ps)) (no_cut (λ b. b == code "\n") (b ∷ text) h)

no_lines : (number at : ℕ) (text : List ℕ) → length text < 1 → lines_from number at text ≡ []
unfolding lines_from
no_lines number at [] h = refl
no_lines number at (b ∷ text) h = absurd (omega arith)

-- no line is left
pub at_end : (text rest : List ℕ) (place : Place) → place.at ≤ length text → rest ≡ drop place.at text → length rest < 1 → IsAtEnd text place
at_end text rest place within r short =
    let size = ap length r ∙ length-drop place.at text in
    record {
      at_end = omega (arith, size);
      no_line = no_lines place.number place.at (drop place.at text) (omega (arith, ap length r));
    }

-- the bytes of the line as they stand in the text
bytes_are : (text rest : List ℕ) (from len : ℕ) → rest ≡ drop from text → take len rest ≡ slice_range text from (from + len)
bytes_are text rest from len r =
    let e : len ≡ from + len - from = omega arith in
    ap (take len) r ∙ ap (λ n. take n (drop from text)) e

-- the place behind the line
at_behind : (text : List ℕ) (from len : ℕ) → from + len ≤ length text → min (from + length (slice_range text from (from + len)) + 1) (length text) ≡ min (from + len + 1) (length text)
at_behind text from len h =
    let size : length (slice_range text from (from + len)) ≡ len = omega (arith, length-range from (from + len) text (omega arith) h) in
    ap (λ n. min (from + n + 1) (length text)) size

-- the lines from there on
lines_behind : (text : List ℕ) (number from len next : ℕ) → from + len ≤ length text → next ≡ min (from + len + 1) (length text)
    → lines_at text (place_behind text (text_line text (record { from = from; to = from + len; number = number }))) ≡ lines_from (number + 1) next (drop next text)
lines_behind text number from len next h e = ap (λ k. lines_from (number + 1) k (drop k text)) (at_behind text from len h ∙ sym e)

-- a line with its line feed is left
with_feed_at : (text rest : List ℕ) (place : Place) (len : ℕ) → place.at ≤ length text → rest ≡ drop place.at text → len ≡ position_or_len (λ b. b == code "\n") rest → len < length rest
    → lines_at text place ≡ text_line text (record { from = place.at; to = place.at + len; number = place.number })
    ∷ lines_at text (place_behind text (text_line text (record { from = place.at; to = place.at + len; number = place.number })))
with_feed_at text rest place len within r e more =
    let size = ap length r ∙ length-drop place.at text in
    let next : place.at + (len + 1) ≡ place.at + len + 1 = omega arith in
    ap (lines_from place.number place.at) (sym r)
    ∙ with_feed place.number place.at len rest e more
    ∙ ap (λ t. let line : TextLine = record { number = place.number; at = place.at; bytes = t } in line ∷ lines_from (place.number + 1) (place.at + len + 1) (drop (len + 1) rest)) (bytes_are text rest place.at len r)
    ∙ ap (λ t. text_line text (record { from = place.at; to = place.at + len; number = place.number }) ∷ lines_from (place.number + 1) (place.at + len + 1) t)
    (ap (drop (len + 1)) r ∙ drop-drop place.at (len + 1) text ∙ ap (λ n. drop n text) next)
    ∙ ap (λ ls. text_line text (record { from = place.at; to = place.at + len; number = place.number }) ∷ ls)
    (sym (lines_behind text place.number place.at len (place.at + len + 1) (omega (arith, size, more)) (omega (arith, size, more))))

-- the last line is left
without_feed_at : (text rest : List ℕ) (place : Place) (len : ℕ) → place.at ≤ length text → rest ≡ drop place.at text → 0 < length rest → len ≡ position_or_len (λ b. b == code "\n") rest → len ≡ length rest
    → lines_at text place ≡ text_line text (record { from = place.at; to = place.at + len; number = place.number })
    ∷ lines_at text (place_behind text (text_line text (record { from = place.at; to = place.at + len; number = place.number })))
without_feed_at text rest place len within r some e all =
    let size = ap length r ∙ length-drop place.at text in
    let whole : take len rest ≡ rest = take_all len rest (omega (arith, all)) in
    let nothing : length (drop (length text) text) < 1 = omega (arith, length-drop (length text) text) in
    ap (lines_from place.number place.at) (sym r)
    ∙ without_feed place.number place.at rest (omega (arith, e, all)) some
    ∙ ap (λ t. let line : TextLine = record { number = place.number; at = place.at; bytes = t } in line ∷ []) (sym whole ∙ bytes_are text rest place.at len r)
    ∙ ap (λ ls. text_line text (record { from = place.at; to = place.at + len; number = place.number }) ∷ ls)
    (sym (lines_behind text place.number place.at len (length text) (omega (arith, size, all)) (omega (arith, size, all))
    ∙ no_lines (place.number + 1) (length text) (drop (length text) text) nothing))

-- a line is left, and this many bytes of it stand before the line feed or the end of the text
pub first_line : (text rest : List ℕ) (place : Place) (len : ℕ) → place.at ≤ length text → rest ≡ drop place.at text → 0 < length rest → len ≡ position_or_len (λ b. b == code "\n") rest → len ≤ length rest
    → IsFirstLine text place (record { from = place.at; to = place.at + len; number = place.number })
first_line text rest place len within r some e fits = record {
  from = refl;
  number = refl;
  some = omega (arith, ap length r ∙ length-drop place.at text, some);
  ordered = omega arith;
  within = omega (arith, ap length r ∙ length-drop place.at text, within);
  lines_are = elim (eq-or-lt_of_le fits) [ inl all ↦ without_feed_at text rest place len within r some e all | inr more ↦ with_feed_at text rest place len within r e more ];
}
