-- What a line says, as a span of the text.
use Rattle.std.proofs.Common.{codes, ◌≡◌, ◌+◌, ◌-◌, ◌≤◌, ℕ, Bool, true, false, List, length, take, drop, sym, ◌∙◌, ap, cond, arith, length-take-le}
use Rattle.std.specs.Prelude.{nat_eq, slice_range}
use Rattle.std.specs.List.{prefix_len, suffix_len, ends_with}
use Rattle.std.proofs.lemmas.List.{take_all}
use Rattle.lift_bytes.specs.Bytes.{is_blank}
use Rattle.lift_bytes.specs.Trimming.{trimmed}
use Rattle.drn_lexer.specs.Lines.{without_return}
use Rattle.drn_lexer.proofs.Pieces.{range-take, range-drop, length-range}

kept : (b : Bool) (bytes : List ℕ) → cond b (take (length bytes - 1) bytes) bytes ≡ take (length (cond b (take (length bytes - 1) bytes) bytes)) bytes
kept true bytes = ap (λ n. take n bytes) (sym (length-take-le (length bytes - 1) bytes (omega arith)))
kept false bytes = sym (take_all (length bytes) bytes (omega arith))

kept_len : (b : Bool) (bytes : List ℕ) → length (cond b (take (length bytes - 1) bytes) bytes) ≤ length bytes
kept_len true bytes = omega (arith, length-take-le (length bytes - 1) bytes (omega arith))
kept_len false bytes = omega arith

-- from what the calls found: the bytes of a line without the carriage return, how many blanks are at their front, and what is left without blanks at both ends
pub content_at : (text bytes inner : List ℕ) (from to n : ℕ) → bytes ≡ without_return (slice_range text from to) → n ≡ prefix_len is_blank bytes
    → inner ≡ trimmed bytes → n + length inner ≤ length bytes → from ≤ to → to ≤ length text
    → slice_range text (from + n) (from + n + length inner) ≡ trimmed (without_return (slice_range text from to))
content_at text bytes inner from to n b count i fits ordered within =
    let whole = slice_range text from to in
    let test = ends_with nat_eq whole (codes "\r") in
    let len = length bytes in
    let rest = drop (prefix_len is_blank bytes) bytes in
    let kept_of_rest = length rest - suffix_len is_blank rest in
    let short : from + len ≤ to = omega (arith, ap length b, kept_len test whole, length-range from to text ordered within) in
    let bytes_at : bytes ≡ slice_range text from (from + len) = b ∙ kept test whole ∙ ap (λ t. take (length t) whole) (sym b) ∙ range-take len from to text short in
    let rest_at : rest ≡ slice_range text (from + n) (from + len) = ap (λ m. drop m bytes) (sym count) ∙ ap (drop n) bytes_at ∙ range-drop n from (from + len) text in
    let size : length inner ≡ kept_of_rest = ap length i ∙ length-take-le kept_of_rest rest (omega arith) in
    sym (range-take (length inner) (from + n) (from + len) text (omega (arith, fits)))
    ∙ ap (take (length inner)) (sym rest_at)
    ∙ ap (λ k. take k rest) size
    ∙ ap trimmed b
