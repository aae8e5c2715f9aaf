-- What the code's functions answer.
use Rattle.std.specs.Prelude.{ℕ, ℤ, pos, ◌^◌, count_ones, bit_or, slice_index_or, codes, reverse, map, nat_eq, ◌≡◌, ◌<◌, ◌==◌, nat_le, nat_lt, int_lt, unsigned_abs, not, Bool, false, List, [], ◌∷◌, length, Option, Some, None, Ok, Err, if◌then◌else◌}
use Rattle.std.specs.List.{list_any}
use Rattle.std.specs.Option.{option_map}
use Rattle.line_text.specs.Shown.{first_of}
use Rattle.std.specs.Str.{bytes_eq}
use Rattle.lift_model.specs.Valid.{most_name_bytes, coefficient_limit}
use Rattle.line_text.specs.declared.error.TextCause.{TextCause}
use Rattle.line_text.specs.declared.error.TextCause.TheVariants.{Syntax, Limit}
use Rattle.line_text.specs.Reading.{◌>>=◌}
use Rattle.line_text.specs.Parts.{Words, Read, must, each, count_of, between, is_above}
use Rattle.line_text.specs.Words.{pair_of}
use Prim.Native.Char.{code}
use Rattle.lift_model.specs.declared.entry.Entry.{Entry}
use Rattle.lift_poly.specs.Polynomial.{Term}
use Rattle.std.specs.Ordering.{int_eq}
use Rattle.corner_lift.specs.Case.{most_row_parameters}
use Rattle.cert_text.specs.Lines.{is_value, names_in, is_multiple, spans_in, terms_in, most_terms}
use Rattle.lift_frac.specs.Limits.{size_limit}
use Rattle.lift_grid.specs.Rectangle.{Spans, spans_of}

-- the number, if it is from 0 to 2 ^ u
abbrev pub in_values : ℕ → ℤ → Option ℤ
in_values u z = if is_value u z then Some z else None

-- whether the number comes first
abbrev pub comes_first : ℕ → List ℕ → Bool
comes_first s [] = false
comes_first s (x ∷ xs) = x == s

-- a name that differs from those before it and isn't long
abbrev pub name_in : Words → List ℕ → Read (Unit {0})
name_in before name = must (not (list_any (bytes_eq name) before)) Syntax >>= λ _. must (nat_le (length name) most_name_bytes) Limit

-- the names, each of which differs from those before it and isn't long
abbrev pub distinct_names : Words → Read Words
distinct_names names = names_in [] names >>= λ _. Ok names

-- an end that is a multiple of n, below the limit in size
abbrev pub end_in : ℕ → ℤ → Read ℤ
end_in n z = must (is_multiple n z) Syntax >>= λ _. must (nat_lt (unsigned_abs z) size_limit) Limit >>= λ _. Ok z

-- a span of two such ends, the low one below the high one
abbrev pub span_in : ℕ → ℤ → ℤ → Read (ℤ × ℤ)
span_in n low high = do
  _ ← must (int_lt low high) Syntax
  a ← end_in n low
  b ← end_in n high
  Ok (a, b)

-- ends in a row that make such spans
abbrev pub sides_in : ℕ → List ℤ → Read (List ℤ)
sides_in n zs = spans_in n (spans_of zs) >>= λ _. Ok zs

-- the spans of such ends
abbrev pub root_in : ℕ → List ℤ → Read Spans
root_in n zs = spans_in n (spans_of zs) >>= λ _. Ok (spans_of zs)

-- the set of a term, behind terms that hold the parameters of seen and the last of which has the set before
abbrev pub set_in : ℕ → ℕ → Option ℕ → ℤ → Read ℕ
set_in parameters seen before z = do
  _ ← must (is_above before z) Syntax
  set ← between 0 (2 ^ parameters) z
  _ ← must (nat_le (count_ones (bit_or seen set)) most_row_parameters) Limit
  Ok set

-- a coefficient that isn't 0, below the limit in size
abbrev pub coefficient_in : ℤ → Read ℤ
coefficient_in z = must (not (int_eq z (pos 0))) Syntax >>= λ _. must (nat_lt (unsigned_abs z) coefficient_limit) Limit >>= λ _. Ok z

-- a term of these
abbrev pub term_in : ℕ → ℕ → Option ℕ → ℤ × ℤ → Read Term
term_in parameters seen before term = set_in parameters seen before term.0 >>= λ set. coefficient_in term.1 >>= λ c. Ok (set, c)

-- a term behind others, or the fault that these have
abbrev pub next_term : Option TextCause → ℕ → ℕ → Option ℕ → ℤ × ℤ → Read Term
next_term (Some cause) parameters seen before term = Err cause
next_term None parameters seen before term = term_in parameters seen before term

-- what the first word says of a term behind others, or the fault that these have, and the words behind it
abbrev pub term_first : Option TextCause → ℕ → ℕ → Option ℕ → Words → Option (Read Term × Words)
term_first fault parameters seen before words = option_map (λ x. (next_term fault parameters seen before x.0, x.1)) (first_of (pair_of (code ":")) words)

-- what is read of the few pairs that words write, behind the form of all
abbrev pub terms_of : ℕ → Words → Read (Read (List Term))
terms_of parameters words = do
  terms ← each (pair_of (code ":")) words
  _ ← must (nat_le (length terms) most_terms) Syntax
  Ok (terms_in parameters 0 None terms)

-- an entry with that target and the terms that words write, where a test tells which targets are taken
abbrev pub entry_in : ℕ → ℕ → (ℕ → Bool) → ℤ → Words → Read Entry
entry_in states parameters taken z words = do
  read ← terms_of parameters words
  target ← between 0 states z
  _ ← must (not (taken target)) Syntax
  poly ← read
  Ok (record { target = target; poly = poly })

-- whether the state's mark is that one
abbrev pub has_mark : ℕ → List ℕ → ℕ → Bool
has_mark mark marks s = slice_index_or marks s 0 == mark

-- an entry by the words of its line, where a test tells which targets are taken
abbrev pub entry_by : ℕ → ℕ → (ℕ → Bool) → Words → Read Entry
entry_by states parameters taken words = count_of (codes "to") words >>= λ c. entry_in states parameters taken c.0 c.1

-- the states with that mark are those of the list
abbrev pub AreMarked : ℕ → List ℕ → List ℕ → Type 0
AreMarked mark marks states = (s : ℕ) → s < length marks → has_mark mark marks s ≡ list_any (nat_eq s) states

-- the targets of entries, the last one first
abbrev pub targets_back : List Entry → List ℕ
targets_back entries = reverse (map (λ entry. entry.target) entries)
