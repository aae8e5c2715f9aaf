-- What a line says by its words. Its form comes first, and then its numbers and names from left to right.
use Rattle.std.specs.Prelude.{ℕ, ℤ, pos, negsuc, zero, suc, ◌+◌, ◌*◌, ◌^◌, ◌%◌, Bool, true, false, nat_lt, nat_le, nat_eq, ◌==◌, ◌&&◌, not, List, [], ◌∷◌, length, codes, count_ones, bit_or, int_lt, Option, Some, None, Ok, Err, unsigned_abs, if◌then◌else◌}
use Rattle.std.specs.List.{list_all, list_any}
use Rattle.std.specs.Option.{option_map}
use Rattle.std.specs.Ordering.{int_eq}
use Rattle.std.specs.Str.{bytes_eq}
use Prim.Native.Char.{code}
use Rattle.lift_frac.specs.Gcd.{gcd}
use Rattle.lift_frac.specs.Limits.{size_limit}
use Rattle.lift_poly.specs.Polynomial.{Term}
use Rattle.lift_grid.specs.Rectangle.{Spans, spans_of}
use Rattle.lift_model.specs.declared.kind.Kind.{Kind}
use Rattle.lift_model.specs.declared.kind.Kind.TheVariants.{Dtmc, Mdp}
use Rattle.lift_model.specs.declared.entry.Entry.{Entry}
use Rattle.lift_model.specs.Valid.{most_parameters, most_name_bytes, coefficient_limit}
use Rattle.corner_lift.specs.Case.{most_row_parameters}
use Rattle.corner_lift.specs.Certificate.{most_rate, unmarked}
use Rattle.lift_cert.specs.declared.bound.Bound.{Bound}
use Rattle.lift_cert.specs.RejectMiss.{most_height}
use Rattle.line_text.specs.declared.error.TextCause.TheVariants.{Syntax, Version, Limit}
use Rattle.lift_bytes.specs.Bytes.{is_name}
use Rattle.line_text.specs.Words.{number_of, pair_of}
use Rattle.line_text.specs.Reading.{◌>>=◌}
use Rattle.line_text.specs.Parts.{Words, Read, must, spelled, keyed, first, ended, single, each, counted, numbers_of, between, natural, is_above}

-- ---- the head's lines

-- whether that number is of the second version; a number but 1 and 2 is of another one
abbrev pub version_in : ℤ → Read Bool
version_in z = if int_eq z (pos 1) then Ok false else if int_eq z (pos 2) then Ok true else Err Version

-- the first line, `plift 1` or `plift 2`
abbrev pub version_of : Words → Read Bool
version_of words = numbers_of (codes "plift") words >>= single >>= version_in

-- the kind of that name
abbrev pub kind_named : List ℕ → Read Kind
kind_named word = if bytes_eq word (codes "dtmc") then Ok Dtmc else if bytes_eq word (codes "mdp") then Ok Mdp else Err Syntax

-- the line `kind`, with a kind's name
abbrev pub kind_of : Words → Read Kind
kind_of words = keyed (codes "kind") words >>= single >>= kind_named

-- a name of a word
abbrev pub name_of : List ℕ → Option (List ℕ)
name_of word = if is_name word then Some word else None

-- each name differs from those before it and isn't long
abbrev pub names_in : Words → Words → Read (Unit {0})
names_in before [] = Ok tt
names_in before (name ∷ names) = do
  _ ← must (not (list_any (bytes_eq name) before)) Syntax
  _ ← must (nat_le (length name) most_name_bytes) Limit
  names_in (name ∷ before) names

-- the line `parameters`: how many there are, and their names
abbrev pub parameters_of : Words → Read Words
parameters_of words = do
  names ← counted (codes "parameters") name_of words
  _ ← must (nat_le (length names) most_parameters) Limit
  _ ← names_in [] names
  Ok names

-- ascending states
abbrev pub goals_in : ℕ → Option ℕ → List ℤ → Read (List ℕ)
goals_in states before [] = Ok []
goals_in states before (z ∷ zs) = do
  _ ← must (is_above before z) Syntax
  s ← between 0 states z
  ss ← goals_in states (Some s) zs
  Ok (s ∷ ss)

-- for each of so many states from s on whether it stands in the ascending list
abbrev pub flags : ℕ → ℕ → List ℕ → List Bool
flags zero s goals = []
flags (suc left) s [] = false ∷ flags left (s + 1) []
flags (suc left) s (goal ∷ goals) = if goal == s then true ∷ flags left (s + 1) goals else false ∷ flags left (s + 1) (goal ∷ goals)

-- the line `goal`: how many goal states there are, at least one, and these, ascending; for each state whether it is one
abbrev pub goal_of : ℕ → Words → Read (List Bool)
goal_of states words = do
  zs ← counted (codes "goal") number_of words
  _ ← must (not (length zs == 0)) Syntax
  goals ← goals_in states None zs
  Ok (flags states 0 goals)

-- the number of a row's entries, where so many choices and transitions are left
abbrev pub count_in : ℕ → ℕ → ℤ → Read ℕ
count_in choices transitions count = natural count >>= λ n. must (nat_lt 0 choices && nat_le n transitions) Limit >>= λ _. Ok n

-- the number of entries of the row of state s and choice a, where so many choices and transitions are left
abbrev pub row_of : ℕ → ℕ → ℕ → ℕ → Words → Read ℕ
row_of s a choices transitions words = do
  zs ← numbers_of (codes "row") words
  state ← first zs
  choice ← first state.1
  count ← single choice.1
  _ ← must (int_eq state.0 (pos s) && int_eq choice.0 (pos a)) Syntax
  count_in choices transitions count

-- terms by ascending set, behind those that hold the parameters of seen
abbrev pub terms_in : ℕ → ℕ → Option ℕ → List (ℤ × ℤ) → Read (List Term)
terms_in parameters seen before [] = Ok []
terms_in parameters seen before (term ∷ terms) = do
  _ ← must (is_above before term.0) Syntax
  set ← between 0 (2 ^ parameters) term.0
  _ ← must (nat_le (count_ones (bit_or seen set)) most_row_parameters) Limit
  _ ← must (not (int_eq term.1 (pos 0))) Syntax
  _ ← must (nat_lt (unsigned_abs term.1) coefficient_limit) Limit
  rest ← terms_in parameters (bit_or seen set) (Some set) terms
  Ok ((set, term.1) ∷ rest)

-- how many terms an entry has at most, by our own profile
abbrev pub most_terms : ℕ
most_terms = 16

-- an entry whose target differs from those before it
abbrev pub entry_of : ℕ → ℕ → List ℕ → Words → Read Entry
entry_of states parameters before words = do
  rest ← keyed (codes "to") words
  parts ← first rest
  z ← spelled (number_of parts.0)
  terms ← each (pair_of (code ":")) parts.1
  _ ← must (nat_le (length terms) most_terms) Syntax
  target ← between 0 states z
  _ ← must (not (list_any (nat_eq target) before)) Syntax
  poly ← terms_in parameters 0 None terms
  Ok (record { target = target; poly = poly })

-- a number from 1 on
abbrev pub positive : ℤ → Read ℕ
positive (pos n) = must (nat_lt 0 n) Limit >>= λ _. Ok n
positive (negsuc n) = Err Limit

-- The fraction of two numbers, in lowest terms and from 0 to 1. The size of the denominator is tested last, so that with a numerator in its range the remainder of the denominator by it tells whether the terms are lowest.
abbrev pub bound_in : ℤ × ℤ → Read Bound
bound_in parts = do
  num ← between 0 (2 ^ 32) parts.0
  den ← positive parts.1
  _ ← must (gcd num den == 1) Syntax
  _ ← must (nat_lt den (2 ^ 32) && nat_le num den) Limit
  Ok (record { num = num; den = den })

-- the line `bound`, with a fraction
abbrev pub bound_of : Words → Read Bound
bound_of words = keyed (codes "bound") words >>= single >>= λ word. spelled (pair_of (code "/") word) >>= bound_in

-- the number is a multiple of n
abbrev pub is_multiple : ℕ → ℤ → Bool
is_multiple n z = unsigned_abs z % n == 0

-- spans whose ends are multiples of n
abbrev pub spans_in : ℕ → Spans → Read (Unit {0})
spans_in n [] = Ok tt
spans_in n (s ∷ ss) = do
  _ ← must (int_lt s.0 s.1 && is_multiple n s.0) Syntax
  _ ← must (nat_lt (unsigned_abs s.0) size_limit) Limit
  _ ← must (is_multiple n s.1) Syntax
  _ ← must (nat_lt (unsigned_abs s.1) size_limit) Limit
  spans_in n ss

-- the line `box`: the low and the high end of each parameter, which are multiples of 2 ^ depth
abbrev pub box_of : ℕ → ℕ → Words → Read Spans
box_of parameters depth words = do
  zs ← numbers_of (codes "box") words
  _ ← must (length zs == 2 * parameters) Syntax
  _ ← spans_in (2 ^ depth) (spans_of zs)
  Ok (spans_of zs)

-- ---- the nodes' lines

-- a number from 0 to 2 ^ u
abbrev pub is_value : ℕ → ℤ → Bool
is_value u (pos n) = nat_le n (2 ^ u)
is_value u (negsuc n) = false

-- the numbers, if each is from 0 to 2 ^ u
abbrev pub values_in : ℕ → List ℤ → Read (List ℤ)
values_in u zs = must (list_all (is_value u) zs) Limit >>= λ _. Ok zs

-- so many of them behind a word
abbrev pub values_of : List ℕ → ℕ → ℕ → Words → Read (List ℤ)
values_of key count u words = do
  zs ← numbers_of key words
  _ ← must (length zs == count) Syntax
  values_in u zs

-- a mark: - or a number
abbrev pub mark_of : List ℕ → Option (Option ℤ)
mark_of word = if bytes_eq word (codes "-") then Some None else option_map (λ z. Some z) (number_of word)

-- a mark below its end, or none
abbrev pub mark_in : ℕ → Option ℤ → Read ℕ
mark_in end None = Ok unmarked
mark_in end (Some z) = between 0 end z

-- marks below their ends, or none
abbrev pub marks_in : List ℕ → List (Option ℤ) → Read (List ℕ)
marks_in [] [] = Ok []
marks_in [] (m ∷ ms) = Err Syntax
marks_in (end ∷ ends) [] = Err Syntax
marks_in (end ∷ ends) (m ∷ ms) = mark_in end m >>= λ mark. marks_in ends ms >>= λ marks. Ok (mark ∷ marks)

-- so many marks behind a word, each below its end, or none
abbrev pub marks_of : List ℕ → List ℕ → Words → Read (List ℕ)
marks_of key ends words = do
  ms ← keyed key words >>= each mark_of
  _ ← must (length ms == length ends) Syntax
  marks_in ends ms

-- what a rejecting leaf's first line says; m, y and z are tested with the leaf
pub record Rejected : Type 0 where
  pub e : ℕ
  pub k : ℕ
  pub m : ℤ
  pub y : ℤ
  pub z : ℤ

-- the numbers of a rejecting leaf's first line, where e and k are in their ranges
abbrev pub rejected : ℤ → ℤ → ℤ → ℤ × ℤ → Read Rejected
rejected ze zk zm b = do
  e ← between 0 (most_rate + 1) ze
  k ← between 1 (most_height + 1) zk
  Ok (record { e = e; k = k; m = zm; y = b.0; z = b.1 })

-- a word that has to stand next, and the one behind it
abbrev pub named : List ℕ → Words → Read (List ℕ × Words)
named key words = keyed key words >>= first

-- the first line of a rejecting leaf: each part behind its name, forms before ranges
abbrev pub reject_of : Words → Read Rejected
reject_of words = do
  rest ← keyed (codes "reject") words
  e ← named (codes "e") rest
  ze ← spelled (number_of e.0)
  k ← named (codes "k") e.1
  zk ← spelled (number_of k.0)
  m ← named (codes "m") k.1
  zm ← spelled (number_of m.0)
  b ← named (codes "b") m.1
  zb ← spelled (pair_of (code "/") b.0)
  _ ← ended b.1
  rejected ze zk zm zb

-- the line of an unknown leaf, that word alone
abbrev pub unknown_of : Words → Read (Unit {0})
unknown_of words = keyed (codes "unknown") words >>= ended
