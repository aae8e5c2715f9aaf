-- How a formula is read: part by part from the front, where blanks before a part are passed over.
use Prim.Native.Char.{code}
use Rattle.std.specs.Prelude.{◌==◌, ◌&&◌, ℕ, Bool, not, List, length, take, drop, take_while, codes, Option, Some, None, option_and_then, if◌then◌else◌}
use Rattle.std.specs.List.{list_all}
use Rattle.std.specs.Option.{option_map, option_or}
use Rattle.std.specs.Str.{bytes_eq}
use Rattle.lift_bytes.specs.Bytes.{is_blank, behind}
use Rattle.lift_frac.specs.Literal.{is_literal}
use Rattle.lift_frac.specs.Written.{cut_at}
use Rattle.lift_grid.specs.Region.{behind_mark}
use Rattle.property_text.specs.declared.op.Op.{Op}
use Rattle.property_text.specs.declared.op.Op.TheVariants.{AtMost, Below, AtLeast, Above}
use Rattle.property_text.specs.Grammar.{Written, op_text, is_label_byte}

-- a comparison, and what stands behind it
abbrev pub behind_op : Op → List ℕ → Option (Op × List ℕ)
behind_op op text = option_map (λ rest. (op, rest)) (behind_mark (op_text op) text)

-- the comparison at the front, the longest one, and what stands behind it
abbrev pub op_at : List ℕ → Option (Op × List ℕ)
op_at text = option_or (behind_op AtMost text) (option_or (behind_op Below text) (option_or (behind_op AtLeast text) (behind_op Above text)))

-- a label, and what stands behind it, if it is one
abbrev pub label_in : List ℕ × List ℕ → Option (List ℕ × List ℕ)
label_in parts = if list_all is_label_byte parts.0 && not (length parts.0 == 0) then Some parts else None

-- the label in quotes at the front, and what stands behind it
abbrev pub label_at : List ℕ → Option (List ℕ × List ℕ)
label_at text = option_and_then label_in (option_and_then (cut_at (code "\"")) (behind_mark (codes "\"") text))

-- the labels of the safe states and of the goal states, and what stands behind them
pub record Path : Type 0 where
  pub safe : Option (List ℕ)
  pub goal : List ℕ
  pub rest : List ℕ

-- a path that ends with a label
abbrev pub path_to : Option (List ℕ) → List ℕ → Option Path
path_to safe text = option_map (λ goal. record { safe = safe; goal = goal.0; rest = goal.1 }) (label_at text)

-- a path from the label of the safe states
abbrev pub path_from : List ℕ × List ℕ → Option Path
path_from safe = option_and_then (path_to (Some safe.0)) (behind_mark (codes "U") safe.1)

-- the path at the front
abbrev pub path_at : List ℕ → Option Path
path_at text = elim (behind_mark (codes "F") text) [ Some rest ↦ path_to None rest | None ↦ option_and_then path_from (label_at text) ]

-- a byte of a bound: neither a blank nor the bracket behind it
abbrev pub is_bound_byte : ℕ → Bool
is_bound_byte b = not (is_blank b) && not (b == code "[")

-- a formula of these parts, if nothing but a bracket is left
abbrev pub closed : Op → List ℕ → Path → Option Written
closed op bound path = elim (behind_mark (codes "]") path.rest) [ Some rest ↦ (if length rest == 0 then Some (record { op = op; bound = bound; safe = path.safe; goal = path.goal }) else None) | None ↦ None ]

-- a formula from its bound on, whose text begins there
abbrev pub from_bound : Op → List ℕ → Option Written
from_bound op text = option_and_then (closed op (take_while is_bound_byte text)) (option_and_then path_at (behind_mark (codes "[") (behind is_bound_byte text)))

-- a formula from behind its comparison on
abbrev pub from_op : Op × List ℕ → Option Written
from_op op = from_bound op.0 (behind is_blank op.1)

-- what the text of a formula writes, but for whether its bound is one
abbrev pub written_at : List ℕ → Option Written
written_at text = option_and_then from_op (option_and_then op_at (if bytes_eq (take 1 text) (codes "P") then Some (drop 1 text) else None))

-- a text is a literal, or one over another
abbrev pub is_ratio : List ℕ → Bool
is_ratio text = elim (cut_at (code "/") text) [ Some parts ↦ is_literal parts.0 && is_literal parts.1 | None ↦ is_literal text ]

-- what the text of a formula writes
abbrev pub writing : List ℕ → Option Written
writing text = option_and_then (λ w. if is_ratio w.bound then Some w else None) (written_at text)
