-- The grammar of values, read from the left: the tree of a value, or its first fault in place.
--     value  = term { ("+" | "-") term }
--     term   = factor { ("*" | "/") factor }
--     factor = "-" factor | literal | name | "(" value ")"
use Rattle.std.specs.Prelude.{ℕ, zero, suc, List, [], ◌∷◌, ◌==◌, ◌+◌, ◌*◌, length, Option, Some, None, Result, Ok, Err, position, if◌then◌else◌}
use Rattle.std.specs.Str.{bytes_eq}
use Rattle.lift_frac.specs.Ratio.{Ratio}
use Rattle.lift_frac.specs.Literal.{reading}
use Rattle.lift_frac.specs.declared.error.FracError.{FracError}
use Rattle.drn_lexer.specs.Cutting.{Piece}
use Rattle.drn_lexer.specs.declared.symbol.SymbolForm.{SymbolForm}
use Rattle.drn_lexer.specs.declared.symbol.SymbolForm.TheVariants as form
use Rattle.drn_expr.specs.Trees.{Expr, Literal, Parameter, Sum, Difference, Product, Quotient, Negative, ◌>>=◌}
use Rattle.drn_expr.specs.declared.error.ExprError.{ExprError}
use Rattle.drn_expr.specs.declared.error.ExprError.TheVariants.{Syntax, UnknownName, Power, Wide, Deep}

-- the most symbols of a value
abbrev pub most_symbols : ℕ
most_symbols = 4096

-- the most parentheses and unary minus signs around a place
abbrev pub most_nesting : ℕ
most_nesting = 64

-- a symbol: its form and its bytes
abbrev pub Symbol : Type 0
Symbol = Piece SymbolForm

-- a part of a value at the front and the symbols behind it, or the first fault in place
abbrev pub Parsed : Type 0
Parsed = Result (Expr × List Symbol) ExprError

-- What is wrong with a symbol where an operator could stand and none that fits does: a `^` there is a power, which values don't have.
abbrev pub misfit : SymbolForm → ExprError
misfit form.Power = Power
misfit _ = Syntax

-- what one parenthesis or unary minus more encloses; Deep where the place has as many as it may
abbrev pub deeper : ℕ → Parsed → Parsed
deeper depth inner = if depth == most_nesting then Err Deep else inner

-- the end of a parenthesis around an expression
abbrev pub closed : Expr → List Symbol → Parsed
closed e [] = Err Syntax
closed e (x ∷ s) = elim x.form [ form.Right ↦ Ok (e, s) | _ ↦ Err (misfit x.form) ]

-- A literal, which is refused where it is too large for a fraction. A symbol of that form is always a literal, so nothing else is wrong with it.
abbrev pub literal_tree : Result Ratio FracError → List Symbol → Parsed
literal_tree (Ok number) s = Ok (Literal number, s)
literal_tree (Err cause) s = Err Wide

-- a name, by its place among the declared ones
abbrev pub name_tree : Option ℕ → List Symbol → Parsed
name_tree (Some place) s = Ok (Parameter place, s)
name_tree None s = Err UnknownName

-- `+` and `-` join terms, and no other symbol does
abbrev pub joins_terms : SymbolForm → Option (Expr → Expr → Expr)
joins_terms form.Plus = Some Sum
joins_terms form.Minus = Some Difference
joins_terms _ = None

-- `*` and `/` join factors, and no other symbol does
abbrev pub joins_factors : SymbolForm → Option (Expr → Expr → Expr)
joins_factors form.Times = Some Product
joins_factors form.Over = Some Quotient
joins_factors _ = None

-- Behind an operand: operators with further operands. They group from the left: what was read so far is the left operand of the next operator. The number only says that the reading ends.
abbrev pub more : (SymbolForm → Option (Expr → Expr → Expr)) → (List Symbol → Parsed) → ℕ → Expr → List Symbol → Parsed
more joins operand zero left s = Err Syntax
more joins operand (suc n) left [] = Ok (left, [])
more joins operand (suc n) left (x ∷ s) = elim (joins x.form) [
  | None ↦ Ok (left, x ∷ s)
  | Some join ↦ operand s >>= (λ right. more joins operand n (join left right.0) right.1)
]

-- The grammar. `depth` counts the parentheses and unary minus signs around the place. The first number only says that the reading ends: each call lowers it, and four times the symbols and four more are enough.
unfoldable mutual
  -- value = term { ("+" | "-") term }
  pub value : ℕ → List (List ℕ) → ℕ → List Symbol → Parsed
  value zero names depth s = Err Syntax
  value (suc n) names depth s = term n names depth s >>= (λ left. more joins_terms (term n names depth) n left.0 left.1)

  -- term = factor { ("*" | "/") factor }
  pub term : ℕ → List (List ℕ) → ℕ → List Symbol → Parsed
  term zero names depth s = Err Syntax
  term (suc n) names depth s = factor n names depth s >>= (λ left. more joins_factors (factor n names depth) n left.0 left.1)

  -- factor = "-" factor | literal | name | "(" value ")"
  pub factor : ℕ → List (List ℕ) → ℕ → List Symbol → Parsed
  factor zero names depth s = Err Syntax
  factor (suc n) names depth [] = Err Syntax
  factor (suc n) names depth (x ∷ s) = elim x.form [
    | form.Minus ↦ deeper depth (factor n names (depth + 1) s >>= (λ e. Ok (Negative e.0, e.1)))
    | form.Left ↦ deeper depth (value n names (depth + 1) s >>= (λ e. closed e.0 e.1))
    | form.Literal ↦ literal_tree (reading x.bytes) s
    | form.Name ↦ name_tree (position (bytes_eq x.bytes) names) s
    | _ ↦ Err Syntax
  ]

-- nothing stands behind a whole value
abbrev pub ended : Expr → List Symbol → Result Expr ExprError
ended e [] = Ok e
ended e (x ∷ s) = Err (misfit x.form)

-- the tree of the symbols, or the first fault in place
abbrev pub tree : List (List ℕ) → List Symbol → Result Expr ExprError
tree names s = value (4 * length s + 4) names 0 s >>= (λ e. ended e.0 e.1)
