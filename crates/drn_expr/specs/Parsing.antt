-- What the parser's functions answer, by the grammar. No public clause rests on it. The numbers of steps are what the grammar needs at most to read the rest of the line.
use Rattle.std.specs.Prelude.{◌≡◌, ◌≢◌, ◌+◌, ◌*◌, ◌<◌, ◌≤◌, ℕ, List, Option, Some, None, [], ◌∷◌, Result, Ok, Err, length, slice_range}
use Rattle.drn_lexer.specs.Spans.{IsOn}
use Rattle.drn_lexer.specs.Symbols.{symbols}
use Rattle.drn_lexer.specs.declared.line.Line.{Line}
use Rattle.drn_lexer.specs.declared.symbol.SymbolForm.{SymbolForm}
use Rattle.drn_expr.specs.Trees.{Expr, Sum, Difference, Product, Quotient, ◌>>=◌}
use Rattle.drn_expr.specs.Grammar.{Parsed, Symbol, value, term, factor, closed, ended}
use Rattle.drn_expr.specs.RatPolys.{OverOne}
use Rattle.drn_expr.specs.Expansion as expanded
use Rattle.drn_expr.specs.Expansion.{expansion}
use Rattle.drn_expr.specs.declared.error.ExprError.{ExprError}
use Rattle.drn_expr.specs.declared.error.ExprError.TheVariants.{Memory}
use Rattle.drn_expr.specs.declared.parse.Part.{Part}
use Rattle.drn_expr.specs.declared.parse.Operation.{Operation}
use Rattle.drn_expr.specs.declared.parse.Operation.TheVariants as op

-- the symbols of a line behind a place
abbrev pub behind : List ℕ → Line → ℕ → List Symbol
behind text line at = symbols (slice_range text at line.to)

-- how many there are
abbrev pub left : List ℕ → Line → ℕ → ℕ
left text line at = length (behind text line at)

-- a place on the line with fewer symbols behind it
pub record IsFurther (text : List ℕ) (line : Line) (at to : ℕ) : Type 0 where
  pub on : IsOn to line
  pub fewer : left text line to < left text line at

-- what an expression expands to, unless memory was wanting
abbrev pub IsExpansion : Result OverOne ExprError → Expr → Type 0
IsExpansion value e = value ≢ Err Memory → value ≡ expansion e

-- a part of a value with its expansion and the symbols behind it, or the first fault in place
abbrev pub Agrees : List ℕ → Line → Result Part ExprError → Parsed → Type 0
Agrees text line (Ok part) parsed = (e : Expr) × (parsed ≡ Ok (e, behind text line part.to)) × IsExpansion part.value e
Agrees text line (Err cause) parsed = parsed ≡ Err cause

-- the factor that the grammar reads from a place on
abbrev pub IsFactor : List (List ℕ) → ℕ → List ℕ → Line → ℕ → Result Part ExprError → Type 0
IsFactor names depth text line at answer = (n : ℕ) → 3 * left text line at + 1 ≤ n → Agrees text line answer (factor n names depth (behind text line at))

-- the term
abbrev pub IsTerm : List (List ℕ) → ℕ → List ℕ → Line → ℕ → Result Part ExprError → Type 0
IsTerm names depth text line at answer = (n : ℕ) → 3 * left text line at + 2 ≤ n → Agrees text line answer (term n names depth (behind text line at))

-- the value
abbrev pub IsValue : List (List ℕ) → ℕ → List ℕ → Line → ℕ → Result Part ExprError → Type 0
IsValue names depth text line at answer = (n : ℕ) → 3 * left text line at + 3 ≤ n → Agrees text line answer (value n names depth (behind text line at))

-- the place behind a closing parenthesis
abbrev pub IsClosed : List ℕ → Line → ℕ → Result ℕ ExprError → Type 0
IsClosed text line at (Ok to) = (e : Expr) → closed e (behind text line at) ≡ Ok (e, behind text line to)
IsClosed text line at (Err cause) = (e : Expr) → closed e (behind text line at) ≡ Err cause

-- nothing is left
abbrev pub IsEnded : List ℕ → Line → ℕ → Result (Unit {0}) ExprError → Type 0
IsEnded text line at (Ok done) = (e : Expr) → ended e (behind text line at) ≡ Ok e
IsEnded text line at (Err cause) = (e : Expr) → ended e (behind text line at) ≡ Err cause

-- the tree of an operation
abbrev pub joined : Operation → Expr → Expr → Expr
joined op.Sum a b = Sum a b
joined op.Difference a b = Difference a b
joined op.Product a b = Product a b
joined op.Quotient a b = Quotient a b

-- the expansion of an operation
abbrev pub result_of : Operation → OverOne → OverOne → Result OverOne ExprError
result_of op.Sum a b = expanded.sum a b
result_of op.Difference a b = expanded.difference a b
result_of op.Product a b = expanded.product a b
result_of op.Quotient a b = expanded.quotient a b

-- an operation on the operands' expansions, from left to right; the first one that failed is told
abbrev pub combined : Operation → Result OverOne ExprError → Result OverOne ExprError → Result OverOne ExprError
combined operation left right = expanded.both (result_of operation) left right

-- the operand's expansion with the other sign
abbrev pub opposite : Result OverOne ExprError → Result OverOne ExprError
opposite operand = operand >>= (λ a. Ok (expanded.negative a))

-- no operator of a kind stands at the front
abbrev pub IsStop : (SymbolForm → Option (Expr → Expr → Expr)) → List Symbol → Type 0
IsStop joins [] = Unit {0}
IsStop joins (x ∷ s) = joins x.form ≡ None

-- this operator stands at the front, and these symbols behind it
abbrev pub IsStart : (SymbolForm → Option (Expr → Expr → Expr)) → List Symbol → (Expr → Expr → Expr) → List Symbol → Type 0
IsStart joins [] join rest = ⊥
IsStart joins (x ∷ s) join rest = (joins x.form ≡ Some join) × (s ≡ rest)

-- an operation as the grammar has it
abbrev pub join_of : Option Operation → Option (Expr → Expr → Expr)
join_of None = None
join_of (Some operation) = Some (joined operation)

-- the operator at a place: none where none of the kind stands there, else the operation and the symbols behind it
abbrev pub IsOperator : (SymbolForm → Option (Expr → Expr → Expr)) → List ℕ → Line → ℕ → Option (Operation × ℕ) → Type 0
IsOperator joins text line at None = IsStop joins (behind text line at)
IsOperator joins text line at (Some found) = IsStart joins (behind text line at) (joined found.0) (behind text line found.1)

-- an operand that ends at a place, or its fault; what stands behind it isn't looked at
abbrev pub IsOperand : ℕ → Result Part ExprError → (List Symbol → Parsed) → Type 0
IsOperand to (Ok part) tree = (part.to ≡ to) × (e : Expr) × ((s : List Symbol) → tree s ≡ Ok (e, s)) × IsExpansion part.value e
IsOperand to (Err cause) tree = (s : List Symbol) → tree s ≡ Err cause
