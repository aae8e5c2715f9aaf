-- The rules of the grammar, as a relation between symbols and the tree that they write.
--     value  = term { ("+" | "-") term }
--     term   = factor { ("*" | "/") factor }
--     factor = "-" factor | literal | name | "(" value ")"
use Rattle.std.specs.Prelude.{◌≡◌, ℕ, List, [], ◌∷◌, ◌++◌, Some, Ok, position}
use Rattle.std.specs.Str.{bytes_eq}
use Rattle.lift_frac.specs.Ratio.{Ratio}
use Rattle.lift_frac.specs.Literal.{reading}
use Rattle.drn_lexer.specs.declared.symbol.SymbolForm.{SymbolForm}
use Rattle.drn_lexer.specs.declared.symbol.SymbolForm.TheVariants as form
use Rattle.drn_expr.specs.Trees.{Expr, Literal, Parameter, Sum, Difference, Product, Quotient, Negative}
use Rattle.drn_expr.specs.Grammar.{Symbol}

-- the three kinds of parts that a value has
pub data Kind : Type 0 where
  Value Term Factor : Kind

-- a symbol of this form
abbrev pub symbol : SymbolForm → List ℕ → Symbol
symbol f bytes = record { form = f; bytes = bytes }

-- These symbols are a part of this kind, and write this tree. What stands left of the last operator of a sum or a product is its left operand: sums and products group from the left. A unary minus takes one factor: it binds tighter than `*`.
pub data Writes (names : List (List ℕ)) : Kind → List Symbol → Expr → Type 0 where
  one_term : (s : List Symbol) (e : Expr) → Writes names Term s e → Writes names Value s e
  add : (s r : List Symbol) (a b : Expr) (bytes : List ℕ) → Writes names Value s a → Writes names Term r b → Writes names Value (s ++ symbol form.Plus bytes ∷ r) (Sum a b)
  subtract : (s r : List Symbol) (a b : Expr) (bytes : List ℕ) → Writes names Value s a → Writes names Term r b → Writes names Value (s ++ symbol form.Minus bytes ∷ r) (Difference a b)
  one_factor : (s : List Symbol) (e : Expr) → Writes names Factor s e → Writes names Term s e
  multiply : (s r : List Symbol) (a b : Expr) (bytes : List ℕ) → Writes names Term s a → Writes names Factor r b → Writes names Term (s ++ symbol form.Times bytes ∷ r) (Product a b)
  divide : (s r : List Symbol) (a b : Expr) (bytes : List ℕ) → Writes names Term s a → Writes names Factor r b → Writes names Term (s ++ symbol form.Over bytes ∷ r) (Quotient a b)
  negate : (s : List Symbol) (e : Expr) (bytes : List ℕ) → Writes names Factor s e → Writes names Factor (symbol form.Minus bytes ∷ s) (Negative e)
  enclose : (s : List Symbol) (e : Expr) (open_bytes close_bytes : List ℕ) → Writes names Value s e → Writes names Factor (symbol form.Left open_bytes ∷ (s ++ symbol form.Right close_bytes ∷ [])) e
  literal : (bytes : List ℕ) (number : Ratio) → reading bytes ≡ Ok number → Writes names Factor (symbol form.Literal bytes ∷ []) (Literal number)
  name : (bytes : List ℕ) (place : ℕ) → position (bytes_eq bytes) names ≡ Some place → Writes names Factor (symbol form.Name bytes ∷ []) (Parameter place)
