-- A whole value: its expansion, or its first refusal.
use Rattle.std.specs.Prelude.{◌≡◌, ℕ, nat_lt, List, length, Result, Ok, Err, if◌then◌else◌}
use Rattle.lift_poly.specs.Polynomial.{Valuation}
use Rattle.drn_lexer.specs.Symbols.{symbols}
use Rattle.drn_expr.specs.Grammar.{most_symbols, tree}
use Rattle.drn_expr.specs.Expansion.{expansion}
use Rattle.drn_expr.specs.RatPolys.{OverOne}
use Rattle.drn_expr.specs.Meaning.{IsValuation, HasMeaning}
use Rattle.drn_expr.specs.Rules.{Value, Writes}
use Rattle.drn_expr.specs.Trees.{Expr, ◌>>=◌}
use Rattle.drn_expr.specs.declared.error.ExprError.{ExprError}
use Rattle.drn_expr.specs.declared.error.ExprError.TheVariants.{Long}

-- What a text is as a value over these names. A value of too many symbols is refused before any of them is looked at, then each fault in place is told before any operation is done.
abbrev pub reading : List (List ℕ) → List ℕ → Result OverOne ExprError
reading names text = if nat_lt most_symbols (length (symbols text)) then Err Long else (tree names (symbols text) >>= expansion)

-- the text has a tree, its symbols write that tree by the rules of the grammar, and at every valuation of the names the polynomial is worth what the tree means
pub record IsWorth (names : List (List ℕ)) (text : List ℕ) (p : OverOne) : Type 0 where
  pub expression : Expr
  pub read : tree names (symbols text) ≡ Ok expression
  pub written : Writes names Value (symbols text) expression
  pub worth : (v : Valuation) → IsValuation (length names) v → HasMeaning v expression p
