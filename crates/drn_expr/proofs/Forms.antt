-- The grammar's functions by the form of the first symbol.
use Rattle.std.proofs.Common.{◌≡◌, ℕ, suc, ◌+◌, ◌==◌, Bool, cond, refl, List, ◌∷◌, Option, Some, None, Ok, Err}
use Rattle.std.specs.Prelude.{position}
use Rattle.std.specs.Str.{bytes_eq}
use Rattle.lift_frac.specs.Literal.{reading}
use Rattle.drn_lexer.specs.declared.symbol.SymbolForm.{SymbolForm}
use Rattle.drn_lexer.specs.declared.symbol.SymbolForm.TheVariants as form
use Rattle.drn_expr.specs.Trees.{Expr, Negative, ◌>>=◌}
use Rattle.drn_expr.specs.Grammar.{most_nesting, Symbol, Parsed, value, factor, more, closed, literal_tree, name_tree}
use Rattle.drn_expr.specs.declared.error.ExprError.TheVariants.{Syntax, Deep}

-- what stands behind a unary minus and in a parenthesis, by whether the place is at the limit
unfoldable pub unary : Parsed → Bool → Parsed
unary p full = cond full (Err Deep) (p >>= (λ e. Ok (Negative e.0, e.1)))

unfoldable pub paren : Parsed → Bool → Parsed
paren p full = cond full (Err Deep) (p >>= (λ e. closed e.0 e.1))

-- a factor by its first symbol's form
unfoldable pub factor_by : Parsed → Parsed → Parsed → Parsed → ℕ → SymbolForm → Parsed
factor_by inner whole literal name depth form.Minus = unary inner (depth == most_nesting)
factor_by inner whole literal name depth form.Left = paren whole (depth == most_nesting)
factor_by inner whole literal name depth form.Literal = literal
factor_by inner whole literal name depth form.Name = name
factor_by inner whole literal name depth _ = Err Syntax

pub factor-is : (n : ℕ) (names : List (List ℕ)) (depth : ℕ) (x : Symbol) (s : List Symbol)
    → factor (suc n) names depth (x ∷ s) ≡ factor_by (factor n names (depth + 1) s) (value n names (depth + 1) s) (literal_tree (reading x.bytes) s) (name_tree (position (bytes_eq x.bytes) names) s) depth x.form
unfolding value factor_by unary paren
factor-is n names depth x s = refl

-- an operator and what follows, by the operator
unfoldable pub more_by : Expr → Symbol → List Symbol → ((Expr → Expr → Expr) → Parsed) → Option (Expr → Expr → Expr) → Parsed
more_by e x s goes None = Ok (e, x ∷ s)
more_by e x s goes (Some join) = goes join

pub more-is : (joins : SymbolForm → Option (Expr → Expr → Expr)) (operand : List Symbol → Parsed) (n : ℕ) (e : Expr) (x : Symbol) (s : List Symbol)
    → more joins operand (suc n) e (x ∷ s) ≡ more_by e x s (λ join. operand s >>= (λ b. more joins operand n (join e b.0) b.1)) (joins x.form)
unfolding more_by
more-is joins operand n e x s = refl
