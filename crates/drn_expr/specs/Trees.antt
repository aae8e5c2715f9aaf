-- Expressions as trees.
use Rattle.std.specs.Prelude.{ℕ, Result, Ok, Err}
use Rattle.lift_frac.specs.Ratio.{Ratio}
use Rattle.drn_expr.specs.declared.error.ExprError.{ExprError}

-- what a value says: numbers and parameters, joined by the four operations and by unary minus; a parameter is its place among the declared names
pub data Expr : Type 0 where
  Literal : Ratio → Expr
  Parameter : ℕ → Expr
  Sum Difference Product Quotient : Expr → Expr → Expr
  Negative : Expr → Expr

infixl 10 ◌>>=◌
-- a step, and the next one with what it gave; the first refusal ends them
abbrev pub ◌>>=◌ : {A B : Type 0} → Result A ExprError → (A → Result B ExprError) → Result B ExprError
(Ok x) >>= next = next x
(Err cause) >>= next = Err cause
