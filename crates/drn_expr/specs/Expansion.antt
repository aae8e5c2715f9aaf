-- The expansion of an expression: a polynomial over one denominator, or the first operation that fails.
use Rattle.std.specs.Prelude.{ℕ, zero, suc, ℤ, pos, negsuc, neg_ℤ, [], ◌∷◌, ◌==◌, ◌*◌, ◌^◌, unsigned_abs, bit_and, Result, Ok, Err, if◌then◌else◌}
use Rattle.lift_poly.specs.Polynomial.{constant}
use Rattle.lift_poly.specs.Arithmetic as poly
use Rattle.lift_poly.specs.Arithmetic.{coefficient, scaled, support}
use Rattle.drn_expr.specs.RatPolys.{OverOne, narrow}
use Rattle.drn_expr.specs.Trees.{Expr, Literal, Parameter, Sum, Difference, Product, Quotient, Negative, ◌>>=◌}
use Rattle.drn_expr.specs.declared.error.ExprError.{ExprError}
use Rattle.drn_expr.specs.declared.error.ExprError.TheVariants.{SharedParameter, ParametricDivisor, DivisionByZero}

-- a/c + b/d is (d·a + c·b) over c·d
abbrev pub sum : OverOne → OverOne → Result OverOne ExprError
sum a b = narrow (poly.sum (scaled (pos b.den) a.terms) (scaled (pos a.den) b.terms)) (a.den * b.den)

-- each coefficient with the other sign
abbrev pub negative : OverOne → OverOne
negative a = record a { terms = scaled (negsuc 0) a.terms }

-- a - b is a + (-b)
abbrev pub difference : OverOne → OverOne → Result OverOne ExprError
difference a b = sum a (negative b)

-- a/c · b/d is a·b over c·d. The factors have no parameter in common, so that no parameter gets a power above 1.
abbrev pub product : OverOne → OverOne → Result OverOne ExprError
product a b = if bit_and (support a.terms) (support b.terms) == 0 then narrow (poly.product a.terms b.terms) (a.den * b.den) else Err SharedParameter

-- a/c by n/d is d·a over c·n, with the sign of n above the line
abbrev pub by_number : OverOne → ℤ → ℕ → Result OverOne ExprError
by_number a (pos zero) d = Err DivisionByZero
by_number a (pos (suc n)) d = narrow (scaled (pos d) a.terms) (a.den * suc n)
by_number a (negsuc n) d = narrow (scaled (neg_ℤ (pos d)) a.terms) (a.den * suc n)

-- a divisor is a number: it holds no parameter
abbrev pub quotient : OverOne → OverOne → Result OverOne ExprError
quotient a b = if support b.terms == 0 then by_number a (coefficient 0 b.terms) b.den else Err ParametricDivisor

-- An operation on two operands. The first that fails is told: the left operand, then the right one, then the operation.
abbrev pub both : (OverOne → OverOne → Result OverOne ExprError) → Result OverOne ExprError → Result OverOne ExprError → Result OverOne ExprError
both operation left right = left >>= (λ a. right >>= (λ b. operation a b))

-- the expansion of an expression, or the first operation that fails
unfoldable pub expansion : Expr → Result OverOne ExprError
expansion (Literal number) = Ok (record { terms = constant number.num; den = unsigned_abs number.den })
expansion (Parameter place) = Ok (record { terms = (2 ^ place, pos 1) ∷ []; den = 1 })
expansion (Sum a b) = both sum (expansion a) (expansion b)
expansion (Difference a b) = both difference (expansion a) (expansion b)
expansion (Product a b) = both product (expansion a) (expansion b)
expansion (Quotient a b) = both quotient (expansion a) (expansion b)
expansion (Negative a) = expansion a >>= (λ x. Ok (negative x))
