-- The meaning of an expression at a valuation, by the usual rules for fractions.
use Rattle.std.specs.Prelude.{◌≡◌, ℕ, zero, suc, ◌<◌, length, ℤ, pos, negsuc, ◌+ℤ◌, ◌*ℤ◌, ◌<ℤ◌, get_or, All, Option, Some, None}
use Rattle.lift_poly.specs.Polynomial.{Valuation, weight, denominator}
use Rattle.drn_expr.specs.RatPolys.{OverOne}
use Rattle.drn_expr.specs.Trees.{Expr, Literal, Parameter, Sum, Difference, Product, Quotient, Negative}

-- a fraction: what stands above the line, and what stands below it
abbrev pub Fraction : Type 0
Fraction = ℤ × ℤ

-- an operation on two fractions, where both are there
abbrev pub both : (Fraction → Fraction → Option Fraction) → Option Fraction → Option Fraction → Option Fraction
both operation None y = None
both operation (Some x) None = None
both operation (Some x) (Some y) = operation x y

-- a/b + c/d
abbrev pub plus : Fraction → Fraction → Option Fraction
plus x y = Some (x.0 *ℤ y.1 +ℤ y.0 *ℤ x.1, x.1 *ℤ y.1)

-- -(a/b)
abbrev pub minus : Fraction → Fraction
minus x = (negsuc 0 *ℤ x.0, x.1)

-- a/b · c/d
abbrev pub by : Fraction → Fraction → Option Fraction
by x y = Some (x.0 *ℤ y.0, x.1 *ℤ y.1)

-- a/b by c/d, with the sign of c above the line; none where c is 0
abbrev pub over : Fraction → ℤ → ℤ → Option Fraction
over x (pos zero) d = None
over x (pos (suc c)) d = Some (x.0 *ℤ d, x.1 *ℤ pos (suc c))
over x (negsuc c) d = Some (negsuc 0 *ℤ (x.0 *ℤ d), x.1 *ℤ pos (suc c))

-- the fraction with the other sign, where it is there
abbrev pub opposite : Option Fraction → Option Fraction
opposite None = None
opposite (Some x) = Some (minus x)

-- What an expression is worth where each parameter has its value. A quotient by 0 is worth nothing.
unfoldable pub meaning : Valuation → Expr → Option Fraction
meaning v (Literal number) = Some (number.num, number.den)
meaning v (Parameter place) = Some (get_or v place (pos 0, pos 1))
meaning v (Sum a b) = both plus (meaning v a) (meaning v b)
meaning v (Difference a b) = both (λ x y. plus x (minus y)) (meaning v a) (meaning v b)
meaning v (Product a b) = both by (meaning v a) (meaning v b)
meaning v (Quotient a b) = both (λ x y. over x y.0 y.1) (meaning v a) (meaning v b)
meaning v (Negative a) = opposite (meaning v a)

-- a value for each of n parameters, with a denominator above 0
pub record IsValuation (n : ℕ) (v : Valuation) : Type 0 where
  pub each : length v ≡ n
  pub positive : All (λ value. pos 0 <ℤ value.1) v

-- The polynomial P over den is worth the fraction a/b at a valuation: P·b = a·den, times the product of all denominators, since that is in P's weight.
pub record Denotes (v : Valuation) (p : OverOne) (worth : Fraction) : Type 0 where
  pub positive : pos 0 <ℤ worth.1
  pub den : 0 < p.den
  pub same : weight v p.terms *ℤ worth.1 ≡ (worth.0 *ℤ pos p.den) *ℤ denominator v

-- the expression is worth something there, and the polynomial is worth the same
pub record HasMeaning (v : Valuation) (e : Expr) (p : OverOne) : Type 0 where
  pub worth : Fraction
  pub is : meaning v e ≡ Some worth
  pub denotes : Denotes v p worth
