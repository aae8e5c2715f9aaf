-- The polynomials that are kept with their values. No public clause rests on it.
use Rattle.std.specs.Prelude.{◌≡◌, ℕ, List, All, false}
use Rattle.std.specs.List.{list_any}
use Rattle.lift_poly.specs.Polynomial.{Term}
use Rattle.drn_expr.specs.RatPolys.{OverOne}
use Rattle.drn_read.specs.Reading.{scaled}
use Rattle.drn_read.specs.Shown.{is_over}
use Rattle.drn_read.specs.declared.scaled.ScaledPoly.{ScaledPoly}

-- a value with the polynomial that is kept for it
abbrev pub value_and_poly : ScaledPoly → OverOne × List Term
value_and_poly s = (s.value, s.poly)

-- the polynomial is that of its value over the common denominator, and no coefficient is too large
abbrev pub IsScaled : ℕ → ScaledPoly → Type 0
IsScaled common s = (s.poly ≡ scaled common s.value) × (list_any is_over (scaled common s.value) ≡ false)

-- each polynomial is that of its value
abbrev pub AreScaled : ℕ → List ScaledPoly → Type 0
AreScaled common values = All (IsScaled common) values
