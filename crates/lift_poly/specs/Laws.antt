-- What the arithmetic of polynomials means: as finite maps, and by weight.
use Rattle.std.specs.Prelude.{◌≡◌, ◌≢◌, ◌⊎◌, ℕ, List, ◌∷◌, ◌++◌, ℤ, pos, ◌+ℤ◌, ◌*ℤ◌, unsigned_abs, bit_and, All, Contains}
use Rattle.lift_poly.specs.Polynomial.{Term, IsPolynomial, Valuation, weight, denominator}
use Rattle.lift_poly.specs.Arithmetic.{coefficient, collected, sum, times, scaled, product, quotient, support, DividesEach}

-- what any terms sum to is a polynomial
abbrev pub TermsSumToPolynomial : Type 0
TermsSumToPolynomial = (terms : List Term) → IsPolynomial (collected terms)

-- its coefficient at each set is the sum over the terms of this set
abbrev pub TermsSumBySet : Type 0
TermsSumBySet = (terms : List Term) (set : ℕ) → coefficient set (collected terms) ≡ coefficient set terms

-- polynomials with the same coefficient at each set are equal
abbrev pub CoefficientsDetermine : Type 0
CoefficientsDetermine = (left right : List Term) → IsPolynomial left → IsPolynomial right → ((set : ℕ) → coefficient set left ≡ coefficient set right) → left ≡ right

-- each term of a polynomial has the coefficient at its set
abbrev pub TermsHaveCoefficients : Type 0
TermsHaveCoefficients = (terms : List Term) → IsPolynomial terms → All (λ term. coefficient term.0 terms ≡ term.1) terms

-- and each coefficient is that of a term, or 0
abbrev pub CoefficientsAreTerms : Type 0
CoefficientsAreTerms = (terms : List Term) (set : ℕ) → IsPolynomial terms → (coefficient set terms ≡ pos 0) ⊎ Contains terms (set, coefficient set terms)

-- ---- the coefficients of what is calculated

-- a sum has the sum of the coefficients
abbrev pub SumsAddCoefficients : Type 0
SumsAddCoefficients = (left right : List Term) (set : ℕ) → coefficient set (sum left right) ≡ coefficient set left +ℤ coefficient set right

-- a multiple has the multiple of the coefficient
abbrev pub MultiplesScaleCoefficients : Type 0
MultiplesScaleCoefficients = (by : ℤ) (terms : List Term) (set : ℕ) → coefficient set (scaled by terms) ≡ by *ℤ coefficient set terms

-- Where two polynomials share no parameter, each coefficient of their product is 0 or the product of two coefficients: those at the two parts of the set.
abbrev pub ProductsMultiplyCoefficients : Type 0
ProductsMultiplyCoefficients = (left right : List Term) (set : ℕ) → bit_and (support left) (support right) ≡ 0
    → (coefficient set (product left right) ≡ pos 0)
    ⊎ (coefficient set (product left right) ≡ coefficient (bit_and set (support left)) left *ℤ coefficient (bit_and set (support right)) right)

-- ---- multiples and quotients, term by term

-- a multiple of a polynomial has its terms with the multiples of the coefficients, unless the factor is 0
abbrev pub MultiplesKeepTerms : Type 0
MultiplesKeepTerms = (by : ℤ) (terms : List Term) → by ≢ pos 0 → IsPolynomial terms → times by terms ≡ scaled by terms

-- a quotient by a divisor of each coefficient, times the divisor, is what was divided
abbrev pub QuotientsAreExact : Type 0
QuotientsAreExact = (by : ℤ) (terms : List Term) → DividesEach (unsigned_abs by) terms → times by (quotient terms by) ≡ terms

-- and the quotient of a polynomial is a polynomial
abbrev pub QuotientsArePolynomials : Type 0
QuotientsArePolynomials = (by : ℤ) (terms : List Term) → DividesEach (unsigned_abs by) terms → IsPolynomial terms → IsPolynomial (quotient terms by)

-- ---- weights

-- what any terms sum to weighs what they weigh
abbrev pub TermsSumByWeight : Type 0
TermsSumByWeight = (v : Valuation) (terms : List Term) → weight v (collected terms) ≡ weight v terms

-- a sum weighs the sum of the weights
abbrev pub SumsAddWeights : Type 0
SumsAddWeights = (v : Valuation) (left right : List Term) → weight v (sum left right) ≡ weight v left +ℤ weight v right

-- a multiple weighs the multiple of the weight
abbrev pub MultiplesScaleWeights : Type 0
MultiplesScaleWeights = (v : Valuation) (by : ℤ) (terms : List Term) → weight v (scaled by terms) ≡ by *ℤ weight v terms

-- the weight of a product, times the product of all denominators, is the product of the two weights
abbrev pub ProductsMultiplyWeights : Type 0
ProductsMultiplyWeights = (v : Valuation) (left right : List Term) → bit_and (support left) (support right) ≡ 0
    → weight v (product left right) *ℤ denominator v ≡ weight v left *ℤ weight v right

-- A polynomial is affine in each parameter. Where the parameter has the value n / d, the weight is n times that of the terms with the parameter and d times that of the terms without it: the value 1 / 0 leaves the former alone, and 0 / 1 the latter.
abbrev pub IsAffineInEach : Type 0
IsAffineInEach = (before behind : Valuation) (n d : ℤ) (terms : List Term)
    → weight (before ++ (n, d) ∷ behind) terms ≡ n *ℤ weight (before ++ (pos 1, pos 0) ∷ behind) terms +ℤ d *ℤ weight (before ++ (pos 0, pos 1) ∷ behind) terms
