-- The laws of the crates below that the meaning of a value rests on.
use Rattle.lift_frac.specs.Laws.{ReadingIsFraction, GcdIsGreatest, GcdIsUnique}
use Rattle.lift_poly.specs.Laws.{TermsSumToPolynomial, TermsSumBySet, TermsHaveCoefficients, MultiplesKeepTerms, QuotientsAreExact, QuotientsArePolynomials, TermsSumByWeight, SumsAddWeights, MultiplesScaleWeights, ProductsMultiplyWeights}

pub record Premises : Type 0 where
  pub fractions : ReadingIsFraction
  pub greatest : GcdIsGreatest
  pub unique : GcdIsUnique
  pub polynomial : TermsSumToPolynomial
  pub coefficients : TermsSumBySet
  pub terms : TermsHaveCoefficients
  pub kept : MultiplesKeepTerms
  pub exact : QuotientsAreExact
  pub quotients : QuotientsArePolynomials
  pub weighed : TermsSumByWeight
  pub sums : SumsAddWeights
  pub multiples : MultiplesScaleWeights
  pub products : ProductsMultiplyWeights
