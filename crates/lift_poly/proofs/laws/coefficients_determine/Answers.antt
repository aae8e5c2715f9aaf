use Rattle.lift_poly.proofs.Canonical.{polynomial-collected, coefficient-collected, same_polynomial}
use Rattle.lift_poly.proofs.Coefficients.{term_coefficients, coefficient_found}
use Rattle.lift_poly.proofs.laws.coefficients_determine.Goals as goal

pub returns : goal.returns
returns c = record {
  polynomial = polynomial-collected;
  coefficients = λ terms set. coefficient-collected set terms;
  unique = same_polynomial;
  terms = term_coefficients;
  found = coefficient_found;
}
