use Rattle.drn_expr.proofs.Premises.{Premises}
use Rattle.drn_expr.proofs.Valid.{reading_over, multiples_over}
use Rattle.drn_expr.proofs.Whole.{reading_worth}
use Rattle.drn_expr.proofs.laws.readings_follow.Goals as goal

pub returns : goal.returns
returns c =
    let law = c.coefficients_determine.ensures in
    let laws : Premises = record {
      fractions = c.literals_follow.ensures;
      greatest = c.divisors_and_multiples.ensures.greatest;
      unique = c.divisors_and_multiples.ensures.unique;
      polynomial = law.polynomial;
      coefficients = law.coefficients;
      terms = law.terms;
      kept = c.coefficients_follow.ensures.kept;
      exact = c.coefficients_follow.ensures.exact;
      quotients = c.coefficients_follow.ensures.quotients;
      weighed = c.weights_follow.ensures.terms;
      sums = c.weights_follow.ensures.sums;
      multiples = c.weights_follow.ensures.multiples;
      products = c.weights_follow.ensures.products;
    } in
    record { over = reading_over laws; worth = reading_worth laws; multiples = multiples_over law.polynomial law.coefficients law.terms }
