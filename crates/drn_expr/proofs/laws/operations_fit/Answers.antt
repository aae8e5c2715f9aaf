use Rattle.drn_expr.proofs.Sizes.{coefficients_small, multiples_fit, sums_fit, plain_sums_fit, products_fit}
use Rattle.drn_expr.proofs.Few.{sums_commute, sums_over_one, sums_over_one_are_values}
use Rattle.drn_expr.proofs.laws.operations_fit.Goals as goal

pub returns : goal.returns
returns c =
    let law = c.coefficients_determine.ensures in
    let greatest = c.divisors_and_multiples.ensures.greatest in
    let more = c.coefficients_follow.ensures in
    record {
      coefficients = coefficients_small law.found;
      multiples = multiples_fit law.polynomial law.terms law.found more.multiples;
      sums = sums_fit law.polynomial law.terms law.found more.multiples more.sums;
      plain_sums = plain_sums_fit law.polynomial law.terms law.found more.sums;
      products = products_fit law.polynomial law.terms law.found more.products;
      commute = sums_commute law.unique law.polynomial more.sums;
      over_one = sums_over_one greatest law.unique law.polynomial law.terms law.found more.sums more.multiples more.kept more.exact more.quotients;
      values = sums_over_one_are_values greatest law.unique law.polynomial law.terms law.found more.sums more.multiples more.kept;
    }
