use Rattle.lift_lump.proofs.Admitted.{goals_have_entries, quotients_are_cases}
use Rattle.lift_lump.proofs.Terms.{cases_have_few_terms}
use Rattle.lift_lump.proofs.laws.quotients_are_cases.Goals as goal

pub returns : goal.returns
returns c = record {
  cases = quotients_are_cases c.coefficients_determine.ensures.polynomial c.coefficients_determine.ensures.coefficients c.weights_follow.ensures.terms c.rows_inside.ensures.weights c.rows_inside.ensures.root;
  goals = goals_have_entries;
  terms = cases_have_few_terms c.rows_at_corners.ensures.bits;
}
