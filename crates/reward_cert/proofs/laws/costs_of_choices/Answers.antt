use Rattle.reward_cert.proofs.Charging.{sum_is_exact, cost_of_states_is_expected}
use Rattle.reward_cert.proofs.laws.costs_of_choices.Goals as goal

pub returns : goal.returns
returns c = record {
  sum = sum_is_exact c.divisors_and_multiples.ensures.greatest;
  states = cost_of_states_is_expected;
}
