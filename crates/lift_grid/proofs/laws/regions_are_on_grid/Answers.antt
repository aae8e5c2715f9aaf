use Rattle.lift_grid.proofs.Spans.{named_on}
use Rattle.lift_grid.proofs.laws.regions_are_on_grid.Goals as goal

pub returns : goal.returns
returns c = named_on c.fractions_follow.ensures.quotients c.fractions_follow.ensures.literals c.divisors_and_multiples.ensures.multiple c.divisors_and_multiples.ensures.at_least
