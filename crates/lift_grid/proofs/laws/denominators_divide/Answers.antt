use Rattle.lift_grid.proofs.Multiples.{each-divides}
use Rattle.lift_grid.proofs.laws.denominators_divide.Goals as goal

pub returns : goal.returns
returns c = λ intervals k x below. each-divides c.divisors_and_multiples.ensures.multiple intervals k x below
