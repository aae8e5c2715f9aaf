use Rattle.lift_range.proofs.Doubling.{uppers_double, uppers_one_double, lowers_double, lowers_all_double, unbounded_double, low_doubles, high_doubles}
use Rattle.lift_range.proofs.laws.vectors_double.Goals as goal

pub returns-clause-upper : goal.returns-clause-upper
returns-clause-upper c = uppers_double

pub returns-clause-upper_one : goal.returns-clause-upper_one
returns-clause-upper_one c = uppers_one_double

pub returns-clause-lower : goal.returns-clause-lower
returns-clause-lower c = lowers_double

pub returns-clause-lower_all : goal.returns-clause-lower_all
returns-clause-lower_all c = lowers_all_double

pub returns-clause-unbounded : goal.returns-clause-unbounded
returns-clause-unbounded c = unbounded_double

pub returns-clause-low : goal.returns-clause-low
returns-clause-low c = low_doubles

pub returns-clause-high : goal.returns-clause-high
returns-clause-high c = high_doubles
