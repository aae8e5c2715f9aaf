use Rattle.lift_grid.proofs.Halves.{exact, halvable, halved, length-lower_half, length-upper_half}
use Rattle.lift_grid.proofs.laws.halves_stay_on_grid.Goals as goal

pub returns-clause-halvable : goal.returns-clause-halvable
returns-clause-halvable c n axis ss h below = halvable n axis ss h below

pub returns-clause-midpoint : goal.returns-clause-midpoint
returns-clause-midpoint c axis ss can = exact axis ss can

pub returns-clause-halves : goal.returns-clause-halves
returns-clause-halves c n axis ss h below = halved n axis ss h below

pub returns-clause-count : goal.returns-clause-count
returns-clause-count c axis ss = (length-lower_half axis ss, length-upper_half axis ss)
