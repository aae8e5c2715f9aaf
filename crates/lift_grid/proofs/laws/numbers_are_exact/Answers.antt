use Rattle.std.proofs.Common.{◌^◌}
use Rattle.lift_grid.proofs.Ring.{number-exact}
use Rattle.lift_grid.proofs.laws.numbers_are_exact.Goals as goal

pub returns : goal.returns
returns c = λ d depth q above divides. number-exact d (2 ^ depth) q.num q.den above divides
