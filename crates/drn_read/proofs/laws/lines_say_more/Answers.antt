use Rattle.drn_read.proofs.Growth.{grows}
use Rattle.drn_read.proofs.laws.lines_say_more.Goals as goal

pub returns : goal.returns
returns c = grows
