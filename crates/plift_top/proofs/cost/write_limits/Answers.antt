use Rattle.std.proofs.Common.{append_assoc}
use Rattle.plift_top.specs.Cost.{limit_lines}
use Rattle.plift_top.proofs.cost.write_limits.Goals as goal

pub returns : goal.returns
unfolding limit_lines
returns g c =
    let written = rw (c.from.ensures, c.from-2.ensures) at c.write_words.ensures in
    simp append_assoc written
