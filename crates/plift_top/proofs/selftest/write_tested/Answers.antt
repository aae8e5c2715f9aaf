use Rattle.std.proofs.Common.{append_assoc, append-nil}
use Rattle.plift_top.proofs.selftest.write_tested.Goals as goal

pub returns : goal.returns
returns g c = simp append_assoc (rw (append-nil, c.from-blocks.ensures, c.from.ensures, c.from-2.ensures, c.from-3.ensures) at c.write_words.ensures)
