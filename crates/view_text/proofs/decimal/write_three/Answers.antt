use Rattle.std.proofs.Common.{append_assoc, append-nil}
use Rattle.view_text.proofs.decimal.write_three.Goals as goal

pub returns : goal.returns
returns g c = simp append_assoc (rw append-nil at c.write_words.ensures)
