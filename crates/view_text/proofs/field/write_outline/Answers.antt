use Rattle.std.proofs.Common.{append_assoc, append-nil}
use Rattle.view_text.proofs.field.write_outline.Goals as goal

pub returns : goal.returns
returns g c = simp append_assoc (rw append-nil at c.write_words.ensures)
