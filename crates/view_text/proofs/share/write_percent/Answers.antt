use Rattle.std.proofs.Common.{append_assoc, append-nil}
use Rattle.view_text.proofs.share.write_percent.Goals as goal

pub returns : goal.returns
returns g c = simp append_assoc (rw (append-nil, c.from.ensures) at c.write_words.ensures)
