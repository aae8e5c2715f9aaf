use Rattle.std.proofs.Common.{append_assoc, append-nil}
use Rattle.view_text.proofs.title.write_depth.Goals as goal

pub returns : goal.returns
returns g c = simp append_assoc (rw (append-nil, c.from.ensures, c.w.ensures.value, c.from-2.ensures, c.grid.ensures.depth) at c.write_words.ensures)
