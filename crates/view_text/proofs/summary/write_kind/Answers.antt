use Rattle.std.proofs.Common.{append_assoc, append-nil}
use Rattle.view_text.proofs.summary.write_kind.Goals as goal

pub returns : goal.returns
returns g c = simp append_assoc (rw (append-nil, c.leaf_kind_name.ensures, c.kind.ensures, c.from.ensures, c.depth.ensures.depth) at c.write_words.ensures)
