use Rattle.std.proofs.Common.{append_assoc, append-nil}
use Rattle.view_text.proofs.summary.write_leaves.Goals as goal

pub returns : goal.returns
returns g c = simp append_assoc (rw (append-nil, c.leaf_count.ensures, c.leaf_count-2.ensures, c.leaf_count-3.ensures) at c.write_words.ensures)
