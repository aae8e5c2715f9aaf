use Rattle.std.proofs.Common.{append_assoc, append-nil}
use Rattle.view_text.proofs.summary.write_depth.Goals as goal

pub returns : goal.returns
returns g c = simp append_assoc (rw (append-nil, c.from.ensures, c.leaf_count_at.ensures, c.leaf_count_at-2.ensures, c.leaf_count_at-3.ensures) at c.write_words.ensures)
