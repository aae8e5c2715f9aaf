use Rattle.std.proofs.Common.{append_assoc, append-nil}
use Rattle.view_follow.proofs.progress.Progress.write.Goals as goal

pub returns : goal.returns
returns g c = simp append_assoc (rw (append-nil, c.percent.ensures, c.percent-2.ensures, c.percent-3.ensures, c.percent-4.ensures, c.line_end.ensures) at c.write_words.ensures)
