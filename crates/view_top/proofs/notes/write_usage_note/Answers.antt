use Rattle.std.proofs.Common.{append_assoc, append-nil}
use Rattle.view_top.proofs.notes.write_usage_note.Goals as goal

pub returns-in-X : goal.returns-in-X
returns-in-X g c = rw c.in-X.is (simp append_assoc (rw (append-nil, c.cause_name.ensures) at c.write_words.ensures))

pub returns-in-Y : goal.returns-in-Y
returns-in-Y g c = rw c.in-Y.is (simp append_assoc (rw (append-nil, c.cause_name-in-Y.ensures) at c.write_words-in-Y.ensures))

pub returns-in-At : goal.returns-in-At
returns-in-At g c = rw c.in-At.is (simp append_assoc (rw (append-nil, c.cause_name-in-At.ensures) at c.write_words-in-At.ensures))
