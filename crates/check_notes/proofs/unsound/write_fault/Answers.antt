use Rattle.std.proofs.Common.{append_assoc, append-nil}
use Rattle.check_notes.proofs.unsound.write_fault.Goals as goal

pub returns-in-Text : goal.returns-in-Text
returns-in-Text g c = rw c.in-Text.is (simp append_assoc (rw (append-nil, c.from.ensures, c.text_cause_name.ensures) at c.write_words.ensures))
