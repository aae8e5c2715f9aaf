use Rattle.std.proofs.Common.{append_assoc, append-nil}
use Rattle.view_text.proofs.title.write_model.Goals as goal

pub returns : goal.returns
returns g c = simp append_assoc (rw (append-nil, c.kind_name.ensures, c.kind.ensures, c.from.ensures, c.states.ensures.value) at c.write_words.ensures)
