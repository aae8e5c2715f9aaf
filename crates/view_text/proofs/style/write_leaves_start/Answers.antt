use Rattle.view_text.specs.Style.{path_start}
use Rattle.view_text.proofs.style.write_leaves_start.Goals as goal

pub returns : goal.returns
unfolding path_start
returns g c = rw c.kind_word.ensures at c.write_words.ensures
