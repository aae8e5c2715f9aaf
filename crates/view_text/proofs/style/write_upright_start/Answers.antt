use Rattle.view_text.specs.Style.{tick_start}
use Rattle.view_text.proofs.style.write_upright_start.Goals as goal

pub returns : goal.returns
unfolding tick_start
returns g c = rw c.from.ensures at c.write_words.ensures
