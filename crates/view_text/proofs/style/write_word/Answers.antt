use Rattle.view_text.specs.Style.{word_text}
use Rattle.view_text.proofs.style.write_word.Goals as goal

pub returns : goal.returns
unfolding word_text
returns g c = rw (c.kind_place.ensures.place, c.kind_word.ensures) at c.write_words.ensures
