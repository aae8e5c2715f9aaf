use Rattle.view_text.specs.Style.{box_text}
use Rattle.view_text.proofs.style.write_box.Goals as goal

pub returns : goal.returns
unfolding box_text
returns g c = rw (c.kind_place.ensures.place, c.kind_word.ensures) at c.write_words.ensures
