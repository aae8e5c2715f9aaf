use Rattle.view_text.specs.Style.{pattern_text}
use Rattle.view_text.proofs.style.write_pattern.Goals as goal

pub returns : goal.returns
unfolding pattern_text
returns g c = rw (c.kind_word.ensures, c.kind_colour.ensures, c.kind_marks.ensures) at c.write_words.ensures
