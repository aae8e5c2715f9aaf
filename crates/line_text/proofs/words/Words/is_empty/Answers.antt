use Rattle.std.proofs.Common.{◌∙◌, ap}
use Rattle.line_text.specs.Shown.{is_none_left}
use Rattle.line_text.proofs.WordsLeft.{none_left}
use Rattle.line_text.proofs.words.Words.is_empty.Goals as goal

pub returns : goal.returns
returns c = none_left c.self.inside.text (λ text. text.now) c.is_none.result c.is_none.ensures ∙ ap is_none_left c.self.view_is
