use Rattle.std.proofs.Common.{ap, ◌∙◌}
use Rattle.line_text.specs.Parts.{first}
use Rattle.line_text.proofs.words.Words.first.Goals as goal

pub returns-clause-value : goal.returns-clause-value
returns-clause-value c = ap first c.in-Some.ensures.some ∙ c.cut.ensures.first
