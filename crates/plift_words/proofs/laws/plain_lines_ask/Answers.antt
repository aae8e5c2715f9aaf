use Rattle.plift_words.proofs.Words.{others_at_fault, plain_never}
use Rattle.plift_words.proofs.laws.plain_lines_ask.Goals as goal

pub returns-clause-others : goal.returns-clause-others
returns-clause-others c = others_at_fault

pub returns-clause-plain : goal.returns-clause-plain
returns-clause-plain c = plain_never
