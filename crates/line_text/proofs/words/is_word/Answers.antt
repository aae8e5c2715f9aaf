use Rattle.std.proofs.Common.{inl, inr}
use Rattle.std.proofs.lemmas.Bool.{eqb-true}
use Rattle.line_text.proofs.ShortNumbers.{word_len}
use Rattle.line_text.proofs.words.is_word.Goals as goal

pub returns-then-len-text-clause-len : goal.returns-then-len-text-clause-len
returns-then-len-text-clause-len c is = word_len c.args.text.now c.args.len c.requires.within c.requires.digits (inl c.if-len-text.true)

pub returns-else-len-text-clause-len : goal.returns-else-len-text-clause-len
returns-else-len-text-clause-len c is = word_len c.args.text.now c.args.len c.requires.within c.requires.digits (inr (eqb-true _ 32 is))
