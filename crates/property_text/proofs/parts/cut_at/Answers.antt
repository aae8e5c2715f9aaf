use Rattle.property_text.proofs.Cuts.{cut_there, cut_nowhere}
use Rattle.property_text.proofs.parts.cut_at.Goals as goal

pub returns-then-len-text : goal.returns-then-len-text
returns-then-len-text c = cut_there c.args.mark c.args.text.now c.len_before-len.result c.len_before-len.ensures.len c.if-len-text.true

pub returns-else-len-text : goal.returns-else-len-text
returns-else-len-text c = cut_nowhere c.args.mark c.args.text.now c.len_before-len.result c.len_before-len.ensures.len c.if-len-text.false
