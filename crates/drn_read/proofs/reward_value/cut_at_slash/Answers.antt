use Rattle.drn_read.proofs.RewardTexts.{cut_there, cut_nowhere}
use Rattle.drn_read.proofs.reward_value.cut_at_slash.Goals as goal

pub returns-then-len-text : goal.returns-then-len-text
returns-then-len-text c = cut_there 47 c.args.text.now c.len_before-len.result c.len_before-len.ensures.len c.if-len-text.true

pub returns-else-len-text : goal.returns-else-len-text
returns-else-len-text c = cut_nowhere 47 c.args.text.now c.len_before-len.result c.len_before-len.ensures.len c.if-len-text.false
