use Rattle.std.proofs.Common.{sym, ◌∙◌}
use Rattle.drn_lexer.proofs.Plain.{feed_first}
use Rattle.drn_lexer.proofs.line.len_before_feed.Goals as goal

pub returns-then-begins_feed-clause-len : goal.returns-then-begins_feed-clause-len
returns-then-begins_feed-clause-len c = feed_first c.args.text.now (sym c.begins_feed.ensures ∙ c.if-begins_feed.true)
