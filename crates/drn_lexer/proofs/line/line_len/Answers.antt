use Rattle.std.proofs.Common.{◌+◌, ap, ◌∙◌}
use Rattle.std.proofs.lemmas.List.{take_rest}
use Rattle.drn_lexer.proofs.Plain.{feed_at, text_before}
use Rattle.drn_lexer.proofs.line.line_len.Goals as goal

pub returns-clause-len : goal.returns-clause-len
returns-clause-len c =
    let front = c.text_len-front.result in
    ap (λ n. front + n) c.len_before_feed-more.ensures.len ∙ feed_at c.args.text.now _ front c.text_len-front.ensures.len (take_rest c.args.text.now front)

pub returns-clause-is_text : goal.returns-clause-is_text
returns-clause-is_text c none = text_before _ _ _ c.text_len-front.ensures.len none
