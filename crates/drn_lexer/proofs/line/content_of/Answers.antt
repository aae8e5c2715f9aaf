use Rattle.drn_lexer.proofs.Contents.{content_at}
use Rattle.drn_lexer.proofs.line.content_of.Goals as goal

pub returns-clause-content : goal.returns-clause-content
returns-clause-content c =
    content_at _ _ _ _ _ _ c.without_return-bytes.ensures c.blanks_len.ensures.len c.trimmed.ensures.trimmed
    (rw c.blanks_len.ensures.len c.trimmed.ensures.within) c.requires.ordered c.requires.within
