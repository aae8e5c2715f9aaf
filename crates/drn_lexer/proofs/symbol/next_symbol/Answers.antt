use Rattle.std.proofs.Common.{sym, ap}
use Rattle.drn_lexer.specs.Symbols.{symbol_front}
use Rattle.drn_lexer.specs.Spans.{first_symbol}
use Rattle.drn_lexer.proofs.Pieces.{no_piece, only_blanks, not_only_blanks, first_is}
use Rattle.drn_lexer.proofs.Found.{symbol_found}
use Rattle.drn_lexer.proofs.symbol.next_symbol.Goals as goal

pub returns-in-empty-clause-none : goal.returns-in-empty-clause-none
returns-in-empty-clause-none c = (λ _. only_blanks _ _ _ _ _ c.behind_blanks-from.ensures c.in-empty.len_below, λ _. cc)

pub returns-in-empty-clause-answer : goal.returns-in-empty-clause-answer
returns-in-empty-clause-answer c = ap (first_symbol _) (sym (no_piece symbol_front _ _ _ _ _ c.behind_blanks-from.ensures c.in-empty.len_below))

pub returns-in-len1-up-clause-none : goal.returns-in-len1-up-clause-none
returns-in-len1-up-clause-none c = (λ h. cc, λ all. absurd (not_only_blanks _ _ _ _ _ c.behind_blanks-from.ensures c.in-len1-up.len_at_least all))

pub returns-in-len1-up-clause-next : goal.returns-in-len1-up-clause-next
returns-in-len1-up-clause-next c =
    first_is symbol_front _ _ _ _ _ _ _ c.behind_blanks-from.ensures c.in-len1-up.len_at_least c.symbol_front-len.ensures.within.0 c.symbol_front-len.ensures.within.1 c.symbol_front-len.ensures.front

pub returns-in-len1-up-clause-answer : goal.returns-in-len1-up-clause-answer
returns-in-len1-up-clause-answer c = symbol_found _ _ _ _ _ _ _ c.behind_blanks-from.ensures (returns-in-len1-up-clause-next c)
