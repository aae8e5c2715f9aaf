use Rattle.std.proofs.Common.{◌≡◌, sym, ap, ◌∙◌, Err, arith, rules}
use Rattle.std.proofs.lemmas.Grind.{common_steps}
use Rattle.drn_lexer.specs.Words.{word_front}
use Rattle.drn_lexer.specs.Spans.{first_word}
use Rattle.drn_lexer.proofs.Pieces.{no_piece, only_blanks, not_only_blanks, first_is}
use Rattle.drn_lexer.proofs.Found.{word_found, word_refused, open_quote}
use Rattle.drn_lexer.proofs.word.next_word.Goals as goal
use Rattle.drn_lexer.proofs.word.next_word.Goals.{After-from_residual}

pub returns-in-empty-clause-none : goal.returns-in-empty-clause-none
returns-in-empty-clause-none c = (λ _. only_blanks _ _ _ _ _ c.behind_blanks-from.ensures c.in-empty.len_below, λ _. cc)

pub returns-in-empty-clause-answer : goal.returns-in-empty-clause-answer
returns-in-empty-clause-answer c = ap (first_word _) (sym (no_piece word_front _ _ _ _ _ c.behind_blanks-from.ensures c.in-empty.len_below))

refused : (c : After-from_residual) → c.from_residual.result ≡ Err c.in_err-len-in-len1-up.field-0.0
refused c = search rules

pub returns-in_err-len-in-len1-up-clause-answer : goal.returns-in_err-len-in-len1-up-clause-answer
returns-in_err-len-in-len1-up-clause-answer c = refused c ∙ word_refused _ _ _ _ _ _ c.behind_blanks-from.ensures c.in-len1-up.len_at_least c.in_err-len-in-len1-up.ensures.front

pub returns-in_err-len-in-len1-up-clause-none : goal.returns-in_err-len-in-len1-up-clause-none
returns-in_err-len-in-len1-up-clause-none c =
    let e = refused c in
    (λ h. cc, λ all. absurd (not_only_blanks _ _ _ _ _ c.behind_blanks-from.ensures c.in-len1-up.len_at_least all))

pub returns-in_ok-len-in-len1-up-clause-none : goal.returns-in_ok-len-in-len1-up-clause-none
returns-in_ok-len-in-len1-up-clause-none c = (λ h. cc, λ all. absurd (not_only_blanks _ _ _ _ _ c.behind_blanks-from.ensures c.in-len1-up.len_at_least all))

pub returns-in_ok-len-in-len1-up-clause-next : goal.returns-in_ok-len-in-len1-up-clause-next
returns-in_ok-len-in-len1-up-clause-next c =
    first_is word_front _ _ _ _ _ _ _ c.behind_blanks-from.ensures c.in-len1-up.len_at_least c.in_ok-len-in-len1-up.ensures.within.0 (let h = c.in_ok-len-in-len1-up.ensures.within.1 in grind (arith, common_steps)) c.in_ok-len-in-len1-up.ensures.front

pub returns-in_ok-len-in-len1-up-clause-answer : goal.returns-in_ok-len-in-len1-up-clause-answer
returns-in_ok-len-in-len1-up-clause-answer c = word_found _ _ _ _ _ _ _ c.behind_blanks-from.ensures (returns-in_ok-len-in-len1-up-clause-next c)

-- ---- open quotes

pub returns-in-empty-clause-quote : goal.returns-in-empty-clause-quote
returns-in-empty-clause-quote c = (open_quote _ _ _ (returns-in-empty-clause-answer c)).quote

pub returns-in_err-len-in-len1-up-clause-quote : goal.returns-in_err-len-in-len1-up-clause-quote
returns-in_err-len-in-len1-up-clause-quote c = (open_quote _ _ _ (returns-in_err-len-in-len1-up-clause-answer c)).quote

pub returns-in_err-len-in-len1-up-clause-cause : goal.returns-in_err-len-in-len1-up-clause-cause
returns-in_err-len-in-len1-up-clause-cause c = (open_quote _ _ _ (returns-in_err-len-in-len1-up-clause-answer c)).cause

pub returns-in_ok-len-in-len1-up-clause-quote : goal.returns-in_ok-len-in-len1-up-clause-quote
returns-in_ok-len-in-len1-up-clause-quote c = (open_quote _ _ _ (returns-in_ok-len-in-len1-up-clause-answer c)).quote
