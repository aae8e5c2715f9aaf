use Rattle.view_words.proofs.Parsing.{rows_found, fails_by}
use Rattle.view_words.proofs.parser.parse.Goals as goal

pub returns-clause-rows : goal.returns-clause-rows
returns-clause-rows c = rows_found _ _ c.try_get_matches_from.result c.in_ok-command.ensures c.try_get_matches_from.ensures.matches

pub returns-clause-fails : goal.returns-clause-fails
returns-clause-fails c = fails_by _ _ c.try_get_matches_from.result c.in_ok-command.ensures c.try_get_matches_from.ensures.kinds
