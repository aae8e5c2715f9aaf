use Rattle.plift_words.proofs.Walk.{values_found, passes_line}
use Rattle.plift_words.proofs.parser.parse.Goals as goal

pub returns-clause-values : goal.returns-clause-values
returns-clause-values c = values_found _ _ c.try_get_matches_from.result c.in_ok-command.ensures c.requires c.try_get_matches_from.ensures.matches

pub returns-clause-memory : goal.returns-clause-memory
returns-clause-memory c = passes_line _ _ c.try_get_matches_from.result c.in_ok-command.ensures c.requires c.try_get_matches_from.ensures.passes
