use Rattle.robust_rank.proofs.Frontier.{frontier_leads, gap_leads}
use Rattle.robust_rank.proofs.Stages.{start_is_staged, next_is_staged, empty_stage_ends, stages_of_test}
use Rattle.robust_rank.proofs.laws.ranks_go_by_stages.Goals as goal

pub returns : goal.returns
returns c = let rise = c.rows_at_corners.ensures.rise in record { start = start_is_staged; next = next_is_staged; end = empty_stage_ends rise; test = stages_of_test; frontier = frontier_leads; gap = gap_leads rise }
