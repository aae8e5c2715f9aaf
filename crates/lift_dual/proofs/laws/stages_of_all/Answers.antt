use Rattle.lift_dual.proofs.StagesOfAll.{start_of_all, next_of_all, end_of_all}
use Rattle.lift_dual.proofs.laws.stages_of_all.Goals as goal

pub returns : goal.returns
returns c = record { start = start_of_all; next = next_of_all c.ranks_go_by_stages.ensures.frontier; end = end_of_all c.ranks_go_by_stages.ensures.gap }
