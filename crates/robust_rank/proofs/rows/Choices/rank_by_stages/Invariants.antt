use Rattle.std.proofs.Common.{◌-◌, length}
use Rattle.robust_rank.specs.Staging.{IsComplete}
use Rattle.robust_rank.proofs.rows.Choices.rank_by_stages.Given as goal

abbrev pub ghost-add_stage : goal.ghost-add_stage
ghost-add_stage g a = record { spans = g.spans; ranks = a.ranks.now; queue = a.queue.now; to = a.stage.to }

abbrev pub invariant-loop-from : goal.invariant-loop-from
invariant-loop-from g l = IsComplete l.self.rows.case.now g.spans l.self.allowed.now l.ranks l.queue l.rank l.from l.to

abbrev pub decreases-loop-from : goal.decreases-loop-from
decreases-loop-from g l = length l.self.rows.case.now.model.states - l.from
