use Rattle.std.proofs.Common.{take, All}
use Rattle.lift_model.specs.Links.{states_before}
use Rattle.robust_rank.specs.Staging.{AreKept}
use Rattle.lift_dual.specs.Ranking.{IsGatheringOfAll, IsLookedOfAll}
use Rattle.lift_dual.proofs.ranks.NextStage.try_before.Given as goal

abbrev pub ghost-try_state : goal.ghost-try_state
ghost-try_state g a = g.start

abbrev pub invariant-loop-s : goal.invariant-loop-s
invariant-loop-s g l = record {
  gathering : IsGatheringOfAll l.self.rows.now.case g.start l.self.rank l.found l.ranks l.queue;
  kept : AreKept l.fn.ranks l.ranks;
  looked : All (IsLookedOfAll l.self.rows.now.case g.start l.self.rank l.ranks) (take l.s-index (states_before l.self.rows.now.links l.t));
}
