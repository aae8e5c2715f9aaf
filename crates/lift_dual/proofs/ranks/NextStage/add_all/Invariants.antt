use Rattle.std.proofs.Common.{ℕ, ◌≤◌, ◌<◌, All}
use Rattle.lift_model.specs.Links.{states_before}
use Rattle.corner_lift.specs.Certificate.{mark}
use Rattle.lift_dual.specs.Ranking.{IsGatheringOfAll, IsLookedOfAll}
use Rattle.lift_dual.proofs.ranks.NextStage.add_all.Given as goal

abbrev pub ghost-try_before : goal.ghost-try_before
ghost-try_before g a = g.start

-- the states before those of the queue's part so far were looked at
abbrev pub invariant-loop-i : goal.invariant-loop-i
invariant-loop-i g l = record {
  gathering : IsGatheringOfAll l.self.rows.now.case g.start l.self.rank l.found l.ranks l.queue;
  looked : (j : ℕ) → l.from ≤ j → j < l.i → All (IsLookedOfAll l.self.rows.now.case g.start l.self.rank l.ranks) (states_before l.self.rows.now.links (mark g.start.queue j));
}
