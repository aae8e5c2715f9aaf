use Rattle.std.proofs.Common.{ℕ, ◌≤◌, ◌<◌, All}
use Rattle.lift_model.specs.Links.{states_before}
use Rattle.corner_lift.specs.Certificate.{mark}
use Rattle.robust_rank.specs.Staging.{IsGathering, IsLooked}
use Rattle.robust_rank.proofs.rows.Choices.add_stage.Given as goal

abbrev pub ghost-try_before : goal.ghost-try_before
ghost-try_before g a = g.start

-- the states before those of the queue's part so far were looked at
abbrev pub invariant-loop-i : goal.invariant-loop-i
invariant-loop-i g l = record {
  gathering : IsGathering l.self.rows.case.now l.self.allowed.now g.start l.rank l.found l.ranks l.queue;
  looked : (j : ℕ) → l.fn.stage.from ≤ j → j < l.i → All (IsLooked l.self.rows.case.now l.self.allowed.now g.start l.rank l.ranks)
      (states_before l.self.rows.links.now (mark g.start.queue j));
}
