use Rattle.std.proofs.Common.{take, All}
use Rattle.lift_model.specs.Links.{states_before}
use Rattle.robust_rank.specs.Staging.{IsGathering, AreKept, IsLooked}
use Rattle.robust_rank.proofs.rows.Choices.try_before.Given as goal

abbrev pub ghost-try_state : goal.ghost-try_state
ghost-try_state g a = g.start

abbrev pub invariant-loop-s : goal.invariant-loop-s
invariant-loop-s g l = record {
  gathering : IsGathering l.self.rows.case.now l.self.allowed.now g.start l.rank l.found l.ranks l.queue;
  kept : AreKept l.fn.ranks l.ranks;
  looked : All (IsLooked l.self.rows.case.now l.self.allowed.now g.start l.rank l.ranks)
      (take l.s-index (states_before l.self.rows.links.now l.t));
}
