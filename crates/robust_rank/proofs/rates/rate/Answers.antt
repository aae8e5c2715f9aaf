use Rattle.std.proofs.Common.{length, ap, subst, arith}
use Rattle.lift_model.specs.Model.{ModelData}
use Rattle.robust_rank.specs.Rate.{IsStateRateBefore, IsFirstFrom}
use Rattle.robust_rank.proofs.Doubling.{next_state}
use Rattle.robust_rank.proofs.rates.rate.Goals as goal

pub loop-s-preserved : goal.loop-s-preserved
loop-s-preserved g c = record {
  least = next_state c.args.case.now g.spans c.w.ensures.case c.args.ranks.now c.args.picks.now c.loop-s.s 0 c.loop-s.e c.rate_of_state-e.result c.loop-s.invariant.least c.rate_of_state-e.ensures.least;
  most = c.rate_of_state-e.ensures.most;
}

pub returns-clause-least : goal.returns-clause-least
returns-clause-least g c = subst (λ count. IsFirstFrom (IsStateRateBefore c.args.case.now g.spans c.args.ranks.now c.args.picks.now count) 0 c.loop-s.e) (omega (arith, c.states-s-end.ensures.value, ap (λ (m : ModelData). length m.states) c.model.ensures.value, c.loop-s-test.false, c.loop-s.auto.s-end)) c.loop-s.invariant.least
