use Rattle.std.proofs.Common.{◌<◌, length, ap, subst, arith}
use Rattle.lift_model.specs.Model.{ModelData}
use Rattle.robust_rank.specs.Rate.{IsFirstFrom}
use Rattle.lift_dual.specs.Rates.{IsRateOfStates}
use Rattle.lift_dual.proofs.Doubling.{next_state}
use Rattle.lift_dual.proofs.rates.rate_all.Goals as goal

pub rate_of_state-e-requires : goal.rate_of_state-e-requires
rate_of_state-e-requires g c =
    let inside : c.loop-s.s < length c.args.rows.now.case.model.states = omega (arith, c.loop-s-test.true, c.states-s-end.ensures.value, ap (λ (m : ModelData). length m.states) c.model.ensures) in
    (c.requires.0, (inside, (c.requires.1.0, ((λ isnt ranked. (c.requires.1.1.reached c.loop-s.s isnt ranked).1), c.loop-s.invariant.most))))

pub loop-s-preserved : goal.loop-s-preserved
loop-s-preserved g c = record {
  least = next_state c.args.rows.now.case g.spans c.w.ensures.case c.args.ranks.now c.loop-s.s 0 c.loop-s.e c.rate_of_state-e.result c.loop-s.invariant.least c.rate_of_state-e.ensures.least;
  most = c.rate_of_state-e.ensures.most;
}

pub returns-clause-least : goal.returns-clause-least
returns-clause-least g c = subst (λ count. IsFirstFrom (IsRateOfStates c.args.rows.now.case g.spans c.args.ranks.now count) 0 c.loop-s.e) (omega (arith, c.states-s-end.ensures.value, ap (λ (m : ModelData). length m.states) c.model.ensures, c.loop-s-test.false, c.loop-s.auto.s-end)) c.loop-s.invariant.least
