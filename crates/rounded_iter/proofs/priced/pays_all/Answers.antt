use Rattle.std.proofs.Common.{◌≡◌, ◌<◌, ⊎_elim, sym, ap, subst, length, arith}
use Rattle.lift_model.specs.Model.{ModelData}
use Rattle.rounded_iter.specs.Priced.{IsCutOff, IsPaid, price}
use Rattle.rounded_iter.proofs.priced.pays_all.Goals as goal
use Rattle.rounded_iter.proofs.Solving.{one_more}

pub loop-s-preserved : goal.loop-s-preserved
loop-s-preserved g c =
    let k = c.args.rows.now.case in
    λ i lt. ⊎_elim
    (λ (before : i < c.loop-s.s). c.loop-s.invariant i before)
    (λ (here : i ≡ c.loop-s.s). subst (λ j. IsCutOff k c.args.lane.now j → IsPaid k g.spans (price k.w c.args.rewards.now) c.args.lane.now j) (sym here) (c.pays_cut_off.ensures.paid c.if-not-pays_cut_off.false))
    (one_more i c.loop-s.s lt)

pub returns-clause-paid : goal.returns-clause-paid
returns-clause-paid g c = λ e s lt. c.loop-s.invariant s (omega (arith, lt, c.loop-s-test.false, c.states-s-end.ensures.value, ap (λ (m : ModelData). length m.states) c.model.ensures))
