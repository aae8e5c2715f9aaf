use Rattle.std.proofs.Common.{◌≡◌, ◌<◌, ⊎_elim, sym, subst, arith}
use Rattle.rounded_iter.specs.Priced.{IsPaidFor, price}
use Rattle.rounded_iter.proofs.priced.pays.Goals as goal
use Rattle.rounded_iter.proofs.Solving.{one_more}

pub loop-a-preserved : goal.loop-a-preserved
loop-a-preserved g c =
    let k = c.args.rows.now.case in
    λ b lt. ⊎_elim
    (λ (before : b < c.loop-a.a). c.loop-a.invariant b before)
    (λ (here : b ≡ c.loop-a.a). subst (λ i. IsPaidFor k g.spans (price k.w c.args.rewards.now) c.args.lane.now c.args.s i) (sym here) (c.pays_choice.ensures.paid c.if-not-pays_choice.false))
    (one_more b c.loop-a.a lt)

pub returns-clause-paid : goal.returns-clause-paid
returns-clause-paid g c = λ e a lt. c.loop-a.invariant a (omega (arith, lt, c.loop-a-test.false, c.choice_count-a-end.ensures, c.loop-a.auto.a-end))
