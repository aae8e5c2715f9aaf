use Rattle.rounded_iter.proofs.priced.pays_cut_off.Goals as goal

pub returns-clause-paid : goal.returns-clause-paid
returns-clause-paid g c = λ e cut. c.pays.ensures.paid e
