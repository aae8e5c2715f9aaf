use Rattle.rounded_iter.specs.Priced.{ArePaid, price}
use Rattle.rounded_iter.proofs.priced.pays_all.Given as goal

abbrev pub ghost-pays_cut_off : goal.ghost-pays_cut_off
ghost-pays_cut_off g a = g.spans

-- the states so far are paid for
abbrev pub invariant-loop-s : goal.invariant-loop-s
invariant-loop-s g l = ArePaid l.rows.case g.spans (price l.rows.case.w l.rewards) l.lane l.s
