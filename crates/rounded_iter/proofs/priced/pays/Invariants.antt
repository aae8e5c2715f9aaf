use Rattle.std.proofs.Common.{ℕ, ◌<◌}
use Rattle.rounded_iter.specs.Priced.{IsPaidFor, price}
use Rattle.rounded_iter.proofs.priced.pays.Given as goal

abbrev pub ghost-pays_choice : goal.ghost-pays_choice
ghost-pays_choice g a = g.spans

-- the choices so far are paid for
abbrev pub invariant-loop-a : goal.invariant-loop-a
invariant-loop-a g l = (b : ℕ) → b < l.a → IsPaidFor l.rows.case g.spans (price l.rows.case.w l.rewards) l.lane l.s b
