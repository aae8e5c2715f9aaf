use Rattle.std.proofs.Common.{ℕ, ◌<◌}
use Rattle.lower_cert.specs.Beginning.{IsClosedChoice}
use Rattle.lower_cert.proofs.raise.is_closed_state.Given as goal

abbrev pub ghost-is_closed_choice : goal.ghost-is_closed_choice
ghost-is_closed_choice g a = g.spans

-- none of the choices so far lets the state rise
abbrev pub invariant-loop-a : goal.invariant-loop-a
invariant-loop-a g l = (a : ℕ) → a < l.a → IsClosedChoice l.rows.case g.spans l.lane l.s a
