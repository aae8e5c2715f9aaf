use Rattle.std.proofs.Common.{◌≡◌, length}
use Rattle.rounded_iter.proofs.table.Table.lessen_shares.Given as goal

-- there are as many notes
abbrev pub invariant-loop-position : goal.invariant-loop-position
invariant-loop-position l = length l.noted ≡ length l.initial.noted
