use Rattle.std.proofs.Common.{◌≡◌, length}
use Rattle.lift_model.specs.OnlyRow.{AreOnlyRowsIn}
use Rattle.lift_model.proofs.only_row.find_only_rows.Given as goal

-- the rows of the states so far are told
abbrev pub invariant-loop-s : goal.invariant-loop-s
invariant-loop-s l = (length l.list.items ≡ l.s) × AreOnlyRowsIn l.starts l.rows l.targets l.list.items
