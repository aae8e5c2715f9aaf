use Rattle.std.proofs.Common.{◌≡◌, length}
use Rattle.lift_model.specs.Before.{AreFirst, part}
use Rattle.lift_model.proofs.before.find_first.Given as goal

-- the positions so far were told
abbrev pub invariant-loop-s : goal.invariant-loop-s
invariant-loop-s l = record {
  count : length l.list.items ≡ l.s;
  first : AreFirst l.positions (part l.starts l.ends l.before) l.list.items;
}
