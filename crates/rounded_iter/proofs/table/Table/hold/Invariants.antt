use Rattle.std.proofs.Common.{◌≤◌, ◌-◌, length}
use Rattle.rounded_iter.specs.Held.{IsRaisedIn, IsSearch}
use Rattle.rounded_iter.proofs.table.Table.hold.Given as goal

abbrev pub ghost-look : goal.ghost-look
ghost-look g a = g.run

abbrev pub invariant-loop : goal.invariant-loop
invariant-loop g l = record {
  raised : IsRaisedIn l.self g.run l.beside.low l.beside.high l.initial.lane l.lane;
  search : IsSearch l.self g.run l.beside l.lane l.search;
  places : (l.beside.high - l.beside.low ≤ length l.search.base) × (l.beside.high - l.beside.low ≤ length l.search.settled);
}
