use Rattle.std.proofs.Common.{◌+◌, ◌-◌, ◌≤◌, length}
use Rattle.drn_read.specs.CostShown.{asked_of}
use Rattle.drn_read.proofs.Loop.{AtPlace}
use Rattle.drn_read.proofs.CostRunning.{costed}
use Rattle.drn_read.proofs.costed.read_cost_lines.Given as goal

abbrev pub decreases-loop-line : goal.decreases-loop-line
decreases-loop-line l = length l.text - l.place.at

abbrev pub invariant-loop-line : goal.invariant-loop-line
invariant-loop-line l = record {
  at : l.place.at ≤ length l.text;
  number : l.place.number ≤ l.place.at + 1;
  read : AtPlace (costed (asked_of l.label l.fn.reader)) l.text l.place l.reader;
}
