use Rattle.std.proofs.Common.{◌≡◌, take}
use Rattle.corner_lift.specs.Ends.{present_part, absent_part}
use Rattle.corner_lift.proofs.ends.Ends.parts.Given as goal

-- the parts of the terms so far
abbrev pub invariant-loop-index : goal.invariant-loop-index
invariant-loop-index l = record {
  present_is : l.present ≡ present_part l.d l.parameter l.self (take l.index l.poly);
  absent_is : l.absent ≡ absent_part l.d l.parameter l.self (take l.index l.poly);
}
