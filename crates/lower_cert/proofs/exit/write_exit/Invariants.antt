use Rattle.lower_cert.specs.Exits.{AreLoweredTo}
use Rattle.lower_cert.proofs.exit.write_exit.Given as goal

-- some of the marked states are lowered, and all else is as it was
abbrev pub invariant-loop-s : goal.invariant-loop-s
invariant-loop-s l = AreLoweredTo l.initial.lane l.lane l.marks l.exit
