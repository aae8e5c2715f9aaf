use Rattle.float_guess.specs.Part.{IsSameBeyond}
use Rattle.float_guess.proofs.part.Part.counted_of_row.Given as goal

-- all else is as it was
abbrev pub invariant-loop-corner : goal.invariant-loop-corner
invariant-loop-corner l = IsSameBeyond l.self.rule.ends l.self.case.now l.self.links.now l.self.low l.self.high l.initial.lane l.lane
