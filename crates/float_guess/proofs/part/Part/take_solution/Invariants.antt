use Rattle.float_guess.specs.Part.{IsSameBeyond}
use Rattle.float_guess.proofs.part.Part.take_solution.Given as goal

-- all else is as it was
abbrev pub invariant-loop-position : goal.invariant-loop-position
invariant-loop-position l = IsSameBeyond l.self.rule.ends l.self.case.now l.self.links.now l.self.low l.self.high l.initial.lane l.lane
