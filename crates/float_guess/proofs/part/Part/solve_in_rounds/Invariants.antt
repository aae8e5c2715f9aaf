use Rattle.float_guess.specs.Part.{IsSameBeyond}
use Rattle.float_guess.proofs.part.Part.solve_in_rounds.Given as goal

-- all else is as it was
abbrev pub invariant-loop-round : goal.invariant-loop-round
invariant-loop-round l = IsSameBeyond l.self.rule.ends l.self.case.now l.self.links.now l.self.low l.self.high l.initial.lane l.lane
