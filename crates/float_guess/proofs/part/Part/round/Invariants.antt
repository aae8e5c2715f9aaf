use Rattle.float_guess.specs.Part.{IsSameBeyond, AreRounded}
use Rattle.float_guess.proofs.part.Part.round.Given as goal

-- the positions so far are rounded
abbrev pub invariant-loop-position : goal.invariant-loop-position
invariant-loop-position l = record {
  same : IsSameBeyond l.self.rule.ends l.self.case.now l.self.links.now l.self.low l.self.high l.initial.lane l.lane;
  rounded : AreRounded l.self.rule.ends l.self.case.now l.self.links.now l.self.low l.position l.lane;
}
