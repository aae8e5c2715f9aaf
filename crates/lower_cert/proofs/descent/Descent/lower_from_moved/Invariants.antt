use Rattle.lower_cert.specs.Lowering.{IsHigh}
use Rattle.lower_cert.proofs.descent.Descent.lower_from_moved.Given as goal

abbrev pub ghost-lower_from_guess : goal.ghost-lower_from_guess
ghost-lower_from_guess g a = g.spans

abbrev pub ghost-lower_to_end : goal.ghost-lower_to_end
ghost-lower_to_end g a = g.spans

-- what was found so far is at or above every lower vector
abbrev pub invariant-loop : goal.invariant-loop
invariant-loop g l = IsHigh l.self.rows.now.case g.spans l.lane
