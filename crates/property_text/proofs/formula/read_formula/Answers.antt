use Rattle.std.proofs.Common.{rules}
use Rattle.property_text.proofs.formula.read_formula.Goals as goal

pub returns-in_err-copied-clause-bound : goal.returns-in_err-copied-clause-bound
returns-in_err-copied-clause-bound c = (search rules, λ h. let never = c.in_ok-formula.ensures.bound.1 h in absurd (cc))

pub returns-in_err-from_slice-clause-bound : goal.returns-in_err-from_slice-clause-bound
returns-in_err-from_slice-clause-bound c = (search rules, λ h. let never = c.in_ok-formula.ensures.bound.1 h in absurd (cc))

pub returns-clause-bound : goal.returns-clause-bound
returns-clause-bound c = (search rules, λ h. let never = c.in_ok-formula.ensures.bound.1 h in absurd (cc))
