use Rattle.std.proofs.Common.{rules}
use Rattle.property_text.proofs.Complete.{is_bounded}
use Rattle.property_text.proofs.formula.formula_in.Goals as goal

pub returns-clause-bound : goal.returns-clause-bound
returns-clause-bound c = (
  search rules,
  λ h. absurd (is_bounded c.args.text.now c.in-Some.parts c.in-Some-bound_of.bound c.in-Some.ensures.some (search rules) h),
)
