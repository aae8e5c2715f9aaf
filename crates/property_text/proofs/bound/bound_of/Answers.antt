use Rattle.property_text.proofs.Literals.{ratio_is_text}
use Rattle.property_text.proofs.bound.bound_of.Goals as goal

pub returns-in-Err : goal.returns-in-Err
returns-in-Err c = absurd (c.in-Err.ensures.cases.0 (ratio_is_text c.args.text.now c.requires))
