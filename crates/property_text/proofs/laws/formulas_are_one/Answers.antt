use Rattle.property_text.proofs.Complete.{writes_one}
use Rattle.property_text.proofs.laws.formulas_are_one.Goals as goal

pub returns : goal.returns
returns c = writes_one
