use Rattle.std.proofs.Common.{◌∙◌}
use Rattle.lift_frac.specs.Limits.{size_limit}
use Rattle.lift_frac.proofs.Pieces.{two_some, two_none}
use Rattle.lift_frac.proofs.literal.number_of_two.Goals as goal

pub returns-in-Some : goal.returns-in-Some
returns-in-Some c = c.more_digits.ensures ∙ two_some size_limit c.in-Some.number c.args.whole.now c.args.decimals.now c.in-Some.ensures

pub returns-in-None : goal.returns-in-None
returns-in-None c = two_none size_limit c.args.whole.now c.args.decimals.now c.in-None.ensures
