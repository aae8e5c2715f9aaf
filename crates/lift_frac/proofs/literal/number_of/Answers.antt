use Rattle.std.proofs.Common.{◌∙◌}
use Rattle.std.specs.Char.{is_ascii_digit}
use Rattle.lift_frac.specs.Limits.{size_limit}
use Rattle.lift_frac.proofs.Pieces.{take_passes, in_part, capped_same}
use Rattle.lift_frac.proofs.literal.number_of.Goals as goal

pub number_of_two-requires-clause-decimals : goal.number_of_two-requires-clause-decimals
number_of_two-requires-clause-decimals c = take_passes is_ascii_digit c.args.parts.now.decimals.now _ c.requires.digits.decimals

pub number_of_two-requires-else-zeros-parts-clause-whole : goal.number_of_two-requires-else-zeros-parts-clause-whole
number_of_two-requires-else-zeros-parts-clause-whole c = take_passes is_ascii_digit c.args.parts.now.whole.now _ c.requires.digits.whole

pub returns-then-zeros-parts : goal.returns-then-zeros-parts
returns-then-zeros-parts c =
    c.number_of_two.ensures ∙ capped_same size_limit _ _ (in_part c.args.parts.now.whole.now c.args.parts.now.decimals.now c.args.zeros c.if-zeros-parts.true)
