use Rattle.std.proofs.Common.{arith}
use Rattle.std.proofs.lemmas.List.{get_or_past}
use Rattle.lift_lump.proofs.Clearing.{zeroed}
use Rattle.lift_lump.proofs.split.clear_one.Goals as goal

pub returns-then-at-numbers : goal.returns-then-at-numbers
returns-then-at-numbers c = zeroed c.args.numbers.now c.args.s

pub returns-else-at-numbers : goal.returns-else-at-numbers
returns-else-at-numbers c = λ u some. (some, λ same. some (get_or_past c.args.numbers.now u 0 (omega (arith, same, c.if-at-numbers.false))))
