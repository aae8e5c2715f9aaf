use Rattle.std.proofs.Common.{◌-◌, ◌∙◌, arith}
use Rattle.lift_frac.proofs.Powers.{power-nonzero, scaled-raised}
use Rattle.lift_frac.proofs.literal.scaled.Goals as goal

pub reduced-requires-else-down-up-2 : goal.reduced-requires-else-down-up-2
reduced-requires-else-down-up-2 c = power-nonzero (c.args.down - c.args.up) c.pow-power-else-down-up-2.result (grind arith) c.pow-power-else-down-up-2.ensures

pub returns-then-down-up-2 : goal.returns-then-down-up-2
returns-then-down-up-2 c =
    c.reduced.ensures.answer ∙ scaled-raised c.args.number c.args.up c.args.down c.pow-power.result c.requires.small c.if-down-up-2.true (grind arith) c.pow-power.ensures
