use Rattle.std.proofs.Common.{◌∙◌, ◌+◌, ◌*◌, ap, arith}
use Rattle.drn_read.proofs.Numbers.{front_short, value_next, digit_is}
use Rattle.drn_read.proofs.digits.short_value.Goals as goal

pub overflow_mul-number : goal.overflow_mul-number
overflow_mul-number c = omega (arith, front_short c.args.digits.now c.loop-digit.digit-index c.loop-digit.number c.requires.digits c.requires.short c.loop-digit.invariant)

pub overflow_add-number : goal.overflow_add-number
overflow_add-number c = omega (arith, front_short c.args.digits.now c.loop-digit.digit-index c.loop-digit.number c.requires.digits c.requires.short c.loop-digit.invariant, c.from.ensures, digit_is c.args.digits.now c.loop-digit.digit-index c.requires.digits c.loop-digit-test.true)

pub loop-digit-preserved : goal.loop-digit-preserved
loop-digit-preserved c = ap (λ k. c.loop-digit.number * 10 + k) c.from.ensures ∙ value_next c.args.digits.now c.loop-digit.digit-index c.loop-digit.number c.requires.digits c.loop-digit-test.true c.loop-digit.invariant

pub returns-clause-small : goal.returns-clause-small
returns-clause-small c = front_short c.args.digits.now c.loop-digit.digit-index c.loop-digit.number c.requires.digits c.requires.short c.loop-digit.invariant
