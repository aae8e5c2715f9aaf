use Rattle.std.proofs.Common.{◌∙◌, ◌+◌, ◌*◌, ◌%◌, ap₂, arith}
use Rattle.line_text.proofs.LongNumbers.{remainder_next}
use Rattle.line_text.proofs.decimal.digits_remainder.Goals as goal

pub loop-digit-preserved : goal.loop-digit-preserved
loop-digit-preserved c = record {
  small = omega (arith, c.from-in-loop-digit.ensures, c.requires.by);
  same = ap₂ (λ k n. (c.loop-digit.rest * 10 + k) % n) c.from.ensures c.from-in-loop-digit.ensures ∙ remainder_next c.args.digits.now c.loop-digit.digit-index c.args.by c.loop-digit.rest c.requires.digits c.loop-digit-test.true c.loop-digit.invariant.same;
}
