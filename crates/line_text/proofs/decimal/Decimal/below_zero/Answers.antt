use Rattle.std.proofs.Common.{sym, ap, ◌∙◌}
use Rattle.std.specs.Str.{bytes_eq}
use Rattle.line_text.proofs.LongNumbers.{below_size}
use Rattle.line_text.proofs.decimal.Decimal.below_zero.Goals as goal

pub returns : goal.returns
returns c = c.of_size.ensures ∙ below_size c.args.digits.now (ap (λ t. bytes_eq c.args.digits.now t) (sym c.as_slice.ensures) ∙ sym c.eq.ensures ∙ c.if-eq.false)
