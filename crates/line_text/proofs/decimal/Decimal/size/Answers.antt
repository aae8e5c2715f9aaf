use Rattle.std.proofs.Common.{◌≤◌, ◌^◌, sym, ap, ◌∙◌, subst}
use Rattle.std.specs.Prelude.{unsigned_abs}
use Rattle.line_text.proofs.LongNumbers.{long_wide, size_is}
use Rattle.line_text.proofs.decimal.Decimal.size.Goals as goal

pub returns-then-count-gt-MOST_DIGITS-clause-none : goal.returns-then-count-gt-MOST_DIGITS-clause-none
returns-then-count-gt-MOST_DIGITS-clause-none c = subst (λ n. 2 ^ 100 ≤ n) (sym (size_is c.self.inside.negative _) ∙ ap unsigned_abs c.self.view_is) (long_wide c.self.inside.digits.now c.self.invariant.digits c.if-count-gt-MOST_DIGITS.true)
