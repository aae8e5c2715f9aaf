use Rattle.std.proofs.Common.{◌∙◌, ap, Some}
use Rattle.drn_read.proofs.Numbers.{short_capped}
use Rattle.drn_read.proofs.digits.number_of.Goals as goal

pub returns-then-digits-le-SHORT_DIGITS : goal.returns-then-digits-le-SHORT_DIGITS
returns-then-digits-le-SHORT_DIGITS c = ap Some c.from.ensures ∙ short_capped c.args.digits.now c.short_value.result c.short_value.ensures.value c.short_value.ensures.small
