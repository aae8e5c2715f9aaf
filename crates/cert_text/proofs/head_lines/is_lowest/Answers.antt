use Rattle.std.proofs.Common.{ap, ap₂, sym, ◌∙◌, arith}
use Rattle.std.specs.Prelude.{◌==◌, unsigned_abs}
use Rattle.lift_frac.specs.Gcd.{gcd}
use Rattle.cert_text.proofs.Remainders.{gcd_remainder, lowest_none}
use Rattle.cert_text.proofs.head_lines.is_lowest.Goals as goal

pub returns-then-num-eq0 : goal.returns-then-num-eq0
returns-then-num-eq0 c = c.is_number.ensures ∙ lowest_none c.args.num c.args.den.now c.if-num-eq0.true c.requires

pub returns-else-num-eq0 : goal.returns-else-num-eq0
returns-else-num-eq0 c =
    ap (λ k. k == 1)
    (c.gcd.ensures.value ∙ ap₂ gcd (c.from.ensures ∙ c.remainder.ensures) c.from-else-num-eq0.ensures ∙ sym (gcd_remainder c.args.num (unsigned_abs c.args.den.now) (omega (arith, c.if-num-eq0.false))))
