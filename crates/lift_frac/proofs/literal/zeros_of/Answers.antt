use Rattle.std.proofs.Common.{◌∙◌, sym, arith, ◌==◌}
use Rattle.lift_frac.proofs.Pieces.{zeros_through, zeros_within}
use Rattle.lift_frac.proofs.literal.zeros_of.Goals as goal

pub returns-then-zeros-parts-clause-zeros : goal.returns-then-zeros-parts-clause-zeros
returns-then-zeros-parts-clause-zeros c =
    let e = zeros_through (λ b. b == 48) c.args.parts.now.whole.now c.args.parts.now.decimals.now (sym c.zeros_len-zeros.ensures.len ∙ c.if-zeros-parts.true) in
    omega (arith, e, c.zeros_len-zeros.ensures.len, c.zeros_len.ensures.len)

pub returns-else-zeros-parts-clause-zeros : goal.returns-else-zeros-parts-clause-zeros
returns-else-zeros-parts-clause-zeros c =
    c.zeros_len-zeros.ensures.len ∙ zeros_within (λ b. b == 48) c.args.parts.now.whole.now c.args.parts.now.decimals.now (λ h. c.if-zeros-parts.false (c.zeros_len-zeros.ensures.len ∙ h))
