use Rattle.std.proofs.Common.{◌≡◌, sym, subst, arith}
use Rattle.std.specs.Int.{IsGcd}
use Rattle.std.proofs.lemmas.Grind.{common_steps}
use Rattle.std.proofs.lemmas.Nat.Gcd.{IsGcd-from_zero, IsGcd-from_mod}
use Rattle.lift_poly.proofs.terms.common_divisor.Goals as goal

pub loop-b-preserved : goal.loop-b-preserved
loop-b-preserved c = λ g h. c.loop-b.invariant g (IsGcd-from_mod c.loop-b.a c.loop-b.b g h)

pub returns : goal.returns
returns c = c.loop-b.invariant c.loop-b.a (IsGcd-from_zero c.loop-b.a c.loop-b.b c.loop-b-test.false)

pub returns-in-Ok-Ok : goal.returns-in-Ok-Ok
returns-in-Ok-Ok c =
    let g = c.short_divisor.result in
    let same : c.from.result ≡ g = c.from.ensures in
    let left : c.in-Ok-Ok.a ≡ c.args.a = grind (arith, common_steps) in
    let right : c.in-Ok-Ok.b ≡ c.args.b = grind (arith, common_steps) in
    subst (λ n. IsGcd n c.args.b c.from.result) left (subst (λ n. IsGcd c.in-Ok-Ok.a n c.from.result) right (subst (IsGcd c.in-Ok-Ok.a c.in-Ok-Ok.b) (sym same) c.short_divisor.ensures))
