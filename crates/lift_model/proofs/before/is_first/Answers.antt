use Rattle.std.proofs.Common.{◌≤◌, All, arith, subst}
use Rattle.std.proofs.lemmas.List.{take_all}
use Rattle.std.proofs.lemmas.List.Elements.{All-more}
use Rattle.lift_model.proofs.before.is_first.Goals as goal

pub loop-p-preserved : goal.loop-p-preserved
loop-p-preserved c = All-more (λ p. c.args.position ≤ p) c.args.positions.now c.loop-p.p-index 0 (omega (arith, c.loop-p-test.true)) c.loop-p.invariant (omega (arith, c.if-p-position.false))

pub returns : goal.returns
returns c = λ yes. subst (All (λ p. c.args.position ≤ p)) (take_all c.loop-p.p-index c.args.positions.now (omega (arith, c.loop-p-test.false))) c.loop-p.invariant
