use Rattle.std.proofs.Common.{◌≡◌, ◌+◌, arith, refl, subst, ℕ}
use Rattle.cert_text.specs.Cut.{IsBehind}
use Rattle.cert_text.proofs.NodeTexts.{behind_next}
use Rattle.cert_text.proofs.node_text.behind_lines.Goals as goal

pub loop-init : goal.loop-init
loop-init c = refl

pub loop-preserved : goal.loop-preserved
loop-preserved c = behind_next c.loop.counter (c.loop.counter + 1) c.args.text.now c.loop.rest.now c.behind_line-rest.result.now refl c.loop.invariant c.behind_line-rest.ensures

pub returns : goal.returns
returns c =
    let all : c.loop.counter ≡ c.args.count = omega (arith, c.loop-test.false, c.loop.auto.counter-end) in
    subst (λ (n : ℕ). IsBehind n c.args.text.now c.loop.rest.now) all c.loop.invariant
