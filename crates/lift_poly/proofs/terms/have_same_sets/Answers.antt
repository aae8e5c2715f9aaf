use Rattle.std.proofs.Common.{◌<◌, length, get_or, pos, ap, arith}
use Rattle.std.proofs.lemmas.List.{get_or-map}
use Rattle.lift_poly.specs.Polynomial.{Term}
use Rattle.lift_poly.proofs.terms.have_same_sets.Goals as goal

pub returns-then-left-i : goal.returns-then-left-i
returns-then-left-i c = (
  λ no. cc,
  λ same.
      let within : c.loop-i.i < length c.args.right.now = omega (arith, c.if-left-right.false, c.loop-i-test.true) in
      let a = get_or-map (λ (t : Term). t.0) c.args.left.now c.loop-i.i (0, pos 0) 0 c.loop-i-test.true in
      let b = get_or-map (λ (t : Term). t.0) c.args.right.now c.loop-i.i (0, pos 0) 0 within in
      absurd (omega (arith, a, b, ap (λ ns. get_or ns c.loop-i.i 0) same, c.if-left-i.true)),
)
