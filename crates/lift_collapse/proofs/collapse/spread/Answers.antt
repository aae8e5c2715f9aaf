use Rattle.std.proofs.Common.{◌≡◌, ◌∙◌, pos, length, map, sym, arith}
use Rattle.std.proofs.lemmas.List.{ext_get_or, get_or-map, length-map}
use Rattle.corner_lift.specs.Case.{number}
use Rattle.lift_collapse.proofs.collapse.spread.Goals as goal

pub returns : goal.returns
returns c =
    let size : length (map (number c.args.values.now) c.args.places.now) ≡ length c.args.places.now = length-map c.args.places.now (number c.args.values.now) in
    ext_get_or (pos 0) c.loop-s.lane (map (number c.args.values.now) c.args.places.now) (c.loop-s.invariant.0 ∙ sym size) (λ i lt. c.loop-s.invariant.1 i (omega (arith, lt, c.loop-s-test.false)) ∙ sym (get_or-map (number c.args.values.now) c.args.places.now i 0 (pos 0) (omega (arith, lt, c.loop-s.invariant.0))))
