use Rattle.std.proofs.Common.{◌≡◌, ◌+ℤ◌, ◌*ℤ◌, ℤ, pos, rules, SFits, w64, to_z-of_z, ap, arith, ◌∙◌}
use Rattle.std.proofs.lemmas.Int.{ints}
use Rattle.lift_grid.specs.Rectangle.{spans_of}
use Rattle.view_map.specs.Slice.{CutData}
use Rattle.view_map.proofs.Choosing.{ends_fit}
use Rattle.view_map.proofs.choice.middle_cut.Goals as goal

pub overflow_add-low : goal.overflow_add-low
overflow_add-low c =
    let low : SFits w64 c.span_at-low.result.0 = search rules in
    let high : SFits w64 c.span_at-low.result.1 = search rules in
    simp to_z-of_z (rw c.span_at-low.ensures (ends_fit (spans_of c.args.root.now) c.args.parameter c.requires.spans))

pub returns : goal.returns
returns c =
    let low : SFits w64 c.span_at-low.result.0 = search rules in
    let high : SFits w64 c.span_at-low.result.1 = search rules in
    let d : SFits w64 c.args.d = search rules in
    let sum : SFits w64 (c.span_at-low.result.0 +ℤ c.span_at-low.result.1) = rw c.span_at-low.ensures (ends_fit (spans_of c.args.root.now) c.args.parameter c.requires.spans) in
    let small = c.requires.small in
    let positive = c.requires.positive in
    let twice : SFits w64 (pos 2 *ℤ c.args.d) = omega (arith, ints, small, positive) in
    let cut : ℤ × ℤ → CutData = λ s. record { parameter = c.args.parameter; num = s.0 +ℤ s.1; den = pos 2 *ℤ c.args.d } in
    let built : c.new.result ≡ cut c.span_at-low.result = simp to_z-of_z at c.new.ensures in
    built ∙ ap cut c.span_at-low.ensures
