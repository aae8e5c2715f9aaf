use Rattle.std.proofs.Common.{◌≡◌, ◌*ℤ◌, sym, ◌∙◌, rules, SFits, w64, to_z-of_z}
use Rattle.std.specs.Int.{w128}
use Rattle.std.specs.Prelude.{int_le}
use Rattle.view_words.proofs.Tests.{second_of}
use Rattle.view_words.proofs.value.is_inside.Goals as goal

pub returns-then-is_at_most : goal.returns-then-is_at_most
returns-then-is_at_most c =
    let l : SFits w64 c.args.span.0 = search rules in
    let h : SFits w64 c.args.span.1 = search rules in
    let n : SFits w64 c.args.num = search rules in
    let e : SFits w64 c.args.den = search rules in
    let g : SFits w64 c.args.d = search rules in
    let u : SFits w128 c.times-value.result = search rules in
    let v : SFits w128 c.times.result = search rules in
    let w : SFits w128 c.times-then-is_at_most.result = search rules in
    let value : c.times-value.result ≡ c.args.num *ℤ c.args.d = simp to_z-of_z at c.times-value.ensures in
    let low : c.times.result ≡ c.args.span.0 *ℤ c.args.den = simp to_z-of_z at c.times.ensures in
    let high : c.times-then-is_at_most.result ≡ c.args.span.1 *ℤ c.args.den = simp to_z-of_z at c.times-then-is_at_most.ensures in
    let from : c.is_at_most.result ≡ int_le c.times.result c.times-value.result = simp to_z-of_z at c.is_at_most.ensures in
    let to : c.is_at_most-then-is_at_most.result ≡ int_le c.times-value.result c.times-then-is_at_most.result = simp to_z-of_z at c.is_at_most-then-is_at_most.ensures in
    rw (sym value, sym low, sym high) (second_of _ _ _ (sym from ∙ c.if-is_at_most.true) to)
