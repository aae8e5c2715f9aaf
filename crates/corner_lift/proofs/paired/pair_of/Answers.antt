use Rattle.std.proofs.Common.{rules, w64, to_z-of_z, SFits, sym, subst, ◌∙◌}
use mir.Syntax.{w128}
use Rattle.corner_lift.specs.Pairs.{IsLeastFirst, IsGreatestFirst}
use Rattle.corner_lift.proofs.paired.pair_of.Goals as goal

pub returns-clause-pair : goal.returns-clause-pair
returns-clause-pair c =
    let scale : SFits w64 c.scale_of-scale.result = search rules in
    let least : SFits w64 c.in_ok-least.least = search rules in
    let greatest : SFits w64 c.in_ok-greatest.greatest = search rules in
    let whole : SFits w64 c.in_ok-whole.whole = search rules in
    let least_part : SFits w64 c.in_ok-least-2.least = search rules in
    let greatest_part : SFits w64 c.in_ok-greatest-2.greatest = search rules in
    let whole_part : SFits w64 c.in_ok-whole-2.whole = search rules in
    let wide_least : SFits w128 c.least_first.result = search rules in
    let wide_greatest : SFits w128 c.greatest_first.result = search rules in
    let least_is = rw (to_z-of_z least, to_z-of_z scale) at c.in_ok-least-2.ensures in
    let greatest_is = rw (to_z-of_z greatest, to_z-of_z scale) at c.in_ok-greatest-2.ensures in
    let whole_is = rw (to_z-of_z whole, to_z-of_z scale) at c.in_ok-whole-2.ensures in
    let least_was = rw (to_z-of_z wide_least) at c.in_ok-least.ensures in
    let greatest_was = rw (to_z-of_z wide_greatest) at c.in_ok-greatest.ensures in
    rw (to_z-of_z scale, to_z-of_z least_part, to_z-of_z greatest_part, to_z-of_z whole_part) (record {
      scale = c.scale_of-scale.ensures;
      least = subst (IsLeastFirst c.args.block.now) (sym least_was ∙ least_is) c.least_first.ensures;
      greatest = subst (IsGreatestFirst c.args.block.now) (sym greatest_was ∙ greatest_is) c.greatest_first.ensures;
      whole = sym whole_is ∙ c.in_ok-whole.ensures;
    })
