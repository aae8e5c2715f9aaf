use Rattle.std.proofs.Common.{◌≡◌, ◌*ℤ◌, ◌||◌, true, false, sym, ◌∙◌, rules, SFits, w64, to_z-of_z}
use Rattle.std.specs.Int.{w128}
use Rattle.std.specs.Prelude.{int_le, int_lt}
use Rattle.std.specs.Ordering.{int_eq}
use Rattle.view_map.proofs.Meeting.{one_of, other_of, first_of, second_of}
use Rattle.view_map.proofs.slice.has_value.Goals as goal
use Rattle.view_map.proofs.slice.has_value.Goals.{then-is_below, else-is_below}

pub returns-then-is_at_most : goal.returns-then-is_at_most
returns-then-is_at_most c =
    let l : SFits w64 c.args.span.0 = search rules in
    let h : SFits w64 c.args.span.1 = search rules in
    let t : SFits w64 c.args.top = search rules in
    let n : SFits w64 c.args.value.0 = search rules in
    let e : SFits w64 c.args.value.1 = search rules in
    let g : SFits w64 c.args.d = search rules in
    let u : SFits w128 c.times-value.result = search rules in
    let v : SFits w128 c.times-from.result = search rules in
    let w : SFits w128 c.times-to.result = search rules in
    let value : c.times-value.result ≡ c.args.value.0 *ℤ c.args.d = simp to_z-of_z at c.times-value.ensures in
    let low : c.times-from.result ≡ c.args.span.0 *ℤ c.args.value.1 = simp to_z-of_z at c.times-from.ensures in
    let high : c.times-to.result ≡ c.args.span.1 *ℤ c.args.value.1 = simp to_z-of_z at c.times-to.ensures in
    let from : c.is_at_most.result ≡ int_le c.times-from.result c.times-value.result = simp to_z-of_z at c.is_at_most.ensures in
    let to : c.is_below.result ≡ int_lt c.times-value.result c.times-to.result = simp to_z-of_z at c.is_below.ensures in
    let below : c.if-is_below.below ≡ (int_lt c.times-value.result c.times-to.result || int_eq c.args.span.1 c.args.top) =
    elim c.if-is_below.branch [
      | then-is_below w ↦
          let b : int_lt c.times-value.result c.times-to.result ≡ true = sym to ∙ w.if-is_below.true in
          one_of _ _ _ b (w.below-is ∙ to)
      | else-is_below w ↦
          let b : int_lt c.times-value.result c.times-to.result ≡ false = sym to ∙ w.if-is_below.false in
          let same : w.is_same-below.result ≡ int_eq c.args.span.1 c.args.top = simp to_z-of_z at w.is_same-below.ensures in
          other_of _ _ _ b (w.below-is ∙ same)
    ] in
    rw (sym value, sym low, sym high) (second_of _ _ _ (sym from ∙ c.if-is_at_most.true) below)

pub returns-else-is_at_most : goal.returns-else-is_at_most
returns-else-is_at_most c =
    let l : SFits w64 c.args.span.0 = search rules in
    let n : SFits w64 c.args.value.0 = search rules in
    let e : SFits w64 c.args.value.1 = search rules in
    let g : SFits w64 c.args.d = search rules in
    let u : SFits w128 c.times-value.result = search rules in
    let v : SFits w128 c.times-from.result = search rules in
    let value : c.times-value.result ≡ c.args.value.0 *ℤ c.args.d = simp to_z-of_z at c.times-value.ensures in
    let low : c.times-from.result ≡ c.args.span.0 *ℤ c.args.value.1 = simp to_z-of_z at c.times-from.ensures in
    let from : c.is_at_most.result ≡ int_le c.times-from.result c.times-value.result = simp to_z-of_z at c.is_at_most.ensures in
    rw (sym value, sym low) (first_of _ _ _ (sym from ∙ c.if-is_at_most.false) from)
