use Rattle.std.proofs.Common.{◌∙◌, ◌+◌, ◌++◌, [], ◌∷◌, ℤ, List, pos, slice_index_or, take, SFits, w64, to_z, of_z, to_z-of_z, rules, sym, ap, subst}
use Rattle.lift_finer.proofs.Rectangles.{Kept, kept_more, sides_large}
use Rattle.lift_finer.proofs.finer.finer_sides.Goals as goal

pub returns-in_default : goal.returns-in_default
returns-in_default c =
    let fits : SFits w64 (slice_index_or c.args.sides.now c.loop-side.side-index (pos 0)) = search rules in
    let side : ℤ = to_z w64 (of_z w64 (slice_index_or c.args.sides.now c.loop-side.side-index (pos 0))) in
    sides_large c.args.n c.args.sides.now c.loop-side.side-index side c.loop-side-test.true (to_z-of_z fits) c.in_default.ensures

pub loop-side-preserved : goal.loop-side-preserved
loop-side-preserved c =
    let fits : SFits w64 (slice_index_or c.args.sides.now c.loop-side.side-index (pos 0)) = search rules in
    let narrow : SFits w64 c.in-Some.number = search rules in
    let side : ℤ = to_z w64 (of_z w64 (slice_index_or c.args.sides.now c.loop-side.side-index (pos 0))) in
    let items = c.in_ok-push.ensures.items ∙ ap (λ (m : ℤ). c.loop-side.finer.items ++ m ∷ []) (to_z-of_z narrow) in
    subst (λ (l : List ℤ). Kept c.args.n l (take (c.loop-side.side-index + 1) c.args.sides.now)) (sym items) (kept_more c.args.n c.loop-side.finer.items c.args.sides.now c.loop-side.side-index side c.in-Some.number c.loop-side-test.true (to_z-of_z fits) c.loop-side.invariant c.in-Some.ensures)
