use Rattle.std.proofs.Common.{◌≡◌, List, [], ◌∷◌, ℤ, length, sym, ◌∙◌, ap, arith}
use Rattle.lift_pool.specs.Lanes.{PoolData}
use Rattle.lift_grid.specs.Rectangle.{sides_of}
use Rattle.lift_walk.specs.Sides.{end_count}
use Rattle.lift_walk.proofs.Ends.{root_ends}
use Rattle.lift_walk.proofs.sides.write_root.Goals as goal

pub write-requires-clause-some : goal.write-requires-clause-some
write-requires-clause-some c = (c.lanes_have_shapes.ensures.lengths c.args.sides.now 1 (end_count c.args.case.now) 0 c.requires (omega arith)).0

pub write-requires-clause-size : goal.write-requires-clause-size
write-requires-clause-size c =
    let k = c.args.case.now in
    let root : c.sides.result.now ≡ sides_of k.root = rw c.root.ensures.value at c.sides.ensures.sides in
    ap length root ∙ root_ends k c.root.ensures.case ∙ sym (c.lanes_have_shapes.ensures.lengths c.args.sides.now 1 (end_count k) 0 c.requires (omega arith)).1

pub returns-clause-root : goal.returns-clause-root
returns-clause-root c =
    let k = c.args.case.now in
    let pool = c.args.sides.now in
    let root : c.sides.result.now ≡ sides_of k.root = rw c.root.ensures.value at c.sides.ensures.sides in
    c.write.ensures ∙ ap (λ (lanes : List (List ℤ)). let p : PoolData ℤ = record pool { lanes = lanes } in p) (c.lanes_have_shapes.ensures.one pool (end_count k) c.sides.result.now c.requires ∙ ap (λ w. w ∷ []) root)

pub returns-clause-shape : goal.returns-clause-shape
returns-clause-shape c =
    let k = c.args.case.now in
    let root : c.sides.result.now ≡ sides_of k.root = rw c.root.ensures.value at c.sides.ensures.sides in
    let size = ap length root ∙ root_ends k c.root.ensures.case ∙ sym (c.lanes_have_shapes.ensures.lengths c.args.sides.now 1 (end_count k) 0 c.requires (omega arith)).1 in
    rw c.write.ensures (c.lanes_have_shapes.ensures.writes c.args.sides.now 0 c.sides.result.now size)
