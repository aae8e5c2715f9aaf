use Rattle.std.proofs.Common.{rules, ◌≡◌, ◌==◌, ◌<◌, ◌+◌, ◌/◌, ◌%◌, ◌^◌, ◌*ℤ◌, ℕ, List, Some, slice_get, ◌∙◌, ◌+ℤ◌, Bool, cond, ℤ, pos, length, take, arith, to_z, to_z-of_z, SFits, w64, refl, sym, ap₂}
use Rattle.std.proofs.lemmas.Option.{get_or_from_slice_get}
use mir.Syntax.{w128}
use Rattle.lift_poly.specs.Polynomial.{Term}
use Rattle.corner_lift.specs.Ends.{End, product_at, present_part, absent_part}
use Rattle.corner_lift.proofs.Summing.{term_room}
use Rattle.corner_lift.proofs.Parting.{present_more, absent_more, present_fits, absent_fits}
use Rattle.corner_lift.proofs.ends.Ends.parts.Goals as goal

pub product-weight-requires-clause-room : goal.product-weight-requires-clause-room
product-weight-requires-clause-room c =
    let d_fits : SFits w64 c.args.d = c.ranges.d in
    let term_fits : SFits w128 c.term-set.result.1 = search rules in
    let lt : c.loop-index.index < length c.args.poly.now = omega (arith, c.loop-index-test.true, c.len-index-end.ensures.value) in
    simp to_z-of_z (term_room c.args.d c.args.self.now c.args.poly.now c.loop-index.index c.term-set.result lt c.term-set.ensures c.requires.room)

-- the parts with this term
present : (d : ℤ) (p : ℕ) (rest : List End) (terms : List Term) (i : ℕ) (t : Term) (sum weight more : ℤ) (has : Bool) → i < length terms → slice_get terms i ≡ Some t → sum ≡ present_part d p rest (take i terms) → weight ≡ t.1 *ℤ product_at d rest t.0 → has ≡ (t.0 / 2 ^ p % 2 == 1) → more ≡ cond has weight (pos 0) → sum +ℤ more ≡ present_part d p rest (take (i + 1) terms)
present d p rest terms i t sum weight more has lt is h w b kept =
    ap₂ ◌+ℤ◌ h (kept ∙ ap₂ (λ (b : Bool) (w : ℤ). cond b w (pos 0)) b w) ∙ sym (present_more d p rest terms i t lt (sym (get_or_from_slice_get terms i t t is)))

absent : (d : ℤ) (p : ℕ) (rest : List End) (terms : List Term) (i : ℕ) (t : Term) (sum weight more : ℤ) (has : Bool) → i < length terms → slice_get terms i ≡ Some t → sum ≡ absent_part d p rest (take i terms) → weight ≡ t.1 *ℤ product_at d rest t.0 → has ≡ (t.0 / 2 ^ p % 2 == 1) → more ≡ cond has (pos 0) weight → sum +ℤ more ≡ absent_part d p rest (take (i + 1) terms)
absent d p rest terms i t sum weight more has lt is h w b kept =
    ap₂ ◌+ℤ◌ h (kept ∙ ap₂ (λ (b : Bool) (w : ℤ). cond b (pos 0) w) b w) ∙ sym (absent_more d p rest terms i t lt (sym (get_or_from_slice_get terms i t t is)))

pub overflow_add-present : goal.overflow_add-present
overflow_add-present c =
    let d_fits : SFits w64 c.args.d = c.ranges.d in
    let term_fits : SFits w128 c.term-set.result.1 = search rules in
    let weight_fits : SFits w128 c.product-weight.result = search rules in
    let more_fits : SFits w128 c.sorted-more.result.0 = search rules in
    let other_fits : SFits w128 c.sorted-more.result.1 = search rules in
    rw (to_z-of_z more_fits, present c.args.d c.args.parameter c.args.self.now c.args.poly.now c.loop-index.index c.term-set.result (to_z w128 c.loop-index.present-bits) c.product-weight.result c.sorted-more.result.0 c.has.result (omega (arith, c.loop-index-test.true, c.len-index-end.ensures.value)) c.term-set.ensures (simp to_z-of_z at c.loop-index.invariant.present_is) (simp to_z-of_z at c.product-weight.ensures) c.has.ensures (simp to_z-of_z at c.sorted-more.ensures.present)) (present_fits c.args.d c.args.parameter c.args.self.now c.args.poly.now (c.loop-index.index + 1) c.requires.room)

pub overflow_add-absent : goal.overflow_add-absent
overflow_add-absent c =
    let d_fits : SFits w64 c.args.d = c.ranges.d in
    let term_fits : SFits w128 c.term-set.result.1 = search rules in
    let weight_fits : SFits w128 c.product-weight.result = search rules in
    let more_fits : SFits w128 c.sorted-more.result.0 = search rules in
    let other_fits : SFits w128 c.sorted-more.result.1 = search rules in
    rw (to_z-of_z other_fits, absent c.args.d c.args.parameter c.args.self.now c.args.poly.now c.loop-index.index c.term-set.result (to_z w128 c.loop-index.absent-bits) c.product-weight.result c.sorted-more.result.1 c.has.result (omega (arith, c.loop-index-test.true, c.len-index-end.ensures.value)) c.term-set.ensures (simp to_z-of_z at c.loop-index.invariant.absent_is) (simp to_z-of_z at c.product-weight.ensures) c.has.ensures (simp to_z-of_z at c.sorted-more.ensures.absent)) (absent_fits c.args.d c.args.parameter c.args.self.now c.args.poly.now (c.loop-index.index + 1) c.requires.room)

pub loop-index-preserved : goal.loop-index-preserved
loop-index-preserved c =
    let d_fits : SFits w64 c.args.d = c.ranges.d in
    let term_fits : SFits w128 c.term-set.result.1 = search rules in
    let weight_fits : SFits w128 c.product-weight.result = search rules in
    let more_fits : SFits w128 c.sorted-more.result.0 = search rules in
    let other_fits : SFits w128 c.sorted-more.result.1 = search rules in
    record {
      present_is = rw (to_z-of_z more_fits, present c.args.d c.args.parameter c.args.self.now c.args.poly.now c.loop-index.index c.term-set.result (to_z w128 c.loop-index.present-bits) c.product-weight.result c.sorted-more.result.0 c.has.result (omega (arith, c.loop-index-test.true, c.len-index-end.ensures.value)) c.term-set.ensures (simp to_z-of_z at c.loop-index.invariant.present_is) (simp to_z-of_z at c.product-weight.ensures) c.has.ensures (simp to_z-of_z at c.sorted-more.ensures.present), to_z-of_z (present_fits c.args.d c.args.parameter c.args.self.now c.args.poly.now (c.loop-index.index + 1) c.requires.room), to_z-of_z d_fits) refl;
      absent_is = rw (to_z-of_z other_fits, absent c.args.d c.args.parameter c.args.self.now c.args.poly.now c.loop-index.index c.term-set.result (to_z w128 c.loop-index.absent-bits) c.product-weight.result c.sorted-more.result.1 c.has.result (omega (arith, c.loop-index-test.true, c.len-index-end.ensures.value)) c.term-set.ensures (simp to_z-of_z at c.loop-index.invariant.absent_is) (simp to_z-of_z at c.product-weight.ensures) c.has.ensures (simp to_z-of_z at c.sorted-more.ensures.absent), to_z-of_z (absent_fits c.args.d c.args.parameter c.args.self.now c.args.poly.now (c.loop-index.index + 1) c.requires.room), to_z-of_z d_fits) refl;
    }
