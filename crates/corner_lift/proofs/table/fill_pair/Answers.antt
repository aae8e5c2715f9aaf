use Rattle.std.proofs.Common.{rules, ◌≡◌, ◌*◌, ◌^◌, ◌<◌, ◌+ℤ◌, ◌*ℤ◌, ℕ, ℤ, pos, List, length, drop, slice_index_or, to_z, of_z, to_z-of_z, SFits, w64, sym, ap, ap₂, ◌∙◌, arith}
use mir.Syntax.{w128}
use Rattle.lift_poly.specs.Arithmetic as polynomial
use Rattle.lift_model.specs.declared.entry.Entry.{Entry}
use Rattle.corner_lift.specs.Case.{abs_sum, engine_limit}
use Rattle.corner_lift.specs.Ends.{End, weight_at, greatest_end, present_part, absent_part}
use Rattle.corner_lift.proofs.Gathering.{grid_size}
use Rattle.corner_lift.proofs.Summing.{entry_size, entry_room}
use Rattle.corner_lift.proofs.Parting.{parts_size, parts_join, end_room, rest_room, written_more}
use Rattle.corner_lift.proofs.table.fill_pair.Goals as goal

pub parts-present-requires-clause-room : goal.parts-present-requires-clause-room
parts-present-requires-clause-room c =
    let d_fits : SFits w64 c.grid-d.result.d = search rules in
    let d_is : to_z w64 (of_z w64 c.grid-d.result.d) ≡ c.args.case.now.d = to_z-of_z d_fits ∙ c.grid-d.ensures.d in
    let rest_is : c.rest-rest.result ≡ c.requires.pair.rest = c.rest-rest.ensures ∙ ap (drop 1) c.requires.pair.low_is in
    let one = entry_size c.entries-entry-items.result.now c.loop-entry.entry-index c.entry-item.result c.loop-entry-test.true c.entry-item.is in
    let room : abs_sum c.entries-entry-items.result.now *
    (greatest_end c.args.case.now.d c.args.pair.now.low ^ length c.args.pair.now.low * 2 ^ c.args.case.now.w) < engine_limit =
    rw c.entries-entry-items.ensures c.requires.low_room in
    let narrow = rw c.requires.pair.low_is at (entry_room _ _ _ c.args.case.now.w one room) in
    rw (d_is, rest_is, c.deref.ensures) (rest_room c.args.case.now.d c.requires.pair.parameter c.requires.pair.ends.0 c.requires.pair.rest (polynomial.abs_sum c.entry-item.result.poly) c.grid-d.ensures.case.asked.grid.positive narrow)

pub joined-requires-clause-present : goal.joined-requires-clause-present
joined-requires-clause-present c =
    let d_fits : SFits w64 c.grid-d.result.d = search rules in
    let d_is : to_z w64 (of_z w64 c.grid-d.result.d) ≡ c.args.case.now.d = to_z-of_z d_fits ∙ c.grid-d.ensures.d in
    let rest_is : c.rest-rest.result ≡ c.requires.pair.rest = c.rest-rest.ensures ∙ ap (drop 1) c.requires.pair.low_is in
    let one = entry_size c.entries-entry-items.result.now c.loop-entry.entry-index c.entry-item.result c.loop-entry-test.true c.entry-item.is in
    let room : abs_sum c.entries-entry-items.result.now *
    (greatest_end c.args.case.now.d c.args.pair.now.low ^ length c.args.pair.now.low * 2 ^ c.args.case.now.w) < engine_limit =
    rw c.entries-entry-items.ensures c.requires.low_room in
    let narrow = rw c.requires.pair.low_is at (entry_room _ _ _ c.args.case.now.w one room) in
    let end_fits : SFits w64 c.first-parameter.result.1 = search rules in
    let end_is : to_z w64 (of_z w64 c.first-parameter.result.1) ≡ c.requires.pair.ends.0 = to_z-of_z end_fits ∙ ap (λ (end : End). end.1) (c.first-parameter.ensures.value ∙ ap (λ (ends : List End). slice_index_or ends 0 (0, pos 0)) c.requires.pair.low_is) in
    let present_fits : SFits w128 c.parts-present.result.0 = search rules in
    let absent_fits : SFits w128 c.parts-present.result.1 = search rules in
    let present_is = (rw c.deref.ensures at c.parts-present.ensures.present) ∙ ap₂ (λ (d : ℤ) (rest : List End). present_part d c.first-parameter.result.0 rest c.entry-item.result.poly) d_is rest_is in
    let absent_is = (rw c.deref.ensures at c.parts-present.ensures.absent) ∙ ap₂ (λ (d : ℤ) (rest : List End). absent_part d c.first-parameter.result.0 rest c.entry-item.result.poly) d_is rest_is in
    let sizes = parts_size c.args.case.now.d c.first-parameter.result.0 c.requires.pair.rest c.entry-item.result.poly in
    rw (to_z-of_z present_fits, end_is) (end_room c.args.case.now.d c.requires.pair.parameter c.requires.pair.ends.0 c.requires.pair.rest (polynomial.abs_sum c.entry-item.result.poly) c.parts-present.result.0 c.requires.pair.ends.0 narrow (rw present_is (omega (arith, sizes))) (omega arith))

pub joined-requires-clause-absent : goal.joined-requires-clause-absent
joined-requires-clause-absent c =
    let d_fits : SFits w64 c.grid-d.result.d = search rules in
    let d_is : to_z w64 (of_z w64 c.grid-d.result.d) ≡ c.args.case.now.d = to_z-of_z d_fits ∙ c.grid-d.ensures.d in
    let rest_is : c.rest-rest.result ≡ c.requires.pair.rest = c.rest-rest.ensures ∙ ap (drop 1) c.requires.pair.low_is in
    let one = entry_size c.entries-entry-items.result.now c.loop-entry.entry-index c.entry-item.result c.loop-entry-test.true c.entry-item.is in
    let room : abs_sum c.entries-entry-items.result.now *
    (greatest_end c.args.case.now.d c.args.pair.now.low ^ length c.args.pair.now.low * 2 ^ c.args.case.now.w) < engine_limit =
    rw c.entries-entry-items.ensures c.requires.low_room in
    let narrow = rw c.requires.pair.low_is at (entry_room _ _ _ c.args.case.now.w one room) in
    let end_fits : SFits w64 c.first-parameter.result.1 = search rules in
    let end_is : to_z w64 (of_z w64 c.first-parameter.result.1) ≡ c.requires.pair.ends.0 = to_z-of_z end_fits ∙ ap (λ (end : End). end.1) (c.first-parameter.ensures.value ∙ ap (λ (ends : List End). slice_index_or ends 0 (0, pos 0)) c.requires.pair.low_is) in
    let present_fits : SFits w128 c.parts-present.result.0 = search rules in
    let absent_fits : SFits w128 c.parts-present.result.1 = search rules in
    let present_is = (rw c.deref.ensures at c.parts-present.ensures.present) ∙ ap₂ (λ (d : ℤ) (rest : List End). present_part d c.first-parameter.result.0 rest c.entry-item.result.poly) d_is rest_is in
    let absent_is = (rw c.deref.ensures at c.parts-present.ensures.absent) ∙ ap₂ (λ (d : ℤ) (rest : List End). absent_part d c.first-parameter.result.0 rest c.entry-item.result.poly) d_is rest_is in
    let sizes = parts_size c.args.case.now.d c.first-parameter.result.0 c.requires.pair.rest c.entry-item.result.poly in
    rw (to_z-of_z absent_fits, d_is) (end_room c.args.case.now.d c.requires.pair.parameter c.requires.pair.ends.0 c.requires.pair.rest (polynomial.abs_sum c.entry-item.result.poly) c.parts-present.result.1 c.args.case.now.d narrow (rw absent_is (omega (arith, sizes))) (omega (arith, grid_size c.args.case.now.d c.requires.pair.rest)))

pub joined-requires-in-loop-entry-clause-present : goal.joined-requires-in-loop-entry-clause-present
joined-requires-in-loop-entry-clause-present c =
    let d_fits : SFits w64 c.grid-d.result.d = search rules in
    let d_is : to_z w64 (of_z w64 c.grid-d.result.d) ≡ c.args.case.now.d = to_z-of_z d_fits ∙ c.grid-d.ensures.d in
    let rest_is : c.rest-rest.result ≡ c.requires.pair.rest = c.rest-rest.ensures ∙ ap (drop 1) c.requires.pair.low_is in
    let one = entry_size c.entries-entry-items.result.now c.loop-entry.entry-index c.entry-item.result c.loop-entry-test.true c.entry-item.is in
    let room : abs_sum c.entries-entry-items.result.now *
    (greatest_end c.args.case.now.d c.args.pair.now.high ^ length c.args.pair.now.high * 2 ^ c.args.case.now.w) < engine_limit =
    rw c.entries-entry-items.ensures c.requires.high_room in
    let narrow = rw c.requires.pair.high_is at (entry_room _ _ _ c.args.case.now.w one room) in
    let end_fits : SFits w64 c.first-high_end.result.1 = search rules in
    let end_is : to_z w64 (of_z w64 c.first-high_end.result.1) ≡ c.requires.pair.ends.1 = to_z-of_z end_fits ∙ ap (λ (end : End). end.1) (c.first-high_end.ensures.value ∙ ap (λ (ends : List End). slice_index_or ends 0 (0, pos 0)) c.requires.pair.high_is) in
    let present_fits : SFits w128 c.parts-present.result.0 = search rules in
    let absent_fits : SFits w128 c.parts-present.result.1 = search rules in
    let present_is = (rw c.deref.ensures at c.parts-present.ensures.present) ∙ ap₂ (λ (d : ℤ) (rest : List End). present_part d c.first-parameter.result.0 rest c.entry-item.result.poly) d_is rest_is in
    let absent_is = (rw c.deref.ensures at c.parts-present.ensures.absent) ∙ ap₂ (λ (d : ℤ) (rest : List End). absent_part d c.first-parameter.result.0 rest c.entry-item.result.poly) d_is rest_is in
    let sizes = parts_size c.args.case.now.d c.first-parameter.result.0 c.requires.pair.rest c.entry-item.result.poly in
    rw (to_z-of_z present_fits, end_is) (end_room c.args.case.now.d c.requires.pair.parameter c.requires.pair.ends.1 c.requires.pair.rest (polynomial.abs_sum c.entry-item.result.poly) c.parts-present.result.0 c.requires.pair.ends.1 narrow (rw present_is (omega (arith, sizes))) (omega arith))

pub joined-requires-in-loop-entry-clause-absent : goal.joined-requires-in-loop-entry-clause-absent
joined-requires-in-loop-entry-clause-absent c =
    let d_fits : SFits w64 c.grid-d.result.d = search rules in
    let d_is : to_z w64 (of_z w64 c.grid-d.result.d) ≡ c.args.case.now.d = to_z-of_z d_fits ∙ c.grid-d.ensures.d in
    let rest_is : c.rest-rest.result ≡ c.requires.pair.rest = c.rest-rest.ensures ∙ ap (drop 1) c.requires.pair.low_is in
    let one = entry_size c.entries-entry-items.result.now c.loop-entry.entry-index c.entry-item.result c.loop-entry-test.true c.entry-item.is in
    let room : abs_sum c.entries-entry-items.result.now *
    (greatest_end c.args.case.now.d c.args.pair.now.high ^ length c.args.pair.now.high * 2 ^ c.args.case.now.w) < engine_limit =
    rw c.entries-entry-items.ensures c.requires.high_room in
    let narrow = rw c.requires.pair.high_is at (entry_room _ _ _ c.args.case.now.w one room) in
    let end_fits : SFits w64 c.first-high_end.result.1 = search rules in
    let end_is : to_z w64 (of_z w64 c.first-high_end.result.1) ≡ c.requires.pair.ends.1 = to_z-of_z end_fits ∙ ap (λ (end : End). end.1) (c.first-high_end.ensures.value ∙ ap (λ (ends : List End). slice_index_or ends 0 (0, pos 0)) c.requires.pair.high_is) in
    let present_fits : SFits w128 c.parts-present.result.0 = search rules in
    let absent_fits : SFits w128 c.parts-present.result.1 = search rules in
    let present_is = (rw c.deref.ensures at c.parts-present.ensures.present) ∙ ap₂ (λ (d : ℤ) (rest : List End). present_part d c.first-parameter.result.0 rest c.entry-item.result.poly) d_is rest_is in
    let absent_is = (rw c.deref.ensures at c.parts-present.ensures.absent) ∙ ap₂ (λ (d : ℤ) (rest : List End). absent_part d c.first-parameter.result.0 rest c.entry-item.result.poly) d_is rest_is in
    let sizes = parts_size c.args.case.now.d c.first-parameter.result.0 c.requires.pair.rest c.entry-item.result.poly in
    rw (to_z-of_z absent_fits, d_is) (end_room c.args.case.now.d c.requires.pair.parameter c.requires.pair.ends.1 c.requires.pair.rest (polynomial.abs_sum c.entry-item.result.poly) c.parts-present.result.1 c.args.case.now.d narrow (rw absent_is (omega (arith, sizes))) (omega (arith, grid_size c.args.case.now.d c.requires.pair.rest)))

pub loop-entry-preserved : goal.loop-entry-preserved
loop-entry-preserved c =
    let d_fits : SFits w64 c.grid-d.result.d = search rules in
    let d_is : to_z w64 (of_z w64 c.grid-d.result.d) ≡ c.args.case.now.d = to_z-of_z d_fits ∙ c.grid-d.ensures.d in
    let rest_is : c.rest-rest.result ≡ c.requires.pair.rest = c.rest-rest.ensures ∙ ap (drop 1) c.requires.pair.low_is in
    let parameter_is = ap (λ (end : End). end.0) (c.first-parameter.ensures.value ∙ ap (λ (ends : List End). slice_index_or ends 0 (0, pos 0)) c.requires.pair.low_is) in
    let low_fits : SFits w64 c.first-parameter.result.1 = search rules in
    let low_is : to_z w64 (of_z w64 c.first-parameter.result.1) ≡ c.requires.pair.ends.0 = to_z-of_z low_fits ∙ ap (λ (end : End). end.1) (c.first-parameter.ensures.value ∙ ap (λ (ends : List End). slice_index_or ends 0 (0, pos 0)) c.requires.pair.low_is) in
    let high_fits : SFits w64 c.first-high_end.result.1 = search rules in
    let high_is : to_z w64 (of_z w64 c.first-high_end.result.1) ≡ c.requires.pair.ends.1 = to_z-of_z high_fits ∙ ap (λ (end : End). end.1) (c.first-high_end.ensures.value ∙ ap (λ (ends : List End). slice_index_or ends 0 (0, pos 0)) c.requires.pair.high_is) in
    let present_fits : SFits w128 c.parts-present.result.0 = search rules in
    let absent_fits : SFits w128 c.parts-present.result.1 = search rules in
    let present_is = (rw c.deref.ensures at c.parts-present.ensures.present) ∙ ap₂ (λ (d : ℤ) (rest : List End). present_part d c.first-parameter.result.0 rest c.entry-item.result.poly) d_is rest_is ∙ ap (λ (p : ℕ). present_part c.args.case.now.d p c.requires.pair.rest c.entry-item.result.poly) parameter_is in
    let absent_is = (rw c.deref.ensures at c.parts-present.ensures.absent) ∙ ap₂ (λ (d : ℤ) (rest : List End). absent_part d c.first-parameter.result.0 rest c.entry-item.result.poly) d_is rest_is ∙ ap (λ (p : ℕ). absent_part c.args.case.now.d p c.requires.pair.rest c.entry-item.result.poly) parameter_is in
    let written_fits : SFits w128 c.joined.result = search rules in
    let other_fits : SFits w128 c.joined-in-loop-entry.result = search rules in
    let size : length c.entries-entry-items.result.now ≡ length c.args.row.now = ap (length {A = Entry}) c.entries-entry-items.ensures in
    record {
      at = omega (arith, c.loop-entry.invariant.at);
      low = written_more (λ (entry : Entry). weight_at c.args.case.now.d c.args.pair.now.low entry.poly) c.loop-entry.low_weights
          c.entries-entry-items.result.now c.loop-entry.at c.loop-entry.entry-index _ c.entry-item.result c.loop-entry.invariant.at
          c.loop-entry-test.true (omega (
            arith,
            c.loop-entry-test.true,
            c.loop-entry.invariant.at,
            size,
            c.requires.low_space,
            c.loop-entry.auto.low_weights,
          )) c.entry-item.is
          (to_z-of_z written_fits ∙ c.joined.ensures ∙ ap₂ ◌+ℤ◌ (ap₂ ◌*ℤ◌ (to_z-of_z present_fits ∙ present_is) low_is)
          (ap₂ ◌*ℤ◌ (to_z-of_z absent_fits ∙ absent_is) d_is) ∙ sym
          (parts_join c.args.case.now.d c.requires.pair.ends.0 c.requires.pair.parameter c.requires.pair.rest c.entry-item.result.poly)
          ∙ ap (λ (ends : List End). weight_at c.args.case.now.d ends c.entry-item.result.poly) (sym c.requires.pair.low_is))
          c.loop-entry.invariant.low;
      high = written_more (λ (entry : Entry). weight_at c.args.case.now.d c.args.pair.now.high entry.poly) c.loop-entry.high_weights
          c.entries-entry-items.result.now c.loop-entry.at c.loop-entry.entry-index _ c.entry-item.result c.loop-entry.invariant.at
          c.loop-entry-test.true (omega (
            arith,
            c.loop-entry-test.true,
            c.loop-entry.invariant.at,
            size,
            c.requires.high_space,
            c.loop-entry.auto.high_weights,
          )) c.entry-item.is
          (to_z-of_z other_fits ∙ c.joined-in-loop-entry.ensures ∙ ap₂ ◌+ℤ◌ (ap₂ ◌*ℤ◌ (to_z-of_z present_fits ∙ present_is) high_is)
          (ap₂ ◌*ℤ◌ (to_z-of_z absent_fits ∙ absent_is) d_is) ∙ sym
          (parts_join c.args.case.now.d c.requires.pair.ends.1 c.requires.pair.parameter c.requires.pair.rest c.entry-item.result.poly)
          ∙ ap (λ (ends : List End). weight_at c.args.case.now.d ends c.entry-item.result.poly) (sym c.requires.pair.high_is))
          c.loop-entry.invariant.high;
    }
