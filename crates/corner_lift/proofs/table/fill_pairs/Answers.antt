use Rattle.std.proofs.Common.{◌≡◌, ◌<◌, ◌≤◌, ◌+◌, ◌*◌, ◌/◌, ◌^◌, ◌++◌, length, take, count_ones, ap, subst, sym, ◌∙◌, arith}
use Rattle.lift_grid.specs.Rectangle.{spans_of}
use Rattle.lift_model.specs.declared.entry.Entry.{Entry}
use Rattle.lift_model.specs.Model.{support}
use Rattle.corner_lift.specs.Corner.{corner, parameter_count}
use Rattle.corner_lift.specs.Ends.{StandFor}
use Rattle.corner_lift.specs.Table.{first_corners}
use Rattle.corner_lift.proofs.Cases.{pairs_of, few_of, room_of, ones_of, parameters_of}
use Rattle.corner_lift.proofs.Gathering.{pair_from}
use Rattle.corner_lift.proofs.Filling.{two_more, pair_space, next_pair, pairs_all}
use Rattle.corner_lift.proofs.table.fill_pairs.Goals as goal

pub corners-pair-end-requires : goal.corners-pair-end-requires
corners-pair-end-requires c = rw (c.support-support.ensures, ones_of c.args.case.now c.args.row.now c.args.sides.now c.requires.case c.requires.sides c.requires.row) (c.requires.row.admitted.few)

pub at-low-requires-clause-pairs : goal.at-low-requires-clause-pairs
at-low-requires-clause-pairs c = rw c.support-support.ensures (pairs_of c.args.case.now c.args.row.now c.args.sides.now c.requires.case c.requires.sides c.requires.row)

pub at-low-requires-clause-few : goal.at-low-requires-clause-few
at-low-requires-clause-few c = rw c.support-support.ensures (few_of c.args.case.now c.args.row.now c.args.sides.now c.requires.case c.requires.sides c.requires.row)

pub fill_pair_at-requires-clause-low_room : goal.fill_pair_at-requires-clause-low_room
fill_pair_at-requires-clause-low_room c =
    room_of c.args.case.now c.args.row.now c.args.sides.now c.requires.case c.requires.sides c.requires.row c.at-low.result (rw c.support-support.ensures at c.at-low.ensures.count) (c.at-low.ensures.sizes c.args.case.now.d)

pub at-high-requires-clause-pairs : goal.at-high-requires-clause-pairs
at-high-requires-clause-pairs c = rw c.support-support.ensures (pairs_of c.args.case.now c.args.row.now c.args.sides.now c.requires.case c.requires.sides c.requires.row)

pub at-high-requires-clause-few : goal.at-high-requires-clause-few
at-high-requires-clause-few c = rw c.support-support.ensures (few_of c.args.case.now c.args.row.now c.args.sides.now c.requires.case c.requires.sides c.requires.row)

pub fill_pair_at-requires-clause-high_room : goal.fill_pair_at-requires-clause-high_room
fill_pair_at-requires-clause-high_room c =
    room_of c.args.case.now c.args.row.now c.args.sides.now c.requires.case c.requires.sides c.requires.row c.at-high.result (rw c.support-support.ensures at c.at-high.ensures.count) (c.at-high.ensures.sizes c.args.case.now.d)

pub fill_pair_at-requires-clause-pair : goal.fill_pair_at-requires-clause-pair
fill_pair_at-requires-clause-pair c =
    let some : 1 ≤ parameter_count (spans_of c.args.sides.now) (support c.args.row.now) = omega (arith, c.requires.some, ones_of c.args.case.now c.args.row.now c.args.sides.now c.requires.case c.requires.sides c.requires.row, parameters_of c.args.case.now c.args.row.now c.args.sides.now c.requires.case c.requires.sides c.requires.row) in
    rw (c.at-low.ensures.chosen, c.at-high.ensures.chosen, c.support-support.ensures) (pair_from 0 (spans_of c.args.sides.now) (support c.args.row.now) c.loop-pair.pair some)

pub fill_pair_at-requires-clause-space : goal.fill_pair_at-requires-clause-space
fill_pair_at-requires-clause-space c =
    let count = c.corners-pair-end.ensures ∙ ap (λ set. 2 ^ count_ones set) c.support-support.ensures in
    let lt : c.loop-pair.pair < 2 ^ count_ones (support c.args.row.now) / 2 = omega (arith, c.loop-pair-test.true, ap (λ n. n / 2) count) in
    omega (arith, pair_space c.loop-pair.at c.args.place (length c.args.row.now) c.loop-pair.pair (2 ^ count_ones (support c.args.row.now)) (length c.args.weights.now) c.loop-pair.invariant.at lt c.requires.space, c.loop-pair.auto.weights)

pub loop-pair-preserved : goal.loop-pair-preserved
loop-pair-preserved c =
    let k = c.args.case.now in
    let spans = spans_of c.args.sides.now in
    let row = c.args.row.now in
    let h = c.loop-pair.invariant in
    let count : length c.entries-count.result.now ≡ length row = ap (length {A = Entry}) c.entries-count.ensures in
    let low = subst (λ set. StandFor k.d c.at-low.result (corner k.d spans set (2 * c.loop-pair.pair)) set) c.support-support.ensures (c.at-low.ensures.stand k.d) in
    let high = subst (λ set. StandFor k.d c.at-high.result (corner k.d spans set (2 * c.loop-pair.pair + 1)) set) c.support-support.ensures (c.at-high.ensures.stand k.d) in
    record {
      at = omega (arith, count, next_pair c.loop-pair.at c.args.place (length row) c.loop-pair.pair h.at);
      filled = two_more k.d spans row c.at-low.result c.at-high.result (take c.args.place c.args.weights.now) c.loop-pair.weights c.fill_pair_at.new.weights c.loop-pair.at _ c.loop-pair.pair (omega (arith, count)) low high h.filled c.fill_pair_at.ensures;
    }

pub returns-clause-end : goal.returns-clause-end
returns-clause-end c =
    let count = c.corners-pair-end.ensures ∙ ap (λ set. 2 ^ count_ones set) c.support-support.ensures in
    let end : c.loop-pair.pair ≡ 2 ^ count_ones (support c.args.row.now) / 2 = omega (arith, c.loop-pair-test.false, c.loop-pair.auto.pair-end, ap (λ n. n / 2) count) in
    c.loop-pair.invariant.at ∙ ap (λ n. c.args.place + length c.args.row.now * n) (pairs_all c.loop-pair.pair (count_ones (support c.args.row.now)) c.requires.some end)

pub returns-clause-filled : goal.returns-clause-filled
returns-clause-filled c =
    let count = c.corners-pair-end.ensures ∙ ap (λ set. 2 ^ count_ones set) c.support-support.ensures in
    let ones = ones_of c.args.case.now c.args.row.now c.args.sides.now c.requires.case c.requires.sides c.requires.row ∙ sym (parameters_of c.args.case.now c.args.row.now c.args.sides.now c.requires.case c.requires.sides c.requires.row) in
    let end : c.loop-pair.pair ≡ 2 ^ count_ones (support c.args.row.now) / 2 = omega (arith, c.loop-pair-test.false, c.loop-pair.auto.pair-end, ap (λ n. n / 2) count) in
    c.loop-pair.invariant.filled ∙ ap (λ n. take c.args.place c.args.weights.now ++ first_corners c.args.case.now.d (spans_of c.args.sides.now) c.args.row.now n) (pairs_all c.loop-pair.pair (count_ones (support c.args.row.now)) c.requires.some end ∙ ap (λ n. 2 ^ n) ones)
