use Rattle.std.proofs.Common.{sym, ◌∙◌, arith, rules}
use Rattle.lift_grid.proofs.Sides.{sides-of_spans}
use Rattle.lift_grid.proofs.Spans.{kept_more, divides_at, spans_over-wide, spans_over-all}
use Rattle.lift_grid.proofs.region.spans_over.Goals as goal

pub returns-in_err-ends : goal.returns-in_err-ends
returns-in_err-ends c =
    let wide = spans_over-wide c.args.d c.args.depth c.args.intervals.now c.loop-interval.interval-index c.interval-item.result (omega arith) c.interval-item.is (sym c.in_err-ends.ensures.ok_part ∙ c.span_over.ensures) in
    rw wide (search rules)

pub loop-interval-preserved : goal.loop-interval-preserved
loop-interval-preserved c =
    let divides = divides_at c.args.d c.args.intervals.now c.loop-interval.interval-index c.interval-item.result c.requires.divides (omega arith) c.interval-item.is in
    rw c.in_ok-extend_from_slice.ensures.items
    (kept_more c.args.d c.args.depth c.loop-interval.sides.items c.in_ok-ends.ends c.args.intervals.now c.loop-interval.interval-index c.interval-item.result (omega arith) c.interval-item.is c.requires.positive divides c.loop-interval.invariant (sym c.in_ok-ends.ensures.ok_part ∙ c.span_over.ensures))

pub new-requires : goal.new-requires
new-requires c = rw c.loop-interval.invariant.ends (sides-of_spans _ c.loop-interval.invariant.spans)

pub returns : goal.returns
returns c =
    spans_over-all c.args.d c.args.depth c.loop-interval.sides.items c.args.intervals.now c.loop-interval.interval-index c.new.result (omega arith) c.loop-interval.invariant c.new.ensures
