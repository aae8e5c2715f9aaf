use Rattle.std.proofs.Common.{◌≡◌, ◌-◌, ℕ, ap, ◌∙◌, arith}
use Rattle.view_text.specs.Summary.{interval_texts_from}
use Rattle.view_text.proofs.Counting.{intervals_next, intervals_end}
use Rattle.view_text.proofs.summary.write_intervals.Goals as goal

pub returns-in_err-write_interval : goal.returns-in_err-write_interval
returns-in_err-write_interval g c = c.writes_in_turn.ensures.stops _ _ _ _ _ _ _ _ _ c.from_residual.ensures.0 c.loop-parameter.invariant (intervals_next c.args.head.now c.args.part.now c.loop-parameter.parameter _ c.loop-parameter-test.true) c.in_err-write_interval.ensures

pub loop-parameter-preserved : goal.loop-parameter-preserved
loop-parameter-preserved g c = c.writes_in_turn.ensures.next _ _ _ _ _ _ _ c.loop-parameter.invariant (intervals_next c.args.head.now c.args.part.now c.loop-parameter.parameter _ c.loop-parameter-test.true) c.in_ok-write_interval.ensures

pub returns : goal.returns
returns g c =
    let n = c.len-parameter-end.result in
    let end : c.loop-parameter.parameter ≡ n = omega arith in
    let none = ap (λ (i : ℕ). interval_texts_from c.args.head.now c.args.part.now i (n - i)) end ∙ intervals_end c.args.head.now c.args.part.now n in
    c.writes_in_turn.ensures.ends _ _ _ (rw none at c.loop-parameter.invariant)
