use Rattle.std.proofs.Common.{◌≡◌, rules, SFits, w64, to_z-of_z}
use Rattle.std.specs.Int.{w128}
use Rattle.view_text.specs.Axes.{quarters}
use Rattle.view_text.proofs.ticks.write_tick.Goals as goal

pub returns-in_err-write_tick_start : goal.returns-in_err-write_tick_start
returns-in_err-write_tick_start g c = c.writes_in_turn.ensures.stopped _ _ _ _ _ _ c.from_residual.ensures.0 c.in_err-write_tick_start.ensures

pub returns-in_err-write_decimal : goal.returns-in_err-write_decimal
returns-in_err-write_decimal g c =
    let low : SFits w64 c.args.span.low = search rules in
    let high : SFits w64 c.args.span.high = search rules in
    let num : SFits w128 c.quarters-num.result = search rules in
    let value : c.quarters-num.result ≡ quarters (c.args.span.low, c.args.span.high) c.args.n = simp to_z-of_z at c.quarters-num.ensures.value in
    c.writes_in_turn.ensures.both _ _ _ _ _ _ c.in_ok-write_tick_start.ensures (c.writes_in_turn.ensures.stopped _ _ _ _ _ _ c.from_residual-in_err-write_decimal.ensures.0 (rw (value, c.from.ensures) at (simp to_z-of_z at c.in_err-write_decimal.ensures)))

pub returns : goal.returns
returns g c =
    let low : SFits w64 c.args.span.low = search rules in
    let high : SFits w64 c.args.span.high = search rules in
    let num : SFits w128 c.quarters-num.result = search rules in
    let value : c.quarters-num.result ≡ quarters (c.args.span.low, c.args.span.high) c.args.n = simp to_z-of_z at c.quarters-num.ensures.value in
    c.writes_in_turn.ensures.both _ _ _ _ _ _ c.in_ok-write_tick_start.ensures (c.writes_in_turn.ensures.both _ _ _ _ _ _ (rw (value, c.from.ensures) at (simp to_z-of_z at c.in_ok-write_decimal.ensures)) c.write_all.ensures.wrote)
