use Rattle.std.proofs.Common.{rules, SFits, w64, to_z-of_z}
use Rattle.view_text.proofs.axes.write_ends.Goals as goal

pub returns-in_err-write_all : goal.returns-in_err-write_all
returns-in_err-write_all g c = c.writes_in_turn.ensures.stopped _ _ _ _ _ _ c.from_residual.ensures.0 c.in_err-write_all.ensures.wrote

pub returns-in_err-write_end : goal.returns-in_err-write_end
returns-in_err-write_end g c =
    let low : SFits w64 c.args.low = search rules in
    let high : SFits w64 c.args.high = search rules in
    c.writes_in_turn.ensures.both _ _ _ _ _ _ c.in_ok-write_all.ensures.wrote (c.writes_in_turn.ensures.stopped _ _ _ _ _ _ c.from_residual-in_err-write_end.ensures.0 (simp to_z-of_z at c.in_err-write_end.ensures))

pub returns-in_err-write_all-2 : goal.returns-in_err-write_all-2
returns-in_err-write_all-2 g c =
    let low : SFits w64 c.args.low = search rules in
    let high : SFits w64 c.args.high = search rules in
    c.writes_in_turn.ensures.both _ _ _ _ _ _ c.in_ok-write_all.ensures.wrote (c.writes_in_turn.ensures.both _ _ _ _ _ _ (simp to_z-of_z at c.in_ok-write_end.ensures) (c.writes_in_turn.ensures.stopped _ _ _ _ _ _ c.from_residual-in_err-write_all-2.ensures.0 c.in_err-write_all-2.ensures.wrote))

pub returns : goal.returns
returns g c =
    let low : SFits w64 c.args.low = search rules in
    let high : SFits w64 c.args.high = search rules in
    c.writes_in_turn.ensures.both _ _ _ _ _ _ c.in_ok-write_all.ensures.wrote (c.writes_in_turn.ensures.both _ _ _ _ _ _ (simp to_z-of_z at c.in_ok-write_end.ensures) (c.writes_in_turn.ensures.both _ _ _ _ _ _ c.in_ok-write_all-2.ensures.wrote (simp to_z-of_z at c.write_end-2.ensures)))
