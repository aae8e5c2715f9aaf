use Rattle.std.proofs.Common.{rules, SFits, w64, to_z-of_z}
use Rattle.view_text.proofs.summary.write_interval.Goals as goal

pub returns-in_err-write_all : goal.returns-in_err-write_all
returns-in_err-write_all g c = c.writes_in_turn.ensures.stopped _ _ _ _ _ _ c.from_residual.ensures.0 c.in_err-write_all.ensures.wrote

pub returns-in_err-write_all-2 : goal.returns-in_err-write_all-2
returns-in_err-write_all-2 g c = c.writes_in_turn.ensures.both _ _ _ _ _ _ c.in_ok-write_all.ensures.wrote (c.writes_in_turn.ensures.stopped _ _ _ _ _ _ c.from_residual-in_err-write_all-2.ensures.0 (rw c.parameter_name.ensures at c.in_err-write_all-2.ensures.wrote))

pub returns-in_err-write_all-3 : goal.returns-in_err-write_all-3
returns-in_err-write_all-3 g c = c.writes_in_turn.ensures.both _ _ _ _ _ _ c.in_ok-write_all.ensures.wrote (c.writes_in_turn.ensures.both _ _ _ _ _ _ (rw c.parameter_name.ensures at c.in_ok-write_all-2.ensures.wrote) (c.writes_in_turn.ensures.stopped _ _ _ _ _ _ c.from_residual-in_err-write_all-3.ensures.0 c.in_err-write_all-3.ensures.wrote))

pub returns-in_err-write_end : goal.returns-in_err-write_end
returns-in_err-write_end g c =
    let low : SFits w64 c.span-low.result.0 = search rules in
    let high : SFits w64 c.span-low.result.1 = search rules in
    c.writes_in_turn.ensures.both _ _ _ _ _ _ c.in_ok-write_all.ensures.wrote (c.writes_in_turn.ensures.both _ _ _ _ _ _ (rw c.parameter_name.ensures at c.in_ok-write_all-2.ensures.wrote) (c.writes_in_turn.ensures.both _ _ _ _ _ _ c.in_ok-write_all-3.ensures.wrote (c.writes_in_turn.ensures.stopped _ _ _ _ _ _ c.from_residual-in_err-write_end.ensures.0 (rw c.span-low.ensures at (simp to_z-of_z at c.in_err-write_end.ensures)))))

pub returns-in_err-write_all-4 : goal.returns-in_err-write_all-4
returns-in_err-write_all-4 g c =
    let low : SFits w64 c.span-low.result.0 = search rules in
    let high : SFits w64 c.span-low.result.1 = search rules in
    c.writes_in_turn.ensures.both _ _ _ _ _ _ c.in_ok-write_all.ensures.wrote (c.writes_in_turn.ensures.both _ _ _ _ _ _ (rw c.parameter_name.ensures at c.in_ok-write_all-2.ensures.wrote) (c.writes_in_turn.ensures.both _ _ _ _ _ _ c.in_ok-write_all-3.ensures.wrote (c.writes_in_turn.ensures.both _ _ _ _ _ _ (rw c.span-low.ensures at (simp to_z-of_z at c.in_ok-write_end.ensures)) (c.writes_in_turn.ensures.stopped _ _ _ _ _ _ c.from_residual-in_err-write_all-4.ensures.0 c.in_err-write_all-4.ensures.wrote))))

pub returns : goal.returns
returns g c =
    let low : SFits w64 c.span-low.result.0 = search rules in
    let high : SFits w64 c.span-low.result.1 = search rules in
    c.writes_in_turn.ensures.both _ _ _ _ _ _ c.in_ok-write_all.ensures.wrote (c.writes_in_turn.ensures.both _ _ _ _ _ _ (rw c.parameter_name.ensures at c.in_ok-write_all-2.ensures.wrote) (c.writes_in_turn.ensures.both _ _ _ _ _ _ c.in_ok-write_all-3.ensures.wrote (c.writes_in_turn.ensures.both _ _ _ _ _ _ (rw c.span-low.ensures at (simp to_z-of_z at c.in_ok-write_end.ensures)) (c.writes_in_turn.ensures.both _ _ _ _ _ _ c.in_ok-write_all-4.ensures.wrote (rw c.span-low.ensures at (simp to_z-of_z at c.write_end-2.ensures))))))
