use Rattle.std.proofs.Common.{rules, SFits, w64, to_z-of_z}
use Rattle.view_text.proofs.summary.write_share.Goals as goal

pub returns-in_err-write_all : goal.returns-in_err-write_all
returns-in_err-write_all g c = c.writes_in_turn.ensures.stopped _ _ _ _ _ _ c.from_residual.ensures.0 c.in_err-write_all.ensures.wrote

pub returns-in_err-write_fraction : goal.returns-in_err-write_fraction
returns-in_err-write_fraction g c =
    let fits : SFits w64 c.from.result = search rules in
    c.writes_in_turn.ensures.both _ _ _ _ _ _ c.in_ok-write_all.ensures.wrote (c.writes_in_turn.ensures.stopped _ _ _ _ _ _ c.from_residual-in_err-write_fraction.ensures.0 (rw (c.from.ensures, c.share_of-share.ensures.share) at (simp to_z-of_z at c.in_err-write_fraction.ensures)))

pub returns-in_err-write_percent : goal.returns-in_err-write_percent
returns-in_err-write_percent g c =
    let fits : SFits w64 c.from.result = search rules in
    c.writes_in_turn.ensures.both _ _ _ _ _ _ c.in_ok-write_all.ensures.wrote (c.writes_in_turn.ensures.both _ _ _ _ _ _ (rw (c.from.ensures, c.share_of-share.ensures.share) at (simp to_z-of_z at c.in_ok-write_fraction.ensures)) (c.writes_in_turn.ensures.stopped _ _ _ _ _ _ c.from_residual-in_err-write_percent.ensures.0 (rw c.share_of-share.ensures.share at c.in_err-write_percent.ensures)))

pub returns : goal.returns
returns g c =
    let fits : SFits w64 c.from.result = search rules in
    c.writes_in_turn.ensures.both _ _ _ _ _ _ c.in_ok-write_all.ensures.wrote (c.writes_in_turn.ensures.both _ _ _ _ _ _ (rw (c.from.ensures, c.share_of-share.ensures.share) at (simp to_z-of_z at c.in_ok-write_fraction.ensures)) (c.writes_in_turn.ensures.both _ _ _ _ _ _ (rw c.share_of-share.ensures.share at c.in_ok-write_percent.ensures) c.write_all-2.ensures.wrote))
