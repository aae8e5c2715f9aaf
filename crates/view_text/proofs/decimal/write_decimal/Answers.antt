use Rattle.std.proofs.Common.{rules, SFits, to_z-of_z}
use Rattle.std.specs.Int.{w128}
use Rattle.view_text.proofs.decimal.write_decimal.Goals as goal

pub returns-in_err-write_all : goal.returns-in_err-write_all
returns-in_err-write_all g c =
    let fits : SFits w128 c.args.num = search rules in
    c.writes_in_turn.ensures.stopped _ _ _ _ _ _ c.from_residual.ensures.0 (simp to_z-of_z at (rw c.sign_text.ensures at c.in_err-write_all.ensures.wrote))

pub returns : goal.returns
returns g c =
    let fits : SFits w128 c.args.num = search rules in
    c.writes_in_turn.ensures.both _ _ _ _ _ _ (simp to_z-of_z at (rw c.sign_text.ensures at c.in_ok-write_all.ensures.wrote)) (simp to_z-of_z at (rw (c.rounded.ensures.value, c.unsigned_abs.ensures.value) at c.write_point.ensures))
