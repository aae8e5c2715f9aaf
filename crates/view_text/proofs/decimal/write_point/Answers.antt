use Rattle.std.proofs.Common.{rules, SFits, to_z-of_z}
use Rattle.std.specs.Int.{w128}
use Rattle.view_text.proofs.decimal.write_point.Goals as goal

pub returns-in_err-write_words : goal.returns-in_err-write_words
returns-in_err-write_words g c =
    let fits : SFits w128 c.whole.result = search rules in
    c.writes_in_turn.ensures.stopped _ _ _ _ _ _ c.from_residual.ensures.0 (rw c.whole.ensures at (simp to_z-of_z at c.in_err-write_words.ensures))

pub returns : goal.returns
returns g c =
    let fits : SFits w128 c.whole.result = search rules in
    c.writes_in_turn.ensures.both _ _ _ _ _ _ (rw c.whole.ensures at (simp to_z-of_z at c.in_ok-write_words.ensures)) c.write_places.ensures
