use Rattle.std.proofs.Common.{◌≡◌, append-nil, rules, SFits, w64, to_z-of_z}
use Rattle.std.specs.Int.{w128}
use Rattle.view_text.proofs.fraction.write_fraction.Goals as goal

pub returns-in_err-write_words : goal.returns-in_err-write_words
returns-in_err-write_words g c =
    let fits : SFits w64 c.args.num = search rules in
    let wide : SFits w128 c.from.result = search rules in
    let same : c.from.result ≡ c.args.num = simp to_z-of_z at c.from.ensures in
    c.writes_in_turn.ensures.stopped _ _ _ _ _ _ c.from_residual.ensures.0 (rw same at (simp to_z-of_z at (rw (append-nil, c.sign_text.ensures, c.lowest-above.ensures.num, c.unsigned_abs.ensures.value) at c.in_err-write_words.ensures)))

pub returns : goal.returns
returns g c =
    let fits : SFits w64 c.args.num = search rules in
    let wide : SFits w128 c.from.result = search rules in
    let same : c.from.result ≡ c.args.num = simp to_z-of_z at c.from.ensures in
    c.writes_in_turn.ensures.both _ _ _ _ _ _ (rw same at (simp to_z-of_z at (rw (append-nil, c.sign_text.ensures, c.lowest-above.ensures.num, c.unsigned_abs.ensures.value) at c.in_ok-write_words.ensures))) (simp to_z-of_z at (rw (c.lowest-above.ensures.den, c.unsigned_abs.ensures.value) at c.write_divisor.ensures))
