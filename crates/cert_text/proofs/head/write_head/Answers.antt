use Rattle.std.proofs.Common.{refl}
use Rattle.cert_text.proofs.Lines.{head_parts}
use Rattle.cert_text.proofs.head.write_head.Goals as goal

pub returns-in_err-write_version : goal.returns-in_err-write_version
returns-in_err-write_version g c =
    rw (head_parts c.args.case.now c.args.from c.args.bound c.args.case.now.model refl)
    (c.writes_in_turn.ensures.stopped _ _ _ _ _ _ c.from_residual.ensures.0 c.in_err-write_version.ensures)

pub returns-in_err-write_model : goal.returns-in_err-write_model
returns-in_err-write_model g c =
    rw (head_parts c.args.case.now c.args.from c.args.bound c.model.result.now c.model.ensures.value)
    (c.writes_in_turn.ensures.both _ _ _ _ _ _ c.in_ok-write_version.ensures (c.writes_in_turn.ensures.stopped _ _ _ _ _ _ c.from_residual-in_err-write_model.ensures.0 c.in_err-write_model.ensures))

pub returns-in_err-write_asked : goal.returns-in_err-write_asked
returns-in_err-write_asked g c =
    rw (head_parts c.args.case.now c.args.from c.args.bound c.model.result.now c.model.ensures.value)
    (c.writes_in_turn.ensures.both _ _ _ _ _ _ c.in_ok-write_version.ensures (c.writes_in_turn.ensures.both _ _ _ _ _ _ c.in_ok-write_model.ensures (c.writes_in_turn.ensures.stopped _ _ _ _ _ _ c.from_residual-in_err-write_asked.ensures.0 c.in_err-write_asked.ensures)))

pub returns-in_err-write_from : goal.returns-in_err-write_from
returns-in_err-write_from g c =
    rw (head_parts c.args.case.now c.args.from c.args.bound c.model.result.now c.model.ensures.value)
    (c.writes_in_turn.ensures.both _ _ _ _ _ _ c.in_ok-write_version.ensures (c.writes_in_turn.ensures.both _ _ _ _ _ _ c.in_ok-write_model.ensures (c.writes_in_turn.ensures.both _ _ _ _ _ _ c.in_ok-write_asked.ensures (c.writes_in_turn.ensures.stopped _ _ _ _ _ _ c.from_residual-in_err-write_from.ensures.0 c.in_err-write_from.ensures))))

pub returns : goal.returns
returns g c =
    rw (head_parts c.args.case.now c.args.from c.args.bound c.model.result.now c.model.ensures.value)
    (c.writes_in_turn.ensures.both _ _ _ _ _ _ c.in_ok-write_version.ensures (c.writes_in_turn.ensures.both _ _ _ _ _ _ c.in_ok-write_model.ensures (c.writes_in_turn.ensures.both _ _ _ _ _ _ c.in_ok-write_asked.ensures (c.writes_in_turn.ensures.both _ _ _ _ _ _ c.in_ok-write_from.ensures c.write_region.ensures))))
