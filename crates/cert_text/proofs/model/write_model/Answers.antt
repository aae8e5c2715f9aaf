use Rattle.std.proofs.Common.{refl}
use Rattle.cert_text.proofs.Lines.{model_parts}
use Rattle.cert_text.proofs.model.write_model.Goals as goal

pub returns-in_err-write_kind : goal.returns-in_err-write_kind
returns-in_err-write_kind g c =
    rw (model_parts c.args.model.now c.kind.result c.args.model.now.names c.kind.ensures refl) (c.writes_in_turn.ensures.stopped _ _ _ _ _ _ c.from_residual.ensures.0 c.in_err-write_kind.ensures)

pub returns-in_err-write_parameters : goal.returns-in_err-write_parameters
returns-in_err-write_parameters g c =
    rw (model_parts c.args.model.now c.kind.result c.names.result.now c.kind.ensures c.names.ensures.value)
    (c.writes_in_turn.ensures.both _ _ _ _ _ _ c.in_ok-write_kind.ensures (c.writes_in_turn.ensures.stopped _ _ _ _ _ _ c.from_residual-in_err-write_parameters.ensures.0 c.in_err-write_parameters.ensures))

pub returns-in_err-write_sizes : goal.returns-in_err-write_sizes
returns-in_err-write_sizes g c =
    rw (model_parts c.args.model.now c.kind.result c.names.result.now c.kind.ensures c.names.ensures.value)
    (c.writes_in_turn.ensures.both _ _ _ _ _ _ c.in_ok-write_kind.ensures (c.writes_in_turn.ensures.both _ _ _ _ _ _ c.in_ok-write_parameters.ensures (c.writes_in_turn.ensures.stopped _ _ _ _ _ _ c.from_residual-in_err-write_sizes.ensures.0 c.in_err-write_sizes.ensures)))

pub returns-in_err-write_goal : goal.returns-in_err-write_goal
returns-in_err-write_goal g c =
    rw (model_parts c.args.model.now c.kind.result c.names.result.now c.kind.ensures c.names.ensures.value)
    (c.writes_in_turn.ensures.both _ _ _ _ _ _ c.in_ok-write_kind.ensures (c.writes_in_turn.ensures.both _ _ _ _ _ _ c.in_ok-write_parameters.ensures (c.writes_in_turn.ensures.both _ _ _ _ _ _ c.in_ok-write_sizes.ensures (c.writes_in_turn.ensures.stopped _ _ _ _ _ _ c.from_residual-in_err-write_goal.ensures.0 c.in_err-write_goal.ensures))))

pub returns : goal.returns
returns g c =
    rw (model_parts c.args.model.now c.kind.result c.names.result.now c.kind.ensures c.names.ensures.value)
    (c.writes_in_turn.ensures.both _ _ _ _ _ _ c.in_ok-write_kind.ensures (c.writes_in_turn.ensures.both _ _ _ _ _ _ c.in_ok-write_parameters.ensures (c.writes_in_turn.ensures.both _ _ _ _ _ _ c.in_ok-write_sizes.ensures (c.writes_in_turn.ensures.both _ _ _ _ _ _ c.in_ok-write_goal.ensures c.write_rows.ensures))))
