use Rattle.plift_top.proofs.Asked.{no_states, states_of, faulty}
use Rattle.plift_top.specs.Asked.{safe_in}
use Rattle.std.proofs.Common.{Some}
use Rattle.plift_top.proofs.verify.states_with.Goals as goal

pub returns-in_err-model-clause-cause : goal.returns-in_err-model-clause-cause
returns-in_err-model-clause-cause c =
    faulty (safe_in c.args.text.now (Some c.args.label.now)) c.in_err-model.field-0.0 c.from_residual.result c.from_residual.ensures.1
    (λ other. no_states c.args.text.now c.args.label.now c.in_err-model.field-0.0 (c.in_err-model.ensures other))

pub returns-clause-states : goal.returns-clause-states
returns-clause-states c = states_of c.args.text.now c.args.label.now c.in_ok-model.model c.in_ok-states.states.items c.in_ok-model.ensures c.in_ok-states.ensures
