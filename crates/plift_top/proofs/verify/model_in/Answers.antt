use Rattle.std.proofs.Common.{rules, IfErr}
use Rattle.plift_words.specs.Given.{verify_data}
use Rattle.plift_top.specs.Asked.{verified_model}
use Rattle.plift_top.proofs.Asked.{faulty, no_model, model_as_read, model_cut, no_safe_states}
use Rattle.plift_top.proofs.Errors.{at_error}
use Rattle.plift_top.specs.Steps.{IsTextFault}
use Rattle.plift_top.proofs.verify.model_in.Goals as goal

pub returns-in_err-model-clause-cause : goal.returns-in_err-model-clause-cause
returns-in_err-model-clause-cause c =
    faulty (verified_model (verify_data c.args.job.now) c.args.text.now) c.in_err-model.field-0.0 c.from_residual.result c.from_residual.ensures.1
    (λ other. no_model (verify_data c.args.job.now) c.args.text.now (search rules) c.in_err-model.field-0.0 (c.in_err-model.ensures other))

pub returns-in_default-clause-model : goal.returns-in_default-clause-model
returns-in_default-clause-model c = model_as_read (verify_data c.args.job.now) c.args.text.now (search rules) c.in_ok-model.model c.in_ok-model.ensures (search rules)

pub returns-in_err-safe-clause-cause : goal.returns-in_err-safe-clause-cause
returns-in_err-safe-clause-cause c =
    at_error (λ r. IfErr r (IsTextFault (verified_model (verify_data c.args.job.now) c.args.text.now))) c.in_err-safe.field-0.0 c.from_residual-in_err-safe.result c.from_residual-in_err-safe.ensures.1
    (no_safe_states (verify_data c.args.job.now) c.args.text.now (search rules) c.in_ok-model.model c.in_ok-model.ensures c.in-Some.label.now (search rules) c.in_err-safe.field-0.0 c.in_err-safe.ensures.cause)

pub returns-clause-model : goal.returns-clause-model
returns-clause-model c =
    model_cut (verify_data c.args.job.now) c.args.text.now (search rules) c.in_ok-model.model c.in_ok-model.ensures c.in-Some.label.now (search rules) c.in_ok-safe.safe.items c.in_ok-safe.ensures.states
    c.in_ok-after.after (rw c.deref.ensures.value at c.in_ok-after.ensures.model)
