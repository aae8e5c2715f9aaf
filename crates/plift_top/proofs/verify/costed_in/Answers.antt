use Rattle.plift_words.specs.Given.{verify_data}
use Rattle.plift_top.specs.Asked.{verified_model}
use Rattle.plift_top.proofs.Asked.{faulty, model_costed, no_costed}
use Rattle.plift_top.proofs.verify.costed_in.Goals as goal

pub returns-in_err-model-clause-cause : goal.returns-in_err-model-clause-cause
returns-in_err-model-clause-cause c =
    faulty (verified_model (verify_data c.args.job.now) c.args.text.now) c.in_err-model.field-0.0 c.from_residual.result c.from_residual.ensures.1
    (λ other. no_costed (verify_data c.args.job.now) c.args.text.now c.args.reward.now c.requires.reward c.in_err-model.field-0.0 (c.in_err-model.ensures other))

pub returns-clause-model : goal.returns-clause-model
returns-clause-model c = model_costed (verify_data c.args.job.now) c.args.text.now c.args.reward.now c.requires.reward c.in_ok-model.model c.in_ok-model.costs c.in_ok-model.ensures

pub returns-clause-count : goal.returns-clause-count
returns-clause-count c = (c.costs_are_read_with_the_model.ensures c.args.text.now _ c.in_ok-model.model c.in_ok-model.costs c.in_ok-model.ensures).count
