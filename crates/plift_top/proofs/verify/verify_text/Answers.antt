use Rattle.std.proofs.Common.{ℕ, List, Err, rules, subst}
use Rattle.plift_words.specs.Given.{verify_data}
use Rattle.plift_top.specs.Asked.{verified_model}
use Rattle.plift_top.specs.Steps.{IsTextFault, NamesRoot}
use Rattle.plift_top.proofs.Reading.{no_model_read, region_refused, verified}
use Rattle.plift_top.proofs.verify.verify_text.Goals as goal

pub returns-in_err-costed : goal.returns-in_err-costed
returns-in_err-costed g c =
    no_model_read g.K.Sink.taken g.K.Sink.faults (verify_data c.args.job.now) c.args.text.items _ _ c.from_residual.result c.from_residual.ensures.1
    (subst (λ (t : List ℕ). IsTextFault (verified_model (verify_data c.args.job.now) t) c.in_err-costed.field-0.0) c.deref.ensures.value c.in_err-costed.ensures.cause)

pub returns-in_err-region : goal.returns-in_err-region
returns-in_err-region g c =
    region_refused g.K.Sink.taken g.K.Sink.faults (verify_data c.args.job.now) c.args.text.items _ c.in_ok-costed.costed (rw c.deref.ensures.value at c.in_ok-costed.ensures.model) (search rules)
    _ c.from_residual-in_err-region.result c.from_residual-in_err-region.ensures.1
    (subst (λ (names : List (List ℕ)). NamesRoot (verify_data c.args.job.now) names (Err c.in_err-region.field-0.0)) c.names.ensures.value c.in_err-region.ensures.answer)

pub returns : goal.returns
returns g c =
    let is = rw c.deref.ensures.value at c.in_ok-costed.ensures.model in
    verified g.K.Sink.taken g.K.Sink.faults (verify_data c.args.job.now) c.args.text.items _ c.in_ok-costed.costed is (search rules)
    _ (rw c.names.ensures.value at c.in_ok-region.ensures.answer) _ c.write_over-written.result (c.write_over-written.ensures is.asked is.after is.costs)
