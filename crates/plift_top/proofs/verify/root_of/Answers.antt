use Rattle.plift_words.specs.Given.{verify_data}
use Rattle.plift_top.proofs.Reading.{refused_region}
use Rattle.plift_top.proofs.verify.root_of.Goals as goal

pub returns-in_err-root-clause-answer : goal.returns-in_err-root-clause-answer
returns-in_err-root-clause-answer c = refused_region (verify_data c.args.job.now) c.args.names.now _ c.from_residual.result c.from_residual.ensures.1 c.in_err-root.ensures.region
