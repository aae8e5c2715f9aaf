use Rattle.std.proofs.Common.{◌∙◌, Err}
use Rattle.lift_frac.specs.Parts.{literal_of}
use Rattle.lift_frac.specs.declared.error.FracError.TheVariants.{BadLiteral}
use Rattle.lift_frac.proofs.Judging.{reading-none, reading-some, reading-written, bad_exactly}
use Rattle.lift_frac.proofs.literal.read_literal.Goals as goal

pub returns-in_default-clause-literal : goal.returns-in_default-clause-literal
returns-in_default-clause-literal c = λ l w. reading-none c.args.text.now c.in_default.ensures.value ∙ reading-written c.args.text.now l w

pub returns-in_default-clause-bad : goal.returns-in_default-clause-bad
returns-in_default-clause-bad c = bad_exactly c.args.text.now (Err BadLiteral) (reading-none c.args.text.now c.in_default.ensures.value)

pub returns-clause-literal : goal.returns-clause-literal
returns-clause-literal c = λ l w.
    c.value_of.ensures ∙ reading-some c.args.text.now (literal_of c.in-Some.parts) c.in-Some.ensures.value ∙ reading-written c.args.text.now l w

pub returns-clause-bad : goal.returns-clause-bad
returns-clause-bad c =
    bad_exactly c.args.text.now c.value_of.result
    (c.value_of.ensures ∙ reading-some c.args.text.now (literal_of c.in-Some.parts) c.in-Some.ensures.value)

pub returns-clause-answer : goal.returns-clause-answer
returns-clause-answer c = c.value_of.ensures ∙ reading-some c.args.text.now (literal_of c.in-Some.parts) c.in-Some.ensures.value
