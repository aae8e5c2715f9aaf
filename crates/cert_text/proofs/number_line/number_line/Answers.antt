use Rattle.std.proofs.Common.{◌∙◌, ap, ℕ}
use Rattle.line_text.specs.Words.{words}
use Rattle.line_text.specs.Parts.{number_in}
use Rattle.cert_text.proofs.Following.{line_is, line_stops}
use Rattle.cert_text.proofs.number_line.number_line.Goals as goal

pub returns-in_err-due-clause-follows : goal.returns-in_err-due-clause-follows
returns-in_err-due-clause-follows g c = line_stops (λ (n : ℕ). n) (number_in c.args.key.now c.args.range.start c.args.range.end) c.from_residual.result c.from_residual.ensures.1 c.in_err-due.ensures

pub returns-clause-follows : goal.returns-clause-follows
returns-clause-follows g c = line_is (λ (n : ℕ). n) (number_in c.args.key.now c.args.range.start c.args.range.end) c.of.result c.number_in-number.result c.take_line.result c.in_ok-due.ensures (c.of.ensures ∙ ap words c.line.ensures) c.number_in-number.ensures.value c.take_line.ensures
