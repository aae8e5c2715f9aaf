use Rattle.std.proofs.Common.{◌∙◌, ap}
use Rattle.line_text.specs.Words.{words}
use Rattle.std.proofs.Common.{List, ℕ}
use Rattle.cert_text.specs.Lines.{parameters_of}
use Rattle.cert_text.proofs.Following.{line_is, line_stops}
use Rattle.cert_text.proofs.head_parts.parameters_line.Goals as goal

pub returns-in_err-due-clause-value : goal.returns-in_err-due-clause-value
returns-in_err-due-clause-value g c = line_stops (λ (x : List (List ℕ)). x) parameters_of c.from_residual.result c.from_residual.ensures.1 c.in_err-due.ensures

pub returns-clause-value : goal.returns-clause-value
returns-clause-value g c = line_is (λ (x : List (List ℕ)). x) parameters_of c.of.result c.parameters_of-read.result c.take_line.result c.in_ok-due.ensures (c.of.ensures ∙ ap words c.line.ensures) c.parameters_of-read.ensures.value c.take_line.ensures
