use Rattle.std.proofs.Common.{◌∙◌, ap}
use Rattle.line_text.specs.Words.{words}
use Rattle.lift_cert.specs.declared.bound.Bound.{Bound}
use Rattle.cert_text.specs.Lines.{bound_of}
use Rattle.cert_text.proofs.Following.{line_is, line_stops}
use Rattle.cert_text.proofs.head_parts.bound_line.Goals as goal

pub returns-in_err-due : goal.returns-in_err-due
returns-in_err-due g c = line_stops (λ (x : Bound). x) bound_of c.from_residual.result c.from_residual.ensures.1 c.in_err-due.ensures

pub returns : goal.returns
returns g c = line_is (λ (x : Bound). x) bound_of c.of.result c.bound_of-read.result c.take_line.result c.in_ok-due.ensures (c.of.ensures ∙ ap words c.line.ensures) c.bound_of-read.ensures c.take_line.ensures
