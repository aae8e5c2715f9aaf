use Rattle.std.proofs.Common.{◌∙◌, ap}
use Rattle.line_text.specs.Words.{words}
use Rattle.cert_text.specs.Lines.{unknown_of}
use Rattle.cert_text.proofs.Following.{line_is, line_stops}
use Rattle.cert_text.proofs.node_reader.unknown_line.Goals as goal

pub returns-in_err-due : goal.returns-in_err-due
returns-in_err-due g c = line_stops (λ (x : Unit {0}). x) unknown_of c.from_residual.result c.from_residual.ensures.1 c.in_err-due.ensures

pub returns : goal.returns
returns g c = line_is (λ (x : Unit {0}). x) unknown_of c.of.result c.unknown_of-read.result c.take_line.result c.in_ok-due.ensures (c.of.ensures ∙ ap words c.line.ensures) c.unknown_of-read.ensures c.take_line.ensures
