use Rattle.std.proofs.Common.{◌∙◌, ap}
use Rattle.line_text.specs.Words.{words}
use Rattle.lift_grid.specs.Rectangle.{Spans}
use Rattle.cert_text.specs.Lines.{box_of}
use Rattle.cert_text.proofs.Following.{line_is, line_stops}
use Rattle.cert_text.proofs.head_parts.box_line.Goals as goal

pub returns-in_err-due : goal.returns-in_err-due
returns-in_err-due g c = line_stops (λ (x : Spans). x) (box_of c.args.parameters c.args.depth) c.from_residual.result c.from_residual.ensures.1 c.in_err-due.ensures

pub returns : goal.returns
returns g c = line_is (λ (x : Spans). x) (box_of c.args.parameters c.args.depth) c.of.result c.box_of-read.result c.take_line.result c.in_ok-due.ensures (c.of.ensures ∙ ap words c.line.ensures) c.box_of-read.ensures c.take_line.ensures
