use Rattle.std.proofs.Common.{◌∙◌, ap}
use Rattle.line_text.specs.Words.{words}
use Rattle.std.proofs.Common.{Bool, Vec}
use Rattle.std.specs.declared.alloc.Global.{Global}
use Rattle.cert_text.specs.Lines.{goal_of}
use Rattle.cert_text.proofs.Following.{line_is, line_stops}
use Rattle.cert_text.proofs.head_parts.goal_line.Goals as goal

pub returns-in_err-due : goal.returns-in_err-due
returns-in_err-due g c = line_stops (λ (x : Vec Bool Global). x.items) (goal_of c.args.states) c.from_residual.result c.from_residual.ensures.1 c.in_err-due.ensures

pub returns : goal.returns
returns g c = line_is (λ (x : Vec Bool Global). x.items) (goal_of c.args.states) c.of.result c.goal_of-read.result c.take_line.result c.in_ok-due.ensures (c.of.ensures ∙ ap words c.line.ensures) c.goal_of-read.ensures c.take_line.ensures
