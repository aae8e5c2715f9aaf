use Rattle.std.proofs.Common.{◌∙◌, ap, ℕ}
use Rattle.line_text.specs.Words.{words}
use Rattle.cert_text.specs.Lines.{row_of}
use Rattle.cert_text.proofs.Following.{line_is, line_stops}
use Rattle.cert_text.proofs.rows.RowReader.row_line.Goals as goal

pub returns-in_err-due-clause-value : goal.returns-in_err-due-clause-value
returns-in_err-due-clause-value g c = line_stops (λ (x : ℕ). x) (row_of c.args.s c.args.a c.args.self.now.left.choices c.args.self.now.left.transitions) c.from_residual.result c.from_residual.ensures.1 c.in_err-due.ensures

pub returns-clause-value : goal.returns-clause-value
returns-clause-value g c = rw (← c.self.view_is) (line_is (λ (x : ℕ). x) (row_of c.args.s c.args.a c.self.inside.left.choices c.self.inside.left.transitions) c.of-words.result c.row_of-read.result c.take_line.result c.in_ok-due.ensures (c.of-words.ensures ∙ ap words c.line.ensures) c.row_of-read.ensures.value c.take_line.ensures)
