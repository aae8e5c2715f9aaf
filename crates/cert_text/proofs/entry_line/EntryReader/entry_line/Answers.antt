use Rattle.std.proofs.Common.{◌∙◌, ap, length}
use Rattle.line_text.specs.Words.{words}
use Rattle.lift_model.specs.declared.entry.Entry.{Entry}
use Rattle.cert_text.specs.Shown.{entry_by, has_mark}
use Rattle.cert_text.proofs.Following.{line_is, line_stops}
use Rattle.cert_text.proofs.entry_line.EntryReader.entry_line.Goals as goal

pub returns-in_err-due-clause-value : goal.returns-in_err-due-clause-value
returns-in_err-due-clause-value g c = line_stops (λ (x : Entry). x) (entry_by (length c.args.self.now.marks) c.args.self.now.parameters (has_mark c.args.self.now.mark c.args.self.now.marks)) c.from_residual.result c.from_residual.ensures.1 c.in_err-due.ensures

pub returns-clause-value : goal.returns-clause-value
returns-clause-value g c = line_is (λ (x : Entry). x) (entry_by (length c.args.self.now.marks) c.args.self.now.parameters (has_mark c.args.self.now.mark c.args.self.now.marks)) c.of.result c.entry_by-read.result c.take_line.result c.in_ok-due.ensures (c.of.ensures ∙ ap words c.line.ensures) c.entry_by-read.ensures.value c.take_line.ensures
