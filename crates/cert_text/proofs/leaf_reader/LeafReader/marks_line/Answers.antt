use Rattle.std.proofs.Common.{◌∙◌, ap}
use Rattle.line_text.specs.Words.{words}
use Rattle.std.proofs.Common.{ℕ, Vec}
use Rattle.std.specs.declared.alloc.Global.{Global}
use Rattle.cert_text.specs.Lines.{marks_of}
use Rattle.cert_text.proofs.Following.{line_is, line_stops}
use Rattle.cert_text.proofs.leaf_reader.LeafReader.marks_line.Goals as goal

pub returns-in_err-due-clause-value : goal.returns-in_err-due-clause-value
returns-in_err-due-clause-value g c = line_stops (λ (x : Vec ℕ Global). x.items) (marks_of c.args.key.now c.args.ends.now) c.from_residual.result c.from_residual.ensures.1 c.in_err-due.ensures

pub returns-clause-value : goal.returns-clause-value
returns-clause-value g c = line_is (λ (x : Vec ℕ Global). x.items) (marks_of c.args.key.now c.args.ends.now) c.of.result c.marks_of-read.result c.take_line.result c.in_ok-due.ensures (c.of.ensures ∙ ap words c.line.ensures) c.marks_of-read.ensures.value c.take_line.ensures
