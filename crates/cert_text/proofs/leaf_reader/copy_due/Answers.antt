use Rattle.std.proofs.Common.{◌+◌, ◌∙◌, ℕ, Vec, Result}
use Rattle.std.specs.declared.alloc.Global.{Global}
use Rattle.line_text.specs.declared.error.FileError.{FileError}
use Rattle.cert_text.specs.Leaf.{Copies}
use Rattle.cert_text.proofs.Following.{due_wanting, handed}
use Rattle.cert_text.proofs.leaf_reader.copy_due.Goals as goal

pub returns-in_err-due : goal.returns-in_err-due
returns-in_err-due g c = handed (λ (r : Result (Vec ℕ Global) FileError). Copies g.S.Source.left g.S.Source.faults c.args.lines.now c.due.new.lines c.args.src.now c.due.new.src r) c.from_residual.result c.in_err-due.field-0.0 c.from_residual.ensures.1 c.in_err-due.ensures

pub line-requires : goal.line-requires
line-requires g c = c.in_ok-due.ensures.front

pub returns-in-Ok : goal.returns-in-Ok
returns-in-Ok g c = (c.in_ok-due.ensures, c.in-Ok.ensures.items ∙ c.line.ensures)

pub returns-in-Err : goal.returns-in-Err
returns-in-Err g c = due_wanting c.fault.result (c.due.new.lines.given + 1) c.in_ok-due.ensures c.fault.ensures
