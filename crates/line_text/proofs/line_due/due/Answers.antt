use Rattle.std.proofs.Common.{subst}
use Rattle.lift_base.specs.declared.pieces.Front.{Front}
use Rattle.lift_base.specs.declared.pieces.Front.TheVariants as front
use Rattle.lift_base.specs.Lines.{FrontIs, IsFront}
use Rattle.line_text.specs.declared.error.TextCause.TheVariants.{Limit, Truncated}
use Rattle.line_text.proofs.Dues.{is_due, due_fails, is_long, is_cut, is_end}
use Rattle.line_text.proofs.line_due.due.Goals as goal

pub returns-in-Ok-Line : goal.returns-in-Ok-Line
returns-in-Ok-Line g c =
    let now = c.in-Ok-Line.ensures in
    is_due g.S.Source.left g.S.Source.faults c.args.lines.now c.look.new.self c.args.src.now c.look.new.src now.reads.0 now.reads.1 now.tells now.faults (subst (λ (f : Front). IsFront f c.look.new.self.held) c.in-Ok-Line.field-0-is now.here)

pub returns-in-Ok-Long : goal.returns-in-Ok-Long
returns-in-Ok-Long g c =
    let now = c.in-Ok-Long.ensures in
    let front : FrontIs c.look.new.self front.Long = subst (λ (f : Front). FrontIs c.look.new.self f) c.in-Ok-Long.field-0-is now.front in
    due_fails g.S.Source.left g.S.Source.faults c.args.lines.now c.look.new.self c.args.src.now c.look.new.src now.reads.0 Limit c.fault.result now.reads.1 now.tells now.faults (is_long c.look.new.self front) c.fault.ensures

pub returns-in-Ok-Cut : goal.returns-in-Ok-Cut
returns-in-Ok-Cut g c =
    let now = c.in-Ok-Cut.ensures in
    let front : FrontIs c.look.new.self front.Cut = subst (λ (f : Front). FrontIs c.look.new.self f) c.in-Ok-Cut.field-0-is now.front in
    due_fails g.S.Source.left g.S.Source.faults c.args.lines.now c.look.new.self c.args.src.now c.look.new.src now.reads.0 Truncated c.fault-in-Ok-Cut.result now.reads.1 now.tells now.faults (is_cut c.look.new.self front) c.fault-in-Ok-Cut.ensures

pub returns-in-Ok-End : goal.returns-in-Ok-End
returns-in-Ok-End g c =
    let now = c.in-Ok-End.ensures in
    let front : FrontIs c.look.new.self front.End = subst (λ (f : Front). FrontIs c.look.new.self f) c.in-Ok-End.field-0-is now.front in
    due_fails g.S.Source.left g.S.Source.faults c.args.lines.now c.look.new.self c.args.src.now c.look.new.src now.reads.0 Truncated c.fault-in-Ok-End.result now.reads.1 now.tells now.faults (is_end c.look.new.self front) c.fault-in-Ok-End.ensures
