use Rattle.std.proofs.Common.{subst}
use Rattle.lift_base.specs.declared.pieces.Front.{Front}
use Rattle.lift_base.specs.declared.pieces.Front.TheVariants as front
use Rattle.lift_base.specs.Lines.{FrontIs}
use Rattle.line_text.proofs.Dues.{at_end, not_at_end, source_fails}
use Rattle.line_text.proofs.line_due.is_end.Goals as goal

pub returns-in-Ok-End : goal.returns-in-Ok-End
returns-in-Ok-End g c =
    let now = c.in-Ok-End.ensures in
    at_end g.S.Source.left g.S.Source.faults c.args.lines.now c.look.new.self c.args.src.now c.look.new.src now.reads.0 now.reads.1 now.tells now.faults (subst (λ (f : Front). FrontIs c.look.new.self f) c.in-Ok-End.field-0-is now.front)

pub returns-in-Ok-Line : goal.returns-in-Ok-Line
returns-in-Ok-Line g c =
    let now = c.in-Ok-Line.ensures in
    not_at_end g.S.Source.left g.S.Source.faults c.args.lines.now c.look.new.self c.args.src.now c.look.new.src now.reads.0 front.Line now.reads.1 now.tells now.faults (λ bad. absurd (cc bad)) (subst (λ (f : Front). FrontIs c.look.new.self f) c.in-Ok-Line.field-0-is now.front)

pub returns-in-Ok-Cut : goal.returns-in-Ok-Cut
returns-in-Ok-Cut g c =
    let now = c.in-Ok-Cut.ensures in
    not_at_end g.S.Source.left g.S.Source.faults c.args.lines.now c.look.new.self c.args.src.now c.look.new.src now.reads.0 front.Cut now.reads.1 now.tells now.faults (λ bad. absurd (cc bad)) (subst (λ (f : Front). FrontIs c.look.new.self f) c.in-Ok-Cut.field-0-is now.front)

pub returns-in-Ok-Long : goal.returns-in-Ok-Long
returns-in-Ok-Long g c =
    let now = c.in-Ok-Long.ensures in
    not_at_end g.S.Source.left g.S.Source.faults c.args.lines.now c.look.new.self c.args.src.now c.look.new.src now.reads.0 front.Long now.reads.1 now.tells now.faults (λ bad. absurd (cc bad)) (subst (λ (f : Front). FrontIs c.look.new.self f) c.in-Ok-Long.field-0-is now.front)

pub returns-in-Err : goal.returns-in-Err
returns-in-Err g c =
    let now = c.in-Err.ensures in
    (now.reads.0, source_fails g.S.Source.left g.S.Source.faults c.args.lines.now c.look.new.self c.args.src.now c.look.new.src now.reads.0 c.in-Err.e now.reads.1 now.tells now.faults)
