use Rattle.std.proofs.Common.{subst}
use Rattle.lift_base.specs.declared.pieces.Front.{Front}
use Rattle.lift_base.specs.declared.pieces.Front.TheVariants as front
use Rattle.lift_base.specs.Lines.{FrontIs}
use Rattle.lift_base.proofs.lines.Lines.next.Goals as goal

pub returns-in-Line-clause-gives : goal.returns-in-Line-clause-gives
returns-in-Line-clause-gives g c =
    let reads = c.look.ensures.reads in
    let ahead : FrontIs c.look.new.self front.Line = subst (λ (f : Front). FrontIs c.look.new.self f) c.in-Line.is c.in_ok-look.ensures.front in
    (c.look.new.self, reads.0, reads.1, (ahead, c.span-from.ensures.order, c.span-from.ensures.within, c.span-from.ensures.line, c.pass.ensures))
