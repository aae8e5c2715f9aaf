use Rattle.std.proofs.Common.{◌∙◌, ap, subst}
use Rattle.lift_base.specs.declared.pieces.Front.TheVariants as front
use Rattle.lift_base.specs.Lines.{LinesData, FrontIs, Waits}
use Rattle.lift_base.specs.contracts.lines.Lines.{the_view}
use Rattle.lift_base.proofs.ReadingOn.{waits_from, cut_from}
use Rattle.lift_base.proofs.lines.Lines.front.Goals as goal

pub returns-then-not-self-clause-none : goal.returns-then-not-self-clause-none
returns-then-not-self-clause-none c =
    subst Waits c.self.view_is (waits_from (the_view c.self.inside) c.self.inside.line_len c.len.result (ap (λ (l : LinesData). l.failure) c.self.view_is ∙ c.requires) c.if-not-self.true c.self.invariant.0 c.len.ensures c.if-self-gt-LINE_LIMIT.false c.if-self-len.false)

pub returns-then-self-gt0-clause-some : goal.returns-then-self-gt0-clause-some
returns-then-self-gt0-clause-some c =
    subst (λ (l : LinesData). FrontIs l front.Cut) c.self.view_is (cut_from (the_view c.self.inside) c.self.inside.line_len c.len.result c.if-not-self.false c.self.invariant.0 c.len.ensures c.if-self-gt-LINE_LIMIT.false c.if-self-len.false c.if-self-gt0.true)
