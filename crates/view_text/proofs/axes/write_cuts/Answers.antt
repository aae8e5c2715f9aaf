use Rattle.std.proofs.Common.{sym}
use Rattle.view_text.proofs.Lines.{line_due, no_line}
use Rattle.view_text.proofs.axes.write_cuts.Goals as goal

pub loop-line-init : goal.loop-line-init
loop-line-init g c = c.writes_in_turn.ensures.begins _ _

pub returns-in_err-write_cut : goal.returns-in_err-write_cut
returns-in_err-write_cut g c =
    rw (sym c.cuts-cut-items.ensures) (c.writes_in_turn.ensures.stops _ _ _ _ _ _ _ _ _ c.from_residual.ensures.0 c.loop-line.invariant (line_due c.args.head.now _ _ c.cut-item.result c.loop-line-test.true c.cut-item.is) c.in_err-write_cut.ensures)

pub loop-line-preserved : goal.loop-line-preserved
loop-line-preserved g c =
    c.writes_in_turn.ensures.next _ _ _ _ _ _ _ c.loop-line.invariant (line_due c.args.head.now _ _ c.cut-item.result c.loop-line-test.true c.cut-item.is) c.in_ok-write_cut.ensures

pub returns : goal.returns
returns g c =
    let none = no_line c.args.head.now c.loop-line.line c.cuts-cut-items.result.now c.loop-line.line c.loop-line-test.false in
    rw (sym c.cuts-cut-items.ensures) (c.writes_in_turn.ensures.ends _ _ _ (rw none at c.loop-line.invariant))
