use Rattle.std.proofs.Common.{◌≡◌, rules, subst}
use Rattle.std.specs.List.{concat}
use Rattle.lift_base.specs.Outside.{WroteSome}
use Rattle.region_tree.specs.Right.{IsRightTree}
use Rattle.cert_text.specs.Report.{tree_lines}
use Rattle.plift_top.specs.RightReport.{AreRightNodes, least, node_text}
use Rattle.plift_top.specs.declared.report.Reporter.{Reporter}
use Rattle.plift_top.proofs.Leaves.{range_begins, entries_are}
use Rattle.plift_top.proofs.Telling.{shown}
use Rattle.plift_top.proofs.report.write_tree.Goals as goal

pub walk-requires-clause-from : goal.walk-requires-clause-from
walk-requires-clause-from g c = rw (c.unwrap_or-least.ensures, c.w.ensures.value)
    (range_begins c.args.asked.now.case.now c.args.asked.now.from c.w.ensures.case c.requires.from)

pub returns-clause-nodes : goal.returns-clause-nodes
returns-clause-nodes g c =
    let q = c.args.asked.now in
    let w = shown (λ (v : Reporter g.row.K.Denot). v.out.now) g.K.Sink.taken g.K.Sink.faults (λ t. IsRightTree q.case.now (least q.case.now q.from) q.bound t) (node_text q.case.now q.from) (λ t. concat (tree_lines q.from q.case.now.model.init t)) (entries_are q.case.now q.from)
    _ _ c.walk.result c.written.result c.written.ensures (rw (c.unwrap_or-least.ensures, c.w.ensures.value) at c.walk.ensures.walks) in
    let same : c.walk.new.visitor.out.now ≡ c.out-1.given.0 = search rules in
    subst (λ (o : g.row.K.Denot). WroteSome (AreRightNodes q.case.now q.from q.bound) g.K.Sink.taken g.K.Sink.faults c.args.out.now o c.written.result) same w
