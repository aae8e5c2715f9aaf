use Rattle.std.specs.List.{concat}
use Rattle.cert_text.specs.Report.{head_lines}
use Rattle.plift_top.specs.RightReport.{AreRightNodes}
use Rattle.plift_top.proofs.HeadedTexts.{head_failed, nodes_reported}
use Rattle.plift_top.proofs.report.write_report.Goals as goal

pub returns-in_err-write_head-clause-wrote : goal.returns-in_err-write_head-clause-wrote
returns-in_err-write_head-clause-wrote g c =
    head_failed (concat (head_lines c.args.case.now c.args.from c.args.bound)) (AreRightNodes c.args.case.now c.args.from c.args.bound) g.K.Sink.taken g.K.Sink.faults _ _ _ c.from_residual.result c.from_residual.ensures.0 c.in_err-write_head.ensures

pub returns-clause-wrote : goal.returns-clause-wrote
returns-clause-wrote g c =
    nodes_reported (concat (head_lines c.args.case.now c.args.from c.args.bound)) (AreRightNodes c.args.case.now c.args.from c.args.bound) g.K.Sink.taken g.K.Sink.faults _ _ _ _ c.write_tree.result c.in_ok-write_head.ensures c.write_tree.ensures.nodes
