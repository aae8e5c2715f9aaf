use Rattle.std.proofs.Common.{sym}
use Rattle.cert_text.proofs.NodeTexts.{cut_split, cut_open}
use Rattle.cert_text.proofs.node_text.cut_node.Goals as goal

pub returns-then-starts_with : goal.returns-then-starts_with
returns-then-starts_with c = λ h node rest is fit e. cut_split h node rest c.args.text.now c.axis_in.result c.behind_line.result.now is fit e (sym c.if-starts_with.ensures.value) c.axis_in.ensures c.behind_line.ensures

pub returns-then-starts_with-2 : goal.returns-then-starts_with-2
returns-then-starts_with-2 c = λ h node rest is fit e.
    cut_open h node rest c.args.text.now c.behind_line-then-starts_with-2.result.now is fit e (sym c.if-starts_with-2.ensures.value) c.behind_line-then-starts_with-2.ensures
