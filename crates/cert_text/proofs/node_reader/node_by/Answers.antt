use Rattle.std.proofs.Common.{◌∙◌, true, false, codes, ap, sym}
use Rattle.std.specs.List.{before_first}
use Rattle.lift_base.specs.Lines.{is_feed}
use Rattle.line_text.specs.Words.{words}
use Rattle.cert_text.specs.Head.{HeadData}
use Rattle.cert_text.specs.Nodes.{accept_at, node_by, reject_at}
use Rattle.cert_text.proofs.NodeSteps.{first_split, first_accept, first_reject, first_other, reported_by}
use Rattle.cert_text.proofs.Following.{as_reader}
use Rattle.cert_text.proofs.node_reader.node_by.Goals as goal

pub returns-then-begins : goal.returns-then-begins
returns-then-begins g c = as_reader (node_by c.args.head.now (words (before_first is_feed c.args.lines.now.held))) c.split_at.result (λ p. first_split c.args.head.now (words (before_first is_feed c.args.lines.now.held)) p (reported_by (codes "split") c.line.result.now (before_first is_feed c.args.lines.now.held) c.begins.result true c.begins.ensures c.line.ensures c.if-begins.true)) c.split_at.ensures

pub returns-then-begins-2 : goal.returns-then-begins-2
returns-then-begins-2 g c = as_reader (node_by c.args.head.now (words (before_first is_feed c.args.lines.now.held))) c.accept_at.result (λ p. first_accept c.args.head.now (words (before_first is_feed c.args.lines.now.held)) p (reported_by (codes "split") c.line.result.now (before_first is_feed c.args.lines.now.held) c.begins.result false c.begins.ensures c.line.ensures c.if-begins.false) (reported_by (codes "accept") c.line-else-begins.result.now (before_first is_feed c.args.lines.now.held) c.begins-else-begins.result true c.begins-else-begins.ensures c.line-else-begins.ensures c.if-begins-2.true) ∙ ap (λ (k : HeadData). accept_at k p) (sym c.greatest.ensures)) c.accept_at.ensures

pub returns-then-begins-3 : goal.returns-then-begins-3
returns-then-begins-3 g c = as_reader (node_by c.args.head.now (words (before_first is_feed c.args.lines.now.held))) c.reject_at.result (λ p. first_reject c.args.head.now (words (before_first is_feed c.args.lines.now.held)) p (reported_by (codes "split") c.line.result.now (before_first is_feed c.args.lines.now.held) c.begins.result false c.begins.ensures c.line.ensures c.if-begins.false) (reported_by (codes "accept") c.line-else-begins.result.now (before_first is_feed c.args.lines.now.held) c.begins-else-begins.result false c.begins-else-begins.ensures c.line-else-begins.ensures c.if-begins-2.false) (reported_by (codes "reject") c.line-else-begins-2.result.now (before_first is_feed c.args.lines.now.held) c.begins-else-begins-2.result true c.begins-else-begins-2.ensures c.line-else-begins-2.ensures c.if-begins-3.true) ∙ ap (λ (k : HeadData). reject_at k p) (sym c.greatest-then-begins-3.ensures)) c.reject_at.ensures

pub returns-else-begins-3 : goal.returns-else-begins-3
returns-else-begins-3 g c = as_reader (node_by c.args.head.now (words (before_first is_feed c.args.lines.now.held))) c.unknown_at.result (λ p. first_other c.args.head.now (words (before_first is_feed c.args.lines.now.held)) p (reported_by (codes "split") c.line.result.now (before_first is_feed c.args.lines.now.held) c.begins.result false c.begins.ensures c.line.ensures c.if-begins.false) (reported_by (codes "accept") c.line-else-begins.result.now (before_first is_feed c.args.lines.now.held) c.begins-else-begins.result false c.begins-else-begins.ensures c.line-else-begins.ensures c.if-begins-2.false) (reported_by (codes "reject") c.line-else-begins-2.result.now (before_first is_feed c.args.lines.now.held) c.begins-else-begins-2.result false c.begins-else-begins-2.ensures c.line-else-begins-2.ensures c.if-begins-3.false)) c.unknown_at.ensures
