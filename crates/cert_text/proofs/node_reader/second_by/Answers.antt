use Rattle.std.proofs.Common.{true, false, codes}
use Rattle.std.specs.List.{before_first}
use Rattle.lift_base.specs.Lines.{is_feed}
use Rattle.line_text.specs.Words.{words}
use Rattle.cert_text.specs.Nodes.{second_by, reported_at}
use Rattle.cert_text.proofs.NodeSteps.{second_split, second_reported, second_other, reported_by}
use Rattle.cert_text.proofs.Following.{as_reader}
use Rattle.cert_text.proofs.node_reader.second_by.Goals as goal

pub returns-then-begins : goal.returns-then-begins
returns-then-begins g c = as_reader (second_by c.args.head.now (words (before_first is_feed c.args.lines.now.held))) c.split_at.result (λ p. second_split c.args.head.now (words (before_first is_feed c.args.lines.now.held)) p (reported_by (codes "split") c.line.result.now (before_first is_feed c.args.lines.now.held) c.begins.result true c.begins.ensures c.line.ensures c.if-begins.true)) c.split_at.ensures

pub returns-then-begins-2 : goal.returns-then-begins-2
returns-then-begins-2 g c = as_reader (second_by c.args.head.now (words (before_first is_feed c.args.lines.now.held))) c.reported_at.result (λ p. second_reported c.args.head.now (words (before_first is_feed c.args.lines.now.held)) p (reported_by (codes "split") c.line.result.now (before_first is_feed c.args.lines.now.held) c.begins.result false c.begins.ensures c.line.ensures c.if-begins.false) (reported_by (codes "at") c.line-else-begins.result.now (before_first is_feed c.args.lines.now.held) c.begins-else-begins.result true c.begins-else-begins.ensures c.line-else-begins.ensures c.if-begins-2.true)) c.reported_at.ensures

pub returns-else-begins-2 : goal.returns-else-begins-2
returns-else-begins-2 g c = as_reader (second_by c.args.head.now (words (before_first is_feed c.args.lines.now.held))) c.unknown_at.result (λ p. second_other c.args.head.now (words (before_first is_feed c.args.lines.now.held)) p (reported_by (codes "split") c.line.result.now (before_first is_feed c.args.lines.now.held) c.begins.result false c.begins.ensures c.line.ensures c.if-begins.false) (reported_by (codes "at") c.line-else-begins.result.now (before_first is_feed c.args.lines.now.held) c.begins-else-begins.result false c.begins-else-begins.ensures c.line-else-begins.ensures c.if-begins-2.false)) c.unknown_at.ensures
