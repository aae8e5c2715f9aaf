use Rattle.std.proofs.Common.{◌+◌, true, false, codes}
use Rattle.std.specs.List.{before_first}
use Rattle.lift_base.specs.Lines.{is_feed}
use Rattle.line_text.specs.declared.error.TextCause.TheVariants.{Syntax}
use Rattle.line_text.specs.Words.{words}
use Rattle.line_text.specs.Follow.{place}
use Rattle.cert_text.specs.Nodes.{accept_at, decided_by, reject_at}
use Rattle.cert_text.proofs.NodeSteps.{decided_accept, decided_reject, decided_other, reported_by}
use Rattle.cert_text.proofs.Following.{as_reader, refused}
use Rattle.cert_text.proofs.leaf_reader.LeafReader.decided_by.Goals as goal

pub returns-then-begins : goal.returns-then-begins
returns-then-begins g c = as_reader (decided_by c.args.self.now (words (before_first is_feed c.args.lines.now.held))) c.accept_at.result (λ p. decided_accept c.args.self.now (words (before_first is_feed c.args.lines.now.held)) p (reported_by (codes "accept") c.line.result.now (before_first is_feed c.args.lines.now.held) c.begins.result true c.begins.ensures c.line.ensures c.if-begins.true)) c.accept_at.ensures

pub returns-then-begins-2 : goal.returns-then-begins-2
returns-then-begins-2 g c = as_reader (decided_by c.args.self.now (words (before_first is_feed c.args.lines.now.held))) c.reject_at.result (λ p. decided_reject c.args.self.now (words (before_first is_feed c.args.lines.now.held)) p (reported_by (codes "accept") c.line.result.now (before_first is_feed c.args.lines.now.held) c.begins.result false c.begins.ensures c.line.ensures c.if-begins.false) (reported_by (codes "reject") c.line-else-begins.result.now (before_first is_feed c.args.lines.now.held) c.begins-else-begins.result true c.begins-else-begins.ensures c.line-else-begins.ensures c.if-begins-2.true)) c.reject_at.ensures

pub returns-else-begins-2 : goal.returns-else-begins-2
returns-else-begins-2 g c = refused c.calls_add_up.ensures (decided_by c.args.self.now (words (before_first is_feed c.args.lines.now.held))) c.args.lines.now c.args.src.now c.fault.result (record { line = c.args.lines.now.given + 1; cause = Syntax }) c.requires.ready (λ later. decided_other c.args.self.now (words (before_first is_feed c.args.lines.now.held)) (place c.args.lines.now later) (reported_by (codes "accept") c.line.result.now (before_first is_feed c.args.lines.now.held) c.begins.result false c.begins.ensures c.line.ensures c.if-begins.false) (reported_by (codes "reject") c.line-else-begins.result.now (before_first is_feed c.args.lines.now.held) c.begins-else-begins.result false c.begins-else-begins.ensures c.line-else-begins.ensures c.if-begins-2.false)) c.fault.ensures
