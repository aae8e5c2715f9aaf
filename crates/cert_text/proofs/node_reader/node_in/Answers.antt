use Rattle.std.proofs.Common.{◌∙◌, Option, ap, sym}
use Rattle.std.specs.Prelude.{ℕ}
use Rattle.std.specs.List.{before_first}
use Rattle.lift_base.specs.Lines.{is_feed}
use Rattle.line_text.specs.Words.{words}
use Rattle.cert_text.specs.Nodes.{node_by, node_in, second_by}
use Rattle.cert_text.proofs.Following.{as_reader}
use Rattle.cert_text.proofs.node_reader.node_in.Goals as goal

pub returns-in-None : goal.returns-in-None
returns-in-None g c = as_reader (node_in c.args.head.now c.args.head.now.from (words (before_first is_feed c.args.lines.now.held))) c.node_by.result (λ p. ap (λ (o : Option ℕ). node_in c.args.head.now o (words (before_first is_feed c.args.lines.now.held)) p) (sym c.reported_from.ensures ∙ c.in-None.is)) c.node_by.ensures

pub returns-in-Some : goal.returns-in-Some
returns-in-Some g c = as_reader (node_in c.args.head.now c.args.head.now.from (words (before_first is_feed c.args.lines.now.held))) c.second_by.result (λ p. ap (λ (o : Option ℕ). node_in c.args.head.now o (words (before_first is_feed c.args.lines.now.held)) p) (sym c.reported_from.ensures ∙ c.in-Some.is)) c.second_by.ensures
