use Rattle.line_text.specs.Words.{words}
use Rattle.line_text.specs.Reading.{◌>>=◌, due}
use Rattle.line_text.specs.Follow.{place}
use Rattle.cert_text.specs.Leaf.{node_of}
use Rattle.cert_text.specs.Nodes.{node_at, node_in}
use Rattle.cert_text.proofs.NodeSteps.{node_is_read}
use Rattle.cert_text.proofs.Following.{begin_as, peeks, tail, ends, as_error, then_fails}
use Rattle.cert_text.proofs.node_reader.read_node.Goals as goal

pub node_in-requires : goal.node_in-requires
node_in-requires g c = c.in_ok-due.ensures.front

pub returns-in_err-due : goal.returns-in_err-due
returns-in_err-due g c =
    let h = c.args.head.now in
    let adds = c.calls_add_up.ensures in
    let s0 = begin_as adds (node_at h) (λ p. due p >>= λ l. node_in h h.from (words l.0) p) (node_is_read h) c.args.lines.now c.args.src.now in
    ends adds c.from_residual.result c.from_residual.ensures.1 s0 (as_error {look = node_of} (λ p. due p >>= λ l. node_in h h.from (words l.0) p) (λ l fault bad. then_fails (λ q. node_in h h.from (words q.0) (place c.args.lines.now l)) (due (place c.args.lines.now l)) fault bad) c.in_err-due.ensures)

pub returns : goal.returns
returns g c =
    let h = c.args.head.now in
    let adds = c.calls_add_up.ensures in
    let s0 = begin_as adds (node_at h) (λ p. due p >>= λ l. node_in h h.from (words l.0) p) (node_is_read h) c.args.lines.now c.args.src.now in
    let s1 = peeks adds (λ line. node_in h h.from (words line)) s0 c.in_ok-due.ensures in
    tail adds c.node_in.result s1 c.node_in.ensures
