use Rattle.std.proofs.Common.{length, Ok, codes, rules}
use Rattle.line_text.specs.Reading.{◌>>=◌, Cursor, line_at}
use Rattle.cert_text.specs.Lines.{values_of}
use Rattle.cert_text.specs.Nodes.{accept, accept_at}
use Rattle.cert_text.proofs.NodeSteps.{accept_is_read}
use Rattle.cert_text.proofs.Following.{begin_as, done, goes, stops}
use Rattle.cert_text.proofs.leaf_reader.LeafReader.accept_at.Goals as goal

pub returns-in_err-numbers : goal.returns-in_err-numbers
returns-in_err-numbers g c =
    let adds = c.calls_add_up.ensures in
    let s0 = begin_as adds (accept_at c.args.self.now) (λ p. line_at (values_of (codes "accept") (length c.args.self.now.asked.model.states) c.args.self.now.asked.w) p >>= λ x. Ok (accept c.args.self.now.asked.w x.0, x.1)) (accept_is_read c.args.self.now) c.args.lines.now c.args.src.now in
    stops adds (line_at (values_of (codes "accept") (length c.args.self.now.asked.model.states) c.args.self.now.asked.w)) (λ x. λ (p : Cursor). Ok (accept c.args.self.now.asked.w x, p)) c.from_residual.result c.from_residual.ensures.1 s0 c.in_err-numbers.ensures.value

pub returns : goal.returns
returns g c =
    let adds = c.calls_add_up.ensures in
    let s0 = begin_as adds (accept_at c.args.self.now) (λ p. line_at (values_of (codes "accept") (length c.args.self.now.asked.model.states) c.args.self.now.asked.w) p >>= λ x. Ok (accept c.args.self.now.asked.w x.0, x.1)) (accept_is_read c.args.self.now) c.args.lines.now c.args.src.now in
    let s1 = goes adds (line_at (values_of (codes "accept") (length c.args.self.now.asked.model.states) c.args.self.now.asked.w)) (λ x. λ (p : Cursor). Ok (accept c.args.self.now.asked.w x, p)) s0 c.in_ok-numbers.ensures.value in
    done adds _ c.in_ok-numbers.ensures.value.ran.left_with s1 (λ later. search rules)
