use Rattle.std.proofs.Common.{Ok, refl}
use Rattle.line_text.specs.Reading.{◌>>=◌, Cursor, line_at}
use Rattle.cert_text.specs.Lines.{unknown_of}
use Rattle.cert_text.specs.Nodes.{unknown, unknown_at}
use Rattle.cert_text.proofs.NodeSteps.{unknown_is_read}
use Rattle.cert_text.proofs.Following.{begin_as, done, goes, stops}
use Rattle.cert_text.proofs.node_reader.unknown_at.Goals as goal

pub returns-in_err-unknown_line : goal.returns-in_err-unknown_line
returns-in_err-unknown_line g c =
    let adds = c.calls_add_up.ensures in
    let s0 = begin_as adds unknown_at (λ p. line_at unknown_of p >>= λ x. Ok (unknown, x.1)) unknown_is_read c.args.lines.now c.args.src.now in
    stops adds (line_at unknown_of) (λ _. λ (p : Cursor). Ok (unknown, p)) c.from_residual.result c.from_residual.ensures.1 s0 c.in_err-unknown_line.ensures

pub returns : goal.returns
returns g c =
    let adds = c.calls_add_up.ensures in
    let s0 = begin_as adds unknown_at (λ p. line_at unknown_of p >>= λ x. Ok (unknown, x.1)) unknown_is_read c.args.lines.now c.args.src.now in
    let s1 = goes adds (line_at unknown_of) (λ _. λ (p : Cursor). Ok (unknown, p)) s0 c.in_ok-unknown_line.ensures in
    done adds _ c.in_ok-unknown_line.ensures.ran.left_with s1 (λ later. refl)
