use Rattle.std.proofs.Common.{◌≡◌, length, Ok, codes, rules, refl}
use Rattle.line_text.specs.Reading.{◌>>=◌, Cursor, line_at}
use Rattle.line_text.specs.Parts.{number_in}
use Rattle.cert_text.specs.Nodes.{split, split_at}
use Rattle.cert_text.proofs.NodeSteps.{split_is_read}
use Rattle.cert_text.proofs.Following.{begin_as, done, goes, read_as, stops}
use Rattle.cert_text.proofs.node_reader.split_at.Goals as goal

pub returns-in_err-axis : goal.returns-in_err-axis
returns-in_err-axis g c =
    let adds = c.calls_add_up.ensures in
    let s0 = begin_as adds (split_at c.args.head.now) (λ p. line_at (number_in (codes "split") 0 (length c.args.head.now.asked.model.names)) p >>= λ axis. Ok (split axis.0, axis.1)) (split_is_read c.args.head.now) c.args.lines.now c.args.src.now in
    let many : length c.args.head.now.asked.model.names ≡ c.from-parameters.result = search rules in
    let s1 = read_as (λ n. λ (p : Cursor). line_at (number_in (codes "split") 0 n) p >>= λ axis. Ok (split axis.0, axis.1)) many s0 in
    stops adds (line_at (number_in (codes "split") 0 c.from-parameters.result)) (λ axis. λ (p : Cursor). Ok (split axis, p)) c.from_residual.result c.from_residual.ensures.1 s1 c.in_err-axis.ensures.follows

pub returns : goal.returns
returns g c =
    let adds = c.calls_add_up.ensures in
    let s0 = begin_as adds (split_at c.args.head.now) (λ p. line_at (number_in (codes "split") 0 (length c.args.head.now.asked.model.names)) p >>= λ axis. Ok (split axis.0, axis.1)) (split_is_read c.args.head.now) c.args.lines.now c.args.src.now in
    let many : length c.args.head.now.asked.model.names ≡ c.from-parameters.result = search rules in
    let s1 = read_as (λ n. λ (p : Cursor). line_at (number_in (codes "split") 0 n) p >>= λ axis. Ok (split axis.0, axis.1)) many s0 in
    let s2 = goes adds (line_at (number_in (codes "split") 0 c.from-parameters.result)) (λ axis. λ (p : Cursor). Ok (split axis, p)) s1 c.in_ok-axis.ensures.follows in
    done adds _ c.in_ok-axis.ensures.follows.ran.left_with s2 (λ later. refl)
