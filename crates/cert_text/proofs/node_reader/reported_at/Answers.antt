use Rattle.std.proofs.Common.{◌≡◌, ◌+◌, codes, sym, rules}
use Rattle.std.specs.List.{before_first}
use Rattle.lift_base.specs.Lines.{is_feed}
use Rattle.line_text.specs.Words.{words}
use Rattle.line_text.specs.Reading.{◌>>=◌, Cursor, due, line_at}
use Rattle.line_text.specs.Parts.{number_in}
use Rattle.line_text.specs.Follow.{place}
use Rattle.cert_text.specs.Head.{HeadData, least_precision, at_precision}
use Rattle.cert_text.specs.Leaf.{node_of}
use Rattle.cert_text.specs.Nodes.{decided_by, reported_at}
use Rattle.cert_text.proofs.NodeSteps.{reported_is_read}
use Rattle.cert_text.proofs.Following.{as_error, begin_as, ends, goes, peeks, read_as, stops, tail, then_fails}
use Rattle.cert_text.proofs.node_reader.reported_at.Goals as goal

pub decided_by-requires-clause-line : goal.decided_by-requires-clause-line
decided_by-requires-clause-line g c = c.in_ok-due.ensures.front

pub decided_by-requires-clause-ready : goal.decided_by-requires-clause-ready
decided_by-requires-clause-ready g c = c.in_ok-due.ensures.ran.left_with

pub returns-in_err-u : goal.returns-in_err-u
returns-in_err-u g c =
    let adds = c.calls_add_up.ensures in
    let s0 = begin_as adds (reported_at c.args.head.now) (λ p. line_at (number_in (codes "at") (least_precision c.args.head.now) (c.args.head.now.asked.w + 1)) p >>= λ u. due u.1 >>= λ l. decided_by (at_precision u.0 c.args.head.now) (words l.0) u.1) (reported_is_read c.args.head.now) c.args.lines.now c.args.src.now in
    let low : least_precision c.args.head.now ≡ c.from-low.result = search rules in
    let end : c.args.head.now.asked.w + 1 ≡ (c.from-end.result + 1) = search rules in
    let s1 = read_as (λ n. λ (p : Cursor). line_at (number_in (codes "at") n (c.args.head.now.asked.w + 1)) p >>= λ u. due u.1 >>= λ l. decided_by (at_precision u.0 c.args.head.now) (words l.0) u.1) low s0 in
    let s2 = read_as (λ n. λ (p : Cursor). line_at (number_in (codes "at") c.from-low.result n) p >>= λ u. due u.1 >>= λ l. decided_by (at_precision u.0 c.args.head.now) (words l.0) u.1) end s1 in
    stops adds (line_at (number_in (codes "at") c.from-low.result (c.from-end.result + 1))) (λ u. λ (p : Cursor). due p >>= λ l. decided_by (at_precision u c.args.head.now) (words l.0) p) c.from_residual.result c.from_residual.ensures.1 s2 c.in_err-u.ensures.follows

pub returns-in_err-due : goal.returns-in_err-due
returns-in_err-due g c =
    let adds = c.calls_add_up.ensures in
    let s0 = begin_as adds (reported_at c.args.head.now) (λ p. line_at (number_in (codes "at") (least_precision c.args.head.now) (c.args.head.now.asked.w + 1)) p >>= λ u. due u.1 >>= λ l. decided_by (at_precision u.0 c.args.head.now) (words l.0) u.1) (reported_is_read c.args.head.now) c.args.lines.now c.args.src.now in
    let low : least_precision c.args.head.now ≡ c.from-low.result = search rules in
    let end : c.args.head.now.asked.w + 1 ≡ (c.from-end.result + 1) = search rules in
    let s1 = read_as (λ n. λ (p : Cursor). line_at (number_in (codes "at") n (c.args.head.now.asked.w + 1)) p >>= λ u. due u.1 >>= λ l. decided_by (at_precision u.0 c.args.head.now) (words l.0) u.1) low s0 in
    let s2 = read_as (λ n. λ (p : Cursor). line_at (number_in (codes "at") c.from-low.result n) p >>= λ u. due u.1 >>= λ l. decided_by (at_precision u.0 c.args.head.now) (words l.0) u.1) end s1 in
    let s3 = goes adds (line_at (number_in (codes "at") c.from-low.result (c.from-end.result + 1))) (λ u. λ (p : Cursor). due p >>= λ l. decided_by (at_precision u c.args.head.now) (words l.0) p) s2 c.in_ok-u.ensures.follows in
    ends adds c.from_residual-in_err-due.result c.from_residual-in_err-due.ensures.1 s3 (as_error {look = node_of} (λ (p : Cursor). due p >>= λ l. decided_by (at_precision c.in_ok-u.u c.args.head.now) (words l.0) p) (λ l fault bad. then_fails (λ q. decided_by (at_precision c.in_ok-u.u c.args.head.now) (words q.0) (place c.number_line.new.lines l)) (due (place c.number_line.new.lines l)) fault bad) c.in_err-due.ensures)

pub returns : goal.returns
returns g c =
    let adds = c.calls_add_up.ensures in
    let s0 = begin_as adds (reported_at c.args.head.now) (λ p. line_at (number_in (codes "at") (least_precision c.args.head.now) (c.args.head.now.asked.w + 1)) p >>= λ u. due u.1 >>= λ l. decided_by (at_precision u.0 c.args.head.now) (words l.0) u.1) (reported_is_read c.args.head.now) c.args.lines.now c.args.src.now in
    let low : least_precision c.args.head.now ≡ c.from-low.result = search rules in
    let end : c.args.head.now.asked.w + 1 ≡ (c.from-end.result + 1) = search rules in
    let s1 = read_as (λ n. λ (p : Cursor). line_at (number_in (codes "at") n (c.args.head.now.asked.w + 1)) p >>= λ u. due u.1 >>= λ l. decided_by (at_precision u.0 c.args.head.now) (words l.0) u.1) low s0 in
    let s2 = read_as (λ n. λ (p : Cursor). line_at (number_in (codes "at") c.from-low.result n) p >>= λ u. due u.1 >>= λ l. decided_by (at_precision u.0 c.args.head.now) (words l.0) u.1) end s1 in
    let s3 = goes adds (line_at (number_in (codes "at") c.from-low.result (c.from-end.result + 1))) (λ u. λ (p : Cursor). due p >>= λ l. decided_by (at_precision u c.args.head.now) (words l.0) p) s2 c.in_ok-u.ensures.follows in
    let s4 = peeks adds (λ line. decided_by (at_precision c.in_ok-u.u c.args.head.now) (words line)) s3 c.in_ok-due.ensures in
    let s5 = read_as (λ (k : HeadData). decided_by k (words (before_first is_feed c.due.new.lines.held))) (sym c.new.ensures) s4 in
    tail adds c.decided_by.result s5 c.decided_by.ensures
