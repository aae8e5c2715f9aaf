use Rattle.std.proofs.Common.{◌+◌, codes, refl, Ok}
use Rattle.lift_frac.specs.Limits.{size_limit}
use Rattle.corner_lift.specs.Case.{most_halvings, most_precision}
use Rattle.line_text.specs.Reading.{◌>>=◌, line_at}
use Rattle.line_text.specs.Parts.{number_in}
use Rattle.cert_text.specs.declared.head_parts.Asked.{Asked}
use Rattle.cert_text.specs.Lines.{bound_of, box_of}
use Rattle.cert_text.specs.Head.{from_at}
use Rattle.cert_text.specs.HeadParts.{asked_at}
use Rattle.cert_text.proofs.Following.{begin_as, done, goes, stops}
use Rattle.cert_text.proofs.HeadRests.{asked_is, behind_bound, behind_w, behind_from, behind_depth, behind_grid}
use Rattle.cert_text.proofs.head_parts.asked_lines.Goals as goal

pub from_line-requires-clause-ready : goal.from_line-requires-clause-ready
from_line-requires-clause-ready g c = c.in_ok-w.ensures.follows.ran.left_with

pub returns-in_err-bound : goal.returns-in_err-bound
returns-in_err-bound g c =
    let adds = c.calls_add_up.ensures in
    let s0 = begin_as adds (asked_at c.args.second c.args.parameters) (λ p. line_at bound_of p >>= λ bound. behind_bound c.args.second c.args.parameters bound.0 bound.1) (asked_is c.args.second c.args.parameters) c.args.lines.now c.args.src.now in
    stops adds (line_at bound_of) (behind_bound c.args.second c.args.parameters) c.from_residual.result c.from_residual.ensures.1 s0 c.in_err-bound.ensures

pub returns-in_err-w : goal.returns-in_err-w
returns-in_err-w g c =
    let adds = c.calls_add_up.ensures in
    let s0 = begin_as adds (asked_at c.args.second c.args.parameters) (λ p. line_at bound_of p >>= λ bound. behind_bound c.args.second c.args.parameters bound.0 bound.1) (asked_is c.args.second c.args.parameters) c.args.lines.now c.args.src.now in
    let s1 = goes adds (line_at bound_of) (behind_bound c.args.second c.args.parameters) s0 c.in_ok-bound.ensures in
    stops adds (line_at (number_in (codes "precision") 1 (most_precision + 1))) (behind_w c.args.second c.args.parameters c.in_ok-bound.bound) c.from_residual-in_err-w.result c.from_residual-in_err-w.ensures.1 s1 c.in_err-w.ensures.follows

pub returns-in_err-from : goal.returns-in_err-from
returns-in_err-from g c =
    let adds = c.calls_add_up.ensures in
    let s0 = begin_as adds (asked_at c.args.second c.args.parameters) (λ p. line_at bound_of p >>= λ bound. behind_bound c.args.second c.args.parameters bound.0 bound.1) (asked_is c.args.second c.args.parameters) c.args.lines.now c.args.src.now in
    let s1 = goes adds (line_at bound_of) (behind_bound c.args.second c.args.parameters) s0 c.in_ok-bound.ensures in
    let s2 = goes adds (line_at (number_in (codes "precision") 1 (most_precision + 1))) (behind_w c.args.second c.args.parameters c.in_ok-bound.bound) s1 c.in_ok-w.ensures.follows in
    stops adds (from_at c.args.second c.in_ok-w.w) (behind_from c.args.parameters c.in_ok-bound.bound c.in_ok-w.w) c.from_residual-in_err-from.result c.from_residual-in_err-from.ensures.1 s2 c.in_err-from.ensures

pub returns-in_err-depth : goal.returns-in_err-depth
returns-in_err-depth g c =
    let adds = c.calls_add_up.ensures in
    let s0 = begin_as adds (asked_at c.args.second c.args.parameters) (λ p. line_at bound_of p >>= λ bound. behind_bound c.args.second c.args.parameters bound.0 bound.1) (asked_is c.args.second c.args.parameters) c.args.lines.now c.args.src.now in
    let s1 = goes adds (line_at bound_of) (behind_bound c.args.second c.args.parameters) s0 c.in_ok-bound.ensures in
    let s2 = goes adds (line_at (number_in (codes "precision") 1 (most_precision + 1))) (behind_w c.args.second c.args.parameters c.in_ok-bound.bound) s1 c.in_ok-w.ensures.follows in
    let s3 = goes adds (from_at c.args.second c.in_ok-w.w) (behind_from c.args.parameters c.in_ok-bound.bound c.in_ok-w.w) s2 c.in_ok-from.ensures in
    stops adds (line_at (number_in (codes "depth") 0 (most_halvings + 1))) (behind_depth c.args.parameters c.in_ok-bound.bound c.in_ok-w.w c.in_ok-from.from) c.from_residual-in_err-depth.result c.from_residual-in_err-depth.ensures.1 s3 c.in_err-depth.ensures.follows

pub returns-in_err-d : goal.returns-in_err-d
returns-in_err-d g c =
    let adds = c.calls_add_up.ensures in
    let s0 = begin_as adds (asked_at c.args.second c.args.parameters) (λ p. line_at bound_of p >>= λ bound. behind_bound c.args.second c.args.parameters bound.0 bound.1) (asked_is c.args.second c.args.parameters) c.args.lines.now c.args.src.now in
    let s1 = goes adds (line_at bound_of) (behind_bound c.args.second c.args.parameters) s0 c.in_ok-bound.ensures in
    let s2 = goes adds (line_at (number_in (codes "precision") 1 (most_precision + 1))) (behind_w c.args.second c.args.parameters c.in_ok-bound.bound) s1 c.in_ok-w.ensures.follows in
    let s3 = goes adds (from_at c.args.second c.in_ok-w.w) (behind_from c.args.parameters c.in_ok-bound.bound c.in_ok-w.w) s2 c.in_ok-from.ensures in
    let s4 = goes adds (line_at (number_in (codes "depth") 0 (most_halvings + 1))) (behind_depth c.args.parameters c.in_ok-bound.bound c.in_ok-w.w c.in_ok-from.from) s3 c.in_ok-depth.ensures.follows in
    stops adds (line_at (number_in (codes "grid") 1 size_limit)) (behind_grid c.args.parameters c.in_ok-bound.bound c.in_ok-w.w c.in_ok-from.from c.in_ok-depth.depth) c.from_residual-in_err-d.result c.from_residual-in_err-d.ensures.1 s4 c.in_err-d.ensures.follows

pub returns-in_err-root : goal.returns-in_err-root
returns-in_err-root g c =
    let adds = c.calls_add_up.ensures in
    let s0 = begin_as adds (asked_at c.args.second c.args.parameters) (λ p. line_at bound_of p >>= λ bound. behind_bound c.args.second c.args.parameters bound.0 bound.1) (asked_is c.args.second c.args.parameters) c.args.lines.now c.args.src.now in
    let s1 = goes adds (line_at bound_of) (behind_bound c.args.second c.args.parameters) s0 c.in_ok-bound.ensures in
    let s2 = goes adds (line_at (number_in (codes "precision") 1 (most_precision + 1))) (behind_w c.args.second c.args.parameters c.in_ok-bound.bound) s1 c.in_ok-w.ensures.follows in
    let s3 = goes adds (from_at c.args.second c.in_ok-w.w) (behind_from c.args.parameters c.in_ok-bound.bound c.in_ok-w.w) s2 c.in_ok-from.ensures in
    let s4 = goes adds (line_at (number_in (codes "depth") 0 (most_halvings + 1))) (behind_depth c.args.parameters c.in_ok-bound.bound c.in_ok-w.w c.in_ok-from.from) s3 c.in_ok-depth.ensures.follows in
    let s5 = goes adds (line_at (number_in (codes "grid") 1 size_limit)) (behind_grid c.args.parameters c.in_ok-bound.bound c.in_ok-w.w c.in_ok-from.from c.in_ok-depth.depth) s4 c.in_ok-d.ensures.follows in
    stops adds (line_at (box_of c.args.parameters c.in_ok-depth.depth)) (λ root p. Ok (record { bound = c.in_ok-bound.bound; precisions = record { from = c.in_ok-from.from; w = c.in_ok-w.w }; depth = c.in_ok-depth.depth; d = c.in_ok-d.d; root = root }, p)) c.from_residual-in_err-root.result c.from_residual-in_err-root.ensures.1 s5 c.in_err-root.ensures

pub returns : goal.returns
returns g c =
    let adds = c.calls_add_up.ensures in
    let s0 = begin_as adds (asked_at c.args.second c.args.parameters) (λ p. line_at bound_of p >>= λ bound. behind_bound c.args.second c.args.parameters bound.0 bound.1) (asked_is c.args.second c.args.parameters) c.args.lines.now c.args.src.now in
    let s1 = goes adds (line_at bound_of) (behind_bound c.args.second c.args.parameters) s0 c.in_ok-bound.ensures in
    let s2 = goes adds (line_at (number_in (codes "precision") 1 (most_precision + 1))) (behind_w c.args.second c.args.parameters c.in_ok-bound.bound) s1 c.in_ok-w.ensures.follows in
    let s3 = goes adds (from_at c.args.second c.in_ok-w.w) (behind_from c.args.parameters c.in_ok-bound.bound c.in_ok-w.w) s2 c.in_ok-from.ensures in
    let s4 = goes adds (line_at (number_in (codes "depth") 0 (most_halvings + 1))) (behind_depth c.args.parameters c.in_ok-bound.bound c.in_ok-w.w c.in_ok-from.from) s3 c.in_ok-depth.ensures.follows in
    let s5 = goes adds (line_at (number_in (codes "grid") 1 size_limit)) (behind_grid c.args.parameters c.in_ok-bound.bound c.in_ok-w.w c.in_ok-from.from c.in_ok-depth.depth) s4 c.in_ok-d.ensures.follows in
    let s6 = goes adds (line_at (box_of c.args.parameters c.in_ok-depth.depth)) (λ root p. Ok (record { bound = c.in_ok-bound.bound; precisions = record { from = c.in_ok-from.from; w = c.in_ok-w.w }; depth = c.in_ok-depth.depth; d = c.in_ok-d.d; root = root }, p)) s5 c.in_ok-root.ensures in
    let asked : Asked = record {
      bound = c.in_ok-bound.bound;
      precisions = record { from = c.in_ok-from.from; w = c.in_ok-w.w };
      depth = c.in_ok-depth.depth;
      d = c.in_ok-d.d;
      root = c.in_ok-root.root;
    } in
    done adds asked c.in_ok-root.ensures.ran.left_with s6 (λ later. refl)
