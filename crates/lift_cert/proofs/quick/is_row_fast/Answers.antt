use Rattle.std.proofs.Common.{rules, to_z-of_z, SFits}
use mir.Syntax.{w128}
use Rattle.corner_lift.specs.Case.{row_whole, corner_count}
use Rattle.corner_lift.specs.Certificate.{mark}
use Rattle.lift_cert.specs.RejectMiss.{weight_below}
use Rattle.lift_cert.proofs.RejectMisses.{weight_least}
use Rattle.lift_cert.proofs.QuickTests.{granted, enough_at_least}
use Rattle.lift_cert.proofs.Targets.{fast}
use Rattle.lift_cert.proofs.quick.is_row_fast.Goals as goal

pub returns-then-are_below : goal.returns-then-are_below
returns-then-are_below g c =
    let k = c.args.table.now.case in
    let s = c.args.state in
    let a = c.args.choice in
    let r = c.args.r.now in
    let all = rw (c.ranks-ranks.ensures, c.rank-rank.ensures, c.targets.ensures) at (c.are_below.ensures c.if-are_below.true) in
    granted (λ corner lt.
    let positive = weight_least c.rows_at_corners.ensures.rise c.corners_bound_weights.ensures.sum c.rows_at_corners.ensures.parameters k
    g.spans s a corner c.case.ensures.case c.requires.0.inside c.requires.1.0.state c.requires.1.0.choice (mark r.ranks) (mark r.ranks s) in
    fast c.rows_at_corners.ensures.parameters k g.spans c.case.ensures.case c.requires.0.inside s a c.requires.1.0
    c.rows_at_corners.ensures.least r all corner lt positive)

pub is_enough-requires-clause-weight : goal.is_enough-requires-clause-weight
is_enough-requires-clause-weight g c =
    let fits : SFits w128 c.least_into-sum.result.sum = search rules in
    let at = c.least_into-sum.ensures.least.attained in
    let least = weight_least c.rows_at_corners.ensures.rise c.corners_bound_weights.ensures.sum c.rows_at_corners.ensures.parameters
    c.args.table.now.case g.spans c.args.state c.args.choice at.0 c.case.ensures.case c.requires.0.inside c.requires.1.0.state
    c.requires.1.0.choice (mark c.ranks-ranks.result.now) c.rank-rank.result in
    rw (to_z-of_z fits, at.1.1) least

pub returns : goal.returns
returns g c =
    let k = c.args.table.now.case in
    let s = c.args.state in
    let a = c.args.choice in
    let r = c.args.r.now in
    let sum_fits : SFits w128 c.least_into-sum.result.sum = search rules in
    let whole_fits : SFits w128 c.least_into-sum.result.whole = search rules in
    let least = rw (c.ranks-ranks.ensures, c.rank-rank.ensures) at c.least_into-sum.ensures.least in
    let test = rw (to_z-of_z sum_fits, to_z-of_z whole_fits, c.least_into-sum.ensures.whole.value, c.e.ensures) at c.is_enough.ensures in
    let same = enough_at_least (λ n. weight_below k g.spans r s a n) (corner_count k s a) c.least_into-sum.result.sum (row_whole k s a) r.e least in
    (λ is. same.0 (test.0 is), λ all. test.1 (same.1 all))
