use Rattle.std.proofs.Common.{rules, [], to_z-of_z, SFits}
use mir.Syntax.{w128}
use Rattle.corner_lift.specs.Case.{row_whole, corner_count}
use Rattle.lift_cert.specs.RejectMiss.{weight_below}
use Rattle.audit_cert.specs.Held.{ranking_of}
use Rattle.audit_cert.proofs.Rows.{enough, weight_range}
use Rattle.audit_cert.proofs.Saying.{chained}
use Rattle.audit_cert.proofs.claim.Ranking.is_row_fast.Goals as goal

pub is_enough-requires-clause-weight : goal.is_enough-requires-clause-weight
is_enough-requires-clause-weight g c =
    let fits : SFits w128 c.least_into-sum.result.sum = search rules in
    let least = rw c.rank-rank.ensures at c.least_into-sum.ensures.least in
    let at = least.attained in
    rw (to_z-of_z fits, at.1.1)
    (weight_range c.rows_at_corners.ensures.parameters c.args.table.now.case g.spans c.requires.0.inside.within c.rows_at_corners.ensures.least c.rows_at_corners.ensures.most
    c.case.ensures.case c.requires.0.inside (ranking_of [] c.args.self.now) c.args.state c.args.choice at.0
    (record { state = c.requires.1.0.state; choice = c.requires.1.0.choice }) at.1.0).0

pub returns : goal.returns
returns g c =
    let k = c.args.table.now.case in
    let s = c.args.state in
    let a = c.args.choice in
    let r = ranking_of [] c.args.self.now in
    let sum_fits : SFits w128 c.least_into-sum.result.sum = search rules in
    let whole_fits : SFits w128 c.least_into-sum.result.whole = search rules in
    let least = rw c.rank-rank.ensures at c.least_into-sum.ensures.least in
    let test = rw (to_z-of_z sum_fits, to_z-of_z whole_fits, c.least_into-sum.ensures.whole.value) at c.is_enough.ensures in
    chained test (enough (λ n. weight_below k g.spans r s a n) (corner_count k s a) c.least_into-sum.result.sum (row_whole k s a) r.e least)
