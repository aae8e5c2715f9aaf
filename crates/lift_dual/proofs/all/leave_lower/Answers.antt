use Rattle.std.proofs.Common.{[], refl}
use Rattle.lift_grid.specs.Tree.{RejectData}
use Rattle.lift_dual.proofs.Doubling.{has_least}
use Rattle.lift_dual.proofs.all.leave_lower.Goals as goal

pub returns-clause-greatest : goal.returns-clause-greatest
returns-clause-greatest g c =
    let k = c.args.rows.now.case in
    let r : RejectData = record { numbers = c.leave_rest.new.lane; picks = []; ranks = c.args.ranks.now; e = c.rate_all.result; k = c.height.result } in
    let size = c.requires.1.0 in
    let has = has_least k g.spans r size c.rate_all.ensures.least c.rate_all.ensures.most c.height.ensures.height in
    c.rest_is_greatest.ensures.rest k g.spans c.args.lane.now r c.w.ensures.case c.requires.0.inside refl size c.height.ensures.marks c.requires.1.1.0 has c.requires.1.1.1.1 c.leave_rest.ensures

pub returns-clause-height : goal.returns-clause-height
returns-clause-height g c = c.height.ensures.height.least _ c.w.ensures.case.asked.model.count.0 c.requires.1.1.1.0
