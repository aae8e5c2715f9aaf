use Rattle.std.proofs.Common.{◌<◌}
use Rattle.lift_model.specs.Model.{row_at}
use Rattle.lift_model.specs.Links.{targets_of}
use Rattle.corner_lift.specs.Certificate.{mark}
use Rattle.robust_rank.proofs.Below.{only_rate}
use Rattle.robust_rank.proofs.Only.{all_one, only_choice, single_below}
use Rattle.robust_rank.proofs.rates.rate_of_single.Goals as goal

pub returns-clause-least : goal.returns-clause-least
returns-clause-least g c =
    let k = c.args.case.now in
    let rank = mark c.args.ranks.now in
    let row = c.requires.1.1.0 in
    let below = single_below k g.spans rank (rank c.args.s) c.args.s c.args.target row c.requires.1.1.1.1.0 in
    let all = all_one (λ t. mark c.args.ranks.now t < mark c.args.ranks.now c.args.s) (targets_of (row_at k.model c.args.s 0)) c.args.target row.targets below in
    only_rate k g.spans c.w.ensures.case c.requires.0 c.rows_at_corners.ensures.parameters c.rows_at_corners.ensures.least c.args.ranks.now c.args.s 0 c.args.first (only_choice k.model c.args.s c.requires.1.0 row.only) all
