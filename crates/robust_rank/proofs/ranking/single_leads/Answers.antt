use Rattle.std.proofs.Common.{◌<◌, refl}
use Rattle.lift_model.specs.Model.{row_at}
use Rattle.lift_model.specs.Links.{targets_of}
use Rattle.corner_lift.specs.Certificate.{mark}
use Rattle.robust_rank.proofs.Below.{only_leads}
use Rattle.robust_rank.proofs.Only.{all_one, only_choice, single_inside}
use Rattle.robust_rank.proofs.ranking.single_leads.Goals as goal

pub is_below-requires : goal.is_below-requires
is_below-requires g c = single_inside c.args.case.now c.args.s c.args.target _ c.w.ensures.case c.requires.1.0 c.requires.1.1.0 c.requires.1.1.1

pub returns-then-is_below : goal.returns-then-is_below
returns-then-is_below g c =
    let all = all_one (λ t. mark c.args.ranks.now t < c.args.below) (targets_of (row_at c.args.case.now.model c.args.s 0)) c.args.target c.requires.1.1.0.targets (c.is_below.ensures c.if-is_below.true) in
    let leads = only_leads c.args.case.now g.spans c.w.ensures.case c.requires.0 c.rows_at_corners.ensures.parameters c.rows_at_corners.ensures.least (mark c.args.ranks.now) c.args.below c.args.s 0 (only_choice c.args.case.now.model c.args.s c.requires.1.0 c.requires.1.1.0.only) all in
    (λ is. leads, λ is. refl)
