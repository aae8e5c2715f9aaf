use Rattle.std.proofs.Common.{◌≢◌, arith}
use Rattle.std.proofs.lemmas.Bool.{both_ways}
use Rattle.lift_model.specs.Model.{row_at}
use Rattle.lift_model.specs.Links.{targets_of}
use Rattle.corner_lift.specs.Certificate.{mark}
use Rattle.robust_rank.specs.InOrder.{unseen}
use Rattle.robust_rank.proofs.Only.{all_two, pair_inside}
use Rattle.robust_rank.proofs.InOrder.{found_none_allowed, pair_have}
use Rattle.robust_rank.proofs.rows.Choices.rank_of_pair.Goals as goal

pub mark_of-first-requires : goal.mark_of-first-requires
mark_of-first-requires g c = (pair_inside c.args.self.now.rows.case.now c.args.self.now.rows.links.now c.args.s _ c.args.row c.w.ensures.case c.requires.1.0 c.requires.1.1.0 c.requires.1.1.1).0

pub mark_of-second-requires : goal.mark_of-second-requires
mark_of-second-requires g c = (pair_inside c.args.self.now.rows.case.now c.args.self.now.rows.links.now c.args.s _ c.args.row c.w.ensures.case c.requires.1.0 c.requires.1.1.0 c.requires.1.1.1).1

pub returns-then-not-is_allowed : goal.returns-then-not-is_allowed
returns-then-not-is_allowed g c =
    let row = c.requires.1.1.0 in
    found_none_allowed c.args.self.now.rows.case.now g.spans c.args.self.now.allowed.now (mark c.args.ranks.now) c.args.s row.only
    (all_two (λ t. mark c.args.ranks.now t ≢ unseen) (targets_of (row_at c.args.self.now.rows.case.now.model c.args.s 0)) c.args.row.first c.args.row.second row.targets
    (λ e. omega (arith, e, c.if-first.false, c.mark_of-first.ensures)) (λ e. omega (arith, e, c.if-second.false, c.mark_of-second.ensures)))
    (λ pass. both_ways _ c.if-not-is_allowed.true (c.is_allowed.ensures.1 pass))

pub rank_between-requires : goal.rank_between-requires
rank_between-requires g c =
    let have = pair_have c.args.self.now.rows.case.now.model c.args.self.now.rows.links.now (mark c.args.ranks.now) c.args.s c.mark_of-first.result c.mark_of-second.result c.min-low.result c.max-high.result c.args.row c.requires.1.1.0
    c.mark_of-first.ensures c.mark_of-second.ensures c.if-first.false c.if-second.false c.min-low.ensures c.max-high.ensures in
    (c.requires.0, (c.requires.1.0, (c.requires.1.1.0, (c.requires.1.1.1, (c.is_allowed.ensures.0 c.if-not-is_allowed.false, have)))))
