use Rattle.std.proofs.Common.{◌≢◌, arith}
use Rattle.std.proofs.lemmas.Bool.{both_ways}
use Rattle.std.proofs.lemmas.Option.{IfSome_then}
use Rattle.lift_model.specs.Model.{row_at}
use Rattle.lift_model.specs.Links.{targets_of}
use Rattle.corner_lift.specs.Certificate.{mark}
use Rattle.robust_rank.specs.InOrder.{unseen}
use Rattle.robust_rank.proofs.Only.{all_one, single_inside}
use Rattle.robust_rank.proofs.InOrder.{found_single, found_none_allowed}
use Rattle.robust_rank.proofs.rows.Choices.rank_of_single.Goals as goal

pub mark_of-rank-requires : goal.mark_of-rank-requires
mark_of-rank-requires g c = single_inside c.args.self.now.rows.case.now c.args.s c.args.target _ c.w.ensures.case c.requires.1.1.1.0 c.requires.1.1.1.1.0 c.requires.1.1.1.1.1

pub returns : goal.returns
returns g c =
    let row = c.requires.1.1.1.1.0 in
    let premises = c.rows_at_corners.ensures in
    let seen : mark c.args.ranks.now c.args.target ≢ unseen = λ e. omega (arith, e, c.if-rank.false, c.mark_of-rank.ensures) in
    IfSome_then c.next_rank.result c.next_rank.ensures (λ r next.
    found_single c.args.self.now.rows.case.now g.spans c.args.self.now.allowed.now (mark c.args.ranks.now) c.args.s row.only c.w.ensures.case c.requires.1.0 premises.parameters premises.least c.requires.1.1.1.0
    (c.is_allowed.ensures.0 c.if-not-is_allowed.false) c.args.target r row seen (rw c.mark_of-rank.ensures at next))

pub returns-then-not-is_allowed : goal.returns-then-not-is_allowed
returns-then-not-is_allowed g c =
    let row = c.requires.1.1.1.1.0 in
    found_none_allowed c.args.self.now.rows.case.now g.spans c.args.self.now.allowed.now (mark c.args.ranks.now) c.args.s row.only
    (all_one (λ t. mark c.args.ranks.now t ≢ unseen) (targets_of (row_at c.args.self.now.rows.case.now.model c.args.s 0)) c.args.target row.targets (λ e. omega (arith, e, c.if-rank.false, c.mark_of-rank.ensures)))
    (λ pass. both_ways _ c.if-not-is_allowed.true (c.is_allowed.ensures.1 pass))
