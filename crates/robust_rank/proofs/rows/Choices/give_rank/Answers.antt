use Rattle.std.proofs.Common.{◌<◌, get_or, set, length, refl, sym, ap, arith}
use Rattle.lift_model.specs.Model.{ModelData}
use Rattle.corner_lift.specs.Certificate.{unmarked}
use Rattle.robust_rank.proofs.InOrder.{passed}
use Rattle.robust_rank.proofs.rows.Choices.give_rank.Goals as goal

pub returns-in-Some : goal.returns-in-Some
returns-in-Some g c is =
    let ranks = c.args.ranks.now in
    let s = get_or c.order.result.now c.args.position 0 in
    let state : s < length c.args.self.now.rows.case.now.model.states = omega (arith, c.if-s-states.false, c.states.ensures.value, ap (λ (m : ModelData). length m.states) c.model.ensures.value) in
    passed c.args.self.now.rows.case.now c.args.self.now.rows.links.now g.spans c.args.self.now.allowed.now ranks c.args.position s c.in-Some.rank c.requires.0.links.order c.requires.1.1 c.requires.1.0
    (ap (λ order. get_or order c.args.position 0) (sym c.order.ensures)) state (set ranks s unmarked) (set (set ranks s unmarked) s c.in-Some.rank) refl refl c.in-Some.ensures
