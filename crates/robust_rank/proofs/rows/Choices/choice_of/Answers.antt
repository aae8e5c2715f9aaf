use Rattle.std.proofs.Common.{◌≡◌, ◌<◌, false, sym, subst, arith}
use Rattle.lift_model.specs.Model.{is_goal}
use Rattle.corner_lift.specs.Certificate.{mark, unmarked}
use Rattle.robust_rank.specs.Staging.{HasLeading}
use Rattle.robust_rank.proofs.rows.Choices.choice_of.Goals as goal

pub known_choice-requires : goal.known_choice-requires
known_choice-requires g c =
    let isnt : is_goal c.args.self.now.rows.case.now.model c.args.s ≡ false = cc in
    let lt : mark c.args.ranks.now c.args.s < unmarked = omega (arith, c.mark_of-rank.ensures) in
    let there = c.requires.1.1.1 isnt lt in
    (c.requires.0, (c.requires.1.0, (c.requires.1.1.0, subst (λ n. HasLeading c.args.self.now.rows.case.now g.spans c.args.self.now.allowed.now (mark c.args.ranks.now) n c.args.s) (sym c.mark_of-rank.ensures) there)))
