use Rattle.std.proofs.Common.{◌≡◌, ◌<◌, length, refl, subst, sym, arith}
use Rattle.lift_model.specs.Model.{choices}
use Rattle.lift_model.specs.Links.{HasChoice}
use Rattle.corner_lift.specs.Certificate.{unmarked, mark}
use Rattle.corner_lift.specs.Stages.{LeadsBelow}
use Rattle.robust_rank.specs.Rate.{IsRowRate}
use Rattle.robust_rank.proofs.rows.Rows.rate_of_state.Goals as goal

pub rate_of_row-requires : goal.rate_of_row-requires
rate_of_row-requires g c =
    let chosen : c.mark_of-pick.result < unmarked = omega arith in
    let there : mark c.args.picks.now c.args.s < unmarked = omega (arith, c.mark_of-pick.ensures) in
    let row : HasChoice c.args.self.now.case.now.model c.args.s c.mark_of-pick.result = record { state = c.requires.1.1.1.0; choice = rw c.mark_of-pick.ensures (c.requires.1.1.0.in_range c.args.s there) } in
    let leads = subst (λ a. LeadsBelow c.args.self.now.case.now g.spans (mark c.args.ranks.now) (mark c.args.ranks.now c.args.s) c.args.s a) (sym c.mark_of-pick.ensures) (c.requires.1.1.0.leads c.args.s there) in
    (c.requires.0, (c.requires.1.0, (row, (c.requires.1.1.0.sizes.0, (leads, c.requires.1.1.1.1)))))

pub rate_of_only-requires : goal.rate_of_only-requires
rate_of_only-requires g c =
    let there : mark c.args.picks.now c.args.s < unmarked = omega (arith, c.mark_of-pick.ensures) in
    let picks = c.requires.1.1.0 in
    let leads = λ (one : length (choices c.args.self.now.case.now.model c.args.s) ≡ 1).
    let first : mark c.args.picks.now c.args.s ≡ 0 = omega (arith, picks.in_range c.args.s there, one) in
    subst (λ a. LeadsBelow c.args.self.now.case.now g.spans (mark c.args.ranks.now) (mark c.args.ranks.now c.args.s) c.args.s a) first (picks.leads c.args.s there) in
    (c.requires.0, (c.requires.1.0, (c.requires.1.1.1.0, (picks.sizes.0, (leads, c.requires.1.1.1.1)))))

pub returns-in-Some-clause-least : goal.returns-in-Some-clause-least
returns-in-Some-clause-least g c =
    let there : mark c.args.picks.now c.args.s < unmarked = omega (arith, c.mark_of-pick.ensures) in
    let only = c.in-Some.ensures.only refl in
    let first : mark c.args.picks.now c.args.s ≡ 0 = omega (arith, c.requires.1.1.0.in_range c.args.s there, only) in
    let found = c.in-Some.ensures.least in
    record {
      from = found.from;
      holds = λ chosen. subst (λ a. IsRowRate c.args.self.now.case.now g.spans c.args.ranks.now c.args.s a c.in-Some.rate) (sym first) found.holds;
      least = λ m le enough. found.least m le (subst (λ a. IsRowRate c.args.self.now.case.now g.spans c.args.ranks.now c.args.s a m) first (enough there));
    }

pub returns-in-None-clause-least : goal.returns-in-None-clause-least
returns-in-None-clause-least g c =
    let there : mark c.args.picks.now c.args.s < unmarked = omega (arith, c.mark_of-pick.ensures) in
    let found = c.rate_of_row.ensures.least in
    let same = c.mark_of-pick.ensures in
    record {
      from = found.from;
      holds = λ chosen. subst (λ a. IsRowRate c.args.self.now.case.now g.spans c.args.ranks.now c.args.s a c.rate_of_row.result) same found.holds;
      least = λ m le enough. found.least m le (subst (λ a. IsRowRate c.args.self.now.case.now g.spans c.args.ranks.now c.args.s a m) (sym same) (enough there));
    }
