use Rattle.std.proofs.Common.{◌≡◌, ◌<◌, true, false, length, subst, arith}
use Rattle.std.proofs.lemmas.Bool.{both_ways}
use Rattle.lift_model.specs.Model.{is_goal, choices}
use Rattle.corner_lift.specs.Certificate.{unmarked, mark}
use Rattle.robust_rank.specs.Rate.{IsFirstFrom}
use Rattle.lift_dual.specs.Rates.{IsRateOfChoices, IsRateOfState}
use Rattle.lift_dual.proofs.Doubling.{any_will, next_choice}
use Rattle.lift_dual.proofs.rates.rate_of_state.Goals as goal

pub returns-then-is_unranked-clause-least : goal.returns-then-is_unranked-clause-least
returns-then-is_unranked-clause-least g c = any_will (IsRateOfState c.args.rows.now.case g.spans c.args.ranks.now c.args.s) c.args.first (λ isnt ranked. absurd (omega (arith, ranked, c.is_unranked.ensures.yes c.if-is_unranked.true)))

pub returns-then-is_goal-clause-least : goal.returns-then-is_goal-clause-least
returns-then-is_goal-clause-least g c =
    let is : is_goal c.args.rows.now.case.model c.args.s ≡ true = cc in
    any_will (IsRateOfState c.args.rows.now.case g.spans c.args.ranks.now c.args.s) c.args.first (λ isnt ranked. absurd (both_ways (is_goal c.args.rows.now.case.model c.args.s) isnt is))

pub loop-a-init : goal.loop-a-init
loop-a-init g c = record {
  least = any_will (IsRateOfChoices c.args.rows.now.case g.spans c.args.ranks.now c.args.s 0) c.args.first (λ a lt. absurd (omega (arith, lt)));
  most = c.requires.1.1.1.1;
}

pub rate_of_row-e-requires : goal.rate_of_row-e-requires
rate_of_row-e-requires g c =
    let isnt : is_goal c.args.rows.now.case.model c.args.s ≡ false = cc in
    let ranked : mark c.args.ranks.now c.args.s < unmarked = c.is_unranked.ensures.no c.if-is_unranked.false in
    let inside : c.loop-a.a < length (choices c.args.rows.now.case.model c.args.s) = omega (arith, c.loop-a-test.true, c.choice_count-a-end.ensures) in
    (c.requires.0, (record { state = c.requires.1.0; choice = inside }, (c.requires.1.1.0, (c.requires.1.1.1.0 isnt ranked c.loop-a.a inside, c.loop-a.invariant.most))))

pub loop-a-preserved : goal.loop-a-preserved
loop-a-preserved g c = record {
  least = next_choice c.args.rows.now.case g.spans c.w.ensures.case c.args.ranks.now c.args.s c.loop-a.a c.args.first c.loop-a.e c.rate_of_row-e.result c.loop-a.invariant.least c.rate_of_row-e.ensures.least;
  most = c.rate_of_row-e.ensures.most;
}

pub returns-clause-least : goal.returns-clause-least
returns-clause-least g c =
    let isnt : is_goal c.args.rows.now.case.model c.args.s ≡ false = cc in
    let all = subst (λ count. IsFirstFrom (IsRateOfChoices c.args.rows.now.case g.spans c.args.ranks.now c.args.s count) c.args.first c.loop-a.e) (omega (arith, c.choice_count-a-end.ensures, c.loop-a-test.false, c.loop-a.auto.a-end)) c.loop-a.invariant.least in
    let ranked : mark c.args.ranks.now c.args.s < unmarked = c.is_unranked.ensures.no c.if-is_unranked.false in
    record { from = all.from; holds = λ free some. all.holds; least = λ m le rates. all.least m le (rates isnt ranked) }
