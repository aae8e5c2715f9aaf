use Rattle.std.proofs.Common.{◌≡◌, true, false, arith}
use Rattle.lift_model.specs.Model.{is_goal}
use Rattle.lift_cert.proofs.QuickTests.{in_place}
use Rattle.lift_cert.proofs.quick.is_state_held.Goals as goal

pub returns : goal.returns
returns g c =
    let inner : is_goal c.args.table.now.case.model c.args.state ≡ false =
    rw (c.is_goal.ensures, c.model.ensures.value, c.case-case.ensures.value) at c.if-is_goal.false in
    let ranked = c.is_ranked.ensures.ranked.0 c.if-not-is_ranked.false in
    in_place c.is_row_held.result (rw c.pick-choice.ensures at c.is_row_held.ensures)
    (λ row. record {
      goal = λ is. let wrong : true ≡ false = cc (is, inner) in absurd (cc wrong);
      unranked = λ is none. absurd (omega (arith, none, ranked));
      row = λ is low. row;
    })
    (λ held. held.row inner ranked)
