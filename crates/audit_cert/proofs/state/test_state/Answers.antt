use Rattle.std.proofs.Common.{◌≡◌, true, false}
use Rattle.lift_grid.specs.Rectangle.{spans_of}
use Rattle.lift_model.specs.Model.{is_goal}
use Rattle.audit_cert.specs.Claim.{lacks_rank}
use Rattle.audit_cert.specs.Held.{IsMissAt, claim_of}
use Rattle.audit_cert.proofs.Saying.{in_result}
use Rattle.audit_cert.proofs.state.test_state.Goals as goal

pub test_rows-requires-clause-inner : goal.test_rows-requires-clause-inner
test_rows-requires-clause-inner c = record {
  state = c.requires.state;
  inner = rw (c.is_goal.ensures, c.model.ensures.value) at c.if-is_goal.false;
  ranked = rw c.lacks_rank.ensures at c.if-lacks_rank.false;
}

pub returns-clause-miss : goal.returns-clause-miss
returns-clause-miss c =
    let inner : is_goal c.args.case.now.model c.args.state ≡ false = rw (c.is_goal.ensures, c.model.ensures.value) at c.if-is_goal.false in
    let ranked : lacks_rank (claim_of c.args.claim.now).ranking c.args.state ≡ false = rw c.lacks_rank.ensures at c.if-lacks_rank.false in
    in_result (IsMissAt c.args.case.now (spans_of c.args.sides.now) (claim_of c.args.claim.now) c.args.state) c.test_rows.result
    (λ rows. record {
      goal = λ is. let wrong : true ≡ false = cc (is, inner) in absurd (cc wrong);
      unranked = λ is lacking. let wrong : true ≡ false = cc (lacking, ranked) in absurd (cc wrong);
      rows = λ is has. rows;
    }) c.test_rows.ensures.miss
