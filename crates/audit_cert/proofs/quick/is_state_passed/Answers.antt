use Rattle.std.proofs.Common.{◌≡◌, true, false}
use Rattle.lift_model.specs.Model.{is_goal}
use Rattle.audit_cert.specs.Claim.{lacks_rank}
use Rattle.audit_cert.specs.Held.{claim_of}
use Rattle.audit_cert.proofs.Saying.{in_place}
use Rattle.audit_cert.proofs.quick.is_state_passed.Goals as goal

pub are_rows_passed-requires : goal.are_rows_passed-requires
are_rows_passed-requires g c = (
  c.requires.0,
  (
    c.requires.1.0,
    record {
      state = c.requires.1.1;
      inner = rw (c.is_goal.ensures, c.model.ensures.value, c.case-case.ensures.value) at c.if-is_goal.false;
      ranked = rw c.lacks_rank.ensures at c.if-lacks_rank.false;
    },
  ),
)

pub returns : goal.returns
returns g c =
    let inner : is_goal c.args.table.now.case.model c.args.state ≡ false = rw (c.is_goal.ensures, c.model.ensures.value, c.case-case.ensures.value) at c.if-is_goal.false in
    let ranked : lacks_rank (claim_of c.args.claim.now).ranking c.args.state ≡ false = rw c.lacks_rank.ensures at c.if-lacks_rank.false in
    in_place c.are_rows_passed.result c.are_rows_passed.ensures
    (λ rows. record {
      goal = λ is. let wrong : true ≡ false = cc (is, inner) in absurd (cc wrong);
      unranked = λ is lacking. let wrong : true ≡ false = cc (lacking, ranked) in absurd (cc wrong);
      rows = λ is has. rows;
    })
    (λ passes. passes.rows inner ranked)
