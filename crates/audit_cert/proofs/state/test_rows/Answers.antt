use Rattle.std.proofs.Common.{◌≡◌, ◌<◌, length, refl, arith}
use Rattle.std.proofs.lemmas.List.{get_or_default}
use Rattle.lift_grid.specs.Rectangle.{spans_of}
use Rattle.corner_lift.specs.Certificate.{mark, unmarked}
use Rattle.audit_cert.specs.Claim.{PassesRow}
use Rattle.audit_cert.specs.Held.{IsMissAt, claim_of}
use Rattle.audit_cert.proofs.Forms.{picks_some, each_tested, pick_tested}
use Rattle.audit_cert.proofs.Saying.{in_result}
use Rattle.audit_cert.proofs.state.test_rows.Goals as goal

pub test_each_row-requires-clause-each : goal.test_each_row-requires-clause-each
test_each_row-requires-clause-each c = rw c.in-None.is refl

pub returns-in-None-clause-miss : goal.returns-in-None-clause-miss
returns-in-None-clause-miss c =
    let k = c.args.case.now in
    let spans = spans_of c.args.sides.now in
    let claim = c.args.claim.now in
    in_result (IsMissAt k spans (claim_of claim) c.args.state) c.test_each_row.result
    (λ all. each_tested k claim c.args.state (PassesRow k spans (claim_of claim) c.args.state) c.in-None.is all) c.test_each_row.ensures.miss

pub bounds-picks-place : goal.bounds-picks-place
bounds-picks-place c =
    let has = picks_some c.args.case.now c.args.claim.now c.in-Some.picks c.in-Some.is c.requires.form in
    omega (arith, has.size, c.requires.inner.state)

pub test_row-requires-clause-at : goal.test_row-requires-clause-at
test_row-requires-clause-at c =
    let has = picks_some c.args.case.now c.args.claim.now c.in-Some.picks c.in-Some.is c.requires.form in
    let lt : c.args.state < length c.in-Some.picks.now = omega (arith, has.size, c.requires.inner.state) in
    let same = get_or_default c.in-Some.picks.now c.args.state unmarked 0 lt in
    record {
      state = c.requires.inner.state;
      inner = c.requires.inner.inner;
      ranked = c.requires.inner.ranked;
      choice = rw (← same) (has.others c.args.state c.requires.inner.state c.requires.inner.inner);
      tested = rw c.in-Some.is (rw (← same) refl);
      rows = λ b less tested. let e : b ≡ mark c.in-Some.picks.now c.args.state = rw c.in-Some.is at tested in absurd (omega (arith, less, e, same));
    }

pub returns-in-Some-clause-miss : goal.returns-in-Some-clause-miss
returns-in-Some-clause-miss c =
    let k = c.args.case.now in
    let spans = spans_of c.args.sides.now in
    let claim = c.args.claim.now in
    let has = picks_some k claim c.in-Some.picks c.in-Some.is c.requires.form in
    let lt : c.args.state < length c.in-Some.picks.now = omega (arith, has.size, c.requires.inner.state) in
    let same = get_or_default c.in-Some.picks.now c.args.state unmarked 0 lt in
    in_result (IsMissAt k spans (claim_of claim) c.args.state) c.test_row.result
    (λ row. pick_tested k claim c.in-Some.picks c.args.state (PassesRow k spans (claim_of claim) c.args.state) c.in-Some.is (rw (← same) at row)) c.test_row.ensures.miss
