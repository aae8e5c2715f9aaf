use Rattle.std.proofs.Common.{◌<◌, length, arith}
use Rattle.std.proofs.lemmas.List.{get_or_default}
use Rattle.corner_lift.specs.Certificate.{unmarked}
use Rattle.audit_cert.specs.Claim.{PassesRow}
use Rattle.audit_cert.specs.Held.{claim_of}
use Rattle.audit_cert.proofs.Forms.{picks_some, each_tested, tested_each, pick_tested, tested_pick}
use Rattle.audit_cert.proofs.Saying.{in_place}
use Rattle.audit_cert.proofs.quick.are_rows_passed.Goals as goal

pub is_each_row_passed-requires : goal.is_each_row_passed-requires
is_each_row_passed-requires g c = (c.requires.0, (c.requires.1.0, c.requires.1.1.state))

pub returns-in-None : goal.returns-in-None
returns-in-None g c =
    let k = c.args.table.now.case in
    let claim = c.args.claim.now in
    in_place c.is_each_row_passed.result c.is_each_row_passed.ensures
    (λ all. each_tested k claim c.args.state (PassesRow k g.spans (claim_of claim) c.args.state) c.in-None.is all)
    (λ all. tested_each k claim c.args.state (PassesRow k g.spans (claim_of claim) c.args.state) c.in-None.is all)

pub bounds-picks-state : goal.bounds-picks-state
bounds-picks-state g c =
    let has = picks_some c.args.table.now.case c.args.claim.now c.in-Some.picks c.in-Some.is c.requires.1.0 in
    omega (arith, has.size, c.requires.1.1.state)

pub is_row_passed-requires : goal.is_row_passed-requires
is_row_passed-requires g c =
    let has = picks_some c.args.table.now.case c.args.claim.now c.in-Some.picks c.in-Some.is c.requires.1.0 in
    let lt : c.args.state < length c.in-Some.picks.now = omega (arith, has.size, c.requires.1.1.state) in
    let same = get_or_default c.in-Some.picks.now c.args.state unmarked 0 lt in
    (c.requires.0, (record { state = c.requires.1.1.state; choice = rw (← same) (has.others c.args.state c.requires.1.1.state c.requires.1.1.inner) }, c.requires.1.0))

pub returns-in-Some : goal.returns-in-Some
returns-in-Some g c =
    let k = c.args.table.now.case in
    let claim = c.args.claim.now in
    let has = picks_some k claim c.in-Some.picks c.in-Some.is c.requires.1.0 in
    let lt : c.args.state < length c.in-Some.picks.now = omega (arith, has.size, c.requires.1.1.state) in
    let same = get_or_default c.in-Some.picks.now c.args.state unmarked 0 lt in
    in_place c.is_row_passed.result (rw (← same) at c.is_row_passed.ensures)
    (λ row. pick_tested k claim c.in-Some.picks c.args.state (PassesRow k g.spans (claim_of claim) c.args.state) c.in-Some.is row)
    (λ all. tested_pick k claim c.in-Some.picks c.args.state (PassesRow k g.spans (claim_of claim) c.args.state) c.in-Some.is all)
