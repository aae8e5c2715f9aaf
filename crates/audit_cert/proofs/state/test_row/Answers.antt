use Rattle.std.proofs.Common.{arith, below_more}
use Rattle.lift_grid.specs.Rectangle.{spans_of}
use Rattle.audit_cert.specs.Claim.{PassesCorner}
use Rattle.audit_cert.specs.Held.{claim_of}
use Rattle.audit_cert.proofs.state.test_row.Goals as goal

pub test_mean-requires-clause-at : goal.test_mean-requires-clause-at
test_mean-requires-clause-at c = record {
  row = c.requires.at;
  in_range = rw c.corner_count-corner-end.ensures.count at c.loop-corner-test.true;
  corners = c.loop-corner.invariant;
}

pub test_rate-requires-clause-at : goal.test_rate-requires-clause-at
test_rate-requires-clause-at c = record {
  row = c.requires.at;
  in_range = rw c.corner_count-corner-end.ensures.count at c.loop-corner-test.true;
  corners = c.loop-corner.invariant;
}

pub loop-corner-preserved : goal.loop-corner-preserved
loop-corner-preserved c = below_more (PassesCorner c.args.case.now (spans_of c.args.sides.now) (claim_of c.args.claim.now) c.args.state c.args.choice) c.loop-corner.corner c.loop-corner.invariant
    (record { met = c.in_ok-test_mean.ensures.miss; fast = c.in_ok-test_rate.ensures.miss })

pub returns-clause-miss : goal.returns-clause-miss
returns-clause-miss c =
    let all = rw c.corner_count-corner-end.ensures.count at c.loop-corner-test.false in
    λ corner lt. c.loop-corner.invariant corner (omega (arith, all))
