use Rattle.std.proofs.Common.{rules, arith}
use Rattle.lift_bounded.specs.Steps.{LowersData}
use Rattle.lift_bounded.proofs.Shapes.{vectors_kept}
use Rattle.lift_bounded.proofs.Single.{upper_numbers, lower_numbers}
use Rattle.lift_bounded.proofs.decision.decide_in.Goals as goal

pub is_within-requires : goal.is_within-requires
is_within-requires g c = rw (c.case.ensures, c.lane.ensures) (upper_numbers c.args.rows.now.case g.spans c.args.h c.least_uppers.new.numbers.lanes c.least_uppers.ensures.least.uppers c.args.h (omega arith)).size

pub greatest_lowers-requires : goal.greatest_lowers-requires
greatest_lowers-requires g c = (c.requires.0, (vectors_kept c.lanes_have_shapes.ensures.same c.args.rows.now.case c.args.h c.args.numbers.now c.least_uppers.new.numbers c.least_uppers.ensures.shape c.requires.1.0, (c.requires.1.1.0, (search rules, c.requires.1.1.1.1))))

pub is_within-requires-2 : goal.is_within-requires-2
is_within-requires-2 g c = rw (c.case-2.ensures, c.lane-2.ensures) (lower_numbers c.args.rows.now.case g.spans c.args.h (record { numbers = c.greatest_lowers.new.numbers.lanes; picks = c.greatest_lowers.new.picks.lanes }) c.greatest_lowers.ensures.lowers.lowers c.args.h (omega arith)).size

pub returns-then-is_within-clause-decided : goal.returns-then-is_within-clause-decided
returns-then-is_within-clause-decided g c =
    let within = rw (c.case.ensures, c.lane.ensures) at (c.is_within.ensures.within c.if-is_within.true) in
    (record { uppers = c.least_uppers.ensures.least.uppers; limit = within }, c.least_uppers.ensures.least)

pub returns-then-is_within-2-clause-decided : goal.returns-then-is_within-2-clause-decided
returns-then-is_within-2-clause-decided g c =
    let k = c.args.rows.now.case in
    let r : LowersData = record { numbers = c.greatest_lowers.new.numbers.lanes; picks = c.greatest_lowers.new.picks.lanes } in
    let beyond = rw (c.case.ensures, c.lane.ensures) at (c.is_within.ensures.beyond c.if-is_within.false) in
    let within = rw (c.case-2.ensures, c.lane-2.ensures) at (c.is_within-2.ensures.within c.if-is_within-2.true) in (
      c.steps_make_certificates.ensures.none_accept k g.spans c.args.bound c.args.h c.least_uppers.new.numbers.lanes c.least_uppers.ensures.least beyond,
      c.steps_make_certificates.ensures.none_reject k g.spans c.args.bound c.args.h r c.greatest_lowers.ensures.lowers within,
    )

pub returns-clause-decided : goal.returns-clause-decided
returns-clause-decided g c =
    let k = c.args.rows.now.case in
    let beyond = rw (c.case.ensures, c.lane.ensures) at (c.is_within.ensures.beyond c.if-is_within.false) in
    let limit = rw (c.case-2.ensures, c.lane-2.ensures) at (c.is_within-2.ensures.beyond c.if-is_within-2.false) in (
      c.steps_make_certificates.ensures.none_accept k g.spans c.args.bound c.args.h c.least_uppers.new.numbers.lanes c.least_uppers.ensures.least beyond,
      record { lowers = c.greatest_lowers.ensures.lowers.lowers; limit = limit },
      c.greatest_lowers.ensures.lowers,
    )
