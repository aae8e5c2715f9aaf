use Rattle.std.proofs.Common.{◌≡◌, true, false, rules, arith, SFits, w64, to_z-of_z, ◌∙◌, pos, ◌-ℤ◌, ◌^◌}
use Rattle.lift_poly.proofs.Ring.{linear}
use Rattle.corner_lift.specs.Certificate.{mark}
use Rattle.lift_dual.proofs.all.greatest_all_above.Goals as goal

pub leave_lower-requires : goal.leave_lower-requires
leave_lower-requires g c =
    let found = c.least_avoiding_within.ensures in
    (c.requires.0.table, (c.least_avoiding_within.auto.ranks ∙ c.requires.1.0, (found.stages, (found.most, found.avoiding.least c.if-not-least_avoiding_within.false))))

pub returns-then-not-least_avoiding_within-clause-none : goal.returns-then-not-least_avoiding_within-clause-none
returns-then-not-least_avoiding_within-clause-none g c none o lower =
    let k = c.args.rows.now.case in
    let fits : SFits w64 c.most_left-most.result = search rules in
    let top_fits : SFits w64 c.top.result = search rules in
    let most : c.most_left-most.result ≡ (c.top.result -ℤ pos 1) -ℤ c.args.limit = rw (to_z-of_z top_fits, to_z-of_z c.ranges.limit) at c.most_left-most.ensures in
    let found = rw (to_z-of_z fits) at c.least_avoiding_within.ensures.avoiding in
    let left = c.rest_is_greatest.ensures.avoiding k g.spans (mark c.least_avoiding_within.new.ranks) o c.w.ensures.case c.requires.0.table.inside c.least_avoiding_within.ensures.stages lower in
    omega (arith, linear, found.past c.if-not-least_avoiding_within.true left.0 left.1.0, left.1.1.each k.model.init c.w.ensures.case.asked.model.first, most, c.top.ensures)

pub returns-clause-some : goal.returns-clause-some
returns-clause-some g c =
    let k = c.args.rows.now.case in
    let fits : SFits w64 c.most_left-most.result = search rules in
    let top_fits : SFits w64 c.top.result = search rules in
    let most : c.most_left-most.result ≡ (c.top.result -ℤ pos 1) -ℤ c.args.limit = rw (to_z-of_z top_fits, to_z-of_z c.ranges.limit) at c.most_left-most.ensures in
    let found = rw (to_z-of_z fits) at c.least_avoiding_within.ensures.avoiding in
    record {
      greatest = c.leave_lower.ensures.greatest;
      height = c.leave_lower.ensures.height;
      above = omega (arith, linear, found.first c.if-not-least_avoiding_within.false, c.leave_lower.ensures.rest.each k.model.init c.w.ensures.case.asked.model.first, most, c.top.ensures);
    }
