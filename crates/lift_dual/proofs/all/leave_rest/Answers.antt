use Rattle.std.proofs.Common.{rules, SFits, w64, to_z, of_z, to_z-of_z, ◌≡◌, ◌+◌, ◌≤◌, ◌∙◌, ◌^◌, pos, ◌-ℤ◌, arith}
use Rattle.lift_poly.proofs.Ring.{linear}
use Rattle.corner_lift.specs.Case.{number}
use Rattle.lift_dual.proofs.Greatest.{done_more, others_more}
use Rattle.lift_dual.proofs.all.leave_rest.Goals as goal

pub rest-requires : goal.rest-requires
rest-requires c =
    let here = c.loop-s.invariant.others c.loop-s.s (omega arith) in
    let range = c.rows_at_corners.ensures.numbers c.args.rows.now.case c.args.lane.now c.loop-s.s c.requires in
    let top_fits : SFits w64 c.top-top.result = search rules in
    let fits : SFits w64 (number c.loop-s.lane c.loop-s.s) = search rules in
    rw (to_z-of_z top_fits, to_z-of_z fits) (omega (arith, linear, here, range.0), omega (arith, linear, here, range.1, c.top-top.ensures))

pub loop-s-preserved : goal.loop-s-preserved
loop-s-preserved c =
    let here = c.loop-s.invariant.others c.loop-s.s (omega arith) in
    let top_fits : SFits w64 c.top-top.result = search rules in
    let fits : SFits w64 (number c.loop-s.lane c.loop-s.s) = search rules in
    let rest_fits : SFits w64 c.rest.result = search rules in
    let is = rw (to_z-of_z top_fits, to_z-of_z fits) at c.rest.ensures in
    record {
      done = done_more (λ i v. v ≡ pos (2 ^ c.args.rows.now.case.w) -ℤ number c.args.lane.now i) c.loop-s.lane c.loop-s.s (to_z w64 (of_z w64 c.rest.result)) (omega (arith, c.loop-s-test.true, c.loop-s.auto.lane)) c.loop-s.invariant.done (omega (arith, linear, to_z-of_z rest_fits, is, here, c.top-top.ensures));
      others = λ i le. let behind : c.loop-s.s + 1 ≤ i = omega (arith, le) in others_more c.loop-s.lane c.args.lane.now c.loop-s.s (to_z w64 (of_z w64 c.rest.result)) c.loop-s.invariant.others i behind;
    }

pub returns : goal.returns
returns c = record {
  size = c.loop-s.auto.lane ∙ c.requires.size;
  each = λ s lt. c.loop-s.invariant.done s (omega (arith, lt, c.requires.size, c.loop-s-test.false, c.loop-s.auto.lane));
}
