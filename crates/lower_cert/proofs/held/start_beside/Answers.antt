use Rattle.std.proofs.Common.{◌∙◌, rules, SFits, w64, to_z, of_z, to_z-of_z, pos, ◌≤ℤ◌, ◌+ℤ◌, arith, subst, sym}
use Rattle.lift_poly.proofs.Ring.{linear}
use Rattle.corner_lift.specs.Case.{number}
use Rattle.lower_cert.specs.Holding.{holding, IsAboveAt}
use Rattle.lower_cert.proofs.Beginning.{keeps_both, keeps_wider}
use Rattle.lower_cert.proofs.Holding.{high_more, started, begun_high}
use Rattle.lower_cert.proofs.held.start_beside.Goals as goal

pub write_at-requires-clause-value : goal.write_at-requires-clause-value
write_at-requires-clause-value g c =
    let fits : SFits w64 c.with_more-start.result = search rules in
    let base : SFits w64 (number c.args.search.now.base c.place-place.result) = search rules in
    rw (to_z-of_z fits) (c.with_more-start.ensures.range.0, omega (arith, linear, c.with_more-start.ensures.range.1, (c.requires.1.0.base_range c.place-place.result).1, to_z-of_z base))

pub loop-position-preserved : goal.loop-position-preserved
loop-position-preserved g c =
    let k = c.args.rows.now.case in
    let l = c.args.rows.now.links in
    let q = c.args.search.now in
    let at = c.loop-position.position in
    let fits : SFits w64 c.with_more-start.result = search rules in
    let base_fits : SFits w64 (number q.base c.place-place.result) = search rules in
    let settled_fits : SFits w64 (number q.settled c.place-place.result) = search rules in
    let low_fits : SFits w64 q.low = search rules in
    let more_fits : SFits w64 c.excess-more.result = search rules in
    let value = to_z w64 (of_z w64 c.args.value) in
    let base = to_z w64 (of_z w64 (number q.base c.place-place.result)) in
    let settled = to_z w64 (of_z w64 (number q.settled c.place-place.result)) in
    let more = to_z w64 (of_z w64 c.excess-more.result) in
    let grows : pos 0 ≤ℤ more = omega (arith, linear, c.excess-more.ensures.0, to_z-of_z more_fits) in
    let enough : value ≤ℤ (q.low +ℤ more) = omega (arith, linear, c.excess-more.ensures.1, to_z-of_z more_fits, to_z-of_z low_fits) in
    record {
      kept = keeps_both k l q.held.part.low q.held.part.high c.args.lane.now c.loop-position.lane c.write_at.new.lane c.loop-position.invariant.kept
          (keeps_wider k l q.held.part.low q.held.part.high at c.loop-position.lane c.write_at.new.lane (omega arith) (omega arith) c.write_at.ensures.kept);
      above = high_more k l (holding g.run q.held.state value) q.held.part.low at c.loop-position.lane c.write_at.new.lane c.with_more-start.result c.loop-position.invariant.above c.write_at.ensures.kept
          (λ s h. c.write_at.ensures.here s h ∙ to_z-of_z fits)
          (λ s h. started c.vectors_are_lowered.ensures.higher k g.run q.held.state q.low more value s base settled c.with_more-start.result c.w.ensures.case c.requires.0.inside c.requires.1.0.place.stands.goal c.requires.1.0.low grows enough
          (subst (λ v. IsAboveAt k g.run s v) (sym (to_z-of_z base_fits)) (subst (λ i. IsAboveAt k g.run s (number q.base i)) (sym c.place-place.ensures) (c.requires.1.0.base at s (omega arith) (omega arith) h)))
          (subst (λ v. IsAboveAt k (holding g.run q.held.state q.low) s v) (sym (to_z-of_z settled_fits)) (subst (λ i. IsAboveAt k (holding g.run q.held.state q.low) s (number q.settled i)) (sym c.place-place.ensures) (c.requires.1.0.settled at s (omega arith) (omega arith) h)))
          c.with_more-start.ensures.either);
    }

pub returns-clause-high : goal.returns-clause-high
returns-clause-high g c =
    let k = c.args.rows.now.case in
    let l = c.args.rows.now.links in
    let q = c.args.search.now in
    let is = to_z-of_z c.ranges.value in
    rw is
    (begun_high c.rows_at_corners.ensures.numbers k l g.run q.held.part.low q.held.part.high q.held.position q.held.state c.args.value c.args.lane.now c.loop-position.lane c.requires.1.1.0 c.loop-position.invariant.kept
    (λ at s from to h. subst (λ v. IsAboveAt k (holding g.run q.held.state v) s (number c.loop-position.lane s)) is (c.loop-position.invariant.above at s from (omega (arith, to, c.loop-position-test.false)) h))
    c.requires.1.0.place.from c.requires.1.0.place.to c.requires.1.0.place.stands c.requires.1.1.1).0

pub returns-clause-kept : goal.returns-clause-kept
returns-clause-kept g c =
    let k = c.args.rows.now.case in
    let l = c.args.rows.now.links in
    let q = c.args.search.now in
    let is = to_z-of_z c.ranges.value in
    rw is
    (begun_high c.rows_at_corners.ensures.numbers k l g.run q.held.part.low q.held.part.high q.held.position q.held.state c.args.value c.args.lane.now c.loop-position.lane c.requires.1.1.0 c.loop-position.invariant.kept
    (λ at s from to h. subst (λ v. IsAboveAt k (holding g.run q.held.state v) s (number c.loop-position.lane s)) is (c.loop-position.invariant.above at s from (omega (arith, to, c.loop-position-test.false)) h))
    c.requires.1.0.place.from c.requires.1.0.place.to c.requires.1.0.place.stands c.requires.1.1.1).1
