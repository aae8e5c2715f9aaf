use Rattle.std.proofs.Common.{rules, SFits, w64, to_z, of_z, to_z-of_z, arith, subst, sym}
use Rattle.corner_lift.specs.Case.{number}
use Rattle.lower_cert.specs.Holding.{IsAboveAt}
use Rattle.lower_cert.proofs.Beginning.{keeps_both, keeps_wider}
use Rattle.lower_cert.proofs.Holding.{high_more, high_on}
use Rattle.lower_cert.proofs.held.restore.Goals as goal

pub loop-position-preserved : goal.loop-position-preserved
loop-position-preserved g c =
    let k = c.args.rows.now.case in
    let l = c.args.rows.now.links in
    let q = c.args.search.now in
    let at = c.loop-position.position in
    let fits : SFits w64 (number q.base c.place.result) = search rules in
    let value = to_z w64 (of_z w64 (number q.base c.place.result)) in
    record {
      kept = keeps_both k l q.held.part.low q.held.part.high c.args.lane.now c.loop-position.lane c.write_at.new.lane c.loop-position.invariant.kept
          (keeps_wider k l q.held.part.low q.held.part.high at c.loop-position.lane c.write_at.new.lane (omega arith) (omega arith) c.write_at.ensures.kept);
      above = high_more k l g.run q.held.part.low at c.loop-position.lane c.write_at.new.lane value c.loop-position.invariant.above c.write_at.ensures.kept c.write_at.ensures.here
          (λ s h. subst (λ v. IsAboveAt k g.run s v) (sym (to_z-of_z fits)) (subst (λ i. IsAboveAt k g.run s (number q.base i)) (sym c.place.ensures) (c.requires.1.0.base at s (omega arith) (omega arith) h)));
    }

pub returns-clause-high : goal.returns-clause-high
returns-clause-high g c =
    high_on c.args.rows.now.case c.args.rows.now.links g.run c.args.search.now.held.part.low c.args.search.now.held.part.high c.args.lane.now c.loop-position.lane c.requires.1.1 c.loop-position.invariant.kept
    (λ at s from to h. c.loop-position.invariant.above at s from (omega (arith, to, c.loop-position-test.false)) h)
