use Rattle.std.proofs.Common.{rules, arith, SFits, w64, to_z-of_z, ◌≤ℤ◌, subst, ℤ}
use Rattle.float_guess.proofs.Parts.{same_both, rounded_more}
use Rattle.float_guess.proofs.part.Part.round.Goals as goal

pub loop-position-preserved : goal.loop-position-preserved
loop-position-preserved c =
    let d = c.args.self.now.rule.ends in
    let k = c.args.self.now.case.now in
    let l = c.args.self.now.links.now in
    let low = c.args.self.now.low in
    let high = c.args.self.now.high in
    let fits : SFits w64 c.rounded.result = search rules in
    let written = rw (to_z-of_z fits) at c.write.ensures in
    let P : ℤ → Type 0 = λ top. c.rounded.result ≤ℤ top in
    record {
      same = same_both d k l low high c.args.lane.now c.loop-position.lane c.write.new.lane c.loop-position.invariant.same c.write.ensures.same;
      rounded = rounded_more d k l low high c.loop-position.position c.loop-position.lane c.write.new.lane c.rounded.result c.loop-position-test.true (c.rounded.ensures.0, subst P c.requires.top c.rounded.ensures.1) c.loop-position.invariant.rounded written;
    }

pub returns-clause-rounded : goal.returns-clause-rounded
returns-clause-rounded c = λ at from to s h. c.loop-position.invariant.rounded at from (omega (arith, to, c.loop-position-test.false)) s h
