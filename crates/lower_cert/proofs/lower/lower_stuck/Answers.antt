use Rattle.std.proofs.Common.{arith, rules, SFits, w64, to_z, of_z, to_z-of_z}
use Rattle.corner_lift.specs.Case.{number}
use Rattle.lower_cert.proofs.Lowering.{lower_step}
use Rattle.lower_cert.proofs.lower.lower_stuck.Goals as goal

pub loop-s-preserved : goal.loop-s-preserved
loop-s-preserved c =
    let fits : SFits w64 c.lowered.result = search rules in
    let was : SFits w64 (number c.loop-s.lane c.loop-s.s) = search rules in
    rw (to_z-of_z fits) (lower_step c.args.lane.now c.loop-s.lane c.args.ranks.now (to_z w64 (of_z w64 c.args.level)) c.lowered.result c.loop-s.s (omega (arith, c.loop-s-test.true, c.loop-s.auto.lane)) c.loop-s.invariant (rw (to_z-of_z was, c.rank_of.ensures) at c.lowered.ensures))
