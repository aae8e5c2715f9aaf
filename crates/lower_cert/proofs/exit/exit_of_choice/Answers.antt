use Rattle.std.proofs.Common.{rules, pos, ◌≤ℤ◌, SFits, w64, to_z, of_z, to_z-of_z}
use Rattle.lower_cert.specs.Exits.{ExitsAtMost}
use Rattle.lower_cert.proofs.Exits.{one_of_two}
use Rattle.lower_cert.proofs.exit.exit_of_choice.Goals as goal

pub loop-corner-init : goal.loop-corner-init
loop-corner-init g c =
    let fits : SFits w64 c.exit_at_corner-least.result = search rules in
    rw (to_z-of_z fits) (c.exit_at_corner-least.ensures.least, c.exit_at_corner-least.ensures.most)

pub loop-corner-preserved : goal.loop-corner-preserved
loop-corner-preserved g c =
    let fits : SFits w64 c.lesser-least.result = search rules in
    let other_fits : SFits w64 c.exit_at_corner-other.result = search rules in
    let one = rw (to_z-of_z other_fits) at c.lesser-least.ensures in
    rw (to_z-of_z fits) (one_of_two (λ r. (pos 0 ≤ℤ r) × ExitsAtMost c.args.rows.now.case g.spans c.args.lane.now c.args.marks.now (to_z w64 (of_z w64 c.args.level)) c.args.s c.args.a r) _ c.exit_at_corner-other.result c.lesser-least.result one c.loop-corner.invariant (c.exit_at_corner-other.ensures.least, c.exit_at_corner-other.ensures.most))
