use Rattle.std.proofs.Common.{rules, pos, ◌≤ℤ◌, SFits, w64, to_z-of_z}
use Rattle.lower_cert.specs.Lowering.{HoldsNoMore}
use Rattle.lower_cert.proofs.Exits.{one_of_two}
use Rattle.lower_cert.proofs.sweep.held_at_corners.Goals as goal

pub loop-corner-preserved : goal.loop-corner-preserved
loop-corner-preserved g c =
    let fits : SFits w64 c.lesser-least.result = search rules in
    let other_fits : SFits w64 c.exit_at-other.result = search rules in
    let one = rw (to_z-of_z other_fits) at c.lesser-least.ensures in
    rw (to_z-of_z fits) (one_of_two (λ r. (pos 0 ≤ℤ r) × HoldsNoMore c.args.rows.now.case g.spans c.args.lane.now c.args.s c.args.a r) _ c.exit_at-other.result c.lesser-least.result one c.loop-corner.invariant (c.exit_at-other.ensures.least, c.exit_at-other.ensures.most))
