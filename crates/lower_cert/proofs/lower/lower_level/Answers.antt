use Rattle.std.proofs.Common.{to_z-of_z}
use Rattle.lower_cert.proofs.Lowering.{high_after, total_after}
use Rattle.lower_cert.proofs.lower.lower_level.Goals as goal

pub returns-clause-high : goal.returns-clause-high
returns-clause-high g c = high_after c.vectors_are_lowered.ensures.under c.vectors_are_lowered.ensures.stuck c.rows_at_corners.ensures.numbers c.args.rows.now.case g.spans c.args.lane.now c.lower_stuck.new.lane c.args.ranks.now c.args.picks.now c.args.level c.w.ensures.case c.requires.0 c.requires.1.0 c.requires.1.1.0 c.requires.1.1.1.0 c.requires.1.1.1.1 (rw (to_z-of_z c.ranges.level) at c.lower_stuck.ensures)

pub returns-clause-lower : goal.returns-clause-lower
returns-clause-lower g c = total_after c.vectors_are_lowered.ensures.under c.vectors_are_lowered.ensures.stuck c.rows_at_corners.ensures.numbers c.args.rows.now.case g.spans c.args.lane.now c.lower_stuck.new.lane c.args.ranks.now c.args.picks.now c.args.level c.w.ensures.case c.requires.0 c.requires.1.0 c.requires.1.1.0 c.requires.1.1.1.0 c.requires.1.1.1.1 (rw (to_z-of_z c.ranges.level) at c.lower_stuck.ensures)
