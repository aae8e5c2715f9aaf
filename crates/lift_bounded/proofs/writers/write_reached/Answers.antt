use Rattle.std.proofs.Common.{rules, ◌^◌}
use Rattle.corner_lift.specs.Case.{number}
use Rattle.lift_bounded.proofs.Texts.{reached-line}
use Rattle.lift_bounded.proofs.writers.write_reached.Goals as goal

pub returns : goal.returns
returns g c = rw (reached-line (number c.args.lane.now c.args.case.now.model.init) (2 ^ c.args.case.now.w)) (search rules)
