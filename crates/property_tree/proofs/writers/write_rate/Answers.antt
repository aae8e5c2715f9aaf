use Rattle.std.proofs.Common.{rules, ◌^◌}
use Rattle.corner_lift.specs.Case.{number}
use Rattle.property_tree.proofs.Texts.{rate_line}
use Rattle.property_tree.proofs.writers.write_rate.Goals as goal

pub returns : goal.returns
returns g c = rw (rate_line c.args.rate.e c.args.rate.k (number c.args.numbers.now c.args.case.now.model.init) (2 ^ c.args.u)) (search rules)
