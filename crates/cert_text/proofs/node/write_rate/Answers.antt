use Rattle.std.proofs.Common.{rules, ◌^◌}
use Rattle.corner_lift.specs.Case.{number}
use Rattle.cert_text.proofs.Lines.{rate_line}
use Rattle.cert_text.proofs.node.write_rate.Goals as goal

pub returns : goal.returns
returns g c = rw (rate_line c.args.e c.args.k (number c.args.y.now c.args.case.now.model.init) (2 ^ c.args.case.now.w)) (search rules)
