use Rattle.std.proofs.Common.{rules, sym, subst}
use Rattle.lower_cert.specs.Lowering.{IsHigh}
use Rattle.lift_collapse.proofs.Cases.{written_over}
use Rattle.lift_collapse.proofs.lanes.Lanes.lower_above.Goals as goal

pub returns-in-Some-clause-high : goal.returns-in-Some-clause-high
returns-in-Some-clause-high g c = λ is.
    let k = c.args.rows.now.case.now in
    let z = c.greatest_reject_above-rate.new.lane in
    let found = c.in-Some.ensures.some.greatest in
    let high : IsHigh k g.spans z = record { numbers = found.holds.numbers; goal = λ s goal. (found.holds.goal s goal).0; above = search rules } in
    subst (λ x. IsHigh k g.spans x) (sym (written_over c.args.self.now.values.len z _ (search rules))) high
