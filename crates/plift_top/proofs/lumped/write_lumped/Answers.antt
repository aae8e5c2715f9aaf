use Rattle.plift_top.proofs.Lumping.{of_quotient, tested_quotient, is_lumped_case}
use Rattle.plift_top.proofs.lumped.write_lumped.Goals as goal

pub write_quotient-written-requires : goal.write_quotient-written-requires
write_quotient-written-requires g c =
    let is = c.in_ok-lumped.ensures in
    tested_quotient c.quotients_are_cases.ensures.cases c.cases_have_distributions.ensures.weights c.cases_have_distributions.ensures.sums c.args.case.now c.in_ok-lumped.lumped c.model.result.now c.requires.case c.requires.chain c.model.ensures.value is.lumped is.small

pub returns : goal.returns
returns g c a =
    let k = c.args.case.now in
    let l = c.in_ok-lumped.lumped in
    let found = c.in_ok-lumped.ensures in
    let is = is_lumped_case k l c.model.result.now c.requires.case c.requires.chain c.model.ensures.value found.lumped found.hold in
    let tested = tested_quotient c.quotients_are_cases.ensures.cases c.cases_have_distributions.ensures.weights c.cases_have_distributions.ensures.sums k l c.model.result.now c.requires.case c.requires.chain c.model.ensures.value found.lumped found.small in
    of_quotient c.quotients_hold.ensures.plans c.quotients_hold.ensures.some k l is tested.case.asked.model g.K.Sink.taken g.K.Sink.faults c.args.bound a c.args.out.now c.write_quotient-written.new.out c.write_quotient-written.result (c.write_quotient-written.ensures a)
