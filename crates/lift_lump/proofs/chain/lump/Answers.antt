use Rattle.std.proofs.Common.{ap, ◌∙◌}
use Rattle.lift_model.specs.Model.{ModelData}
use Rattle.lift_lump.specs.Quotient.{block, hold}
use Rattle.lift_lump.proofs.chain.lump.Goals as goal

pub returns-in_ok-lumped-in-Dtmc-clause-hold : goal.returns-in_ok-lumped-in-Dtmc-clause-hold
returns-in_ok-lumped-in-Dtmc-clause-hold c = λ v n s lt.
    let m = c.args.model.now in
    let is = c.in_ok-lumped-in-Dtmc.ensures.lumped in
    let p = c.in_ok-lumped-in-Dtmc.lumped.blocks in
    ap (λ (q : ModelData). hold q v n (block p s)) is.model ∙ c.quotients_hold.ensures.same m p c.common-common.ensures.model is.coarsest.right is.numbered v n s lt
