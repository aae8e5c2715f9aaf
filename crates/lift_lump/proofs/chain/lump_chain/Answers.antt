use Rattle.std.proofs.Common.{◌<◌, FitsSigned, w64, to_z, of_z, rules, length, get_or, map, sym, subst, ap, ◌∙◌}
use Rattle.std.proofs.lemmas.List.{get_or_default}
use Rattle.std.proofs.lemmas.Int.{to_z-of_z}
use Rattle.lift_model.specs.declared.kind.Kind.TheVariants.{Dtmc}
use Rattle.lift_model.specs.Model.{is_goal}
use Rattle.lift_lump.specs.Comparing.{blocks_of}
use Rattle.lift_lump.proofs.Quotients.{quotient_is}
use Rattle.lift_lump.proofs.chain.lump_chain.Goals as goal

pub returns-clause-lumped : goal.returns-clause-lumped
returns-clause-lumped c =
    let m = c.args.model.now in
    let found = c.in_ok-found.ensures in
    let p = blocks_of c.in_ok-found.found.blocks in
    let in_states : c.init.result < length p.of_states = subst (λ i. i < length p.of_states) (sym c.init.ensures.value) (subst (λ n. m.init < n) (sym found.numbered.count) c.init.ensures.model.first) in
    let init = c.index-init.ensures ∙ get_or_default p.of_states c.init.result c.index-init.result.now 0 in_states ∙ ap (λ s. get_or p.of_states s 0) c.init.ensures.value in
    let fits : FitsSigned w64 c.common.result = search rules in
    record {
      coarsest = found.coarsest;
      numbered = found.numbered;
      model = c.new-quotient.ensures ∙ quotient_is m p Dtmc (to_z w64 (of_z w64 c.common.result)) c.in_ok-names.names c.in_ok-goal.goal.items c.index-init.result.now (map (λ v. v.items) c.in_ok-found.found.rows.items)
          (sym c.requires.chain) (to_z-of_z w64 c.common.result fits ∙ c.common.ensures.value) (c.in_ok-names.ensures ∙ c.names.ensures.value) (c.in_ok-goal.ensures ∙ ap (map (is_goal m)) c.deref-2.ensures.value) init found.rows;
    }
