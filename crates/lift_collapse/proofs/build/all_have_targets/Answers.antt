use Rattle.std.proofs.Common.{length, List, All, ◌∙◌, subst}
use Rattle.std.proofs.lemmas.List.Elements.{All-map}
use Rattle.lift_model.specs.declared.entry.Entry.{Entry}
use Rattle.lift_collapse.specs.Building.{HasTargets}
use Rattle.lift_collapse.proofs.Targets.{all_more, all_of}
use Rattle.lift_collapse.proofs.build.all_have_targets.Goals as goal

pub loop-rows-preserved : goal.loop-rows-preserved
loop-rows-preserved c =
    let here = subst (λ (rows : List (List Entry)). All (HasTargets (length c.args.states.now)) rows) c.deref.ensures.value (subst (λ n. All (HasTargets n) c.deref.result.now) c.loop-rows.invariant.1 c.in-Some.ensures.targets) in (
      all_more (λ v. All (HasTargets (length c.args.states.now)) v.items) c.args.states.now c.loop-rows.rows-index c.rows-item.result c.loop-rows-test.true c.rows-item.is c.loop-rows.invariant.0 here,
      c.have_targets.ensures.size ∙ c.loop-rows.invariant.1,
    )

pub returns : goal.returns
returns c = λ is. All-map (All (HasTargets (length c.args.states.now))) (λ v. v.items) c.args.states.now (all_of (λ v. All (HasTargets (length c.args.states.now)) v.items) c.args.states.now c.loop-rows.rows-index c.loop-rows-test.false c.loop-rows.invariant.0)
