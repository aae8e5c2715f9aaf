use Rattle.std.proofs.Common.{◌≡◌, ◌∙◌, length, ap, subst}
use Rattle.std.proofs.lemmas.List.{with_items_is}
use Rattle.corner_lift.specs.Table.{IsTable}
use Rattle.lift_bounded.proofs.Shapes.{vectors_of, choices_of}
use Rattle.lift_bounded.proofs.decision.decide_over.Goals as goal

pub decide_in-requires : goal.decide_in-requires
decide_in-requires g c =
    let d = c.args.decider.now in
    let k = d.case.now in
    let has = rw (← c.lanes.view_is) at c.requires.1.1.0 in
    let size : length c.fill.new.weights ≡ c.lanes.inside.weights.len = c.fill.auto.weights ∙ c.deref_mut.ensures.len in (
      rw (c.new-rows.ensures, c.deref.ensures.value, with_items_is c.lanes.inside.weights c.fill.new.weights size) (subst (λ ss. IsTable k d.links.now ss c.fill.new.weights) c.requires.0 c.fill.ensures),
      (
        rw c.new-rows.ensures (vectors_of c.lanes_have_shapes.ensures.lengths k d.steps c.lanes.inside.numbers has.numbers),
        (
          rw c.new-rows.ensures (choices_of c.lanes_have_shapes-2.ensures.lengths k d.steps c.lanes.inside.picks has.picks),
          (
            rw c.new-rows.ensures (ap length c.deref_mut-2.ensures.value ∙ has.work),
            rw c.new-rows.ensures (ap length c.deref_mut-3.ensures.value ∙ has.marks),
          ),
        ),
      ),
    )
