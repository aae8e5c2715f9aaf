use Rattle.std.proofs.Common.{◌∙◌, ◌≤◌, subst}
use Rattle.lift_lump.specs.Search.{whole}
use Rattle.lift_lump.proofs.Entering.{arrows_none, arrows_step, arrows_all}
use Rattle.lift_lump.proofs.arrows.arrows_of.Goals as goal

pub loop-s-init : goal.loop-s-init
loop-s-init c = arrows_none c.args.model.now (whole c.args.point.now) c.in_ok-lists.lists (c.in_ok-lists.ensures.count ∙ c.states.ensures.value) c.in_ok-lists.ensures.none

pub loop-s-preserved : goal.loop-s-preserved
loop-s-preserved c = arrows_step c.args.model.now (whole c.args.point.now) c.loop-s.s c.loop-s.lists c.enter.new.lists c.in_ok-enter.ensures.goal c.in_ok-enter.ensures.entered c.loop-s.invariant

pub returns : goal.returns
returns c =
    let are = c.loop-s.invariant in
    record {
      count = are.size;
      arrows = are.arrows;
      marks = arrows_all c.args.model.now (whole c.args.point.now) c.loop-s.s c.loop-s.lists (subst (λ n. n ≤ c.loop-s.s) c.states-s-end.ensures.value c.loop-s-test.false) are;
    }
