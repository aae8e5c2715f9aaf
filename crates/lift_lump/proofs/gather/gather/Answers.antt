use Rattle.std.proofs.Common.{◌<◌, All, length, [], get_or, arith, sym, subst, ◌∙◌}
use Rattle.lift_lump.specs.Search.{IsArrow, arrows_into}
use Rattle.lift_lump.proofs.Gathering.{numbers_none, looked_none, counted_step}
use Rattle.lift_lump.proofs.gather.gather.Goals as goal

pub loop-t-init : goal.loop-t-init
loop-t-init c = record {
  sizes = c.requires.sizes;
  below = c.requires.below;
  are_marked = looked_none c.args.labels.now c.args.block c.args.members.now c.args.marks.now c.requires.unmarked;
  are_numbers = numbers_none (arrows_into c.args.arrows.now) c.args.marks.now c.args.numbers.now c.requires.unmarked c.requires.below c.requires.zero;
  are_visited = λ s lt some. absurd (some (c.requires.zero s));
}

pub count_in-requires-clause-arrows : goal.count_in-requires-clause-arrows
count_in-requires-clause-arrows c =
    let inside : get_or c.args.members.now c.loop-t.t-index 0 < length c.args.arrows.now = omega (arith, c.requires.count, c.requires.members c.loop-t.t-index 0 c.loop-t-test.true) in
    subst (All (IsArrow (length c.args.labels.now))) (sym c.list-into.ensures) (c.requires.arrows (get_or c.args.members.now c.loop-t.t-index 0) [] inside)

pub loop-t-preserved : goal.loop-t-preserved
loop-t-preserved c =
    let counted = c.in_ok-count_in.ensures.counted (arrows_into c.args.arrows.now) (sym c.list-into.ensures) in
    record {
      sizes = (counted.sizes.0 ∙ c.loop-t.invariant.sizes.0, counted.sizes.1 ∙ c.loop-t.invariant.sizes.1);
      below = counted.below;
      are_marked = counted_step (arrows_into c.args.arrows.now) c.args.labels.now c.args.block c.args.members.now c.loop-t.t-index c.loop-t.marks c.count_in.new.marks c.loop-t.numbers c.count_in.new.numbers c.loop-t-test.true c.loop-t.invariant.are_marked counted;
      are_numbers = counted.numbers c.loop-t.invariant.are_numbers;
      are_visited = c.in_ok-count_in.ensures.visited c.loop-t.invariant.are_visited;
    }
