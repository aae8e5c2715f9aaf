use Rattle.std.proofs.Common.{List, sym, subst}
use Rattle.std.proofs.lemmas.List.{take_more}
use Rattle.lift_lump.specs.Search.{AreRaised}
use Rattle.lift_lump.specs.declared.arrows.Arrow.{Arrow}
use Rattle.lift_lump.proofs.Raising.{raised_more}
use Rattle.lift_lump.proofs.arrows.add_marks.Goals as goal

pub loop-arrow-preserved : goal.loop-arrow-preserved
loop-arrow-preserved c = record {
  raised =
      let none : Arrow = record { source = 0; mark = 0 } in
      let all = raised_more _ _ _ _ _ c.loop-arrow.invariant.raised c.in_ok-add_mark.ensures.numbers in
      subst (λ (xs : List Arrow). AreRaised c.args.numbers.now c.add_mark.new.numbers xs) (sym (take_more c.args.arrows.now c.loop-arrow.arrow-index none c.loop-arrow-test.true)) all;
  visited = λ h. c.in_ok-add_mark.ensures.visited (c.loop-arrow.invariant.visited h);
}
