use Rattle.std.proofs.Common.{◌<◌, ◌+◌, All, Contains, length, get_or, drop, refl, sym, subst, ap, ◌∙◌, arith, List, [], ℕ}
use Rattle.std.proofs.lemmas.List.{length-set}
use Rattle.lift_lump.specs.declared.touch.Touched.{Touched}
use Rattle.lift_lump.specs.Renaming.{IsCrowded}
use Rattle.lift_lump.proofs.Crowding.{HaveRestBut, rest_begins, rest_more, rest_ends}
use Rattle.lift_lump.proofs.partition.add_rests.Goals as goal

pub loop-block-init : goal.loop-block-init
loop-block-init c =
    let part = c.args.part.now in
    let touched = c.args.touched.now.items in
    let all = subst (λ (ts : List Touched). (b : ℕ) → IsCrowded part.sizes.items ts b → Contains c.in_ok-blocks.blocks.items b) c.deref.ensures.value c.in_ok-blocks.ensures.all in
    record {
      inside = c.requires.inside;
      gathered = c.requires.gathered;
      rest = subst (λ (bs : List ℕ). HaveRestBut bs part.labels.items part.members touched) (sym c.deref-block-items.ensures.value) (rest_begins part.labels.items part.sizes.items c.in_ok-blocks.blocks.items part.members touched c.requires.inside c.requires.keyed all);
      count = refl;
      same = refl;
    }

pub add_rest_of-requires-clause-block : goal.add_rest_of-requires-clause-block
add_rest_of-requires-clause-block c =
    let below = subst (All (λ b. b < length c.args.part.now.members)) (sym c.deref-block-items.ensures.value) c.in_ok-blocks.ensures.blocks in
    let lt = below c.loop-block.block-index 0 c.loop-block-test.true in
    omega (arith, lt, c.loop-block.invariant.count)

pub add_rest_of-requires-clause-sizes : goal.add_rest_of-requires-clause-sizes
add_rest_of-requires-clause-sizes c = c.requires.sizes ∙ ap length (sym c.loop-block.invariant.same)

pub loop-block-preserved : goal.loop-block-preserved
loop-block-preserved c =
    let step = c.in_ok-add_rest_of.ensures in
    let part = c.loop-block.part in
    let i = c.loop-block.block-index in
    let blocks = c.deref-block-items.result.now in
    let below = subst (All (λ b. b < length c.args.part.now.members)) (sym c.deref-block-items.ensures.value) c.in_ok-blocks.ensures.blocks in
    let low = below i 0 c.loop-block-test.true in
    let count = c.loop-block.invariant.count in
    let block_in : get_or blocks i 0 < length part.members = omega (arith, low, count) in
    record {
      inside = step.inside;
      gathered = step.gathered;
      rest = subst (λ (ls : List ℕ). HaveRestBut (drop (i + 1) blocks) ls c.add_rest_of.new.part.members c.add_rest_of.new.touched.items) (sym step.same)
          (rest_more part.labels.items blocks part.members c.add_rest_of.new.part.members c.loop-block.touched.items c.add_rest_of.new.touched.items i c.loop-block-test.true block_in step.members step.only c.loop-block.invariant.rest);
      count = ap length step.members ∙ length-set part.members (get_or blocks i 0) [] ∙ c.loop-block.invariant.count;
      same = step.same ∙ c.loop-block.invariant.same;
    }

pub returns-clause-rest : goal.returns-clause-rest
returns-clause-rest c = rest_ends c.loop-block.part.labels.items c.deref-block-items.result.now c.loop-block.part.members c.loop-block.touched.items c.loop-block.block-index c.loop-block-test.false c.loop-block.invariant.rest
