use Rattle.std.proofs.Common.{All, length, refl, sym, subst, ◌∙◌, arith}
use Rattle.lift_lump.specs.Search.{arrows_into, IsArrow}
use Rattle.lift_lump.specs.Splitting.{AreClear}
use Rattle.lift_lump.proofs.Holders.{few_labels}
use Rattle.lift_lump.proofs.Clearing.{kept_none, kept_more}
use Rattle.lift_lump.proofs.split.search.Goals as goal

pub loop-block-init : goal.loop-block-init
loop-block-init c = record {
  inside = c.requires.inside;
  used = c.requires.used;
  listed = c.requires.listed;
  size = refl;
  clear = c.requires.clear;
  count = omega arith;
  kept = kept_none (arrows_into c.args.arrows.now) c.args.part.now.labels.items;
}

pub split-requires-clause-count : goal.split-requires-clause-count
split-requires-clause-count c = c.requires.count ∙ sym c.loop-block.invariant.size

pub split-requires-clause-arrows : goal.split-requires-clause-arrows
split-requires-clause-arrows c = subst (λ n. All (All (IsArrow n)) c.args.arrows.now) (sym c.loop-block.invariant.size) c.requires.arrows

pub split-requires-clause-inside : goal.split-requires-clause-inside
split-requires-clause-inside c = c.loop-block.invariant.inside

pub split-requires-clause-states : goal.split-requires-clause-states
split-requires-clause-states c = let size = c.loop-block.invariant.size in let states = c.requires.states in omega (arith, size, states)

pub split-requires-clause-used : goal.split-requires-clause-used
split-requires-clause-used c = c.loop-block.invariant.used

pub split-requires-clause-listed : goal.split-requires-clause-listed
split-requires-clause-listed c = c.loop-block.invariant.listed

pub split-requires-clause-clear : goal.split-requires-clause-clear
split-requires-clause-clear c = subst (λ n. AreClear n c.loop-block.room.numbers.items c.loop-block.room.marks.items) (sym c.loop-block.invariant.size) c.loop-block.invariant.clear

pub loop-block-preserved : goal.loop-block-preserved
loop-block-preserved c =
    let step = c.in_ok-split.ensures in
    let old = c.loop-block.invariant in
    record {
      inside = step.inside;
      used = step.used;
      listed = step.listed;
      size = step.size ∙ old.size;
      clear = subst (λ n. AreClear n c.split.new.room.numbers.items c.split.new.room.marks.items) old.size step.clear;
      count = let a = old.count in let b = step.count in omega (arith, a, b);
      kept = kept_more (arrows_into c.args.arrows.now) c.args.part.now.labels.items c.loop-block.part.labels.items c.split.new.part.labels.items old.size old.kept step.kept;
    }

pub returns-after-loop-block-clause-few : goal.returns-after-loop-block-clause-few
returns-after-loop-block-clause-few c = few_labels c.loop-block.part.labels.items (length c.loop-block.part.members) c.loop-block.invariant.used

pub returns-then-block-len-clause-few : goal.returns-then-block-len-clause-few
returns-then-block-len-clause-few c = few_labels c.loop-block.part.labels.items (length c.loop-block.part.members) c.loop-block.invariant.used
