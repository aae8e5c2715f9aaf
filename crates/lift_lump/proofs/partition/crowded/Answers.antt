use Rattle.std.proofs.Common.{◌≡◌, ◌<◌, ◌∷◌, [], ◌++◌, ℕ, List, Bool, true, false, All, length, refl, sym, subst, ◌∙◌, arith}
use Rattle.std.proofs.lemmas.List.{get_or_default}
use Rattle.std.proofs.lemmas.List.Elements.{All-push}
use Rattle.lift_lump.specs.Search.{number_at}
use Rattle.lift_lump.specs.Renaming.{no_touched, state_at}
use Rattle.lift_lump.proofs.Crowding.{AreNoted, noted_none, noted_more, noted_all}
use Rattle.lift_lump.proofs.partition.crowded.Goals as goal

below_more : (most : ℕ) (old new : List ℕ) (block : ℕ) (is_due : Bool) → (is_due ≡ true → new ≡ old ++ block ∷ []) → (is_due ≡ false → new ≡ old) → block < most → All (λ b. b < most) old → All (λ b. b < most) new
below_more most old new block true due same lt all = subst (All (λ b. b < most)) (sym (due refl)) (All-push (λ b. b < most) old block all lt)
below_more most old new block false due same lt all = subst (All (λ b. b < most)) (sym (same refl)) all

pub loop-i-init : goal.loop-i-init
loop-i-init c = record {
  below = subst (All (λ b. b < length c.args.part.now.members)) (sym c.new-blocks.ensures.items) (λ k d lt. absurd (let f : k < 0 = lt in omega (arith, f)));
  noted = subst (AreNoted c.args.touched.now c.args.part.now.sizes.items 0 0) (sym c.new-blocks.ensures.items) (noted_none c.args.touched.now c.args.part.now.sizes.items c.requires.sorted);
}

pub loop-i-preserved : goal.loop-i-preserved
loop-i-preserved c =
    let part = c.args.part.now in
    let touched = c.args.touched.now in
    let i = c.loop-i.i in
    let block = c.index-block.result.now in
    let inside = c.requires.touched i no_touched c.loop-i-test.true in
    let label : block ≡ number_at part.labels.items (state_at touched i) = c.index-block.ensures ∙ get_or_default part.labels.items (state_at touched i) block 0 inside in
    let low : block < length part.members = subst (λ b. b < length part.members) (sym label) (c.requires.inside.below (state_at touched i) 0 inside) in
    let size : c.index.result.now ≡ number_at part.sizes.items block = c.index.ensures ∙ get_or_default part.sizes.items block c.index.result.now 0 (let same = c.requires.inside.size in omega (arith, same, low)) in
    record {
      below = below_more (length part.members) c.loop-i.blocks.items c.note.new.blocks.items block c.is_due.result c.in_ok-note.ensures.due c.in_ok-note.ensures.other low c.loop-i.invariant.below;
      noted = noted_more touched part.sizes.items c.requires.sorted i c.loop-i.count c.count_at-count.result c.loop-i.blocks.items c.note.new.blocks.items block c.index.result.now c.is_due.result c.loop-i-test.true c.loop-i.invariant.noted (label ∙ sym (c.requires.keyed i c.loop-i-test.true)) size
          c.count_at-count.ensures.first c.count_at-count.ensures.other c.is_due.ensures.last c.is_due.ensures.most c.is_due.ensures.other c.in_ok-note.ensures.due c.in_ok-note.ensures.other;
    }

pub returns-clause-all : goal.returns-clause-all
returns-clause-all c = noted_all c.args.touched.now c.args.part.now.sizes.items c.requires.sorted c.loop-i.i c.loop-i.count c.loop-i.blocks.items c.loop-i-test.false c.loop-i.invariant.noted
