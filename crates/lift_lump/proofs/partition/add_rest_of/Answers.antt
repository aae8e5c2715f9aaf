use Rattle.std.proofs.Common.{◌≡◌, inl, inr, ⊎_elim, ◌<◌, [], ℕ, List, All, length, get_or, sym, subst, ◌∙◌, refl}
use Rattle.lift_lump.specs.Search.{number_at}
use Rattle.lift_lump.specs.Renaming.{StandsIn}
use Rattle.lift_lump.specs.Splitting.{AreInside, AreGathered, AreAdded}
use Rattle.lift_lump.proofs.Settling.{inside_taken}
use Rattle.lift_lump.proofs.Touching.{gathered_rest}
use Rattle.lift_lump.proofs.partition.add_rest_of.Goals as goal

pub add_rest-requires-clause-inside : goal.add_rest-requires-clause-inside
add_rest-requires-clause-inside c =
    let part = c.args.part.now in
    let states = c.deref-2.ensures.value ∙ c.take-states.ensures.list in
    subst (All (λ s. s < length c.deref.result.now)) (sym states)
    (subst (λ (ls : List ℕ). All (λ s. s < length ls) (get_or part.members c.args.block [])) (sym c.deref.ensures.value) (c.requires.inside.states c.args.block [] c.requires.block))

pub returns : goal.returns
returns c =
    let part = c.args.part.now in
    let labels = part.labels.items in
    let old = c.args.touched.now.items in
    let new = c.add_rest.new.list.items in
    let rest = c.take-states.ensures.rest in
    let states = c.deref-2.ensures.value ∙ c.take-states.ensures.list in
    let added = subst (λ (xs : List ℕ). AreAdded labels c.args.numbers.now c.args.block xs old new) states
    (subst (λ (ls : List ℕ). AreAdded ls c.args.numbers.now c.args.block c.deref-2.result.now old new) c.deref.ensures.value c.in_ok-add_rest.ensures) in
    record {
      inside = subst (AreInside labels part.sizes.items) (sym rest) (inside_taken labels part.sizes.items part.members c.args.block c.requires.inside);
      gathered = subst (λ (ms : List (List ℕ)). AreGathered labels c.args.numbers.now ms new) (sym rest) (gathered_rest labels c.args.numbers.now part.members c.args.block old new c.requires.block c.requires.gathered added);
      members = rest;
      only = λ t there. ⊎_elim (λ (was : StandsIn old t). inl was) (λ (is : (number_at labels t ≡ c.args.block) × (number_at c.args.numbers.now t ≡ 0)). inr is.0) (added.only t there);
      same = refl;
    }
