use Rattle.std.proofs.Common.{◌<◌, ℕ, List, All, length, get_or, sym, subst, ap, ◌∙◌, arith}
use Rattle.lift_lump.specs.Search.{IsByNumber}
use Rattle.lift_lump.specs.declared.touch.Touched.{Touched}
use Rattle.lift_lump.specs.Renaming.{HaveOneKey, AreTouched, AreKeyed, AreSortedKeys}
use Rattle.lift_lump.specs.Splitting.{AreListedBut, AreUsed, HaveRest}
use Rattle.lift_lump.proofs.Clearing.{touched_are}
use Rattle.lift_lump.proofs.Holders.{few_labels}
use Rattle.lift_lump.proofs.Touching.{one_key, states_inside, keyed_of, rest_sorted}
use Rattle.lift_lump.proofs.split.split_by.Goals as goal

pub add_rests-requires-clause-gathered : goal.add_rests-requires-clause-gathered
add_rests-requires-clause-gathered c =
    let part = c.args.part.now in
    touched_are part.labels.items c.args.numbers.now c.deref.result.now part.members c.in_ok-touched.touched.items c.sort.new.touched.items c.deref.ensures.value c.sort.ensures.same c.in_ok-touched.ensures.touched c.in_ok-touched.ensures.all c.requires.listed

pub add_rests-requires-clause-keyed : goal.add_rests-requires-clause-keyed
add_rests-requires-clause-keyed c =
    let part = c.args.part.now in
    let are = touched_are part.labels.items c.args.numbers.now c.deref.result.now part.members c.in_ok-touched.touched.items c.sort.new.touched.items c.deref.ensures.value c.sort.ensures.same c.in_ok-touched.ensures.touched c.in_ok-touched.ensures.all c.requires.listed in
    keyed_of part.labels.items c.args.numbers.now c.sort.new.touched.items (λ s. (c.type_inv.numbers s).fits) are.touched

pub regroup-requires : goal.regroup-requires
regroup-requires c =
    let part = c.add_rests.new.part in
    let numbers = c.args.numbers.now in
    let new = c.sort-2.new.touched.items in
    let same = c.in_ok-add_rests.ensures.same in
    let count = c.in_ok-add_rests.ensures.count in
    let is = c.deref-2.ensures.value in
    let are = c.sort-2.ensures.same part.labels.items numbers part.members c.in_ok-add_rests.ensures.gathered in
    let labels = part.labels.items in
    record {
      states = let size = ap (length {A = ℕ}) same in let states = c.requires.states in omega (arith, size, states);
      touched = subst (λ (ts : List Touched). All (λ (t : Touched). t.state < length labels) ts) (sym is) (states_inside labels numbers new are.touched);
      sorted = subst AreSortedKeys (sym is) c.sort-2.ensures.sorted;
      keys = subst HaveOneKey (sym is) (one_key labels numbers new are.touched);
      keyed = subst (AreKeyed labels) (sym is) (keyed_of labels numbers new (λ s. (c.type_inv.numbers s).fits) are.touched);
      inside = c.in_ok-add_rests.ensures.inside;
      used = subst (λ (ls : List ℕ). AreUsed ls (length part.members)) (sym same) (subst (AreUsed c.args.part.now.labels.items) (sym count) c.requires.used);
      listed = subst (λ (ts : List Touched). AreListedBut ts labels part.members) (sym is) are.listed;
      rest = subst (HaveRest labels part.members) (sym is) (rest_sorted labels part.members c.add_rests.new.touched.items new c.sort-2.ensures.stand c.in_ok-add_rests.ensures.rest);
    }

pub returns : goal.returns
returns c =
    let part = c.add_rests.new.part in
    let numbers = c.args.numbers.now in
    let after = c.regroup.new.part in
    let same = c.in_ok-add_rests.ensures.same in
    let are = c.sort-2.ensures.same part.labels.items numbers part.members c.in_ok-add_rests.ensures.gathered in
    let touched = subst (AreTouched part.labels.items numbers) (sym c.deref-2.ensures.value) are.touched in
    record {
      inside = c.in_ok-regroup.ensures.inside;
      used = c.in_ok-regroup.ensures.used;
      few = few_labels after.labels.items (length after.members) c.in_ok-regroup.ensures.used;
      listed = c.in_ok-regroup.ensures.listed;
      size = c.in_ok-regroup.ensures.size ∙ ap length same;
      count = let kept = c.in_ok-regroup.ensures.kept in let count = c.in_ok-add_rests.ensures.count in omega (arith, kept, count);
      numbers = subst (λ (o : List ℕ). IsByNumber (length o) (λ s. get_or o s 0) numbers (λ s. get_or after.labels.items s 0)) same (c.in_ok-regroup.ensures.numbers numbers touched);
    }
