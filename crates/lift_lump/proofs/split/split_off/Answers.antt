use Rattle.std.proofs.Common.{◌≡◌, ◌<◌, ℕ, List, All, length, sym, subst}
use Rattle.lift_lump.specs.declared.touch.Touched.{Touched}
use Rattle.lift_lump.specs.Search.{number_at}
use Rattle.lift_lump.specs.Renaming.{HaveOneKey, AreTouched, AreKeyed, AreSortedKeys, StandsIn}
use Rattle.lift_lump.specs.Splitting.{AreListedBut, HaveRest, IsBegun}
use Rattle.lift_lump.proofs.Clearing.{touched_are, begun}
use Rattle.lift_lump.proofs.Holders.{few_labels}
use Rattle.lift_lump.proofs.Touching.{one_key, states_inside, keyed_of, rest_none}
use Rattle.lift_lump.proofs.split.split_off.Goals as goal

pub regroup-requires : goal.regroup-requires
regroup-requires c =
    let part = c.args.part.now in
    let labels = part.labels.items in
    let numbers = c.args.numbers.now in
    let new = c.sort.new.touched.items in
    let is = c.deref-2.ensures.value in
    let are = touched_are labels numbers c.deref.result.now part.members c.in_ok-touched.touched.items new c.deref.ensures.value c.sort.ensures.same c.in_ok-touched.ensures.touched c.in_ok-touched.ensures.all c.requires.listed in
    let only : (s : ℕ) → number_at numbers s ≡ 0 → StandsIn new s → ⊥ = λ s none there. c.in_ok-touched.ensures.only s none (c.sort.ensures.stand s there) in
    let states = states_inside labels numbers new are.touched in
    record {
      states = c.requires.states;
      touched = subst (λ (ts : List Touched). All (λ (t : Touched). t.state < length labels) ts) (sym is) states;
      sorted = subst AreSortedKeys (sym is) c.sort.ensures.sorted;
      keys = subst HaveOneKey (sym is) (one_key labels numbers new are.touched);
      keyed = subst (AreKeyed labels) (sym is) (keyed_of labels numbers new (λ s. (c.type_inv.numbers s).fits) are.touched);
      inside = c.requires.inside;
      used = c.requires.used;
      listed = subst (λ (ts : List Touched). AreListedBut ts labels part.members) (sym is) are.listed;
      rest = subst (HaveRest labels part.members) (sym is) (rest_none labels numbers part.members new only states c.requires.none);
    }

pub returns : goal.returns
returns c =
    let part = c.args.part.now in
    let after = c.regroup.new.part in
    let numbers = c.args.numbers.now in
    let new = c.sort.new.touched.items in
    let are = touched_are part.labels.items numbers c.deref.result.now part.members c.in_ok-touched.touched.items new c.deref.ensures.value c.sort.ensures.same c.in_ok-touched.ensures.touched c.in_ok-touched.ensures.all c.requires.listed in
    record {
      inside = c.in_ok-regroup.ensures.inside;
      used = c.in_ok-regroup.ensures.used;
      few = few_labels after.labels.items (length after.members) c.in_ok-regroup.ensures.used;
      listed = c.in_ok-regroup.ensures.listed;
      size = c.in_ok-regroup.ensures.size;
      more = c.in_ok-regroup.ensures.more (subst (λ (ts : List Touched). IsBegun ts part.labels.items part.members) (sym c.deref-2.ensures.value) (begun part.labels.items numbers c.args.visited.now part.members new c.requires.sizes c.requires.some c.requires.others are c.requires.listed));
      numbers = c.in_ok-regroup.ensures.numbers numbers (subst (AreTouched part.labels.items numbers) (sym c.deref-2.ensures.value) are.touched);
    }
