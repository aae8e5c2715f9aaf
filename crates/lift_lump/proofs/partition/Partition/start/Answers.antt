use Rattle.std.proofs.Common.{◌≡◌, ◌+◌, ◌<◌, ◌≤◌, ◌∷◌, ◌++◌, [], ℕ, List, length, refl, sym, ap, subst, ◌∙◌, arith, rules}
use Rattle.lift_lump.specs.Lumping.{IsAboveRight}
use Rattle.lift_lump.specs.Splitting.{labelled}
use Rattle.lift_lump.proofs.Starting.{IsStarted, started_none, started_more, started_inside, started_used, start_above}
use Rattle.lift_lump.proofs.partition.Partition.start.Goals as goal

pub loop-s-init : goal.loop-s-init
loop-s-init c =
    let push = λ (l : List (List ℕ)). l ++ [] ∷ [] in
    let lists : c.open-2.new.self ≡ [] ∷ [] ∷ [] = c.in_ok-open-2.ensures ∙ ap push (c.in_ok-open.ensures ∙ ap push c.new-members.ensures) in record {
      started = started_none c.args.model.now c.in_ok-labels.labels.items c.in_ok-sizes.sizes.items c.open-2.new.self c.in_ok-labels.ensures (search rules) lists;
      same = refl;
    }

pub loop-s-preserved : goal.loop-s-preserved
loop-s-preserved c =
    let old = c.loop-s.part in
    let new = c.settle.new.self in
    let in_labels : c.loop-s.s < length old.labels.items = (let same = ap (length {A = ℕ}) c.loop-s.invariant.same in let size = c.in_ok-labels.ensures.count in let end = c.states-s-end.ensures.value in let lt = c.loop-s-test.true in omega (arith, same, size, end, lt)) in
    record {
      started = subst (λ (ls : List ℕ). IsStarted (c.loop-s.s + 1) ls new.sizes.items new.members) (sym c.settle.ensures.labels)
          (subst (λ (ss : List ℕ). IsStarted (c.loop-s.s + 1) old.labels.items ss new.members) (sym c.settle.ensures.sizes)
          (subst (IsStarted (c.loop-s.s + 1) old.labels.items _) (sym c.in_ok-settle.ensures.members)
          (started_more c.loop-s.s old.labels.items old.sizes.items old.members c.loop-s.invariant.started in_labels)));
      same = c.settle.ensures.labels ∙ c.loop-s.invariant.same;
    }

pub settle-requires-clause-state : goal.settle-requires-clause-state
settle-requires-clause-state c = let same = ap (length {A = ℕ}) c.loop-s.invariant.same in let size = c.in_ok-labels.ensures.count in let end = c.states-s-end.ensures.value in let lt = c.loop-s-test.true in omega (arith, same, size, end, lt)

pub returns : goal.returns
returns c =
    let part = c.loop-s.part in
    let same = c.loop-s.invariant.same in
    let size : length part.labels.items ≡ length c.args.model.now.states = ap length same ∙ c.in_ok-labels.ensures.count in
    let started = c.loop-s.invariant.started in
    let end = c.states-s-end.ensures.value in
    let test = c.loop-s-test.false in
    let past : length part.labels.items ≤ c.loop-s.s = omega (arith, size, end, test) in
    record {
      inside = started_inside c.loop-s.s part.labels.items part.sizes.items part.members past started;
      used = started_used part.labels.items part.members started.lists started.below (let some = c.states-s-end.ensures.model.count.0 in omega (arith, size, some));
      listed = λ s lt. started.listed s (omega (arith, lt, past));
      size = size;
      above = subst (λ (ls : List ℕ). IsAboveRight c.args.model.now (labelled ls)) (sym same) (start_above c.coarsest_is_one.ensures.start c.args.model.now c.in_ok-labels.labels.items c.states-s-end.ensures.model c.in_ok-labels.ensures);
    }
