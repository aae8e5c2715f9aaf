use Rattle.std.proofs.Common.{◌≡◌, ◌≤◌, ◌<◌, ℕ, length, take, arith, rules, ap, subst, sym, ◌∙◌}
use Rattle.std.proofs.lemmas.List.{get_or_default}
use Rattle.lift_model.specs.Before.{at, count_of, AreSums}
use Rattle.lift_model.proofs.Listing.{counted_all, sources_placed, sources_room, written_back}
use Rattle.lift_model.proofs.before.find_sources.Goals as goal
use Rattle.lift_model.proofs.before.find_sources.Goals.{After-deref_mut-3}

-- the counts, one for each state
counts_are : (c : After-deref_mut-3) → c.deref.result.now ≡ c.count_targets.new.counts
counts_are c =
    let ok = c.in_ok-counts.counts.ok.0 in
    let kept = c.count_targets.auto.counts in
    let len = c.deref_mut.ensures.len in
    c.deref.ensures.value ∙ written_back c.in_ok-counts.counts.len c.count_targets.new.counts c.in_ok-counts.counts.items (omega (arith, ok, kept, len)) (omega (arith, ok, kept, len))

counts_size : (c : After-deref_mut-3) → length c.deref.result.now ≡ c.args.count
counts_size c =
    let kept = c.count_targets.auto.counts in
    let len = c.deref_mut.ensures.len in
    let size = c.in_ok-counts.ensures.len in
    omega (arith, ap (length {A = ℕ}) (counts_are c), kept, len, size)

sums : (c : After-deref_mut-3) → AreSums c.deref-3.result.now c.deref.result.now c.args.count
sums c = rw (← counts_size c, c.deref-3.ensures.value) c.in_ok-starts.ensures

ends_are : (c : After-deref_mut-3) → c.deref_mut-2.result.now ≡ take c.args.count c.deref-3.result.now
ends_are c = rw (c.deref_mut-2.ensures.value, c.deref-3.ensures.value) (search rules)

ends_size : (c : After-deref_mut-3) → length c.deref_mut-2.result.now ≡ c.args.count
ends_size c = search rules

pub sum_counts-requires : goal.sum_counts-requires
sum_counts-requires c =
    let ok = c.in_ok-counts.counts.ok.0 in
    let kept = c.count_targets.auto.counts in
    let len = c.deref_mut.ensures.len in
    let are : c.deref.result.now ≡ c.count_targets.new.counts = c.deref.ensures.value ∙ written_back c.in_ok-counts.counts.len c.count_targets.new.counts c.in_ok-counts.counts.items (omega (arith, ok, kept, len)) (omega (arith, ok, kept, len)) in
    let all = counted_all c.count_targets.new.counts c.args.targets.now (λ u lt. c.count_targets.ensures u (omega (arith, lt, kept))) in
    rw are (omega (arith, all, c.requires.small))

pub enter_states-requires-clause-placed : goal.enter_states-requires-clause-placed
enter_states-requires-clause-placed c =
    let len = c.deref_mut-3.ensures.len in
    let size = c.in_ok-states.ensures.len in
    let starts = c.deref-3.ensures.value in
    let inside : c.args.count < length c.in_ok-starts.starts.items = omega (arith, (sums c).count, ap (length {A = ℕ}) starts) in
    let index : c.index.result.now ≡ at c.in_ok-starts.starts.items c.args.count = c.index.ensures ∙ get_or_default c.in_ok-starts.starts.items c.args.count c.index.result.now 0 inside in
    let room : at c.deref-3.result.now c.args.count ≤ length c.deref_mut-3.result.now = omega (arith, len, size, index, ap (λ l. at l c.args.count) starts) in
    rw (ends_size c) (sources_placed c.deref-3.result.now c.deref.result.now c.args.count (sums c) c.deref_mut-2.result.now (length c.deref_mut-3.result.now) (ends_are c) room)

pub enter_states-requires-clause-room : goal.enter_states-requires-clause-room
enter_states-requires-clause-room c =
    let counted = λ (u : ℕ) (lt : u < c.args.count). subst (λ (l : _). at l u ≡ count_of u c.args.targets.now) (sym (counts_are c)) (c.count_targets.ensures u (omega (arith, lt, c.deref_mut.ensures.len, c.in_ok-counts.ensures.len))) in
    rw (ends_size c) (sources_room c.deref-3.result.now c.deref.result.now c.args.count (sums c) c.deref_mut-2.result.now c.args.targets.now (ends_are c) counted)

pub returns : goal.returns
returns c =
    let ends_ok = c.in_ok-ends.ends.ok.0 in
    let states_ok = c.in_ok-states.states.ok.0 in
    let ends_kept = c.enter_states.auto.ends in
    let states_kept = c.enter_states.auto.states in
    let ends_len = c.deref_mut-2.ensures.len in
    let states_len = c.deref_mut-3.ensures.len in
    let size : length c.deref_mut-2.result.now ≡ c.args.count = search rules in
    rw (
      written_back c.in_ok-ends.ends.len c.enter_states.new.ends c.in_ok-ends.ends.items (omega (arith, ends_ok, ends_kept, ends_len)) (omega (arith, ends_ok, ends_kept, ends_len)),
      written_back c.in_ok-states.states.len c.enter_states.new.states c.in_ok-states.states.items (omega (arith, states_ok, states_kept, states_len)) (omega (arith, states_ok, states_kept, states_len)),
      ← c.deref-3.ensures.value,
      ← size,
    )
    (record { placed = c.enter_states.ensures.placed; listed = c.enter_states.ensures.listed })
