-- Ranks over every choice, stage by stage, with a queue.
use Rattle.std.proofs.Common.{◌≡◌, ℕ, zero, suc, ◌+◌, ◌^◌, ◌<◌, ◌≤◌, ◌⊎◌, inl, inr, ⊎_elim, true, false, cond, List, [], ◌∷◌, map, All, Contains, length, get_or, set, count_by, ℤ, pos, ◌<ℤ◌, refl, sym, subst, ◌∙◌, arith, nat_lt, nat_eq, eqb-true, le-ltb}
use Rattle.std.specs.List.{concat}
use Rattle.std.proofs.lemmas.Bool.{both_ways}
use Rattle.std.proofs.lemmas.List.{length-set, get_or_past, get_or-set_same, get_or-set_other}
use Rattle.std.proofs.lemmas.List.Sums.{count_by-le-length, sum_by-set, sum_by-le}
use Rattle.std.proofs.lemmas.List.Elements.{All-from_get_or, All-contains, Contains-get_or, Contains-append_left, Contains-append_right}
use Rattle.lift_poly.proofs.Ring.{linear}
use Rattle.lift_grid.specs.Rectangle.{Spans}
use Rattle.lift_model.specs.declared.entry.Entry.{Entry}
use Rattle.lift_model.specs.Model.{ModelData, is_goal, choices, row_at, support, moves_at}
use Rattle.lift_model.specs.Links.{LinksData, AreLinks, Leads, targets_of, states_before}
use Rattle.corner_lift.specs.Corner.{corner, corner_sum, parameter_count, no_entry}
use Rattle.corner_lift.specs.Case.{CaseData, IsCase, IsInside, IsLeast, corner_count}
use Rattle.corner_lift.specs.Certificate.{unmarked, mark, ranked_below}
use Rattle.corner_lift.specs.Stages.{LeadsBelow}
use Rattle.corner_lift.specs.Laws.{ParametersAreTheRoots}
use Rattle.robust_rank.specs.Staging.{is_rank, IsQueuedIn, IsStarting, StageData, AreKept}
use Rattle.lift_dual.specs.Avoiding.{AllLeadBelow, AreStagesOfAll}
use Rattle.lift_dual.specs.StagesOfAll.{HasEntryInto, IsStagedOfAll, IsNextOfAll, StartOfAll, NextOfAll, EndOfAll}
use Rattle.lift_dual.specs.Ranking.{HasPlaces, IsCompleteOfAll, HasLed, IsAddedOfAll, IsGatheringOfAll, IsLookedOfAll}
use Rattle.lift_dual.proofs.Inside.{in_or_past, either_way}
use Rattle.lift_dual.proofs.Sums.{sum-same}

same_or_not : {P : Type 0} (i j : ℕ) → (i ≡ j → P) → ((i ≡ j → ⊥) → P) → P
same_or_not i j f g = either_way (nat_eq i j) (λ e. f (eqb-true i j e)) (λ n. g (λ e. grind (arith, e, n)))

mark_same : (xs : List ℕ) (i v : ℕ) → i < length xs → mark (set xs i v) i ≡ v
mark_same xs i v lt = get_or-set_same xs i v unmarked lt

mark_other : (xs : List ℕ) (i j v : ℕ) → (j ≡ i → ⊥) → mark (set xs i v) j ≡ mark xs j
mark_other xs i j v ne = get_or-set_other xs i j v unmarked ne

-- ---- a choice

-- the least weight over the corners tells whether the choice leads below
pub leads_is : ParametersAreTheRoots → (k : CaseData) (spans : Spans) (within : IsInside k.root spans) (ranks : List ℕ) (s a below : ℕ) (weight : ℤ) → IsLeast (λ c. corner_sum k.d spans (row_at k.model s a) c (ranked_below (mark ranks) below)) (corner_count k s a) weight
    → (pos 0 <ℤ weight → LeadsBelow k spans (mark ranks) below s a) × (LeadsBelow k spans (mark ranks) below s a → pos 0 <ℤ weight)
leads_is parameters k spans within ranks s a below weight is =
    let row = row_at k.model s a in
    let same : parameter_count spans (support row) ≡ parameter_count k.root (support row) = parameters k spans row within.within in
    let there = is.attained in (
      λ some c lt. omega (arith, linear, some, is.least c (subst (λ n. c < 2 ^ n) same lt)),
      λ leads. omega (arith, linear, leads there.0 (subst (λ n. there.0 < 2 ^ n) (sym same) there.1.0), there.1.1),
    )

-- ---- counts

-- where a state has no rank, fewer have one than there are
pub count_room : (xs : List ℕ) (s : ℕ) → s < length xs → unmarked ≤ mark xs s → count_by is_rank xs < length xs
count_room xs s lt none =
    let isnt : is_rank (mark xs s) ≡ false = le-ltb (mark xs s) unmarked none in
    let more = sum_by-set (λ (n : ℕ). cond {A = ℕ} (is_rank n) 1 0) xs s 0 unmarked lt in
    let past : cond {A = ℕ} (is_rank (mark xs s)) 1 0 ≡ 0 = rw isnt refl in
    let most = count_by-le-length is_rank (set xs s 0) in
    omega (arith, more, past, most, length-set xs s 0)

-- where none has a rank, none is counted
pub none_counted : (xs : List ℕ) → ((s : ℕ) → s < length xs → mark xs s ≡ unmarked) → count_by is_rank xs ≡ 0
none_counted xs none =
    let all : All (λ (n : ℕ). cond {A = ℕ} (is_rank n) 1 0 ≤ 0) xs = All-from_get_or (λ (n : ℕ). cond {A = ℕ} (is_rank n) 1 0 ≤ 0) xs unmarked (λ i lt. rw (none i lt) (omega arith)) in
    let most = sum_by-le (λ (n : ℕ). cond {A = ℕ} (is_rank n) 1 0) 0 xs all in
    omega (arith, most)

-- ---- the states before a state

-- a state that leads somewhere is one
leads_in_range : (m : ModelData) (t s : ℕ) → Leads m t s → t < length m.states
leads_in_range m t s leads = ⊎_elim (λ (lt : t < length m.states). lt) (λ (past : length m.states ≤ t). absurd (none (subst (λ rows. Contains (concat (map targets_of rows)) s) (get_or_past m.states t [] past) leads))) (in_or_past t (length m.states))
  where
    none : Contains (concat (map targets_of [])) s → ⊥
    none there = omega (arith, there.1)

pub before_in_range : (m : ModelData) (l : LinksData) (s i : ℕ) → AreLinks m l → s < length m.states → i < length (states_before l s) → get_or (states_before l s) i 0 < length m.states
before_in_range m l s i links lt inside = leads_in_range m (get_or (states_before l s) i 0) s ((links.before s lt).only (get_or (states_before l s) i 0) (Contains-get_or (states_before l s) i 0 inside))

-- the targets of a row's entries
target_in : (row : List Entry) (i : ℕ) → i < length row → Contains (targets_of row) (get_or row i no_entry).target
target_in [] i lt = absurd (omega (arith, lt))
target_in (entry ∷ row) zero lt = (0, omega arith, refl)
target_in (entry ∷ row) (suc i) lt = Contains-append_right (entry.target ∷ []) (targets_of row) (get_or row i no_entry).target (target_in row i (omega (arith, lt)))

target_of_rows : (rows : List (List Entry)) (a i : ℕ) → a < length rows → i < length (get_or rows a []) → Contains (concat (map targets_of rows)) (get_or (get_or rows a []) i no_entry).target
target_of_rows [] a i lt inside = absurd (omega (arith, lt))
target_of_rows (row ∷ rows) zero i lt inside = Contains-append_left (targets_of row) (concat (map targets_of rows)) (get_or row i no_entry).target (target_in row i inside)
target_of_rows (row ∷ rows) (suc a) i lt inside = Contains-append_right (targets_of row) (concat (map targets_of rows)) (get_or (get_or rows a []) i no_entry).target (target_of_rows rows a i (omega (arith, lt)) inside)

-- a state with an entry into another stands before it
stands_before : (m : ModelData) (l : LinksData) (s a i : ℕ) → AreLinks m l → a < length (choices m s) → i < length (row_at m s a) → (get_or (row_at m s a) i no_entry).target < length m.states → Contains (states_before l (get_or (row_at m s a) i no_entry).target) s
stands_before m l s a i links choice inside lt = (links.before (get_or (row_at m s a) i no_entry).target lt).all s (target_of_rows (choices m s) a i choice inside)

-- ---- the start

module _ (k : CaseData) (ranks queue : List ℕ) (s found : ℕ) (h : IsStarting k ranks queue s found) where
  pub no_goal : is_goal k.model s ≡ false → IsStarting k ranks queue (s + 1) found
  no_goal isnt = record {
    sizes = h.sizes;
    count = h.count;
    goals = λ t lt is. ⊎_elim (λ (l : t < s). h.goals t l is) (λ (past : s ≤ t). let same : t ≡ s = omega (arith, past, lt) in let not : is_goal k.model t ≡ false = rw same isnt in absurd (both_ways (is_goal k.model t) not is)) (in_or_past t s);
    others = λ t not. h.others t (λ lt. not (omega (arith, lt)));
    states = h.states;
  }

  pub goal : is_goal k.model s ≡ true → s < length k.model.states → found < length queue → (new later : List ℕ) → new ≡ set ranks s 0 → later ≡ set queue found s → (more : ℕ) → more ≡ found + 1 → more ≡ count_by is_rank new → IsStarting k new later (s + 1) more
  goal is state room new later new_is later_is more one count = record {
    sizes = (rw (new_is, length-set) h.sizes.0, rw (later_is, length-set) h.sizes.1);
    count = count;
    goals = λ t lt goal.
        same_or_not t s
        (λ e. rw e (rank_here, (found, (omega arith, omega (arith, one), queue_here))))
        (λ ne. let was = h.goals t (less t lt ne) goal in (rank_there t ne ∙ was.0, (was.1.0, (was.1.1.0, omega (arith, was.1.1.1, one), queue_there was.1.0 was.1.1.1 ∙ was.1.1.2))));
    others = λ t not. same_or_not t s
        (λ e. let isnt : is_goal k.model s ≡ false = subst (λ n. is_goal k.model n ≡ false) e (not (omega (arith, e))) in absurd (both_ways (is_goal k.model s) isnt is))
        (λ ne. rank_there t ne ∙ h.others t (λ lt. not (omega (arith, lt))));
    states = λ i lt. ⊎_elim
        (λ (l : i < found). rw (queue_there i l) (h.states i l))
        (λ (past : found ≤ i). let same : i ≡ found = omega (arith, past, lt, one) in rw (same, queue_here) state)
        (in_or_past i found);
  }
    where
      rank_here : mark new s ≡ 0
      rank_here = rw new_is (mark_same ranks s 0 (omega (arith, state, h.sizes.0)))

      rank_there : (t : ℕ) → (t ≡ s → ⊥) → mark new t ≡ mark ranks t
      rank_there t ne = rw new_is (mark_other ranks s t 0 ne)

      queue_there : (i : ℕ) → i < found → mark later i ≡ mark queue i
      queue_there i lt = rw later_is (mark_other queue found i s (λ same. omega (arith, same, lt)))

      queue_here : mark later found ≡ s
      queue_here = rw later_is (mark_same queue found s room)

      less : (t : ℕ) → t < s + 1 → (t ≡ s → ⊥) → t < s
      less t lt ne = ⊎_elim (λ (l : t < s). l) (λ (past : s ≤ t). absurd (ne (omega (arith, past, lt)))) (in_or_past t s)

-- a goal state is one of the states
goal_in : (k : CaseData) (s : ℕ) → IsCase k → is_goal k.model s ≡ true → s < length k.model.states
goal_in k s is goal = ⊎_elim (λ (l : s < length k.model.states). l)
    (λ (past : length k.model.states ≤ s). let none = get_or_past k.model.goal s false (omega (arith, past, is.asked.model.goals)) in absurd (both_ways (is_goal k.model s) none goal))
    (in_or_past s (length k.model.states))

pub begin : StartOfAll → (k : CaseData) (spans : Spans) (ranks queue : List ℕ) (to : ℕ) → IsCase k → IsInside k.root spans → IsStarting k ranks queue (length k.model.states) to → IsCompleteOfAll k spans ranks queue 0 0 to
begin start k spans ranks queue to is within h = record {
  sizes = h.sizes;
  staged = start k spans (mark ranks) is within
      (λ s goal. (h.goals s (goal_in k s is goal) goal).0)
      (λ s isnt. h.others s (λ lt. isnt));
  count = h.count;
  part = (omega arith, omega arith);
  states = h.states;
  last = λ s first. is_queued s first;
}
  where
    is_queued : (s : ℕ) → mark ranks s ≡ 0 → IsQueuedIn queue 0 to s
    is_queued s first = either_way (is_goal k.model s)
        (λ goal. (h.goals s (goal_in k s is goal) goal).1)
        (λ isnt. let none = h.others s (λ lt. isnt) in absurd (omega (arith, none, first)))

-- ---- on the way to a stage

module _ (k : CaseData) (start : StageData) (r found : ℕ) (ranks queue : List ℕ) (h : IsGatheringOfAll k start r found ranks queue) where
  same_lower : (t : ℕ) → ranked_below (mark ranks) (suc r) t ≡ ranked_below (mark start.ranks) (suc r) t
  same_lower t =
      ⊎_elim
      (λ (same : mark ranks t ≡ mark start.ranks t). rw same refl)
      (λ (added : IsAddedOfAll k start ranks r t).
      let one : nat_lt (mark ranks t) (suc r) ≡ false = le-ltb (mark ranks t) (suc r) (omega (arith, added.now)) in
      let two : nat_lt (mark start.ranks t) (suc r) ≡ false = le-ltb (mark start.ranks t) (suc r) (omega (arith, added.was, h.small)) in
      rw (one, two) refl)
      (h.grown t)

  -- what one stage adds doesn't see what else that stage adds
  to_start : (s : ℕ) → AllLeadBelow k start.spans (mark ranks) (suc r) s → HasLed k start r s
  to_start s all a lt c at = let row = row_at k.model s a in subst (λ z. pos 0 <ℤ z) (sum-same (ranked_below (mark ranks) (suc r)) (ranked_below (mark start.ranks) (suc r)) (moves_at (corner k.d start.spans (support row) c) row) same_lower) (all a lt c at)

  from_start : (s : ℕ) → HasLed k start r s → AllLeadBelow k start.spans (mark ranks) (suc r) s
  from_start s all a lt c at = let row = row_at k.model s a in subst (λ z. pos 0 <ℤ z) (sym (sum-same (ranked_below (mark ranks) (suc r)) (ranked_below (mark start.ranks) (suc r)) (moves_at (corner k.d start.spans (support row) c) row) same_lower)) (all a lt c at)

  pub none_looked : (next s : ℕ) → next ≡ suc r → (AllLeadBelow k start.spans (mark ranks) next s → ⊥) → IsLookedOfAll k start r ranks s
  none_looked next s e none unranked led = none (subst (λ n. AllLeadBelow k start.spans (mark ranks) n s) (sym e) (from_start s led))

  module _ (next s : ℕ) (e : next ≡ suc r) (state : s < length k.model.states) (none : unmarked ≤ mark ranks s) (leads : AllLeadBelow k start.spans (mark ranks) next s) (new later : List ℕ) (new_is : new ≡ set ranks s next) (later_is : later ≡ set queue found s) (room : found < length queue) where
    rank_here : mark new s ≡ suc r
    rank_here = rw new_is (mark_same ranks s next (omega (arith, state, h.sizes.0)) ∙ e)

    rank_there : (t : ℕ) → (t ≡ s → ⊥) → mark new t ≡ mark ranks t
    rank_there t ne = rw new_is (mark_other ranks s t next ne)

    queue_there : (i : ℕ) → i < found → mark later i ≡ mark queue i
    queue_there i lt = rw later_is (mark_other queue found i s (λ same. omega (arith, same, lt)))

    queue_here : mark later found ≡ s
    queue_here = rw later_is (mark_same queue found s room)

    was_none : unmarked ≤ mark start.ranks s
    was_none = ⊎_elim (λ (same : mark ranks s ≡ mark start.ranks s). omega (arith, same, none)) (λ (added : IsAddedOfAll k start ranks r s). added.was) (h.grown s)

    grown : (t : ℕ) → (mark new t ≡ mark start.ranks t) ⊎ IsAddedOfAll k start new r t
    grown t =
        same_or_not t s
        (λ e2. rw e2 (inr (record { was = was_none; now = rank_here; led = to_start s (subst (λ n. AllLeadBelow k start.spans (mark ranks) n s) e leads) })))
        (λ ne. ⊎_elim
        (λ (same : mark ranks t ≡ mark start.ranks t). inl (rank_there t ne ∙ same))
        (λ (added : IsAddedOfAll k start ranks r t). inr (record { was = added.was; now = rank_there t ne ∙ added.now; led = added.led }))
        (h.grown t))

    queued : (t : ℕ) → mark new t ≡ suc r → IsQueuedIn later start.to (found + 1) t
    queued t is =
        same_or_not t s
        (λ e2. (found, (h.from, omega arith, queue_here ∙ sym e2)))
        (λ ne. let was = h.queued t (sym (rank_there t ne) ∙ is) in
        (was.0, (was.1.0, omega (arith, was.1.1), queue_there was.0 was.1.1 ∙ was.1.2)))

    pub gathered : (more : ℕ) → more ≡ found + 1 → more ≡ count_by is_rank new → IsGatheringOfAll k start r more new later
    gathered more one count = record {
      sizes = (rw (new_is, length-set) h.sizes.0, rw (later_is, length-set) h.sizes.1);
      small = h.small;
      count = count;
      from = omega (arith, one, h.from);
      states = λ i lt. ⊎_elim
          (λ (l : i < found). rw (queue_there i l) (h.states i l))
          (λ (past : found ≤ i). let same : i ≡ found = omega (arith, past, lt, one) in rw (same, queue_here) state)
          (in_or_past i found);
      kept = λ i lt. queue_there i (omega (arith, lt, h.from)) ∙ h.kept i lt;
      grown = grown;
      queued = rw one queued;
    }

    pub keeps : AreKept ranks new
    keeps t lt = rank_there t (λ same. let high : unmarked ≤ mark ranks t = rw same none in omega (arith, high, lt))

    -- it has a rank now
    pub looked : IsLookedOfAll k start r new s
    looked far = absurd (omega (arith, far, rank_here, h.small))

-- what was looked at stays so
pub still_looked : (k : CaseData) (start : StageData) (r : ℕ) (old new : List ℕ) (s : ℕ) → AreKept old new → IsLookedOfAll k start r old s → IsLookedOfAll k start r new s
still_looked k start r old new s kept looked unranked =
    ⊎_elim
    (λ (lt : mark old s < unmarked). let same = kept s lt in absurd (omega (arith, same, lt, unranked)))
    (λ (none : unmarked ≤ mark old s). looked none)
    (in_or_past (mark old s) unmarked)

pub kept_on : (a b c : List ℕ) → AreKept a b → AreKept b c → AreKept a c
kept_on a b c f g s lt = let one = f s lt in g s (omega (arith, one, lt)) ∙ one

-- ---- a stage

pub small_rank : (k : CaseData) (spans : Spans) (ranks queue : List ℕ) (r from to : ℕ) → IsCase k → IsCompleteOfAll k spans ranks queue r from to → r < unmarked
small_rank k spans ranks queue r from to is h =
    let most = count_by-le-length is_rank ranks in
    omega (arith, most, h.count, h.sizes.0, is.asked.model.count.1, h.part.0, h.part.1)

pub small_stage : (k : CaseData) (spans : Spans) (ranks queue : List ℕ) (r from to : ℕ) → IsCase k → from < to → IsCompleteOfAll k spans ranks queue r from to → suc r < unmarked
small_stage k spans ranks queue r from to is some h =
    let most = count_by-le-length is_rank ranks in
    omega (arith, most, h.count, h.sizes.0, is.asked.model.count.1, h.part.0, some)

module _ (next_of_all : NextOfAll) (k : CaseData) (l : LinksData) (start : StageData) (r from : ℕ) (links : AreLinks k.model l) (h : IsCompleteOfAll k start.spans start.ranks start.queue r from start.to) (small : suc r < unmarked) where
  pub gathering_begins : IsGatheringOfAll k start r start.to start.ranks start.queue
  gathering_begins = record {
    sizes = h.sizes;
    small = small;
    count = h.count;
    from = omega arith;
    states = h.states;
    kept = λ i lt. refl;
    grown = λ s. inl refl;
    queued = λ s is. let le = h.staged.marks s (omega (arith, is, small)) in absurd (omega (arith, is, le));
  }

  module _ (found : ℕ) (ranks queue : List ℕ) (g : IsGatheringOfAll k start r found ranks queue) (looked : (j : ℕ) → from ≤ j → j < start.to → All (IsLookedOfAll k start r ranks) (states_before l (mark start.queue j))) where
    next : IsNextOfAll k start.spans (mark start.ranks) (mark ranks) r
    next = record {
      kept = λ s lt. ⊎_elim (λ (same : mark ranks s ≡ mark start.ranks s). same) (λ (added : IsAddedOfAll k start ranks r s). absurd (omega (arith, added.was, lt))) (g.grown s);
      added = λ s isnt none. ⊎_elim
          (λ (same : mark ranks s ≡ mark start.ranks s). inl (omega (arith, same, none)))
          (λ (added : IsAddedOfAll k start ranks r s). inr (added.now, added.led))
          (g.grown s);
      complete = λ s state isnt far entry led.
          let a = entry.0 in
          let there = entry.1.1 in
          let t = (get_or (row_at k.model s a) there.0 no_entry).target in
          let at = h.last t there.1.1 in
          let inside : t < length k.model.states = subst (λ n. n < length k.model.states) at.1.2 (h.states at.0 at.1.1) in
          let before : Contains (states_before l t) s = stands_before k.model l s a there.0 links entry.1.0 there.1.0 inside in
          let all = subst (λ n. All (IsLookedOfAll k start r ranks) (states_before l n)) at.1.2 (looked at.0 at.1.0 at.1.1) in
          All-contains (IsLookedOfAll k start r ranks) (states_before l t) s all before far led;
    }

    pub stage_done : from < start.to → IsCompleteOfAll k start.spans ranks queue (suc r) start.to found
    stage_done some = record {
      sizes = g.sizes;
      staged = next_of_all k start.spans (mark start.ranks) (mark ranks) r small h.staged next;
      count = g.count;
      part = (omega (arith, h.part.0, some), g.from);
      states = g.states;
      last = g.queued;
    }

-- ---- the end

-- an empty stage is the last
pub stages_end : EndOfAll → (k : CaseData) (spans : Spans) (ranks queue : List ℕ) (r from to : ℕ) → IsCase k → IsInside k.root spans → to ≤ from → IsCompleteOfAll k spans ranks queue r from to → AreStagesOfAll k spans (mark ranks)
stages_end end k spans ranks queue r from to is within empty h = end k spans (mark ranks) r is within h.staged (λ s is_r. let at = h.last s is_r in omega (arith, at.1.0, at.1.1, empty))

-- each stage has a state, so no rank is above their number
pub most_rank : (k : CaseData) (spans : Spans) (ranks queue : List ℕ) (r from to : ℕ) → IsCompleteOfAll k spans ranks queue r from to → (s : ℕ) → mark ranks s < unmarked → mark ranks s ≤ length k.model.states
most_rank k spans ranks queue r from to h s ranked =
    let most = count_by-le-length is_rank ranks in
    omega (arith, most, h.count, h.sizes.0, h.part.0, h.part.1, h.staged.marks s ranked)
