-- A stage begins with the states before it complete, and ends so.
use Rattle.std.proofs.Common.{◌≡◌, ℕ, suc, ◌+◌, ◌<◌, ◌≤◌, inl, inr, ⊎_elim, Bool, true, false, List, length, get_or, set, count_by, refl, subst, ◌∙◌, arith, All, Contains}
use Rattle.std.proofs.lemmas.List.{length-set, get_or_past}
use Rattle.std.proofs.lemmas.List.Sums.{count_by-le-length}
use Rattle.std.proofs.lemmas.List.Elements.{All-contains}
use Rattle.lift_grid.specs.Rectangle.{Spans}
use Rattle.lift_model.specs.Model.{is_goal, row_at}
use Rattle.lift_model.specs.Links.{LinksData, AreLinks, states_before}
use Rattle.corner_lift.specs.Corner.{no_entry}
use Rattle.corner_lift.specs.Case.{CaseData, IsCase, IsInside}
use Rattle.corner_lift.specs.Certificate.{unmarked, mark}
use Rattle.corner_lift.specs.Stages.{LeadsBelow, AreStages}
use Rattle.corner_lift.specs.Laws.{SumsRise}
use Rattle.robust_rank.specs.Attracting.{Pass, IsNextStage}
use Rattle.robust_rank.specs.Staging.{allows, is_rank, IsQueuedIn, StageData, IsAdded, IsGathering, IsLooked, IsComplete, IsStarting, IsChoiceOf}
use Rattle.robust_rank.specs.InOrder.{AreRanks}
use Rattle.robust_rank.proofs.Means.{in_or_past, row_there}
use Rattle.robust_rank.proofs.Stages.{start_is_staged, next_is_staged, none_below_0, none_sooner}
use Rattle.robust_rank.proofs.Gathering.{mark_same, mark_other, same_or_not}
use Rattle.robust_rank.proofs.Before.{stands_before}

-- ---- the start

module _ (k : CaseData) (ranks queue : List ℕ) (s found : ℕ) (h : IsStarting k ranks queue s found) where
  pub no_goal : is_goal k.model s ≡ false → IsStarting k ranks queue (s + 1) found
  no_goal isnt = record {
    sizes = h.sizes;
    count = h.count;
    goals = λ t lt is. ⊎_elim (λ (l : t < s). h.goals t l is) (λ (past : s ≤ t). let same : t ≡ s = omega (arith, past, lt) in let not : is_goal k.model t ≡ false = rw same isnt in let wrong : true ≡ false = cc (is, not) in absurd (cc wrong)) (in_or_past t s);
    others = λ t not. h.others t (λ lt. not (omega (arith, lt)));
    states = h.states;
  }

  pub goal : is_goal k.model s ≡ true → s < length k.model.states → found < length queue → (new later : List ℕ) → new ≡ set ranks s 0 → later ≡ set queue found s → (more : ℕ) → more ≡ found + 1 → more ≡ count_by is_rank new → IsStarting k new later (s + 1) more
  goal is state room new later new_is later_is more one count = record {
    sizes = (rw (new_is, length-set) h.sizes.0, rw (later_is, length-set) h.sizes.1);
    count = count;
    goals = λ t lt goal.
        same_or_not t s
        (λ e. rw e (rank_here, (found, (omega arith, omega (arith, one), queue_here))))
        (λ ne. let was = h.goals t (less t lt ne) goal in (rank_there t ne ∙ was.0, (was.1.0, (was.1.1.0, omega (arith, was.1.1.1, one), queue_there was.1.0 was.1.1.1 ∙ was.1.1.2))));
    others = λ t not. same_or_not t s
        (λ e. let isnt : is_goal k.model s ≡ false = subst (λ n. is_goal k.model n ≡ false) e (not (omega (arith, e))) in let wrong : true ≡ false = cc (is, isnt) in absurd (cc wrong))
        (λ ne. rank_there t ne ∙ h.others t (λ lt. not (omega (arith, lt))));
    states = λ i lt. ⊎_elim
        (λ (l : i < found). rw (queue_there i l) (h.states i l))
        (λ (past : found ≤ i). let same : i ≡ found = omega (arith, past, lt, one) in rw (same, queue_here) state)
        (in_or_past i found);
  }
    where
      rank_here : mark new s ≡ 0
      rank_here = rw new_is (mark_same ranks s 0 (omega (arith, state, h.sizes.0)))

      rank_there : (t : ℕ) → (t ≡ s → ⊥) → mark new t ≡ mark ranks t
      rank_there t ne = rw new_is (mark_other ranks s t 0 ne)

      queue_there : (i : ℕ) → i < found → mark later i ≡ mark queue i
      queue_there i lt = rw later_is (mark_other queue found i s (λ same. omega (arith, same, lt)))

      queue_here : mark later found ≡ s
      queue_here = rw later_is (mark_same queue found s room)

      less : (t : ℕ) → t < s + 1 → (t ≡ s → ⊥) → t < s
      less t lt ne = ⊎_elim (λ (l : t < s). l) (λ (past : s ≤ t). absurd (ne (omega (arith, past, lt)))) (in_or_past t s)

-- a goal state is one of the states
goal_in : (k : CaseData) (s : ℕ) → IsCase k → is_goal k.model s ≡ true → s < length k.model.states
goal_in k s is goal = ⊎_elim (λ (l : s < length k.model.states). l)
    (λ (past : length k.model.states ≤ s). let none = get_or_past k.model.goal s false (omega (arith, past, is.asked.model.goals)) in let wrong : true ≡ false = cc (goal, none) in absurd (cc wrong))
    (in_or_past s (length k.model.states))

pub begin : (k : CaseData) (spans : Spans) (allowed ranks queue : List ℕ) (to : ℕ) → IsCase k → IsInside k.root spans → IsStarting k ranks queue (length k.model.states) to → IsComplete k spans allowed ranks queue 0 0 to
begin k spans allowed ranks queue to is within h = record {
  sizes = h.sizes;
  staged = start_is_staged k spans (allows k.model allowed) (mark ranks) is within
      (λ s goal. (h.goals s (goal_in k s is goal) goal).0)
      (λ s isnt. h.others s (λ lt. isnt));
  count = h.count;
  part = (omega arith, omega arith);
  states = h.states;
  last = λ s zero. is_queued s zero;
}
  where
    is_queued : (s : ℕ) → mark ranks s ≡ 0 → IsQueuedIn queue 0 to s
    is_queued s zero = elim_goal (is_goal k.model s) refl
      where
        elim_goal : (b : Bool) → is_goal k.model s ≡ b → IsQueuedIn queue 0 to s
        elim_goal true goal = (h.goals s (goal_in k s is goal) goal).1
        elim_goal false isnt = let none = h.others s (λ lt. isnt) in absurd (omega (arith, none, zero))

-- ---- a stage

pub small_stage : (k : CaseData) (spans : Spans) (allowed ranks queue : List ℕ) (r from to : ℕ) → IsCase k → from < to → IsComplete k spans allowed ranks queue r from to → suc r < unmarked
small_stage k spans allowed ranks queue r from to is some h =
    let most = count_by-le-length is_rank ranks in
    omega (arith, most, h.count, h.sizes.0, is.asked.model.count.1, h.part.0, some)

pub small_rank : (k : CaseData) (spans : Spans) (allowed ranks queue : List ℕ) (r from to : ℕ) → IsCase k → IsComplete k spans allowed ranks queue r from to → r < unmarked
small_rank k spans allowed ranks queue r from to is h =
    let most = count_by-le-length is_rank ranks in
    omega (arith, most, h.count, h.sizes.0, is.asked.model.count.1, h.part.0, h.part.1)

module _ (k : CaseData) (l : LinksData) (allowed : List ℕ) (start : StageData) (r from : ℕ) (links : AreLinks k.model l) (h : IsComplete k start.spans allowed start.ranks start.queue r from start.to) (small : suc r < unmarked) where
  pub gathering_begins : IsGathering k allowed start r start.to start.ranks start.queue
  gathering_begins = record {
    sizes = h.sizes;
    small = small;
    count = h.count;
    from = omega arith;
    states = h.states;
    kept = λ i lt. refl;
    grown = λ s. inl refl;
    queued = λ s is. let le = h.staged.marks s (omega (arith, is, small)) in absurd (omega (arith, is, le));
  }

  module _ (found : ℕ) (ranks queue : List ℕ) (g : IsGathering k allowed start r found ranks queue) (looked : (j : ℕ) → from ≤ j → j < start.to → All (IsLooked k allowed start r ranks) (states_before l (mark start.queue j))) where
    next : IsNextStage k start.spans (Pass (allows k.model allowed)) (mark start.ranks) (mark ranks) r
    next = record {
      kept = λ s lt. ⊎_elim (λ (same : mark ranks s ≡ mark start.ranks s). same) (λ (added : IsAdded k allowed start ranks r s). absurd (omega (arith, added.was, lt))) (g.grown s);
      added = λ s isnt none. ⊎_elim
          (λ (same : mark ranks s ≡ mark start.ranks s). inl (omega (arith, same, none)))
          (λ (added : IsAdded k allowed start ranks r s). inr (added.now, (added.choice, (added.in_range, (added.leads.0, added.leads.1)))))
          (g.grown s);
      complete = λ s isnt far a choice is_allowed there leads.
          let t = (get_or (row_at k.model s a) there.0 no_entry).target in
          let at = h.last t there.1.1 in
          let state : t < length k.model.states = subst (λ n. n < length k.model.states) at.1.2 (h.states at.0 at.1.1) in
          let before : Contains (states_before l t) s = stands_before k.model l s a there.0 links choice there.1.0 state in
          let all = subst (λ n. All (IsLooked k allowed start r ranks) (states_before l n)) at.1.2 (looked at.0 at.1.0 at.1.1) in
          All-contains (IsLooked k allowed start r ranks) (states_before l t) s all before far a choice (is_allowed, leads);
    }

    pub stage_done : from < start.to → IsComplete k start.spans allowed ranks queue (suc r) start.to found
    stage_done some = record {
      sizes = g.sizes;
      staged = next_is_staged k start.spans (allows k.model allowed) (mark start.ranks) (mark ranks) r small h.staged next;
      count = g.count;
      part = (omega (arith, h.part.0, some), g.from);
      states = g.states;
      last = g.queued;
    }

-- ---- the end

-- an empty stage is the last
pub ranks_of_stages : (k : CaseData) (spans : Spans) (allowed ranks queue : List ℕ) (r from to : ℕ) → IsCase k → IsInside k.root spans → SumsRise → r < unmarked → to ≤ from → IsComplete k spans allowed ranks queue r from to → AreRanks k spans allowed ranks
ranks_of_stages k spans allowed ranks queue r from to is within rise small empty h s state = (
  h.staged.goal s,
  λ isnt. record {
    reached = h.staged.reached s isnt;
    first = λ q lt leading. none_sooner rise k spans (allows k.model allowed) (mark ranks) r is within h.staged (λ t is_r. let at = h.last t is_r in omega (arith, at.1.0, at.1.1, empty)) s isnt leading.0 q leading.1.0 leading.1.1.0 lt leading.1.1.1;
  },
)

module _ (k : CaseData) (spans : Spans) (allowed ranks : List ℕ) (size : length ranks ≡ length k.model.states) (ranked : AreRanks k spans allowed ranks) where
  ranked_in : (s : ℕ) → mark ranks s < unmarked → s < length k.model.states
  ranked_in s lt = ⊎_elim (λ (l : s < length k.model.states). l) (λ (past : length k.model.states ≤ s). absurd (omega (arith, lt, get_or_past ranks s unmarked (omega (arith, past, size))))) (in_or_past s (length k.model.states))

  -- with the least choices, these are the stages
  pub stages : (picks : List ℕ) → IsCase k → ((s : ℕ) → s < length k.model.states → IsChoiceOf k spans allowed ranks s (mark picks s)) → AreStages k spans (Pass (allows k.model allowed)) (mark picks) (mark ranks)
  stages picks is all = record {
    goal = λ s goal. (ranked s (goal_in k s is goal)).0 goal;
    chosen = λ s isnt lt.
        let pick = (all s (ranked_in s lt)).chosen isnt lt in
        record {
          later = ⊎_elim
              (λ (zero : mark ranks s < 1). let none : mark ranks s ≡ 0 = omega (arith, zero) in let leads = pick.holds.1 in absurd (none_below_0 k spans (mark ranks) s (mark picks s) (subst (λ n. LeadsBelow k spans (mark ranks) n s (mark picks s)) none leads)))
              (λ (le : 1 ≤ mark ranks s). le)
              (in_or_past (mark ranks s) 1);
          in_range = pick.in_range;
          is_allowed = pick.holds.0;
          leads = pick.holds.1;
          least = λ a less is_allowed leads. pick.least a less (is_allowed, leads);
        };
    first = λ s isnt a q choice is_allowed lt leads. ((ranked s (row_there k s a choice).state).1 isnt).first q lt (a, (choice, (is_allowed, leads)));
  }
