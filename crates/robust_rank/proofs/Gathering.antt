-- What a stage gathers: states join the queue, and nothing below the stage changes.
use Rattle.std.proofs.Common.{◌≡◌, ℕ, suc, ◌+◌, ◌<◌, ◌≤◌, ◌⊎◌, inl, inr, ⊎_elim, false, cond, List, length, set, count_by, refl, sym, subst, ◌∙◌, arith, nat_lt, nat_eq, eqb-true, le-ltb, All}
use Rattle.std.proofs.lemmas.List.{length-set, get_or-set_same, get_or-set_other}
use Rattle.std.proofs.lemmas.List.Sums.{count_by-le-length, sum_by-set, sum_by-le}
use Rattle.std.proofs.lemmas.List.Elements.{All-from_get_or}
use Rattle.lift_poly.proofs.Ring.{linear}
use Rattle.lift_model.specs.Model.{row_at, support, moves_at}
use Rattle.corner_lift.specs.Corner.{corner}
use Rattle.corner_lift.specs.Case.{CaseData}
use Rattle.corner_lift.specs.Certificate.{unmarked, mark, ranked_below}
use Rattle.robust_rank.specs.Staging.{is_rank, IsLeading, IsLeastLeading, HasNoLeading, IsQueuedIn, StageData, IsAdded, IsGathering, IsLooked, AreKept}
use Rattle.robust_rank.proofs.Means.{either_way, in_or_past, sum-same}

-- where a state has no rank, fewer have one than there are
pub count_room : (xs : List ℕ) (s : ℕ) → s < length xs → unmarked ≤ mark xs s → count_by is_rank xs < length xs
count_room xs s lt none =
    let isnt : is_rank (mark xs s) ≡ false = le-ltb (mark xs s) unmarked none in
    let more = sum_by-set (λ (n : ℕ). cond {A = ℕ} (is_rank n) 1 0) xs s 0 unmarked lt in
    let past : cond {A = ℕ} (is_rank (mark xs s)) 1 0 ≡ 0 = rw isnt refl in
    let most = count_by-le-length is_rank (set xs s 0) in
    omega (arith, more, past, most, length-set xs s 0)

pub mark_same : (xs : List ℕ) (i v : ℕ) → i < length xs → mark (set xs i v) i ≡ v
mark_same xs i v lt = get_or-set_same xs i v unmarked lt

pub mark_other : (xs : List ℕ) (i j v : ℕ) → (j ≡ i → ⊥) → mark (set xs i v) j ≡ mark xs j
mark_other xs i j v ne = get_or-set_other xs i j v unmarked ne

pub same_or_not : {P : Type 0} (i j : ℕ) → (i ≡ j → P) → ((i ≡ j → ⊥) → P) → P
same_or_not i j f g = either_way (nat_eq i j) (λ e. f (eqb-true i j e)) (λ n. g (λ e. grind (arith, e, n)))

module _ (k : CaseData) (allowed : List ℕ) (start : StageData) (r found : ℕ) (ranks queue : List ℕ) (h : IsGathering k allowed start r found ranks queue) where
  same_lower : (t : ℕ) → ranked_below (mark ranks) (suc r) t ≡ ranked_below (mark start.ranks) (suc r) t
  same_lower t =
      ⊎_elim
      (λ (same : mark ranks t ≡ mark start.ranks t). rw same refl)
      (λ (added : IsAdded k allowed start ranks r t).
      let one : nat_lt (mark ranks t) (suc r) ≡ false = le-ltb (mark ranks t) (suc r) (omega (arith, added.now)) in
      let two : nat_lt (mark start.ranks t) (suc r) ≡ false = le-ltb (mark start.ranks t) (suc r) (omega (arith, added.was, h.small)) in
      rw (one, two) refl)
      (h.grown t)

  pub to_start : (s a : ℕ) → IsLeading k start.spans allowed (mark ranks) (suc r) s a → IsLeading k start.spans allowed (mark start.ranks) (suc r) s a
  to_start s a leading = (
    leading.0,
    λ c lt.
        let row = row_at k.model s a in
        let here = leading.1 c lt in
        omega (arith, linear, here, sum-same (ranked_below (mark ranks) (suc r)) (ranked_below (mark start.ranks) (suc r)) (moves_at (corner k.d start.spans (support row) c) row) same_lower),
  )

  pub from_start : (s a : ℕ) → IsLeading k start.spans allowed (mark start.ranks) (suc r) s a → IsLeading k start.spans allowed (mark ranks) (suc r) s a
  from_start s a leading = (
    leading.0,
    λ c lt.
        let row = row_at k.model s a in
        let here = leading.1 c lt in
        omega (arith, linear, here, sum-same (ranked_below (mark ranks) (suc r)) (ranked_below (mark start.ranks) (suc r)) (moves_at (corner k.d start.spans (support row) c) row) same_lower),
  )

  pub none_looked : (next s : ℕ) → next ≡ suc r → HasNoLeading k start.spans allowed (mark ranks) next s → IsLooked k allowed start r ranks s
  none_looked next s e none unranked a lt leading = none a lt (subst (λ n. IsLeading k start.spans allowed (mark ranks) n s a) (sym e) (from_start s a leading))

  module _ (next s a : ℕ) (e : next ≡ suc r) (state : s < length k.model.states) (none : unmarked ≤ mark ranks s) (leads : IsLeastLeading k start.spans allowed (mark ranks) next s a) (new later : List ℕ) (new_is : new ≡ set ranks s next) (later_is : later ≡ set queue found s) (room : found < length queue) where
    rank_here : mark new s ≡ suc r
    rank_here = rw new_is (mark_same ranks s next (omega (arith, state, h.sizes.1, h.sizes.0)) ∙ e)

    rank_there : (t : ℕ) → (t ≡ s → ⊥) → mark new t ≡ mark ranks t
    rank_there t ne = rw new_is (mark_other ranks s t next ne)

    queue_there : (i : ℕ) → i < found → mark later i ≡ mark queue i
    queue_there i lt = rw later_is (mark_other queue found i s (λ same. omega (arith, same, lt)))

    queue_here : mark later found ≡ s
    queue_here = rw later_is (mark_same queue found s room)

    was_none : unmarked ≤ mark start.ranks s
    was_none = ⊎_elim (λ (same : mark ranks s ≡ mark start.ranks s). omega (arith, same, none)) (λ (added : IsAdded k allowed start ranks r s). added.was) (h.grown s)

    grown : (t : ℕ) → (mark new t ≡ mark start.ranks t) ⊎ IsAdded k allowed start new r t
    grown t =
        same_or_not t s
        (λ e2. rw e2 (inr (record { was = was_none; now = rank_here; choice = a; in_range = leads.in_range; leads = to_start s a (subst (λ n. IsLeading k start.spans allowed (mark ranks) n s a) e leads.holds) })))
        (λ ne. ⊎_elim
        (λ (same : mark ranks t ≡ mark start.ranks t). inl (rank_there t ne ∙ same))
        (λ (added : IsAdded k allowed start ranks r t). inr (record { was = added.was; now = rank_there t ne ∙ added.now; choice = added.choice; in_range = added.in_range; leads = added.leads }))
        (h.grown t))

    queued : (t : ℕ) → mark new t ≡ suc r → IsQueuedIn later start.to (found + 1) t
    queued t is =
        same_or_not t s
        (λ e2. (found, (h.from, omega arith, queue_here ∙ sym e2)))
        (λ ne. let was = h.queued t (sym (rank_there t ne) ∙ is) in
        (was.0, (was.1.0, omega (arith, was.1.1), queue_there was.0 was.1.1 ∙ was.1.2)))

    pub gathered : (more : ℕ) → more ≡ found + 1 → more ≡ count_by is_rank new → IsGathering k allowed start r more new later
    gathered more one count = record {
      sizes = (rw (new_is, length-set) h.sizes.0, rw (later_is, length-set) h.sizes.1);
      small = h.small;
      count = count;
      from = omega (arith, one, h.from);
      states = λ i lt. ⊎_elim
          (λ (l : i < found). rw (queue_there i l) (h.states i l))
          (λ (past : found ≤ i). let same : i ≡ found = omega (arith, past, lt, one) in rw (same, queue_here) state)
          (in_or_past i found);
      kept = λ i lt. queue_there i (omega (arith, lt, h.from)) ∙ h.kept i lt;
      grown = grown;
      queued = rw one queued;
    }

    pub keeps : AreKept ranks new
    keeps t lt = rank_there t (λ same. let high : unmarked ≤ mark ranks t = rw same none in omega (arith, high, lt))

-- where none has a rank, none is counted
pub none_counted : (xs : List ℕ) → ((s : ℕ) → s < length xs → mark xs s ≡ unmarked) → count_by is_rank xs ≡ 0
none_counted xs none =
    let all : All (λ (n : ℕ). cond {A = ℕ} (is_rank n) 1 0 ≤ 0) xs = All-from_get_or (λ (n : ℕ). cond {A = ℕ} (is_rank n) 1 0 ≤ 0) xs unmarked (λ i lt. rw (none i lt) (omega arith)) in
    let most = sum_by-le (λ (n : ℕ). cond {A = ℕ} (is_rank n) 1 0) 0 xs all in
    omega (arith, most)

-- one more entry is written
pub written : (P : ℕ → ℕ → Type 0) (xs : List ℕ) (i v : ℕ) → i < length xs → ((t : ℕ) → t < i → P t (mark xs t)) → P i v → (t : ℕ) → t < i + 1 → P t (mark (set xs i v) t)
written P xs i v room before here t lt =
    same_or_not t i
    (λ e. rw e (subst (λ n. P i n) (sym (mark_same xs i v room)) here))
    (λ ne. subst (λ n. P t n) (sym (mark_other xs i t v ne)) (before t (omega (arith, lt, less t i lt ne))))
  where
    less : (t i : ℕ) → t < i + 1 → (t ≡ i → ⊥) → t < i
    less t i lt ne = ⊎_elim (λ (l : t < i). l) (λ (past : i ≤ t). absurd (ne (omega (arith, past, lt)))) (in_or_past t i)

-- what was looked at stays so
pub still_looked : (k : CaseData) (allowed : List ℕ) (start : StageData) (r : ℕ) (old new : List ℕ) (s : ℕ) → AreKept old new → IsLooked k allowed start r old s → IsLooked k allowed start r new s
still_looked k allowed start r old new s kept looked unranked =
    ⊎_elim
    (λ (lt : mark old s < unmarked). let same = kept s lt in absurd (omega (arith, same, lt, unranked)))
    (λ (none : unmarked ≤ mark old s). looked none)
    (in_or_past (mark old s) unmarked)

pub kept_on : (a b c : List ℕ) → AreKept a b → AreKept b c → AreKept a c
kept_on a b c f g s lt = let one = f s lt in g s (omega (arith, one, lt)) ∙ one
