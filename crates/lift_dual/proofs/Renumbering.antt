-- Any lower vector for every scheduler, whatever its ranks, can be renumbered: ranks by their order, at most the number of states.
use Rattle.std.proofs.Common.{◌≡◌, ℕ, zero, suc, ◌+◌, ◌<◌, ◌≤◌, ◌^◌, Bool, true, false, cond, List, [], ◌∷◌, length, Option, Some, None, ℤ, pos, ◌*ℤ◌, ◌≤ℤ◌, All, refl, sym, ap, ap₂, ◌∙◌, subst, arith, nat_lt, slice_index_or, ltb-true, ltb-false, lt-ltb, true≢false}
use Rattle.std.proofs.lemmas.List.Elements.{All-cons, All-nil}
use Rattle.lift_grid.specs.Tree.{RejectData}
use Rattle.lift_grid.specs.Rectangle.{Spans}
use Rattle.lift_model.specs.declared.entry.Entry.{Entry}
use Rattle.lift_model.specs.Model.{is_goal, choices, moves_at, support}
use Rattle.corner_lift.specs.Case.{CaseData, number}
use Rattle.corner_lift.specs.Corner.{corner, whole}
use Rattle.corner_lift.specs.Certificate.{unmarked, ranked_below, mark}
use Rattle.lower_cert.specs.AnyRanks.{UnboundedReject, some_below}
use Rattle.lift_dual.specs.Sides.{RowHolds, IsHeldByAll, IsLowerAll}
use Rattle.lift_dual.specs.AnyRanksOfAll.{RowHoldsAtRank, IsUnboundedLowerAll, RanksOfAllFit, NoneOfAllWithAnyRanks}
use Rattle.lift_dual.proofs.Inside.{either_way}
use Rattle.lift_dual.proofs.Sums.{sum-same}

below-no : (a b : ℕ) → b ≤ a → nat_lt a b ≡ false
below-no a b le = either_way (nat_lt a b) (λ e. absurd (let lt = ltb-true a b e in omega (arith, lt, le))) (λ e. e)

-- a rank that is below r
abbrev is_below : Option ℕ → ℕ → Bool
is_below None r = false
is_below (Some n) r = nat_lt n r

abbrev counts : Bool → Option ℕ → ℕ → Bool
counts true o r = false
counts false o r = is_below o r

abbrev bit : Bool → ℕ
bit true = 1
bit false = 0

-- how many of the first n states that are no goal have a rank below r
abbrev among : (ℕ → Bool) → (ℕ → Option ℕ) → ℕ → ℕ → ℕ
among goal rank r zero = 0
among goal rank r (suc n) = bit (counts (goal n) (rank n) r) + among goal rank r n

bit-small : (b : Bool) → bit b ≤ 1
bit-small true = omega arith
bit-small false = omega arith

among-le : (goal : ℕ → Bool) (rank : ℕ → Option ℕ) (r n : ℕ) → among goal rank r n ≤ n
among-le goal rank r zero = omega arith
among-le goal rank r (suc n) = let b = bit-small (counts (goal n) (rank n) r) in omega (arith, b, among-le goal rank r n)

bit-below : (g : Bool) (o : Option ℕ) (q r : ℕ) → q ≤ r → bit (counts g o q) ≤ bit (counts g o r)
bit-below true o q r le = omega arith
bit-below false None q r le = omega arith
bit-below false (Some k) q r le =
    either_way (nat_lt k q)
    (λ e. let more = lt-ltb k r (omega (arith, ltb-true k q e, le)) in rw (e, more) (omega arith))
    (λ e. rw e (omega arith))

among-more : (goal : ℕ → Bool) (rank : ℕ → Option ℕ) (q r n : ℕ) → q ≤ r → among goal rank q n ≤ among goal rank r n
among-more goal rank q r zero le = omega arith
among-more goal rank q r (suc n) le = let b = bit-below (goal n) (rank n) q r le in omega (arith, b, among-more goal rank q r n le)

-- a state that counts for r alone makes the counts differ
among-less : (goal : ℕ → Bool) (rank : ℕ → Option ℕ) (q r n t : ℕ) → q ≤ r → t < n → counts (goal t) (rank t) q ≡ false → counts (goal t) (rank t) r ≡ true → among goal rank q n < among goal rank r n
among-less goal rank q r zero t le lt off on = absurd (omega arith)
among-less goal rank q r (suc n) t le lt off on =
    either_way (nat_lt t n)
    (λ e. let b = bit-below (goal n) (rank n) q r le in omega (arith, b, among-less goal rank q r n t le (ltb-true t n e) off on))
    (λ e. let same : t ≡ n = omega (arith, lt, ltb-false t n e) in
    let m = among-more goal rank q r n le in
    let low : bit (counts (goal n) (rank n) q) ≡ 0 = subst (λ k. bit (counts (goal k) (rank k) q) ≡ 0) same (ap bit off) in
    let high : bit (counts (goal n) (rank n) r) ≡ 1 = subst (λ k. bit (counts (goal k) (rank k) r) ≡ 1) same (ap bit on) in
    omega (arith, m, low, high))

-- a state that doesn't count leaves room
among-room : (goal : ℕ → Bool) (rank : ℕ → Option ℕ) (r n t : ℕ) → t < n → counts (goal t) (rank t) r ≡ false → among goal rank r n < n
among-room goal rank r zero t lt off = absurd (omega arith)
among-room goal rank r (suc n) t lt off =
    either_way (nat_lt t n)
    (λ e. let b = bit-small (counts (goal n) (rank n) r) in omega (arith, b, among-room goal rank r n t (ltb-true t n e) off))
    (λ e. let same : t ≡ n = omega (arith, lt, ltb-false t n e) in
    let low : bit (counts (goal n) (rank n) r) ≡ 0 = subst (λ k. bit (counts (goal k) (rank k) r) ≡ 0) same (ap bit off) in
    omega (arith, low, among-le goal rank r n))

-- the values of a function from place k on
abbrev table : (ℕ → ℕ) → ℕ → ℕ → List ℕ
table f k zero = []
table f k (suc n) = f k ∷ table f (suc k) n

table-length : (f : ℕ → ℕ) (k n : ℕ) → length (table f k n) ≡ n
table-length f k zero = refl
table-length f k (suc n) = ap suc (table-length f (suc k) n)

table-mark : (f : ℕ → ℕ) (k n i : ℕ) → i < n → mark (table f k n) i ≡ f (k + i)
table-mark f k zero i lt = absurd (omega arith)
table-mark f k (suc n) zero lt = ap f (omega arith)
table-mark f k (suc n) (suc i) lt = table-mark f (suc k) n i (omega (arith, lt)) ∙ ap f (omega arith)

table-beyond : (f : ℕ → ℕ) (k n i : ℕ) → n ≤ i → mark (table f k n) i ≡ unmarked
table-beyond f k zero i le = refl
table-beyond f k (suc n) zero le = absurd (omega (arith, le))
table-beyond f k (suc n) (suc i) le = table-beyond f (suc k) n i (omega (arith, le))

table-small : (f : ℕ → ℕ) (k n : ℕ) → ((i : ℕ) → f i ≤ unmarked) → All (λ rank. rank ≤ unmarked) (table f k n)
table-small f k zero h = All-nil (λ rank. rank ≤ unmarked)
table-small f k (suc n) h = All-cons (λ rank. rank ≤ unmarked) (f k) (table f (suc k) n) (h k) (table-small f (suc k) n h)

goal-beyond : (goal : List Bool) (i : ℕ) → length goal ≤ i → slice_index_or goal i false ≡ false
goal-beyond [] i le = refl
goal-beyond (b ∷ goal) zero le = absurd (omega (arith, le))
goal-beyond (b ∷ goal) (suc i) le = goal-beyond goal i (omega (arith, le))

module _ (case : CaseData) (ss : Spans) (u : UnboundedReject) (some : 1 ≤ length case.model.states) (few : length case.model.states ≤ 65536) (goals : length case.model.goal ≡ length case.model.states) (h : IsUnboundedLowerAll case ss u) where
  abbrev states : ℕ
  states = length case.model.states

  -- how many states that are no goal have a rank below n
  abbrev before : ℕ → ℕ
  before n = among (is_goal case.model) u.rank n states

  before-le : (n : ℕ) → before n ≤ states
  before-le n = among-le (is_goal case.model) u.rank n states

  abbrev by : Bool → Option ℕ → ℕ
  by true o = 0
  by false None = unmarked
  by false (Some n) = suc (before n)

  abbrev new : ℕ → ℕ
  new s = by (is_goal case.model s) (u.rank s)

  by-small : (g : Bool) (o : Option ℕ) → by g o ≤ unmarked
  by-small true o = omega arith
  by-small false None = omega arith
  by-small false (Some n) = let l = before-le n in omega (arith, l, few)

  abbrev ranks : List ℕ
  ranks = table new 0 states

  marked : (s : ℕ) → s < states → mark ranks s ≡ new s
  marked s lt = table-mark new 0 states s lt ∙ ap new (omega arith)

  -- the new ranks have the order of the old ones
  order : (n : ℕ) → 1 ≤ n → (t : ℕ) → t < states → ranked_below (mark ranks) (suc (before n)) t ≡ some_below u.rank n t
  order n least t lt = subst (λ m. cond (nat_lt m (suc (before n))) (pos 1) (pos 0) ≡ some_below u.rank n t) (sym (marked t lt)) (by_goal (is_goal case.model t) refl)
    where
      by_rank : (o : Option ℕ) → is_goal case.model t ≡ false → u.rank t ≡ o → cond (nat_lt (by false o) (suc (before n))) (pos 1) (pos 0) ≡ cond (is_below o n) (pos 1) (pos 0)
      by_rank None gt it = let l = before-le n in ap (λ b. cond b (pos 1) (pos 0)) (below-no unmarked (suc (before n)) (omega (arith, l, few)))
      by_rank (Some q) gt it =
          either_way (nat_lt q n)
          (λ e. let low : counts (is_goal case.model t) (u.rank t) q ≡ false = rw (gt, it) (below-no q q (omega arith)) in
          let high : counts (is_goal case.model t) (u.rank t) n ≡ true = rw (gt, it) e in
          let less = among-less (is_goal case.model) u.rank q n states t (omega (arith, ltb-true q n e)) lt low high in
          rw (e, lt-ltb (suc (before q)) (suc (before n)) (omega (arith, less))) refl)
          (λ e. let more = among-more (is_goal case.model) u.rank n q states (ltb-false q n e) in
          rw (e, below-no (suc (before q)) (suc (before n)) (omega (arith, more))) refl)

      below_is : (o : Option ℕ) → u.rank t ≡ o → some_below u.rank n t ≡ cond (is_below o n) (pos 1) (pos 0)
      below_is None it = rw (some_below, it) refl
      below_is (Some q) it = rw (some_below, it) refl

      by_goal : (b : Bool) → is_goal case.model t ≡ b → cond (nat_lt (by (is_goal case.model t) (u.rank t)) (suc (before n))) (pos 1) (pos 0) ≡ some_below u.rank n t
      by_goal true gt = let zero_rank = (h.goal t gt).1 in rw (gt, below_is (Some 0) zero_rank, lt-ltb 0 n (omega (arith, least)), lt-ltb 0 (suc (before n)) (omega arith)) refl
      by_goal false gt = rw gt (by_rank (u.rank t) gt refl ∙ sym (below_is (u.rank t) refl))

  order_beyond : (n : ℕ) → 1 ≤ n → (t : ℕ) → ranked_below (mark ranks) (suc (before n)) t ≡ some_below u.rank n t
  order_beyond n least t =
      either_way (nat_lt t states)
      (λ e. order n least t (ltb-true t states e))
      (λ e. let l = before-le n in
      rw (table-beyond new 0 states t (ltb-false t states e), below-no unmarked (suc (before n)) (omega (arith, few, l))) (sym (unranked_zero (h.beyond t (ltb-false t states e)))))
    where
      unranked_zero : u.rank t ≡ None → some_below u.rank n t ≡ pos 0
      unranked_zero it = rw (some_below, it) refl

  abbrev data_of : RejectData
  data_of = record { numbers = u.numbers; picks = []; ranks = ranks; e = u.e; k = states }

  row_holds : (s n : ℕ) (row : List Entry) → 1 ≤ n → mark ranks s ≡ suc (before n) → RowHoldsAtRank case ss u n s row → RowHolds case ss data_of s row
  row_holds s n row least at holds = record {
    means = holds.means;
    rates = λ c lt. subst (λ z. whole case.model case.d ss row ≤ℤ (z *ℤ pos (2 ^ u.e)))
        (sum-same (some_below u.rank n) (ranked_below (mark ranks) (mark ranks s)) (moves_at (corner case.d ss (support row) c) row) (λ t. sym (ap (λ q. ranked_below (mark ranks) q t) at ∙ order_beyond n least t)))
        (holds.rates c lt);
  }

  held_at : (s : ℕ) → s < states → is_goal case.model s ≡ false → mark ranks s < unmarked → (o : Option ℕ) → u.rank s ≡ o → IsHeldByAll case ss data_of s
  held_at s lt g small None is = absurd (omega (arith, small, marked s lt ∙ ap₂ by g is))
  held_at s lt g small (Some n) is =
      let at : mark ranks s ≡ suc (before n) = marked s lt ∙ ap₂ by g is in
      let off : counts (is_goal case.model s) (u.rank s) n ≡ false = rw (g, is) (below-no n n (omega arith)) in
      let room = among-room (is_goal case.model) u.rank n states s lt off in
      record {
        rank = (omega (arith, at), omega (arith, at, room));
        rows = λ i d i_in. row_holds s n (slice_index_or (choices case.model s) i d) (h.range s n g is).0 at (h.held s n g is i d i_in);
      }

  unranked_at : (s : ℕ) → is_goal case.model s ≡ false → unmarked ≤ mark ranks s → number u.numbers s ≡ pos 0
  unranked_at s g large =
      either_way (nat_lt s states)
      (λ e. by_rank (ltb-true s states e) (u.rank s) refl)
      (λ e. h.unranked s g (h.beyond s (ltb-false s states e)))
    where
      by_rank : s < states → (o : Option ℕ) → u.rank s ≡ o → number u.numbers s ≡ pos 0
      by_rank lt None is = h.unranked s g is
      by_rank lt (Some n) is = absurd (let l = before-le n in omega (arith, large, marked s lt ∙ ap₂ by g is, few, l))

  goal_at : (s : ℕ) → is_goal case.model s ≡ true → (number u.numbers s ≡ pos (2 ^ case.w)) × (mark ranks s ≡ 0)
  goal_at s g =
      either_way (nat_lt s states)
      (λ e. let lt = ltb-true s states e in ((h.goal s g).0, marked s lt ∙ rw g refl))
      (λ e. absurd (true≢false (sym g ∙ goal-beyond case.model.goal s (omega (arith, ltb-false s states e, goals)))))

  -- the same vector with few ranks
  pub renumbered : IsLowerAll case ss data_of
  renumbered = record {
    numbers = h.numbers;
    sizes = (refl, table-length new 0 states);
    marks = table-small new 0 states (λ i. by-small (is_goal case.model i) (u.rank i));
    bounds = (h.bounds.0, some, omega (arith, few));
    goal = goal_at;
    unranked = unranked_at;
    held =
        λ s g small. either_way (nat_lt s states)
        (λ e. held_at s (ltb-true s states e) g small (u.rank s) refl)
        (λ e. absurd (omega (arith, small, table-beyond new 0 states s (ltb-false s states e))));
  }

pub ranks_of_all_fit : RanksOfAllFit
ranks_of_all_fit k spans u is lower =
    let count = is.asked.model.count in
    (data_of k spans u count.0 count.1 is.asked.model.goals lower, (refl, refl, refl, renumbered k spans u count.0 count.1 is.asked.model.goals lower))

pub none_of_all_with_any_ranks : NoneOfAllWithAnyRanks
none_of_all_with_any_ranks k spans limit is none u lower =
    let fit = ranks_of_all_fit k spans u is lower in
    subst (λ (ys : List ℤ). number ys k.model.init ≤ℤ limit) fit.1.0 (none fit.0 fit.1.3)
