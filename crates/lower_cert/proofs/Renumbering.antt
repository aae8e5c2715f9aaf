-- Any rejecting certificate, whatever its ranks, can be renumbered: ranks by their order, at most the number of states.
use Rattle.std.proofs.Common.{◌≡◌, ℕ, zero, suc, ◌+◌, ◌<◌, ◌≤◌, ◌^◌, Bool, true, false, cond, List, [], ◌∷◌, length, Option, Some, None, ℤ, pos, ◌*ℤ◌, ◌≤ℤ◌, All, refl, sym, ap, ap₂, ◌∙◌, subst, arith, nat_lt, slice_index_or, ltb-true, ltb-false, lt-ltb, true≢false}
use Rattle.std.proofs.lemmas.List.Elements.{All-cons, All-nil}
use Rattle.lift_grid.specs.Tree.{RejectData}
use Rattle.lift_grid.specs.Rectangle.{Spans}
use Rattle.corner_lift.specs.Case.{CaseData, number}
use Rattle.lift_model.specs.Model.{is_goal, row_at, moves_at, support}
use Rattle.corner_lift.specs.Corner.{corner, corner_sum, whole, AtCorners}
use Rattle.corner_lift.specs.Certificate.{unmarked, ranked_below, mark, IsLower, IsHeld}
use Rattle.lower_cert.specs.AnyRanks.{UnboundedReject, IsUnboundedLower, some_below, RanksFit}
use Rattle.lower_cert.proofs.Means.{either_way, sum-same}
use Rattle.lower_cert.proofs.Heights.{below-no}

-- a rank that is below r
abbrev is_below : Option ℕ → ℕ → Bool
is_below None r = false
is_below (Some n) r = nat_lt n r

abbrev counts : Bool → Option ℕ → ℕ → Bool
counts true o r = false
counts false o r = is_below o r

abbrev bit : Bool → ℕ
bit true = 1
bit false = 0

-- how many of the first n states that are no goal have a rank below r
abbrev among : (ℕ → Bool) → (ℕ → Option ℕ) → ℕ → ℕ → ℕ
among goal rank r zero = 0
among goal rank r (suc n) = bit (counts (goal n) (rank n) r) + among goal rank r n

bit-small : (b : Bool) → bit b ≤ 1
bit-small true = omega arith
bit-small false = omega arith

among-le : (goal : ℕ → Bool) (rank : ℕ → Option ℕ) (r n : ℕ) → among goal rank r n ≤ n
among-le goal rank r zero = omega arith
among-le goal rank r (suc n) = let b = bit-small (counts (goal n) (rank n) r) in omega (arith, b, among-le goal rank r n)

bit-below : (g : Bool) (o : Option ℕ) (q r : ℕ) → q ≤ r → bit (counts g o q) ≤ bit (counts g o r)
bit-below true o q r le = omega arith
bit-below false None q r le = omega arith
bit-below false (Some k) q r le =
    either_way (nat_lt k q)
    (λ e. let more = lt-ltb k r (omega (arith, ltb-true k q e, le)) in rw (e, more) (omega arith))
    (λ e. rw e (omega arith))

among-more : (goal : ℕ → Bool) (rank : ℕ → Option ℕ) (q r n : ℕ) → q ≤ r → among goal rank q n ≤ among goal rank r n
among-more goal rank q r zero le = omega arith
among-more goal rank q r (suc n) le = let b = bit-below (goal n) (rank n) q r le in omega (arith, b, among-more goal rank q r n le)

-- a state that counts for r alone makes the counts differ
among-less : (goal : ℕ → Bool) (rank : ℕ → Option ℕ) (q r n t : ℕ) → q ≤ r → t < n → counts (goal t) (rank t) q ≡ false → counts (goal t) (rank t) r ≡ true → among goal rank q n < among goal rank r n
among-less goal rank q r zero t le lt off on = absurd (omega arith)
among-less goal rank q r (suc n) t le lt off on =
    either_way (nat_lt t n)
    (λ e. let b = bit-below (goal n) (rank n) q r le in omega (arith, b, among-less goal rank q r n t le (ltb-true t n e) off on))
    (λ e. let same : t ≡ n = omega (arith, lt, ltb-false t n e) in
    let m = among-more goal rank q r n le in
    let low : bit (counts (goal n) (rank n) q) ≡ 0 = subst (λ k. bit (counts (goal k) (rank k) q) ≡ 0) same (ap bit off) in
    let high : bit (counts (goal n) (rank n) r) ≡ 1 = subst (λ k. bit (counts (goal k) (rank k) r) ≡ 1) same (ap bit on) in
    omega (arith, m, low, high))

-- a state that doesn't count leaves room
among-room : (goal : ℕ → Bool) (rank : ℕ → Option ℕ) (r n t : ℕ) → t < n → counts (goal t) (rank t) r ≡ false → among goal rank r n < n
among-room goal rank r zero t lt off = absurd (omega arith)
among-room goal rank r (suc n) t lt off =
    either_way (nat_lt t n)
    (λ e. let b = bit-small (counts (goal n) (rank n) r) in omega (arith, b, among-room goal rank r n t (ltb-true t n e) off))
    (λ e. let same : t ≡ n = omega (arith, lt, ltb-false t n e) in
    let low : bit (counts (goal n) (rank n) r) ≡ 0 = subst (λ k. bit (counts (goal k) (rank k) r) ≡ 0) same (ap bit off) in
    omega (arith, low, among-le goal rank r n))

-- the values of a function from place k on
abbrev table : (ℕ → ℕ) → ℕ → ℕ → List ℕ
table f k zero = []
table f k (suc n) = f k ∷ table f (suc k) n

table-length : (f : ℕ → ℕ) (k n : ℕ) → length (table f k n) ≡ n
table-length f k zero = refl
table-length f k (suc n) = ap suc (table-length f (suc k) n)

table-mark : (f : ℕ → ℕ) (k n i : ℕ) → i < n → mark (table f k n) i ≡ f (k + i)
table-mark f k zero i lt = absurd (omega arith)
table-mark f k (suc n) zero lt = ap f (omega arith)
table-mark f k (suc n) (suc i) lt = table-mark f (suc k) n i (omega (arith, lt)) ∙ ap f (omega arith)

table-beyond : (f : ℕ → ℕ) (k n i : ℕ) → n ≤ i → mark (table f k n) i ≡ unmarked
table-beyond f k zero i le = refl
table-beyond f k (suc n) zero le = absurd (omega (arith, le))
table-beyond f k (suc n) (suc i) le = table-beyond f (suc k) n i (omega (arith, le))

table-small : (f : ℕ → ℕ) (k n : ℕ) → ((i : ℕ) → f i ≤ unmarked) → All (λ rank. rank ≤ unmarked) (table f k n)
table-small f k zero h = All-nil (λ rank. rank ≤ unmarked)
table-small f k (suc n) h = All-cons (λ rank. rank ≤ unmarked) (f k) (table f (suc k) n) (h k) (table-small f (suc k) n h)

goal-beyond : (goal : List Bool) (i : ℕ) → length goal ≤ i → slice_index_or goal i false ≡ false
goal-beyond [] i le = refl
goal-beyond (b ∷ goal) zero le = absurd (omega (arith, le))
goal-beyond (b ∷ goal) (suc i) le = goal-beyond goal i (omega (arith, le))

no-choices : {A : Type 0} (states : List (List A)) (i : ℕ) → length states ≤ i → length (slice_index_or states i []) ≡ 0
no-choices [] i le = refl
no-choices (b ∷ states) zero le = absurd (omega (arith, le))
no-choices (b ∷ states) (suc i) le = no-choices states i (omega (arith, le))

module _ (case : CaseData) (ss : Spans) (u : UnboundedReject) (some : 1 ≤ length case.model.states) (few : length case.model.states ≤ 65536) (goals : length case.model.goal ≡ length case.model.states) (h : IsUnboundedLower case ss u) where
  -- a state that has a rank and is no goal is one of the states
  ranked-in : (s r : ℕ) → is_goal case.model s ≡ false → u.rank s ≡ Some r → s < length case.model.states
  ranked-in s r g is =
      either_way (nat_lt s (length case.model.states))
      (λ e. ltb-true s (length case.model.states) e)
      (λ e. let held = h.held s r g is in absurd (omega (arith, held.in_range, no-choices case.model.states s (ltb-false s (length case.model.states) e))))

  abbrev by : Bool → Option ℕ → ℕ
  by true o = 0
  by false None = unmarked
  by false (Some r) = suc (among (is_goal case.model) u.rank r (length case.model.states))

  abbrev new : ℕ → ℕ
  new s = by (is_goal case.model s) (u.rank s)

  by-small : (g : Bool) (o : Option ℕ) → by g o ≤ unmarked
  by-small true o = omega arith
  by-small false None = omega arith
  by-small false (Some r) = let l = among-le (is_goal case.model) u.rank r (length case.model.states) in omega (arith, l, few)

  abbrev chosen : Bool → Option ℕ → Option ℕ → ℕ
  chosen true o p = unmarked
  chosen false None p = unmarked
  chosen false (Some r) None = unmarked
  chosen false (Some r) (Some a) = a

  abbrev new_choice : ℕ → ℕ
  new_choice s = chosen (is_goal case.model s) (u.rank s) (u.pick s)

  abbrev ranks : List ℕ
  ranks = table new 0 (length case.model.states)

  abbrev picks : List ℕ
  picks = table new_choice 0 (length case.model.states)

  marked : (s : ℕ) → s < length case.model.states → mark ranks s ≡ new s
  marked s lt = table-mark new 0 (length case.model.states) s lt ∙ ap new (omega arith)

  choice_made : (s : ℕ) → s < length case.model.states → mark picks s ≡ new_choice s
  choice_made s lt = table-mark new_choice 0 (length case.model.states) s lt ∙ ap new_choice (omega arith)

  -- the new ranks have the order of the old ones
  order : (s r : ℕ) → is_goal case.model s ≡ false → u.rank s ≡ Some r → (t : ℕ) → t < length case.model.states → ranked_below (mark ranks) (suc (among (is_goal case.model) u.rank r (length case.model.states))) t ≡ some_below u.rank r t
  order s r g is t lt = subst (λ n. cond (nat_lt n (suc (among (is_goal case.model) u.rank r (length case.model.states)))) (pos 1) (pos 0) ≡ some_below u.rank r t) (sym (marked t lt)) (by_goal (is_goal case.model t) refl)
    where
      least : 1 ≤ r
      least = (h.held s r g is).range.0

      by_rank : (o : Option ℕ) → is_goal case.model t ≡ false → u.rank t ≡ o → cond (nat_lt (by false o) (suc (among (is_goal case.model) u.rank r (length case.model.states)))) (pos 1) (pos 0) ≡ cond (is_below o r) (pos 1) (pos 0)
      by_rank None gt it = let l = among-le (is_goal case.model) u.rank r (length case.model.states) in ap (λ b. cond b (pos 1) (pos 0)) (below-no unmarked (suc (among (is_goal case.model) u.rank r (length case.model.states))) (omega (arith, l, few)))
      by_rank (Some q) gt it =
          either_way (nat_lt q r)
          (λ e. let low : counts (is_goal case.model t) (u.rank t) q ≡ false = rw (gt, it) (below-no q q (omega arith)) in
          let high : counts (is_goal case.model t) (u.rank t) r ≡ true = rw (gt, it) e in
          let less = among-less (is_goal case.model) u.rank q r (length case.model.states) t (omega (arith, ltb-true q r e)) lt low high in
          rw (e, lt-ltb (suc (among (is_goal case.model) u.rank q (length case.model.states))) (suc (among (is_goal case.model) u.rank r (length case.model.states))) (omega (arith, less))) refl)
          (λ e. let more = among-more (is_goal case.model) u.rank r q (length case.model.states) (ltb-false q r e) in
          rw (e, below-no (suc (among (is_goal case.model) u.rank q (length case.model.states))) (suc (among (is_goal case.model) u.rank r (length case.model.states))) (omega (arith, more))) refl)

      below_is : (o : Option ℕ) → u.rank t ≡ o → some_below u.rank r t ≡ cond (is_below o r) (pos 1) (pos 0)
      below_is None it = rw (some_below, it) refl
      below_is (Some q) it = rw (some_below, it) refl

      by_goal : (b : Bool) → is_goal case.model t ≡ b → cond (nat_lt (by (is_goal case.model t) (u.rank t)) (suc (among (is_goal case.model) u.rank r (length case.model.states)))) (pos 1) (pos 0) ≡ some_below u.rank r t
      by_goal true gt = let zero_rank = (h.goal t gt).1 in rw (gt, below_is (Some 0) zero_rank, lt-ltb 0 r (omega (arith, least)), lt-ltb 0 (suc (among (is_goal case.model) u.rank r (length case.model.states))) (omega arith)) refl
      by_goal false gt = rw gt (by_rank (u.rank t) gt refl ∙ sym (below_is (u.rank t) refl))

  order_beyond : (s r : ℕ) → is_goal case.model s ≡ false → u.rank s ≡ Some r → (t : ℕ) → ranked_below (mark ranks) (suc (among (is_goal case.model) u.rank r (length case.model.states))) t ≡ some_below u.rank r t
  order_beyond s r g is t =
      either_way (nat_lt t (length case.model.states))
      (λ e. order s r g is t (ltb-true t (length case.model.states) e))
      (λ e. rw (table-beyond new 0 (length case.model.states) t (ltb-false t (length case.model.states) e), below-no unmarked (suc (among (is_goal case.model) u.rank r (length case.model.states))) (omega (arith, few, among-le (is_goal case.model) u.rank r (length case.model.states)))) (sym (unranked_zero (ltb-false t (length case.model.states) e) (u.rank t) refl)))
    where
      unranked_zero : length case.model.states ≤ t → (o : Option ℕ) → u.rank t ≡ o → some_below u.rank r t ≡ pos 0
      unranked_zero le None it = rw (some_below, it) refl
      unranked_zero le (Some q) it =
          either_way (is_goal case.model t)
          (λ gt. absurd (true≢false (sym gt ∙ goal-beyond case.model.goal t (omega (arith, le, goals)))))
          (λ gt. absurd (omega (arith, le, ranked-in t q gt it)))

  abbrev data_of : RejectData
  data_of = record { numbers = u.numbers; picks = picks; ranks = ranks; e = u.e; k = length case.model.states }

  held_at : (s : ℕ) → s < length case.model.states → is_goal case.model s ≡ false → mark ranks s < unmarked → (o : Option ℕ) → u.rank s ≡ o → IsHeld case ss data_of s
  held_at s lt g small None is = absurd (omega (arith, small, marked s lt ∙ ap₂ by g is))
  held_at s lt g small (Some r) is =
      let held = h.held s r g is in
      let at : mark ranks s ≡ suc (among (is_goal case.model) u.rank r (length case.model.states)) = marked s lt ∙ ap₂ by g is in
      let choice : mark picks s ≡ held.choice = choice_made s lt ∙ rw (g, is, held.is_choice) refl in
      let off : counts (is_goal case.model s) (u.rank s) r ≡ false = rw (g, is) (below-no r r (omega arith)) in
      let room = among-room (is_goal case.model) u.rank r (length case.model.states) s lt off in
      record {
        rank = (omega (arith, at), omega (arith, at, room));
        pick = omega (arith, choice, held.in_range);
        means = subst (λ a. AtCorners ss (row_at case.model s a) (λ c. (number u.numbers s *ℤ whole case.model case.d ss (row_at case.model s a)) ≤ℤ corner_sum case.d ss (row_at case.model s a) c (number u.numbers))) (sym choice) held.means;
        rates =
            subst (λ a. AtCorners ss (row_at case.model s a) (λ c. whole case.model case.d ss (row_at case.model s a) ≤ℤ (corner_sum case.d ss (row_at case.model s a) c (ranked_below (mark ranks) (mark ranks s)) *ℤ pos (2 ^ u.e)))) (sym choice)
            (λ c lt. subst (λ z. whole case.model case.d ss (row_at case.model s held.choice) ≤ℤ (z *ℤ pos (2 ^ u.e)))
            (sum-same (some_below u.rank r) (ranked_below (mark ranks) (mark ranks s)) (moves_at (corner case.d ss (support (row_at case.model s held.choice)) c) (row_at case.model s held.choice))
            (λ t. sym (ap (λ q. ranked_below (mark ranks) q t) at ∙ order_beyond s r g is t)))
            (held.rates c lt));
      }

  unranked_at : (s : ℕ) → is_goal case.model s ≡ false → unmarked ≤ mark ranks s → (number u.numbers s ≡ pos 0) × (mark picks s ≡ unmarked)
  unranked_at s g large =
      either_way (nat_lt s (length case.model.states))
      (λ e. by_rank (ltb-true s (length case.model.states) e) (u.rank s) refl)
      (λ e. (number_beyond u.numbers s (omega (arith, ltb-false s (length case.model.states) e, h.numbers.size)), table-beyond new_choice 0 (length case.model.states) s (ltb-false s (length case.model.states) e)))
    where
      number_beyond : (y : List ℤ) (i : ℕ) → length y ≤ i → number y i ≡ pos 0
      number_beyond [] i le = refl
      number_beyond (b ∷ y) zero le = absurd (omega (arith, le))
      number_beyond (b ∷ y) (suc i) le = number_beyond y i (omega (arith, le))

      by_rank : s < length case.model.states → (o : Option ℕ) → u.rank s ≡ o → (number u.numbers s ≡ pos 0) × (mark picks s ≡ unmarked)
      by_rank lt None is = ((h.unranked s g is).0, choice_made s lt ∙ rw (g, is) refl)
      by_rank lt (Some r) is = absurd (omega (arith, large, marked s lt ∙ ap₂ by g is, few, among-le (is_goal case.model) u.rank r (length case.model.states)))

  goal_at : (s : ℕ) → is_goal case.model s ≡ true → (number u.numbers s ≡ pos (2 ^ case.w)) × (mark ranks s ≡ 0) × (mark picks s ≡ unmarked)
  goal_at s g =
      either_way (nat_lt s (length case.model.states))
      (λ e. let lt = ltb-true s (length case.model.states) e in ((h.goal s g).0, marked s lt ∙ rw g refl, choice_made s lt ∙ rw g refl))
      (λ e. absurd (true≢false (sym g ∙ goal-beyond case.model.goal s (omega (arith, ltb-false s (length case.model.states) e, goals)))))

  -- the same vector with few ranks
  pub renumbered : IsLower case ss data_of
  renumbered = record {
    numbers = h.numbers;
    sizes = (table-length new_choice 0 (length case.model.states), table-length new 0 (length case.model.states));
    marks = table-small new 0 (length case.model.states) (λ i. by-small (is_goal case.model i) (u.rank i));
    bounds = (h.bounds.0, some, omega (arith, few));
    goal = goal_at;
    unranked = unranked_at;
    held =
        λ s g small. either_way (nat_lt s (length case.model.states))
        (λ e. held_at s (ltb-true s (length case.model.states) e) g small (u.rank s) refl)
        (λ e. absurd (omega (arith, small, table-beyond new 0 (length case.model.states) s (ltb-false s (length case.model.states) e))));
  }

pub ranks_fit : RanksFit
ranks_fit k spans u is lower =
    let count = is.asked.model.count in
    (data_of k spans u count.0 count.1 is.asked.model.goals lower, (refl, refl, refl, renumbered k spans u count.0 count.1 is.asked.model.goals lower))
