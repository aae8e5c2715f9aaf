-- Ranks by stages have no gaps: a state's rank is below the number of states.
use Rattle.std.proofs.Common.{◌≡◌, ℕ, zero, suc, ◌+◌, ◌<◌, ◌≤◌, Bool, true, false, cond, List, [], ◌∷◌, length, pos, ◌<ℤ◌, refl, sym, ap, ap₂, ◌∙◌, subst, arith, nat_lt, ltb-true, ltb-false, lt-ltb}
use Rattle.lift_grid.specs.Rectangle.{Spans}
use Rattle.corner_lift.specs.Case.{CaseData}
use Rattle.lift_model.specs.Model.{is_goal, row_at, moves_at, support}
use Rattle.corner_lift.specs.Corner.{corner}
use Rattle.corner_lift.specs.Certificate.{unmarked, ranked_below, mark}
use Rattle.corner_lift.specs.Stages.{LeadsBelow, AreStages}
use Rattle.lower_cert.specs.AnyRanks.{HeightFits}
use Rattle.lower_cert.proofs.Means.{either_way, sum-same}

-- how many of the first n states have a rank below r
abbrev count : (ℕ → ℕ) → ℕ → ℕ → ℕ
count rank r zero = 0
count rank r (suc n) = cond (nat_lt (rank n) r) 1 0 + count rank r n

pub bit-le : (b : Bool) → cond b 1 0 ≤ 1
bit-le true = omega arith
bit-le false = omega arith

count-le : (rank : ℕ → ℕ) (r n : ℕ) → count rank r n ≤ n
count-le rank r zero = omega arith
count-le rank r (suc n) = let h = count-le rank r n in let b = bit-le (nat_lt (rank n) r) in omega (arith, h, b)

bit-more : (k r : ℕ) → cond (nat_lt k r) 1 0 ≤ cond (nat_lt k (suc r)) 1 0
bit-more k r =
    either_way (nat_lt k r)
    (λ e. let more = lt-ltb k (suc r) (omega (arith, ltb-true k r e)) in rw (e, more) (omega arith))
    (λ e. rw e (omega arith))

count-more : (rank : ℕ → ℕ) (r n : ℕ) → count rank r n ≤ count rank (suc r) n
count-more rank r zero = omega arith
count-more rank r (suc n) = let h = count-more rank r n in let b = bit-more (rank n) r in omega (arith, h, b)

-- where the counts are the same, no state has the rank r
bit-same : (k r : ℕ) → cond (nat_lt k (suc r)) 1 0 ≤ cond (nat_lt k r) 1 0 → nat_lt k (suc r) ≡ nat_lt k r
bit-same k r h =
    either_way (nat_lt k r)
    (λ e. lt-ltb k (suc r) (omega (arith, ltb-true k r e)) ∙ sym e)
    (λ e. either_way (nat_lt k (suc r)) (λ f. absurd (one_zero e f h)) (λ f. f ∙ sym e))
  where
    one_zero : nat_lt k r ≡ false → nat_lt k (suc r) ≡ true → cond (nat_lt k (suc r)) 1 0 ≤ cond (nat_lt k r) 1 0 → ⊥
    one_zero e f l = let q = subst (λ b. 1 ≤ cond b 1 0) e (subst (λ b. cond b 1 0 ≤ cond (nat_lt k r) 1 0) f l) in omega (arith, q)

count-same : (rank : ℕ → ℕ) (r n : ℕ) → count rank (suc r) n ≤ count rank r n → (t : ℕ) → t < n → nat_lt (rank t) (suc r) ≡ nat_lt (rank t) r
count-same rank r zero h t lt = absurd (omega arith)
count-same rank r (suc n) h t lt =
    let b = bit-more (rank n) r in
    let m = count-more rank r n in
    either_way (nat_lt t n)
    (λ e. count-same rank r n (omega (arith, h, b)) t (ltb-true t n e))
    (λ e. let same : n ≡ t = omega (arith, ltb-false t n e) in subst (λ k. nat_lt (rank k) (suc r) ≡ nat_lt (rank k) r) same (bit-same (rank n) r (omega (arith, h, m))))

-- a state of rank r makes the counts differ
count-rank : (rank : ℕ → ℕ) (r n t : ℕ) → t < n → rank t ≡ r → count rank r n < count rank (suc r) n
count-rank rank r n t lt is =
    either_way (nat_lt (count rank r n) (count rank (suc r) n))
    (λ e. ltb-true (count rank r n) (count rank (suc r) n) e)
    (λ e. let same = count-same rank r n (ltb-false (count rank r n) (count rank (suc r) n) e) t lt in
    let yes = lt-ltb (rank t) (suc r) (omega (arith, is)) in
    let no : rank t < r = ltb-true (rank t) r (sym same ∙ yes) in
    absurd (omega (arith, no, is)))

counts-equal : (rank : ℕ → ℕ) (r q n : ℕ) → ((t : ℕ) → t < n → nat_lt (rank t) r ≡ nat_lt (rank t) q) → count rank r n ≡ count rank q n
counts-equal rank r q zero h = refl
counts-equal rank r q (suc n) h = ap₂ (λ b k. cond b 1 0 + k) (h n (omega arith)) (counts-equal rank r q n (λ t lt. h t (omega (arith, lt))))

pub below-no : (a b : ℕ) → b ≤ a → nat_lt a b ≡ false
below-no a b le = either_way (nat_lt a b) (λ e. absurd (omega (arith, le, ltb-true a b e))) (λ e. e)

other-bit : (k r : ℕ) → (k ≡ r → ⊥) → nat_lt k (suc r) ≡ nat_lt k r
other-bit k r h =
    either_way (nat_lt k r)
    (λ e. lt-ltb k (suc r) (omega (arith, ltb-true k r e)) ∙ sym e)
    (λ e. either_way (nat_lt k (suc r)) (λ f. absurd (h (omega (arith, ltb-false k r e, ltb-true k (suc r) f)))) (λ f. f ∙ sym e))

module _ (case : CaseData) (ss : Spans) (allowed : ℕ → ℕ → Type 0) (pick rank : ℕ → ℕ) (stages : AreStages case ss allowed pick rank) (n : ℕ) (beyond : (t : ℕ) → n ≤ t → unmarked ≤ rank t) where
  lower-same : (r : ℕ) → suc r < unmarked → ((t : ℕ) → t < n → nat_lt (rank t) (suc r) ≡ nat_lt (rank t) r) → (t : ℕ) → ranked_below rank (suc r) t ≡ ranked_below rank r t
  lower-same r small same t =
      either_way (nat_lt t n)
      (λ e. ap (λ b. cond b (pos 1) (pos 0)) (same t (ltb-true t n e)))
      (λ e. let far = beyond t (ltb-false t n e) in
      let no = below-no (rank t) (suc r) (omega (arith, far, small)) in
      let also = below-no (rank t) r (omega (arith, far, small)) in
      rw (no, also) refl)

  -- where no state has rank r, none has rank r + 1
  no-next : (r : ℕ) → suc r < unmarked → ((t : ℕ) → t < n → nat_lt (rank t) (suc r) ≡ nat_lt (rank t) r) → (s : ℕ) → rank s ≡ suc r → ⊥
  no-next r small same s is =
      either_way (is_goal case.model s)
      (λ g. omega (arith, stages.goal s g, is))
      (λ g. let p = stages.chosen s g (omega (arith, is, small)) in
      let leads : LeadsBelow case ss rank (suc r) s (pick s) = subst (λ k. LeadsBelow case ss rank k s (pick s)) is p.leads in
      let less : LeadsBelow case ss rank r s (pick s) = λ c lt. subst (λ z. pos 0 <ℤ z) (sum-same (ranked_below rank (suc r)) (ranked_below rank r) (moves_at (corner case.d ss (support (row_at case.model s (pick s))) c) (row_at case.model s (pick s))) (lower-same r small same)) (leads c lt) in
      let early = stages.first s g (pick s) r p.in_range p.is_allowed (omega (arith, small)) less in
      omega (arith, early, is))

  -- so the counts grow with each rank that some state has or passes
  before : (r : ℕ) → suc r < unmarked → count rank (suc r) n < count rank (suc (suc r)) n → count rank r n < count rank (suc r) n
  before r small above =
      either_way (nat_lt (count rank r n) (count rank (suc r) n))
      (λ e. ltb-true (count rank r n) (count rank (suc r) n) e)
      (λ e. let same = count-same rank r n (ltb-false (count rank r n) (count rank (suc r) n) e) in
      let equal = counts-equal rank (suc (suc r)) (suc r) n (λ t lt. other-bit (rank t) (suc r) (no-next r small same t)) in
      absurd (omega (arith, above, equal)))

  grows : (r : ℕ) → r < unmarked → count rank r n < count rank (suc r) n → suc r ≤ count rank (suc r) n
  grows zero small above = omega (arith, above)
  grows (suc r) small above = let h = grows r (omega (arith, small)) (before r small above) in omega (arith, h, above)

  -- a rank is below the number of states
  pub rank-fits : (s : ℕ) → rank s < unmarked → rank s < n
  rank-fits s small =
      either_way (nat_lt s n)
      (λ e. let h = grows (rank s) small (count-rank rank (rank s) n s (ltb-true s n e) refl) in omega (arith, h, count-le rank (suc (rank s)) n))
      (λ e. absurd (omega (arith, beyond s (ltb-false s n e), small)))

pub mark-beyond : (marks : List ℕ) (t : ℕ) → length marks ≤ t → unmarked ≤ mark marks t
mark-beyond [] t h = omega arith
mark-beyond (x ∷ marks) zero h = absurd (omega (arith, h))
mark-beyond (x ∷ marks) (suc t) h = mark-beyond marks t (omega (arith, h))

-- the height of the greatest lower vector is at most the number of states
pub height_fits : HeightFits
height_fits k spans r is h =
    h.least_height (length k.model.states) is.asked.model.count.0
    (λ s small. let fits = rank-fits k spans _ (mark r.picks) (mark r.ranks) h.stages (length k.model.states) (λ t le. mark-beyond r.ranks t (omega (arith, le, h.holds.sizes.1))) s small in omega (arith, fits))
