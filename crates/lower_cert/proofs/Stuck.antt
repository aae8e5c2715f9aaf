-- The states that stages can't rank are capped by the greatest of their numbers; and where none of them has a number above 0, the vector is the greatest lower vector.
use Rattle.std.proofs.Common.{◌≡◌, ℕ, zero, suc, ◌^◌, ◌<◌, ◌≤◌, ◌⊎◌, inl, inr, ⊎_elim, Bool, true, false, cond, not, ◌&&◌, ℤ, pos, ◌-ℤ◌, ◌*ℤ◌, ◌≤ℤ◌, ◌<ℤ◌, refl, sym, ap, subst, ◌∙◌, arith, nat_lt, true≢false, lt-ltb, ltb-true, ltb-false}
use Rattle.std.proofs.lemmas.Int.{by_lt_z}
use Rattle.lift_poly.proofs.Ring.{linear, mul-comm, mul-le}
use Rattle.lift_grid.specs.Rectangle.{Spans}
use Rattle.lift_model.specs.Model.{is_goal, row_at, support}
use Rattle.corner_lift.specs.Corner.{corner_sum, whole, parameter_count}
use Rattle.corner_lift.specs.Case.{CaseData}
use Rattle.corner_lift.specs.Certificate.{unmarked, ranked_below}
use Rattle.corner_lift.specs.Stages.{IsAllowed, LeadsBelow, AreStages}
use Rattle.lower_cert.specs.Capping.{out, IsCapped}
use Rattle.lower_cert.specs.Laws.{is_stuck, StuckAreCapped, StagesAreGreatest, GreatestIsOne}
use Rattle.lower_cert.proofs.Means.{Premises, Place, stand, either_way, positive, mono}

-- of finitely many numbers, either each is below its bound or one is not
all_or_one : (n : ℕ) (f g : ℕ → ℤ) → ((c : ℕ) → c < n → f c <ℤ g c) ⊎ ((c : ℕ) × ((c < n) × (g c ≤ℤ f c)))
all_or_one zero f g = inl (λ c lt. absurd (omega arith))
all_or_one (suc n) f g =
    ⊎_elim
    (λ (all : (c : ℕ) → c < n → f c <ℤ g c).
    by_lt_z (f n) (g n)
    (λ less. inl (λ c lt. either_way (nat_lt c n) (λ e. all c (ltb-true c n e)) (λ e. let same : n ≡ c = omega (arith, ltb-false c n e, lt) in subst (λ i. f i <ℤ g i) same less)))
    (λ le. inr (n, (omega arith, le))))
    (λ (one : (c : ℕ) × ((c < n) × (g c ≤ℤ f c))). inr (one.0, (omega (arith, one.1.0), one.1.1)))
    (all_or_one n f g)

pub stuck_parts : (g : Bool) (r : ℕ) → (not g && not (nat_lt r unmarked)) ≡ true → (g ≡ false) × (unmarked ≤ r)
stuck_parts true r e = cc
stuck_parts false r e = (refl, ltb-false r unmarked (either_way (nat_lt r unmarked) (λ k. absurd (true_not k)) (λ k. k)))
  where
    true_not : nat_lt r unmarked ≡ true → ⊥
    true_not k = true≢false (sym e ∙ ap not k)

module _ (k : CaseData) (spans : Spans) (z : ℕ → ℤ) (v : ℤ) (pick rank : ℕ → ℕ) (height : ℕ) (place : Place k spans) (small : suc height < unmarked) (stages : AreStages k spans (IsAllowed k spans z) pick rank) (ranks_small : (s : ℕ) → rank s < unmarked → rank s ≤ height) (highest : (s : ℕ) → is_stuck k rank s ≡ true → z s ≤ℤ v) where
  out-lower : (t : ℕ) → out (is_stuck k rank) t ≤ℤ ranked_below rank (suc height) t
  out-lower t =
      either_way (is_goal k.model t)
      (λ g. let zero_rank : rank t ≡ 0 = stages.goal t g in
      let low : nat_lt (rank t) (suc height) ≡ true = lt-ltb (rank t) (suc height) (omega (arith, zero_rank)) in
      rw (g, low) (omega (arith, linear)))
      (λ g. either_way (nat_lt (rank t) unmarked)
      (λ r. let le : rank t ≤ height = ranks_small t (ltb-true (rank t) unmarked r) in
      let low : nat_lt (rank t) (suc height) ≡ true = lt-ltb (rank t) (suc height) (omega (arith, le)) in
      rw (g, r, low) (omega (arith, linear)))
      (λ r. rw (g, r) (lower-least (nat_lt (rank t) (suc height)))))
    where
      lower-least : (b : Bool) → pos 0 ≤ℤ cond b (pos 1) (pos 0)
      lower-least true = omega (arith, linear)
      lower-least false = omega (arith, linear)

  stuck_capped : IsCapped k spans (is_stuck k rank) z v
  stuck_capped s a stuck choice =
      let row = row_at k.model s a in
      let w = whole k.model k.d spans row in
      let count = 2 ^ parameter_count spans (support row) in
      let parts = stuck_parts (is_goal k.model s) (rank s) stuck in
      ⊎_elim
      -- not even z's mean is below the state's number: the choice is allowed
      (λ (allowed : (c : ℕ) → c < count → ((z s *ℤ w) -ℤ pos 1) <ℤ corner_sum k.d spans row c z).
      ⊎_elim
      (λ (all : (c : ℕ) → c < count → pos 0 <ℤ corner_sum k.d spans row c (out (is_stuck k rank))).
      let is_allowed : IsAllowed k spans z s a = λ c l. let here = allowed c l in omega (arith, linear, here) in
      let leads : LeadsBelow k spans rank (suc height) s a =
      λ c l. omega (arith, linear, all c l, mono k spans place s a choice c (out (is_stuck k rank)) (ranked_below rank (suc height)) out-lower) in
      let early : rank s ≤ suc height = stages.first s parts.0 a (suc height) choice is_allowed small leads in
      absurd (omega (arith, early, parts.1, small)))
      (λ (one : (c : ℕ) × ((c < count) × (corner_sum k.d spans row c (out (is_stuck k rank)) ≤ℤ pos 0))). (one.0, (one.1.0, inr (inl one.1.1))))
      (all_or_one count (λ c. pos 0) (λ c. corner_sum k.d spans row c (out (is_stuck k rank)))))
      (λ (one : (c : ℕ) × ((c < count) × (corner_sum k.d spans row c z ≤ℤ ((z s *ℤ w) -ℤ pos 1)))).
      let more = mul-le w (z s) v (let p = positive k spans place s a choice in omega (arith, linear, p)) (highest s stuck) in
      (one.0, (one.1.0, inr (inr (omega (arith, linear, one.1.1, more, mul-comm w (z s), mul-comm w v))))))
      (all_or_one count (λ c. (z s *ℤ w) -ℤ pos 1) (λ c. corner_sum k.d spans row c z))

pub stuck_are_capped : Premises → StuckAreCapped
stuck_are_capped laws k spans z v pick rank height is within small stages ranks_small highest = stuck_capped k spans z v pick rank height (stand laws k spans is within) small stages ranks_small highest

pub stages_are_greatest : StagesAreGreatest
stages_are_greatest k spans r numbers sizes marks bounds goals rest stages small rates least_rate least_height above = record {
  holds = record {
    numbers = numbers;
    sizes = sizes;
    marks = marks;
    bounds = bounds;
    goal = λ s g. ((goals s g).0, stages.goal s g, (goals s g).1);
    unranked = rest;
    held = λ s g lt. let p = stages.chosen s g lt in record { rank = (p.later, small s lt); pick = p.in_range; means = p.is_allowed; rates = rates s g lt };
  };
  greatest = above;
  stages = stages;
  least_rate = least_rate;
  least_height = least_height;
}

pub greatest_is_one : GreatestIsOne
greatest_is_one k spans r q first second s = omega (arith, linear, second.greatest r first.holds s, first.greatest q second.holds s)
