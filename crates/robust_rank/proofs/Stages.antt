-- Stage by stage.
use Rattle.std.proofs.Common.{◌≡◌, ℕ, suc, ◌<◌, ◌≤◌, ◌⊎◌, inl, inr, ⊎_elim, Bool, false, length, get_or, pos, refl, sym, subst, arith, nat_lt, le-ltb, ltb-true, ltb-false}
use Rattle.std.proofs.lemmas.Nat.{pow_pos}
use Rattle.lift_poly.proofs.Ring.{linear}
use Rattle.lift_grid.specs.Rectangle.{Spans}
use Rattle.lift_model.specs.Model.{is_goal, choices, row_at, support, moves_at}
use Rattle.corner_lift.specs.Corner.{corner, parameter_count, no_entry}
use Rattle.corner_lift.specs.Case.{CaseData, IsCase, IsInside}
use Rattle.corner_lift.specs.Certificate.{unmarked, ranked_below}
use Rattle.corner_lift.specs.Stages.{LeadsBelow}
use Rattle.corner_lift.specs.Laws.{SumsRise}
use Rattle.robust_rank.specs.Attracting.{IsStaged, IsNextStage, Pass, StartIsStaged, NextIsStaged, EmptyStageEnds, StagesOfTest}
use Rattle.robust_rank.proofs.Means.{either_way, sum-same, sum-zero}
use Rattle.robust_rank.proofs.Frontier.{frontier_leads, gap_leads}

up_or_past : (q r : ℕ) → (q ≤ r) ⊎ (suc r ≤ q)
up_or_past q r = grind arith

none_or_ranked : (n : ℕ) → (n < unmarked) ⊎ (unmarked ≤ n)
none_or_ranked n = either_way (nat_lt n unmarked) (λ l. inl (ltb-true n unmarked l)) (λ g. inr (ltb-false n unmarked g))

-- nothing leads below 0
pub none_below_0 : (k : CaseData) (spans : Spans) (rank : ℕ → ℕ) (s a : ℕ) → LeadsBelow k spans rank 0 s a → ⊥
none_below_0 k spans rank s a leads =
    let row = row_at k.model s a in
    let here = leads 0 (pow_pos (parameter_count spans (support row))) in
    let nothing : (t : ℕ) → ranked_below rank 0 t ≡ pos 0 = λ t. let below : nat_lt (rank t) 0 ≡ false = le-ltb (rank t) 0 (omega arith) in rw below refl in
    let moves = moves_at (corner k.d spans (support row) 0) row in
    omega (arith, linear, here, sum-same (ranked_below rank 0) (λ t. pos 0) moves nothing, sum-zero moves)

pub start_is_staged : StartIsStaged
start_is_staged k spans test rank is within goals others = record {
  goal = goals;
  later = λ s g. omega (arith, others s g);
  marks = λ s lt. either_way (is_goal k.model s) (λ g. omega (arith, goals s g)) (λ g. absurd (omega (arith, lt, others s g)));
  reached = λ s g lt. absurd (omega (arith, lt, others s g));
  first = λ s g a q choice is_allowed le leads. let zero : q ≡ 0 = omega (arith, le) in absurd (none_below_0 k spans rank s a (subst (λ n. LeadsBelow k spans rank n s a) zero leads));
}

module _ (k : CaseData) (spans : Spans) (allowed : ℕ → ℕ → Type 0) (rank new : ℕ → ℕ) (r : ℕ) (small : suc r < unmarked) (old : IsStaged k spans allowed rank r) (next : IsNextStage k spans allowed rank new r) where
  -- a state without rank stays without a rank up to r
  high : (t : ℕ) → unmarked ≤ rank t → suc r ≤ new t
  high t n =
      either_way (is_goal k.model t)
      (λ g. absurd (omega (arith, old.goal t g, n)))
      (λ g. ⊎_elim
      (λ (far : unmarked ≤ new t). omega (arith, far, small))
      (λ (more : (new t ≡ suc r) × ((a : ℕ) × ((a < length (choices k.model t)) × (allowed t a × LeadsBelow k spans rank (suc r) t a)))). omega (arith, more.0))
      (next.added t g n))

  same-lower : (q : ℕ) → q ≤ suc r → (t : ℕ) → ranked_below new q t ≡ ranked_below rank q t
  same-lower q le t =
      ⊎_elim
      (λ (ranked : rank t < unmarked). rw (next.kept t ranked) refl)
      (λ (far : unmarked ≤ rank t).
      let one : nat_lt (new t) q ≡ false = le-ltb (new t) q (omega (arith, high t far, le)) in
      let two : nat_lt (rank t) q ≡ false = le-ltb (rank t) q (omega (arith, far, le, small)) in
      rw (one, two) refl)
      (none_or_ranked (rank t))

  to_new : (q s a : ℕ) → q ≤ suc r → LeadsBelow k spans rank q s a → LeadsBelow k spans new q s a
  to_new q s a le leads c lt =
      let row = row_at k.model s a in
      let here = leads c lt in
      omega (arith, linear, here, sum-same (ranked_below new q) (ranked_below rank q) (moves_at (corner k.d spans (support row) c) row) (same-lower q le))

  to_old : (q s a : ℕ) → q ≤ suc r → LeadsBelow k spans new q s a → LeadsBelow k spans rank q s a
  to_old q s a le leads c lt =
      let row = row_at k.model s a in
      let here = leads c lt in
      omega (arith, linear, here, sum-same (ranked_below new q) (ranked_below rank q) (moves_at (corner k.d spans (support row) c) row) (same-lower q le))

  new-marks : (s : ℕ) → new s < unmarked → new s ≤ suc r
  new-marks s lt =
      ⊎_elim
      (λ (ranked : rank s < unmarked). omega (arith, next.kept s ranked, old.marks s ranked))
      (λ (far : unmarked ≤ rank s).
      either_way (is_goal k.model s)
      (λ g. absurd (omega (arith, old.goal s g, far)))
      (λ g. ⊎_elim
      (λ (still : unmarked ≤ new s). absurd (omega (arith, still, lt)))
      (λ (more : (new s ≡ suc r) × ((a : ℕ) × ((a < length (choices k.model s)) × (allowed s a × LeadsBelow k spans rank (suc r) s a)))). omega (arith, more.0))
      (next.added s g far)))
      (none_or_ranked (rank s))

  -- what leads below r or less has its rank already
  early : (s : ℕ) → is_goal k.model s ≡ false → (a q : ℕ) → a < length (choices k.model s) → allowed s a → q ≤ r → LeadsBelow k spans rank q s a → new s ≤ q
  early s g a q choice is_allowed le leads =
      let was = old.first s g a q choice is_allowed le leads in
      let ranked : rank s < unmarked = omega (arith, was, le, small) in
      omega (arith, was, next.kept s ranked)

  next_stage : IsStaged k spans allowed new (suc r)
  next_stage = record {
    goal = λ s g. let was = old.goal s g in let ranked : rank s < unmarked = omega (arith, was, small) in omega (arith, was, next.kept s ranked);
    later =
        λ s g. ⊎_elim
        (λ (ranked : rank s < unmarked). omega (arith, next.kept s ranked, old.later s g))
        (λ (far : unmarked ≤ rank s). omega (arith, high s far))
        (none_or_ranked (rank s));
    marks = new-marks;
    reached =
        λ s g lt. ⊎_elim
        (λ (ranked : rank s < unmarked).
        let same = next.kept s ranked in
        let was = old.reached s g ranked in
        let le : rank s ≤ suc r = omega (arith, old.marks s ranked) in
        (was.0, (was.1.0, (was.1.1.0, subst (λ q. LeadsBelow k spans new q s was.0) (sym same) (to_new (rank s) s was.0 le was.1.1.1)))))
        (λ (far : unmarked ≤ rank s).
        ⊎_elim
        (λ (still : unmarked ≤ new s). absurd (omega (arith, still, lt)))
        (λ (more : (new s ≡ suc r) × ((a : ℕ) × ((a < length (choices k.model s)) × (allowed s a × LeadsBelow k spans rank (suc r) s a)))).
        let at = more.1 in
        (at.0, (at.1.0, (at.1.1.0, subst (λ q. LeadsBelow k spans new q s at.0) (sym more.0) (to_new (suc r) s at.0 (omega arith) at.1.1.1)))))
        (next.added s g far))
        (none_or_ranked (rank s));
    first =
        λ s g a q choice is_allowed le leads.
        let before = to_old q s a le leads in
        ⊎_elim
        (λ (low : q ≤ r). early s g a q choice is_allowed low before)
        (λ (past : suc r ≤ q).
        let now : q ≡ suc r = omega (arith, past, le) in
        let leads_now : LeadsBelow k spans rank (suc r) s a = subst (λ n. LeadsBelow k spans rank n s a) now before in
        ⊎_elim
        (λ (there : (i : ℕ) × ((i < length (row_at k.model s a)) × (rank (get_or (row_at k.model s a) i no_entry).target ≡ r))).
        ⊎_elim
        (λ (ranked : new s < unmarked). omega (arith, new-marks s ranked, now))
        (λ (far : unmarked ≤ new s). absurd (next.complete s g far a choice is_allowed there leads_now))
        (none_or_ranked (new s)))
        (λ (already : LeadsBelow k spans rank r s a). omega (arith, early s g a r choice is_allowed (omega arith) already, now))
        (frontier_leads k spans rank r s a leads_now))
        (up_or_past q r);
  }

pub next_is_staged : NextIsStaged
next_is_staged k spans test rank new r small old next = next_stage k spans (Pass test) rank new r small old next

-- after an empty stage, no allowed choice leads below a rank that is less than the state's
pub none_sooner : SumsRise → (k : CaseData) (spans : Spans) (test : ℕ → ℕ → Bool) (rank : ℕ → ℕ) (r : ℕ) → IsCase k → IsInside k.root spans → IsStaged k spans (Pass test) rank r → ((s : ℕ) → rank s ≡ r → ⊥)
    → (s : ℕ) → is_goal k.model s ≡ false → (a q : ℕ) → a < length (choices k.model s) → Pass test s a → q < unmarked → LeadsBelow k spans rank q s a → rank s ≤ q
none_sooner rise k spans test rank r is within staged empty s g a q choice is_allowed lt leads =
    ⊎_elim
    (λ (low : q ≤ r). staged.first s g a q choice is_allowed low leads)
    (λ (past : suc r ≤ q).
    let gap : (t : ℕ) → rank t < q → rank t < r = λ t below. let le = staged.marks t (omega (arith, below, lt)) in strictly (rank t) r le (empty t) in
    let le = staged.first s g a r choice is_allowed (omega arith) (gap_leads rise k spans rank r q s a gap is within choice leads) in
    omega (arith, le, past))
    (up_or_past q r)
  where
    strictly : (n r : ℕ) → n ≤ r → (n ≡ r → ⊥) → n < r
    strictly n r le ne = either_way (nat_lt n r) (λ l. ltb-true n r l) (λ g. absurd (ne (let high = ltb-false n r g in omega (arith, high, le))))

pub empty_stage_ends : SumsRise → EmptyStageEnds
empty_stage_ends rise k spans test pick rank r is within small staged empty picks = record {
  goal = staged.goal;
  chosen = picks;
  first = none_sooner rise k spans test rank r is within staged empty;
}

pub stages_of_test : StagesOfTest
stages_of_test k spans test y pick rank same stages = record {
  goal = stages.goal;
  chosen =
      λ s g lt. let p = stages.chosen s g lt in
      record {
        later = p.later;
        in_range = p.in_range;
        is_allowed = (same s g (pick s) p.in_range).0 p.is_allowed;
        leads = p.leads;
        least = λ a less allowed leads. p.least a less ((same s g a (omega (arith, less, p.in_range))).1 allowed) leads;
      };
  first = λ s g a q choice allowed lt leads. stages.first s g a q choice ((same s g a choice).1 allowed) lt leads;
}
