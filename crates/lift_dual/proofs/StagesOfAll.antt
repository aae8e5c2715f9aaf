-- Stages over every choice.
use Rattle.std.proofs.Common.{◌≡◌, ℕ, zero, suc, ◌<◌, ◌≤◌, false, List, [], ◌∷◌, length, ℤ, pos, ◌*ℤ◌, ◌<ℤ◌, refl, sym, ap, subst, ◌∙◌, arith, nat_lt, ltb-true, ltb-false, ◌⊎◌, ⊎_elim, inl, inr}
use Rattle.std.proofs.lemmas.Nat.{pow_pos}
use Rattle.lift_poly.proofs.Ring.{linear, mul-zero}
use Rattle.lift_grid.specs.Rectangle.{Spans}
use Rattle.lift_model.specs.Process.{Move, weighted_sum}
use Rattle.lift_model.specs.Model.{is_goal, choices, row_at, support, moves_at}
use Rattle.corner_lift.specs.Corner.{corner, parameter_count}
use Rattle.corner_lift.specs.Case.{CaseData}
use Rattle.corner_lift.specs.Certificate.{unmarked, ranked_below}
use Rattle.corner_lift.specs.Stages.{LeadsBelow}
use Rattle.robust_rank.specs.Attracting.{FrontierLeads, GapLeads}
use Rattle.lift_dual.specs.Avoiding.{AllLeadBelow}
use Rattle.lift_dual.specs.StagesOfAll.{HasEntryInto, StartOfAll, NextOfAll, EndOfAll}
use Rattle.lift_dual.proofs.Inside.{in_or_past, either_way}
use Rattle.lift_dual.proofs.Sums.{sum-same}

nothing : (f : ℕ → ℤ) (row : List Move) → ((t : ℕ) → f t ≡ pos 0) → weighted_sum f row ≡ pos 0
nothing f [] none = refl
nothing f (m ∷ row) none = omega (arith, linear, ap (λ z. m.1 *ℤ z) (none m.0), mul-zero m.1, nothing f row none)

-- of so many, one has the one property or all have the other
one_or_all : (P Q : ℕ → Type 0) (n : ℕ) → ((a : ℕ) → a < n → P a ⊎ Q a) → ((a : ℕ) × ((a < n) × P a)) ⊎ ((a : ℕ) → a < n → Q a)
one_or_all P Q zero h = inr (λ a lt. absurd (omega (arith, lt)))
one_or_all P Q (suc n) h = ⊎_elim
    (λ (one : (a : ℕ) × ((a < n) × P a)). inl (one.0, (omega (arith, one.1.0), one.1.1)))
    (λ (all : (a : ℕ) → a < n → Q a). ⊎_elim
    (λ (p : P n). inl (n, (omega arith, p)))
    (λ (q : Q n). inr (λ a lt. ⊎_elim (λ (less : a < n). all a less) (λ (le : n ≤ a). subst Q (let e : n ≡ a = omega (arith, lt, le) in e) q) (in_or_past a n)))
    (h n (omega arith)))
    (one_or_all P Q n (λ a lt. h a (omega (arith, lt))))

below-same : (rank new : ℕ → ℕ) (q t : ℕ) → (rank t < q → new t < q) → (new t < q → rank t < q) → ranked_below new q t ≡ ranked_below rank q t
below-same rank new q t forth back = either_way (nat_lt (rank t) q)
    (λ e. either_way (nat_lt (new t) q) (λ f. rw (e, f) refl) (λ f. absurd (omega (arith, forth (ltb-true (rank t) q e), ltb-false (new t) q f))))
    (λ e. either_way (nat_lt (new t) q) (λ f. absurd (omega (arith, back (ltb-true (new t) q f), ltb-false (rank t) q e))) (λ f. rw (e, f) refl))

pub start_of_all : StartOfAll
start_of_all k spans rank is within goals others = record {
  goal = goals;
  later = λ s g. omega (arith, others s g);
  marks = λ s lt. either_way (is_goal k.model s) (λ g. omega (arith, goals s g)) (λ g. absurd (omega (arith, lt, others s g)));
  reached = λ s g lt. absurd (omega (arith, lt, others s g));
  first = λ s state g q le all. absurd (no_choice s state q le all);
}
  where
    no_choice : (s : ℕ) → s < length k.model.states → (q : ℕ) → q ≤ 0 → AllLeadBelow k spans rank q s → ⊥
    no_choice s state q le all =
        let row = row_at k.model s 0 in
        let leads = all 0 (is.asked.model.some_choice s [] state) 0 (pow_pos (parameter_count spans (support row))) in
        let none = nothing (ranked_below rank q) (moves_at (corner k.d spans (support row) 0) row) (λ t. either_way (nat_lt (rank t) q) (λ e. absurd (omega (arith, le, ltb-true (rank t) q e))) (λ e. rw e refl)) in
        omega (arith, linear, leads, none)

-- where each choice leads below r + 1, one has an entry into rank r or each leads below r
frontier_of_all : FrontierLeads → (k : CaseData) (spans : Spans) (rank : ℕ → ℕ) (r s : ℕ) → AllLeadBelow k spans rank (suc r) s → HasEntryInto k rank r s ⊎ AllLeadBelow k spans rank r s
frontier_of_all frontier k spans rank r s all =
    one_or_all _ (λ a. LeadsBelow k spans rank r s a) (length (choices k.model s)) (λ a lt. frontier k spans rank r s a (all a lt))

pub next_of_all : FrontierLeads → NextOfAll
next_of_all frontier k spans rank new r small h next = record {
  goal = λ s g. let e = h.goal s g in next.kept s (omega (arith, e)) ∙ e;
  later = λ s g. by_rank s (λ ranked. omega (arith, next.kept s ranked, h.later s g)) (λ off. ⊎_elim (λ (le : unmarked ≤ new s). omega (arith, le)) (λ (at : (new s ≡ suc r) × AllLeadBelow k spans rank (suc r) s). omega (arith, at.0)) (next.added s g off));
  marks = λ s lt. by_rank s (λ ranked. omega (arith, next.kept s ranked, h.marks s ranked)) (λ off. either_way (is_goal k.model s) (λ g. absurd (omega (arith, off, h.goal s g))) (λ g. ⊎_elim (λ (le : unmarked ≤ new s). absurd (omega (arith, le, lt))) (λ (at : (new s ≡ suc r) × AllLeadBelow k spans rank (suc r) s). omega (arith, at.0)) (next.added s g off)));
  reached = λ s g lt. by_rank s
      (λ ranked. let same = next.kept s ranked in subst (λ q. AllLeadBelow k spans new q s) (sym same) (forth (rank s) (omega (arith, h.marks s ranked)) s (h.reached s g ranked)))
      (λ off. ⊎_elim (λ (le : unmarked ≤ new s). absurd (omega (arith, le, lt))) (λ (at : (new s ≡ suc r) × AllLeadBelow k spans rank (suc r) s). subst (λ q. AllLeadBelow k spans new q s) (sym at.0) (forth (suc r) (omega arith) s at.1)) (next.added s g off));
  first = λ s state g q le all. first_at s state g q le (back q le s all);
}
  where
    by_rank : {P : Type 0} (s : ℕ) → (rank s < unmarked → P) → (unmarked ≤ rank s → P) → P
    by_rank s f g = ⊎_elim f g (in_or_past (rank s) unmarked)

    -- new ranks are above r
    same_below : (q : ℕ) → q ≤ suc r → (t : ℕ) → ranked_below new q t ≡ ranked_below rank q t
    same_below q le t = by_rank t
        (λ ranked. below-same rank new q t (λ lt. omega (arith, lt, next.kept t ranked)) (λ lt. omega (arith, lt, next.kept t ranked)))
        (λ off. below-same rank new q t (λ lt. absurd (omega (arith, lt, le, off, small))) (λ lt. either_way (is_goal k.model t)
        (λ g. absurd (omega (arith, off, h.goal t g)))
        (λ g. ⊎_elim (λ (far : unmarked ≤ new t). absurd (omega (arith, far, lt, le, small))) (λ (at : (new t ≡ suc r) × AllLeadBelow k spans rank (suc r) t). absurd (omega (arith, at.0, lt, le))) (next.added t g off))))

    forth : (q : ℕ) → q ≤ suc r → (s : ℕ) → AllLeadBelow k spans rank q s → AllLeadBelow k spans new q s
    forth q le s all a lt c at = subst (λ z. pos 0 <ℤ z) (sym (sum-same (ranked_below new q) (ranked_below rank q) (moves_at (corner k.d spans (support (row_at k.model s a)) c) (row_at k.model s a)) (same_below q le))) (all a lt c at)

    back : (q : ℕ) → q ≤ suc r → (s : ℕ) → AllLeadBelow k spans new q s → AllLeadBelow k spans rank q s
    back q le s all a lt c at = subst (λ z. pos 0 <ℤ z) (sum-same (ranked_below new q) (ranked_below rank q) (moves_at (corner k.d spans (support (row_at k.model s a)) c) (row_at k.model s a)) (same_below q le)) (all a lt c at)

    -- it has the rank of an earlier stage
    sooner : (s : ℕ) → s < length k.model.states → is_goal k.model s ≡ false → (q : ℕ) → q ≤ r → AllLeadBelow k spans rank q s → new s ≤ q
    sooner s state g q le all = let at = h.first s state g q le all in omega (arith, at, next.kept s (omega (arith, at, le, small)))

    first_at : (s : ℕ) → s < length k.model.states → is_goal k.model s ≡ false → (q : ℕ) → q ≤ suc r → AllLeadBelow k spans rank q s → new s ≤ q
    first_at s state g q le all = ⊎_elim
        (λ (less : q < suc r). sooner s state g q (omega (arith, less)) all)
        (λ (last : suc r ≤ q).
        let is_last : q ≡ suc r = omega (arith, le, last) in
        let leads : AllLeadBelow k spans rank (suc r) s = subst (λ p. AllLeadBelow k spans rank p s) is_last all in
        ⊎_elim
        (λ (marked : new s < unmarked). by_rank s (λ ranked. omega (arith, last, next.kept s ranked, h.marks s ranked)) (λ off. ⊎_elim (λ (far : unmarked ≤ new s). absurd (omega (arith, far, marked))) (λ (at : (new s ≡ suc r) × AllLeadBelow k spans rank (suc r) s). omega (arith, at.0, last)) (next.added s g off)))
        (λ (far : unmarked ≤ new s). ⊎_elim
        (λ (entry : HasEntryInto k rank r s). absurd (next.complete s state g far entry leads))
        (λ (earlier : AllLeadBelow k spans rank r s). omega (arith, last, sooner s state g r (omega arith) earlier))
        (frontier_of_all frontier k spans rank r s leads))
        (in_or_past (new s) unmarked))
        (in_or_past q (suc r))

pub end_of_all : GapLeads → EndOfAll
end_of_all gap k spans rank r is within h none = record {
  goal = h.goal;
  reached = λ s g ranked. (h.later s g, h.reached s g ranked);
  first = λ s state g q small all. ⊎_elim
      (λ (less : q < r). h.first s state g q (omega (arith, less)) all)
      (λ (le : r ≤ q). omega (
        arith,
        le,
        h.first s state g r (omega arith) (λ a lt. gap k spans rank r q s a (λ t lower. ⊎_elim
            (λ (before : rank t < r). before)
            (λ (far : r ≤ rank t). absurd (none t (omega (arith, far, h.marks t (omega (arith, lower, small))))))
            (in_or_past (rank t) r)) is within lt (all a lt)),
      ))
      (in_or_past q r);
}
