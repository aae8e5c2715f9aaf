-- Rejecting certificates with any ranks and any k: those with bounded ones are among them, and where none of the bounded ones rejects, none of the others does.
use Rattle.std.proofs.Common.{◌≡◌, ℕ, ◌^◌, ◌<◌, ◌≤◌, Bool, true, false, cond, nat_lt, Option, Some, None, ℤ, pos, ◌*ℤ◌, ◌≤ℤ◌, refl, sym, ap, ◌∙◌, subst, arith}
use Rattle.std.proofs.lemmas.Bool.{cond_both, cond-false, ltb-true, ltb-false, lt-ltb, le-ltb}
use Rattle.lift_grid.specs.Rectangle.{Spans}
use Rattle.lift_grid.specs.Tree.{RejectData}
use Rattle.lift_model.specs.Model.{is_goal}
use Rattle.corner_lift.specs.Corner.{AtCorners, corner_sum, whole}
use Rattle.corner_lift.specs.Case.{CaseData, IsCase, number}
use Rattle.corner_lift.specs.Certificate.{unmarked, mark, ranked_below, chosen_row, IsLower}
use Rattle.lift_cert.specs.Certificate.{IsBeyond, IsRejecting}
use Rattle.lift_cert.specs.declared.bound.Bound.{Bound}
use Rattle.lower_cert.specs.AnyRanks.{UnboundedReject, IsHeldAtRank, IsUnboundedLower, RanksFit, some_below}
use Rattle.region_tree.specs.Right.{NoneRejects}
use Rattle.region_tree.proofs.Searches.{same_function}

-- where no certificate with bounded ranks rejects, none does
pub none_at_any_height : RanksFit → (k : CaseData) (spans : Spans) (bound : Bound) → IsCase k → ((r : RejectData) → IsRejecting k spans bound r → ⊥) → NoneRejects k spans bound
none_at_any_height fit k spans bound is none u rejecting =
    let few = fit k spans u is rejecting.holds in
    none few.0 (record { holds = few.1.3; limit = subst (λ y. IsBeyond bound k.w (number y k.model.init)) (sym few.1.0) rejecting.limit })

-- a mark, or none
abbrev some_mark : ℕ → Option ℕ
some_mark n = cond (nat_lt n unmarked) (Some n) None

-- the chosen row of a ranked state that is no goal state, or none
abbrev choice_of : Bool → Bool → ℕ → Option ℕ
choice_of true ranked pick = None
choice_of false true pick = Some pick
choice_of false false pick = None

some_mark_small : (n q : ℕ) → some_mark n ≡ Some q → n < unmarked
some_mark_small n q = cond_both (nat_lt n unmarked) (Some n) None (λ o. o ≡ Some q → n < unmarked) (λ e h. ltb-true n unmarked e) (λ e h. cc)

some_mark_is : (n q : ℕ) → some_mark n ≡ Some q → n ≡ q
some_mark_is n q = cond_both (nat_lt n unmarked) (Some n) None (λ o. o ≡ Some q → n ≡ q) (λ e h. cc) (λ e h. cc)

some_mark_none : (n : ℕ) → some_mark n ≡ None → unmarked ≤ n
some_mark_none n = cond_both (nat_lt n unmarked) (Some n) None (λ o. o ≡ None → unmarked ≤ n) (λ e h. cc) (λ e h. ltb-false n unmarked e)

-- among ranks below r the marks and the ranks are the same
below_same : (r n : ℕ) (rank : ℕ → Option ℕ) (s : ℕ) → r < unmarked → rank s ≡ some_mark n → cond (nat_lt n r) (pos 1) (pos 0) ≡ some_below rank r s
below_same r n rank s small is = by_rank (rank s) refl
  where
    by_rank : (o : Option ℕ) → rank s ≡ o → cond (nat_lt n r) (pos 1) (pos 0) ≡ some_below rank r s
    by_rank (Some m) e =
        let same : n ≡ m = some_mark_is n m (sym is ∙ e) in
        rw (some_below, e) (ap (λ i. cond (nat_lt i r) (pos 1) (pos 0)) same)
    by_rank None e =
        let far : unmarked ≤ n = some_mark_none n (sym is ∙ e) in
        rw (some_below, e) (cond-false (nat_lt n r) (pos 1) (pos 0) (le-ltb n r (omega (arith, far, small))))

module _ (k : CaseData) (spans : Spans) (r : RejectData) (h : IsLower k spans r) where
  abbrev data_of : UnboundedReject
  data_of = record {
    numbers = r.numbers;
    pick = λ s. choice_of (is_goal k.model s) (nat_lt (mark r.ranks s) unmarked) (mark r.picks s);
    rank = λ s. some_mark (mark r.ranks s);
    e = r.e;
    k = r.k;
  }

  held_at : (s q : ℕ) → is_goal k.model s ≡ false → some_mark (mark r.ranks s) ≡ Some q → IsHeldAtRank k spans data_of q s
  held_at s q f e =
      let small = some_mark_small (mark r.ranks s) q e in
      let same : mark r.ranks s ≡ q = some_mark_is (mark r.ranks s) q e in
      let held = h.held s f small in
      let counts : ranked_below (mark r.ranks) (mark r.ranks s) ≡ some_below data_of.rank q =
      same_function (ranked_below (mark r.ranks) (mark r.ranks s)) (some_below data_of.rank q)
      (λ t. ap (λ i. ranked_below (mark r.ranks) i t) same ∙ below_same q (mark r.ranks t) data_of.rank t (omega (arith, small, same)) refl) in
      record {
        range = (subst (λ i. 1 ≤ i) same held.rank.0, subst (λ i. i ≤ r.k) same held.rank.1);
        choice = mark r.picks s;
        is_choice = let ranked = lt-ltb (mark r.ranks s) unmarked small in rw (f, ranked) refl;
        in_range = held.pick;
        means = held.means;
        rates = subst (λ (g : ℕ → ℤ). AtCorners spans (chosen_row k r s) (λ c. whole k.model k.d spans (chosen_row k r s) ≤ℤ (corner_sum k.d spans (chosen_row k r s) c g *ℤ pos (2 ^ r.e)))) counts held.rates;
      }

  -- a lower vector is one of those without a bound
  lower_is_unbounded : IsUnboundedLower k spans data_of
  lower_is_unbounded = record {
    numbers = h.numbers;
    bounds = (h.bounds.0, h.bounds.1);
    goal = λ s g. (let at = h.goal s g in (at.0, ap some_mark at.1, rw g refl));
    unranked = λ s f e. (let far = some_mark_none (mark r.ranks s) e in let free = le-ltb (mark r.ranks s) unmarked far in ((h.unranked s f far).0, rw (f, free) refl));
    held = held_at;
  }

-- so where none rejects, none with bounded ranks does
pub none_with_ranks : (k : CaseData) (spans : Spans) (bound : Bound) (r : RejectData) → NoneRejects k spans bound → IsRejecting k spans bound r → ⊥
none_with_ranks k spans bound r none rejecting = none (data_of k spans r rejecting.holds) (record { holds = lower_is_unbounded k spans r rejecting.holds; limit = rejecting.limit })
