-- Ranks in one pass over an order.
use Rattle.std.proofs.Common.{◌≡◌, ◌≢◌, ℕ, suc, ◌+◌, ◌<◌, ◌≤◌, ◌⊎◌, inl, inr, ⊎_elim, List, [], ◌∷◌, All, length, get_or, set, min, max, ℤ, ◌+ℤ◌, ◌*ℤ◌, refl, sym, subst, ap, ap₂, ◌∙◌, arith, nat_lt, lt-ltb, le-ltb, ltb-true, ltb-false}
use Rattle.std.proofs.lemmas.List.{length-set}
use Rattle.lift_poly.proofs.Ring.{linear}
use Rattle.lift_poly.specs.Polynomial.{Valuation, weight}
use Rattle.lift_grid.specs.Rectangle.{Spans}
use Rattle.lift_model.specs.declared.entry.Entry.{Entry}
use Rattle.lift_model.specs.Process.{weighted_sum}
use Rattle.lift_model.specs.Model.{ModelData, choices, row_at, support, moves_at}
use Rattle.lift_model.specs.Links.{LinksData, targets_of, position}
use Rattle.lift_model.specs.declared.only_row.PairRow.{PairRow}
use Rattle.lift_model.specs.OnlyRow.{IsPairRow, IsSingleRow}
use Rattle.lift_model.specs.Order.{IsOrder}
use Rattle.corner_lift.specs.Corner.{corner}
use Rattle.corner_lift.specs.Case.{CaseData, IsCase, IsInside}
use Rattle.corner_lift.specs.Certificate.{unmarked, mark, ranked_below}
use Rattle.corner_lift.specs.Stages.{LeadsBelow}
use Rattle.corner_lift.specs.Laws.{ParametersAreTheRoots, SumsAreAtLeast}
use Rattle.robust_rank.specs.Attracting.{Pass}
use Rattle.robust_rank.specs.Staging.{allows, HasLeading, HasNoLeading}
use Rattle.robust_rank.specs.InOrder.{unseen, AreRanks, AreTargetsSeen, IsFound, IsGiven, IsPassed, IsNext, HasNoLeadingTo, AreClear, AreTargetsClear, HaveRanks}
use Rattle.robust_rank.proofs.Means.{either_way, in_or_past}
use Rattle.robust_rank.proofs.Stages.{none_below_0}
use Rattle.robust_rank.proofs.Below.{only_leads}
use Rattle.robust_rank.proofs.Only.{all_one, all_two, only_choice, single_below}
use Rattle.robust_rank.proofs.Gathering.{mark_same, mark_other, same_or_not}

-- ---- what a row weighs depends on its targets alone

sum-of_targets : (f g : ℕ → ℤ) (v : Valuation) (row : List Entry) → All (λ t. f t ≡ g t) (targets_of row) → weighted_sum f (moves_at v row) ≡ weighted_sum g (moves_at v row)
sum-of_targets f g v [] same = refl
sum-of_targets f g v (entry ∷ row) same = ap₂ (λ a b. weight v entry.poly *ℤ a +ℤ b) (same 0 0 (omega arith)) (sum-of_targets f g v row (λ i d lt. same (suc i) d (omega (arith, lt))))

leads-of_targets : (k : CaseData) (spans : Spans) (rank new : ℕ → ℕ) (q p s a : ℕ) → All (λ t. ranked_below rank q t ≡ ranked_below new p t) (targets_of (row_at k.model s a)) → LeadsBelow k spans rank q s a → LeadsBelow k spans new p s a
leads-of_targets k spans rank new q p s a same leads c lt =
    let row = row_at k.model s a in
    let here = leads c lt in
    omega (arith, linear, here, sum-of_targets (ranked_below rank q) (ranked_below new p) (corner k.d spans (support row) c) row same)

same_below : (rank new : ℕ → ℕ) (q p t : ℕ) → (rank t < q → new t < p) → (new t < p → rank t < q) → ranked_below rank q t ≡ ranked_below new p t
same_below rank new q p t there back =
    either_way (nat_lt (rank t) q)
    (λ l. let more = lt-ltb (new t) p (there (ltb-true (rank t) q l)) in rw (l, more) refl)
    (λ n. let past : q ≤ rank t = ltb-false (rank t) q n in
    let none : p ≤ new t = ⊎_elim (λ (lt : new t < p). let wrong = back lt in absurd (omega (arith, wrong, past))) (λ (le : p ≤ new t). le) (in_or_past (new t) p) in
    let more = le-ltb (new t) p none in rw (n, more) refl)

-- ---- the rank of a state

module _ (k : CaseData) (spans : Spans) (allowed : List ℕ) (rank : ℕ → ℕ) (s : ℕ) where
  pub none_to_0 : HasNoLeadingTo k spans allowed rank 0 s
  none_to_0 q le a choice leading =
      let zero : q ≡ 0 = omega (arith, le) in
      none_below_0 k spans rank s a (subst (λ n. LeadsBelow k spans rank n s a) zero leading.1)

  -- where no target has a rank from there on
  pub none_on : (from to : ℕ) → AreTargetsClear k.model rank from to s → HasNoLeadingTo k spans allowed rank from s → HasNoLeadingTo k spans allowed rank to s
  none_on from to clear none q le a choice leading =
      ⊎_elim
      (λ (past : q < from). none q (omega (arith, past)) a choice leading)
      (λ (there : from ≤ q). none from (omega arith) a choice (
        leading.0,
        leads-of_targets k spans rank rank q from s a (λ i d lt. let at = clear a choice i d lt in same_below rank rank q from (get_or (targets_of (row_at k.model s a)) i d)
            (λ low. ⊎_elim (λ (l : rank (get_or (targets_of (row_at k.model s a)) i d) < from). l) (λ (far : to ≤ rank (get_or (targets_of (row_at k.model s a)) i d)). absurd (omega (arith, far, low, le))) at.1)
            (λ low. omega (arith, low, there))) leading.1,
      ))
      (in_or_past q from)

  pub seen_of : (from to : ℕ) → AreTargetsClear k.model rank from to s → AreTargetsSeen k.model rank s
  seen_of from to clear a choice i d lt = (clear a choice i d lt).0

  pub none_more : (r : ℕ) → HasNoLeadingTo k spans allowed rank r s → HasNoLeading k spans allowed rank (r + 1) s → HasNoLeadingTo k spans allowed rank (r + 1) s
  none_more r none more q le =
      ⊎_elim
      (λ (low : q ≤ r). none q low)
      (λ (past : suc r ≤ q). let same : q ≡ r + 1 = omega (arith, past, le) in subst (λ n. HasNoLeading k spans allowed rank n s) (sym same) more)
      (in_or_past_le q r)
    where
      in_or_past_le : (q r : ℕ) → (q ≤ r) ⊎ (suc r ≤ q)
      in_or_past_le q r = grind arith

  -- the rank after the one up to which nothing leads, where something does then
  pub found : (before r : ℕ) → AreTargetsSeen k.model rank s → IsNext before r → HasNoLeadingTo k spans allowed rank before s → (before < unmarked → HasLeading k spans allowed rank (before + 1) s) → IsFound k spans allowed rank s r
  found before r seen next none some = record {
    targets = seen;
    seen = next.seen;
    is = record {
      reached = λ lt. ⊎_elim
          (λ (l : before < unmarked). let same : r ≡ before + 1 = omega (arith, next.some l) in subst (λ n. HasLeading k spans allowed rank n s) (sym same) (some l))
          (λ (past : unmarked ≤ before). absurd (omega (arith, next.none past, lt)))
          (in_or_past before unmarked);
      first = λ q lt leading. ⊎_elim
          (λ (past : before < q). ⊎_elim (λ (l : before < unmarked). omega (arith, past, next.some l)) (λ (far : unmarked ≤ before). absurd (omega (arith, far, past, lt))) (in_or_past before unmarked))
          (λ (le : q ≤ before). absurd (none q le leading.0 leading.1.0 leading.1.1))
          (in_or_past before q);
    };
  }

  -- a state without rank
  pub found_none : AreTargetsSeen k.model rank s → HasNoLeadingTo k spans allowed rank unmarked s → IsFound k spans allowed rank s unmarked
  found_none seen none = found unmarked unmarked seen (record { some = λ lt. absurd (omega (arith, lt)); none = λ le. refl; seen = λ same. omega (arith, same) }) none (λ lt. absurd (omega (arith, lt)))

-- ---- a state with one row

module _ (k : CaseData) (spans : Spans) (allowed : List ℕ) (rank : ℕ → ℕ) (s : ℕ) (only : length (choices k.model s) ≡ 1) where
  -- what is so of the only row's targets is so of all choices' targets
  pub of_only : (P : List ℕ → Type 0) → P (targets_of (row_at k.model s 0)) → (a : ℕ) → a < length (choices k.model s) → P (targets_of (row_at k.model s a))
  of_only P p a lt = let first : 0 ≡ a = omega (arith, lt, only) in subst (λ b. P (targets_of (row_at k.model s b))) first p

  -- no rank where the row isn't allowed
  pub found_none_allowed : All (λ t. rank t ≢ unseen) (targets_of (row_at k.model s 0)) → (Pass (allows k.model allowed) s 0 → ⊥) → IsFound k spans allowed rank s unmarked
  found_none_allowed seen not = found_none k spans allowed rank s
      (of_only (λ targets. All (λ t. rank t ≢ unseen) targets) seen)
      (λ q le a lt leading. let first : a ≡ 0 = omega (arith, lt, only) in not (subst (λ b. Pass (allows k.model allowed) s b) first leading.0))

  module _ (is : IsCase k) (within : IsInside k.root spans) (parameters : ParametersAreTheRoots) (least : SumsAreAtLeast) (state : s < length k.model.states) (passes : Pass (allows k.model allowed) s 0) where
    -- the rank after the greatest rank of a target, where none is enough before
    pub found_all : (before r : ℕ) → All (λ t. (rank t ≢ unseen) × (rank t ≤ before)) (targets_of (row_at k.model s 0)) → IsNext before r → HasNoLeadingTo k spans allowed rank before s → IsFound k spans allowed rank s r
    found_all before r all next none =
        found k spans allowed rank s before r
        (of_only (λ targets. All (λ t. rank t ≢ unseen) targets) (λ i d lt. (all i d lt).0))
        next none
        (λ lt. (0, (omega (arith, only), (passes, only_leads k spans is within parameters least rank (before + 1) s 0 (only_choice k.model s state only) (λ i d lt. let le = (all i d lt).1 in omega (arith, le))))))

    -- of a row with one target
    pub found_single : (t r : ℕ) → IsSingleRow k.model s t → (rank t ≢ unseen) → IsNext (rank t) r → IsFound k spans allowed rank s r
    found_single t r row seen next =
        found_all (rank t) r
        (all_one (λ u. (rank u ≢ unseen) × (rank u ≤ rank t)) (targets_of (row_at k.model s 0)) t row.targets (seen, omega arith))
        next
        (λ q le a choice leading. let first : a ≡ 0 = omega (arith, choice, only) in
        let low = single_below k spans rank q s t row (subst (λ b. LeadsBelow k spans rank q s b) first leading.1) in
        omega (arith, low, le))

  module _ (low high : ℕ) (have : HaveRanks rank low high (targets_of (row_at k.model s 0))) (le : low ≤ high) where
    pub seen_both : AreTargetsSeen k.model rank s
    seen_both = of_only (λ targets. All (λ t. rank t ≢ unseen) targets) (λ i d lt. (have i d lt).0)

    -- nothing leads up to the lower of two ranks
    pub none_low : HasNoLeadingTo k spans allowed rank low s
    none_low = none_on k spans allowed rank s 0 low
        (of_only (λ targets. AreClear rank 0 low targets) (λ i d lt. let at = have i d lt in
        (at.0, inr (⊎_elim (λ (e : rank (get_or (targets_of (row_at k.model s 0)) i d) ≡ low). omega (arith, e)) (λ (e : rank (get_or (targets_of (row_at k.model s 0)) i d) ≡ high). omega (arith, e, le)) at.1))))
        (none_to_0 k spans allowed rank s)

    -- nor up to the higher, where nothing does just after the lower
    pub none_high : HasNoLeading k spans allowed rank (low + 1) s → HasNoLeadingTo k spans allowed rank high s
    none_high none = none_on k spans allowed rank s (low + 1) high
        (of_only (λ targets. AreClear rank (low + 1) high targets) (λ i d lt. let at = have i d lt in
        (at.0, ⊎_elim (λ (e : rank (get_or (targets_of (row_at k.model s 0)) i d) ≡ low). inl (omega (arith, e))) (λ (e : rank (get_or (targets_of (row_at k.model s 0)) i d) ≡ high). inr (omega (arith, e))) at.1)))
        (none_more k spans allowed rank s low none_low none)

    pub all_high : All (λ t. (rank t ≢ unseen) × (rank t ≤ high)) (targets_of (row_at k.model s 0))
    all_high i d lt = let at = have i d lt in
        (at.0, ⊎_elim (λ (e : rank (get_or (targets_of (row_at k.model s 0)) i d) ≡ low). omega (arith, e, le)) (λ (e : rank (get_or (targets_of (row_at k.model s 0)) i d) ≡ high). omega (arith, e)) at.1)

-- the lesser and the greater of two ranks
pub pair_have : (m : ModelData) (l : LinksData) (rank : ℕ → ℕ) (s first second low high : ℕ) (p : PairRow) → IsPairRow m l s p → first ≡ rank p.first → second ≡ rank p.second → (first ≢ unseen) → (second ≢ unseen) → low ≡ min first second → high ≡ max first second
    → (low ≤ high) × HaveRanks rank low high (targets_of (row_at m s 0))
pair_have m l rank s first second low high p row first_is second_is one two least most = (
  omega (arith, least, most),
  all_two (λ t. (rank t ≢ unseen) × ((rank t ≡ low) ⊎ (rank t ≡ high))) (targets_of (row_at m s 0)) p.first p.second row.targets
      (subst (λ n. (n ≢ unseen) × ((n ≡ low) ⊎ (n ≡ high))) first_is (one, has_first))
      (subst (λ n. (n ≢ unseen) × ((n ≡ low) ⊎ (n ≡ high))) second_is (two, has_second)),
)
  where
    has_first : (first ≡ low) ⊎ (first ≡ high)
    has_first = grind (arith, least, most)

    has_second : (second ≡ low) ⊎ (second ≡ high)
    has_second = grind (arith, least, most)

-- ---- a state more

module _ (k : CaseData) (l : LinksData) (spans : Spans) (allowed ranks : List ℕ) (count s r : ℕ) (order : IsOrder l.order l.positions (length k.model.states)) (old : IsPassed k l spans allowed ranks count) (inside : count < length l.order) (at : get_or l.order count 0 ≡ s) (state : s < length k.model.states)
    (one two : List ℕ) (one_is : one ≡ set ranks s unmarked) (two_is : two ≡ set one s r) (given : IsGiven k spans allowed (mark one) s r) where
  room : s < length ranks
  room = omega (arith, state, old.size)

  one_here : mark one s ≡ unmarked
  one_here = rw one_is (mark_same ranks s unmarked room)

  two_here : mark two s ≡ r
  two_here = rw (two_is, one_is) (mark_same (set ranks s unmarked) s r (rw length-set room))

  two_one : (t : ℕ) → (t ≡ s → ⊥) → mark two t ≡ mark one t
  two_one t ne = rw two_is (mark_other one s t r ne)

  there : (t : ℕ) → (t ≡ s → ⊥) → mark two t ≡ mark ranks t
  there t ne = two_one t ne ∙ rw one_is (mark_other ranks s t unmarked ne)

  stands : position l s ≡ count
  stands = subst (λ n. position l n ≡ count) at (order.back count (omega (arith, inside, order.counts.0)))

  was : mark ranks s ≡ unseen
  was = old.others s state (omega (arith, stands))

  -- a state that was given its rank keeps it, as the state here is none of its targets
  kept : (t u : ℕ) → (t ≡ s → ⊥) → IsFound k spans allowed (mark ranks) t u → IsFound k spans allowed (mark two) t u
  kept t u ne found = record {
    targets = λ a choice i d lt. rw (seen a choice i d lt) (found.targets a choice i d lt);
    seen = found.seen;
    is = record {
      reached = λ lt. let some = found.is.reached lt in (some.0, (some.1.0, (some.1.1.0, leads-of_targets k spans (mark ranks) (mark two) u u t some.0 (λ i d at. rw (seen some.0 some.1.0 i d at) refl) some.1.1.1)));
      first = λ q lt some. found.is.first q lt (some.0, (some.1.0, (some.1.1.0, leads-of_targets k spans (mark two) (mark ranks) q q t some.0 (λ i d at. rw (seen some.0 some.1.0 i d at) refl) some.1.1.1)));
    };
  }
    where
      seen : (a : ℕ) → a < length (choices k.model t) → All (λ v. mark two v ≡ mark ranks v) (targets_of (row_at k.model t a))
      seen a choice i d lt = let v = get_or (targets_of (row_at k.model t a)) i d in there v (λ same. found.targets a choice i d lt (subst (λ n. mark ranks n ≡ unseen) (sym same) was))

  -- the state's own rank isn't below itself
  own : IsFound k spans allowed (mark one) s r → IsFound k spans allowed (mark two) s r
  own found = record {
    targets = λ a choice i d lt. let v = get_or (targets_of (row_at k.model s a)) i d in same_or_not v s (λ e. rw (e, two_here) found.seen) (λ ne. rw (two_one v ne) (found.targets a choice i d lt));
    seen = found.seen;
    is = record {
      reached = λ lt. let some = found.is.reached lt in (some.0, (some.1.0, (some.1.1.0, leads-of_targets k spans (mark one) (mark two) r r s some.0 (λ i d at. same r (omega arith) lt (get_or (targets_of (row_at k.model s some.0)) i d)) some.1.1.1)));
      first = λ q lt some. ⊎_elim
          (λ (less : q < r). found.is.first q lt (some.0, (some.1.0, (some.1.1.0, leads-of_targets k spans (mark two) (mark one) q q s some.0 (λ i d at. sym (same q (omega (arith, less)) lt (get_or (targets_of (row_at k.model s some.0)) i d))) some.1.1.1))))
          (λ (le : r ≤ q). le)
          (in_or_past q r);
    };
  }
    where
      same : (q : ℕ) → q ≤ r → q < unmarked → (t : ℕ) → ranked_below (mark one) q t ≡ ranked_below (mark two) q t
      same q le lt t =
          same_or_not t s
          (λ e. same_below (mark one) (mark two) q q t
          (λ low. let here : mark one t ≡ unmarked = rw e one_here in absurd (omega (arith, here, low, lt)))
          (λ low. let here : mark two t ≡ r = rw e two_here in absurd (omega (arith, here, low, le))))
          (λ ne. rw (two_one t ne) refl)

  pub passed : IsPassed k l spans allowed two (count + 1)
  passed = record {
    size = rw (two_is, length-set, one_is, length-set) old.size;
    given = λ t lt before. same_or_not t s
        (λ e. rw (e, two_here) (given.0, λ isnt. own (given.1 isnt)))
        (λ ne. let was = old.given t lt (less t lt ne before) in rw (there t ne) (was.0, λ isnt. kept t (mark ranks t) ne (was.1 isnt)));
    others = λ t lt after. there t (λ same. let here : position l t ≡ count = rw same stands in omega (arith, here, after)) ∙ old.others t lt (omega (arith, after));
  }
    where
      less : (t : ℕ) → t < length k.model.states → (t ≡ s → ⊥) → position l t < count + 1 → position l t < count
      less t lt ne before = ⊎_elim (λ (l : position l t < count). l)
          (λ (past : count ≤ position l t). let here : position l t ≡ count = omega (arith, past, before) in absurd (ne (sym (order.found t lt) ∙ ap (λ n. get_or l.order n 0) here ∙ at)))
          (in_or_past (position l t) count)

-- ---- the end

pub ranks_of_pass : (k : CaseData) (l : LinksData) (spans : Spans) (allowed ranks : List ℕ) (count : ℕ) → IsOrder l.order l.positions (length k.model.states) → IsPassed k l spans allowed ranks count → length l.order ≤ count → AreRanks k spans allowed ranks
ranks_of_pass k l spans allowed ranks count order passed all s lt =
    let given = passed.given s lt (omega (arith, order.inside s lt, order.counts.0, all)) in
    (given.0, λ isnt. (given.1 isnt).is)
