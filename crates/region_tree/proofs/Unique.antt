-- There is at most one least upper vector, one greatest lower vector with its stages, one axis, and so one right tree.
use Rattle.std.proofs.Common.{◌≡◌, ℕ, zero, suc, ◌+◌, ◌<◌, ◌≤◌, Bool, true, false, cond, List, [], ◌∷◌, length, All, ℤ, pos, ◌≤ℤ◌, refl, sym, ap, ◌∙◌, subst, arith, nat_lt, ltb-true, ltb-false, lt-ltb, ext_get_or}
use Rattle.std.proofs.lemmas.List.{get_or_past}
use Rattle.std.proofs.lemmas.List.Elements.{All-head, All-tail}
use Rattle.lift_poly.proofs.Ring.{linear}
use Rattle.lift_grid.specs.Rectangle.{Spans}
use Rattle.lift_grid.specs.Tree.{Tree, RejectData, lower_half, upper_half}
use Rattle.lift_grid.specs.Tree.Tree.{split, accept, reject, unknown}
use Rattle.lift_model.specs.Model.{ModelData, is_goal, choices}
use Rattle.corner_lift.specs.Case.{CaseData, IsCase, IsInside, number}
use Rattle.corner_lift.specs.Certificate.{AtMost, mark, unmarked, ranked_below, IsLeastUpper, IsRate}
use Rattle.corner_lift.specs.Laws.{SumsRise, LowerPrecisionIsCase}
use Rattle.corner_lift.specs.Stages.{IsAllowed, LeadsBelow, AreStages, IsGreatestLower}
use Rattle.lift_cert.specs.declared.bound.Bound.{Bound}
use Rattle.region_tree.specs.Laws.{LeastUppersAreOne, GreatestLowersAreOne, SplitAxesAreOne, HalvesAreDeeper}
use Rattle.region_tree.specs.Right.{IsRight, IsAtDepth}
use Rattle.region_tree.proofs.Ranges.{accepted_is_no_open, rejected_is_no_open, accepted_is_no_rejected, accepted_is_one, rejected_is_one}
use Rattle.region_tree.proofs.Searches.{either_way, trichotomy}

-- ---- upper vectors

numbers_same : (x y : List ℤ) → length x ≡ length y → AtMost x y → AtMost y x → x ≡ y
numbers_same x y size a b = ext_get_or (pos 0) x y size (λ i lt. omega (arith, linear, a i, b i))

pub upper_is_one : (k : CaseData) (ss : Spans) (x y : List ℤ) → IsLeastUpper k ss x → IsLeastUpper k ss y → x ≡ y
upper_is_one k ss x y h g = numbers_same x y (h.upper.numbers.size ∙ sym g.upper.numbers.size) (h.least y g.upper) (g.least x h.upper)

-- ---- lower vectors

-- a number past the last state has no choices
pub no_state : (m : ModelData) (s a : ℕ) → a < length (choices m s) → s < length m.states
no_state m s a lt =
    either_way (nat_lt s (length m.states))
    (λ e. ltb-true s (length m.states) e)
    (λ e. absurd (let past = ltb-false s (length m.states) e in let none : choices m s ≡ [] = get_or_past m.states s [] past in let size : length (choices m s) ≡ 0 = ap length none in omega arith))

mark_small : (marks : List ℕ) → All (λ n. n ≤ unmarked) marks → (s : ℕ) → mark marks s ≤ unmarked
mark_small [] h s = omega arith
mark_small (a ∷ marks) h zero = All-head (λ n. n ≤ unmarked) a marks h
mark_small (a ∷ marks) h (suc s) = mark_small marks (All-tail (λ n. n ≤ unmarked) a marks h) s

same_data : (r q : RejectData) → r.numbers ≡ q.numbers → r.picks ≡ q.picks → r.ranks ≡ q.ranks → r.e ≡ q.e → r.k ≡ q.k → r ≡ q
same_data r q a b c d f =
    let step1 : r ≡ record r { numbers = q.numbers } = ap (λ (n : List ℤ). let x : RejectData = record r { numbers = n } in x) a in
    let step2 : record r { numbers = q.numbers } ≡ record r { numbers = q.numbers; picks = q.picks } = ap (λ (n : List ℕ). let x : RejectData = record r { numbers = q.numbers; picks = n } in x) b in
    let step3 : record r { numbers = q.numbers; picks = q.picks } ≡ record r { numbers = q.numbers; picks = q.picks; ranks = q.ranks } = ap (λ (n : List ℕ). let x : RejectData = record r { numbers = q.numbers; picks = q.picks; ranks = n } in x) c in
    let step4 : record r { numbers = q.numbers; picks = q.picks; ranks = q.ranks } ≡ record q { k = r.k } = ap (λ (n : ℕ). let x : RejectData = record q { e = n; k = r.k } in x) d in
    let step5 : record q { k = r.k } ≡ q = ap (λ (n : ℕ). let x : RejectData = record q { k = n } in x) f in
    step1 ∙ step2 ∙ step3 ∙ step4 ∙ step5

module _ (k : CaseData) (is : IsCase k) (ss : Spans) (inside : IsInside k.root ss) (rise : SumsRise) where
  -- a choice that leads into a set leads into a greater one
  leads-more : (rank other : ℕ → ℕ) (r q s a : ℕ) → ((t : ℕ) → rank t < r → other t < q) → a < length (choices k.model s) → LeadsBelow k ss rank r s a → LeadsBelow k ss other q s a
  leads-more rank other r q s a more lt leads c l =
      let each : (t : ℕ) → ranked_below rank r t ≤ℤ ranked_below other q t =
      λ t. either_way (nat_lt (rank t) r)
      (λ e. let low : nat_lt (other t) q ≡ true = lt-ltb (other t) q (more t (ltb-true (rank t) r e)) in rw (e, low) (omega (arith, linear)))
      (λ e. rw e (zero_least (nat_lt (other t) q))) in
      let bound = rise k ss s a c (ranked_below rank r) (ranked_below other q) is inside (record { state = no_state k.model s a lt; choice = lt }) each in
      omega (arith, linear, leads c l, bound)
    where
      zero_least : (b : Bool) → pos 0 ≤ℤ cond b (pos 1) (pos 0)
      zero_least true = omega (arith, linear)
      zero_least false = omega (arith, linear)

  module _ (allowed : ℕ → ℕ → Type 0) where
    -- the second ranks are no later than the first
    no_later : (pick rank pick' rank' : ℕ → ℕ) → AreStages k ss allowed pick rank → AreStages k ss allowed pick' rank' → (n s : ℕ) → rank s < n → rank s < unmarked → rank' s ≤ rank s
    no_later pick rank pick' rank' h g zero s lt small = absurd (omega arith)
    no_later pick rank pick' rank' h g (suc n) s lt small =
        either_way (is_goal k.model s)
        (λ f. omega (arith, g.goal s f))
        (λ f. let p = h.chosen s f small in
        g.first s f (pick s) (rank s) p.in_range p.is_allowed small
        (leads-more rank rank' (rank s) (rank s) s (pick s)
        (λ t l. let before = no_later pick rank pick' rank' h g n t (omega arith) (omega arith) in omega (arith, before, l)) p.in_range p.leads))

    ranks_same : (pick rank pick' rank' : ℕ → ℕ) → AreStages k ss allowed pick rank → AreStages k ss allowed pick' rank' → (s : ℕ) → rank s ≤ unmarked → rank' s ≤ unmarked → rank s ≡ rank' s
    ranks_same pick rank pick' rank' h g s small small' =
        either_way (nat_lt (rank s) unmarked)
        (λ e. let l = ltb-true (rank s) unmarked e in
        let a = no_later pick rank pick' rank' h g (suc (rank s)) s (omega arith) l in
        let b = no_later pick' rank' pick rank g h (suc (rank' s)) s (omega arith) (omega (arith, a, l)) in
        omega (arith, a, b))
        (λ e. let l = ltb-false (rank s) unmarked e in
        either_way (nat_lt (rank' s) unmarked)
        (λ f. let l' = ltb-true (rank' s) unmarked f in
        let b = no_later pick' rank' pick rank g h (suc (rank' s)) s (omega arith) l' in
        absurd (omega (arith, b, l, l')))
        (λ f. omega (arith, l, ltb-false (rank' s) unmarked f, small, small')))

    choices_same : (pick rank pick' rank' : ℕ → ℕ) → AreStages k ss allowed pick rank → AreStages k ss allowed pick' rank' → ((t : ℕ) → rank t ≡ rank' t) → (s : ℕ) → is_goal k.model s ≡ false → rank s < unmarked → pick s ≡ pick' s
    choices_same pick rank pick' rank' h g same s f small =
        let p = h.chosen s f small in
        let q = g.chosen s f (omega (arith, same s, small)) in
        trichotomy (pick s) (pick' s)
        (λ lt. absurd (q.least (pick s) lt p.is_allowed (leads-more rank rank' (rank s) (rank' s) s (pick s) (λ t l. omega (arith, same t, same s, l)) p.in_range p.leads)))
        (λ e. e)
        (λ lt. absurd (p.least (pick' s) lt q.is_allowed (leads-more rank' rank (rank' s) (rank s) s (pick' s) (λ t l. omega (arith, same t, same s, l)) q.in_range q.leads)))

  module _ (r q : RejectData) (h : IsGreatestLower k ss r) (g : IsGreatestLower k ss q) (numbers : r.numbers ≡ q.numbers) where
    stages : AreStages k ss (IsAllowed k ss (number r.numbers)) (mark q.picks) (mark q.ranks)
    stages = subst (λ y. AreStages k ss (IsAllowed k ss (number y)) (mark q.picks) (mark q.ranks)) (sym numbers) g.stages

    rank_same : (s : ℕ) → mark r.ranks s ≡ mark q.ranks s
    rank_same s = ranks_same (IsAllowed k ss (number r.numbers)) (mark r.picks) (mark r.ranks) (mark q.picks) (mark q.ranks) h.stages stages s (mark_small r.ranks h.holds.marks s) (mark_small q.ranks g.holds.marks s)

    pub ranks_one : r.ranks ≡ q.ranks
    ranks_one = ext_get_or unmarked r.ranks q.ranks (h.holds.sizes.1 ∙ sym g.holds.sizes.1) (λ i lt. rank_same i)

    choice_same : (s : ℕ) → mark r.picks s ≡ mark q.picks s
    choice_same s =
        either_way (is_goal k.model s)
        (λ f. (h.holds.goal s f).2 ∙ sym (g.holds.goal s f).2)
        (λ f. either_way (nat_lt (mark r.ranks s) unmarked)
        (λ l. choices_same (IsAllowed k ss (number r.numbers)) (mark r.picks) (mark r.ranks) (mark q.picks) (mark q.ranks) h.stages stages rank_same s f (ltb-true (mark r.ranks s) unmarked l))
        (λ l. let le : unmarked ≤ mark r.ranks s = ltb-false (mark r.ranks s) unmarked l in
        (h.holds.unranked s f le).1 ∙ sym (g.holds.unranked s f (subst (λ n. unmarked ≤ n) (rank_same s) le)).1))

    pub choices_one : r.picks ≡ q.picks
    choices_one = ext_get_or unmarked r.picks q.picks (h.holds.sizes.0 ∙ sym g.holds.sizes.0) (λ i lt. choice_same i)

  -- a rate speaks of picks and ranks alone
  abbrev RateFor : List ℕ → List ℕ → ℕ → ℕ → Type 0
  RateFor picks ranks e s = IsRate k ss (record { numbers = []; picks = picks; ranks = ranks; e = 0; k = 0 }) e s

  module _ (r q : RejectData) (h : IsGreatestLower k ss r) (g : IsGreatestLower k ss q) (picks : r.picks ≡ q.picks) (ranks : r.ranks ≡ q.ranks) where
    ranked : (s : ℕ) → mark r.ranks s < unmarked → mark q.ranks s < unmarked
    ranked s lt = subst (λ l. mark l s < unmarked) ranks lt

    pub rate_below : r.e ≤ q.e
    rate_below = h.least_rate q.e (λ s f lt.
        let rate : RateFor q.picks q.ranks q.e s = (g.holds.held s f (ranked s lt)).rates in
        let moved : RateFor r.picks r.ranks q.e s = subst (λ l. RateFor r.picks l q.e s) (sym ranks) (subst (λ l. RateFor l q.ranks q.e s) (sym picks) rate) in
        moved)

    pub height_below : r.k ≤ q.k
    height_below =
        h.least_height q.k g.holds.bounds.1
        (λ s lt. subst (λ l. mark l s ≤ q.k) (sym ranks) (either_way (is_goal k.model s) (λ f. omega (arith, (g.holds.goal s f).1)) (λ f. (g.holds.held s f (ranked s lt)).rank.1)))

  pub lower_is_one : (r q : RejectData) → IsGreatestLower k ss r → IsGreatestLower k ss q → r ≡ q
  lower_is_one r q h g =
      let numbers : r.numbers ≡ q.numbers = numbers_same r.numbers q.numbers (h.holds.numbers.size ∙ sym g.holds.numbers.size) (g.greatest r h.holds) (h.greatest q g.holds) in
      let picks = choices_one r q h g numbers in
      let ranks = ranks_one r q h g numbers in
      let e : r.e ≡ q.e = omega (arith, rate_below r q h g picks ranks, rate_below q r g h (sym picks) (sym ranks)) in
      let height : r.k ≡ q.k = omega (arith, height_below r q h g picks ranks, height_below q r g h (sym picks) (sym ranks)) in
      same_data r q numbers picks ranks e height

-- ---- trees

module _ (lower_case : LowerPrecisionIsCase) (uppers : LeastUppersAreOne) (lowers : GreatestLowersAreOne) (axes : SplitAxesAreOne) (halves : HalvesAreDeeper) (k : CaseData) (v : ℕ) (is : IsCase k) (positive : 1 ≤ v) (bound : Bound) where
  pub tree_is_one : (depth : ℕ) (ss : Spans) (t u : Tree) → IsAtDepth k depth ss → IsRight k v ss bound depth t → IsRight k v ss bound depth u → t ≡ u
  tree_is_one depth ss (accept u x) (accept t y) at h g = let same = accepted_is_one k v ss bound uppers u t x y h g in let precision : u ≡ t = same.0 in let numbers : x ≡ y = same.1 in cc
  tree_is_one depth ss (accept u x) (reject t q) at h g = absurd (accepted_is_no_rejected k v ss bound u t x q h g)
  tree_is_one depth ss (accept u x) (split axis lower upper) at h g = absurd (accepted_is_no_open k v ss bound u x h g.0)
  tree_is_one depth ss (accept u x) unknown at h g = absurd (accepted_is_no_open k v ss bound u x h g.0)
  tree_is_one depth ss (reject u r) (accept t y) at h g = absurd (accepted_is_no_rejected k v ss bound t u y r g h)
  tree_is_one depth ss (reject u r) (reject t q) at h g = let same = rejected_is_one k v ss bound lower_case lowers is positive at.inside u t r q h g in let precision : u ≡ t = same.0 in let data_same : r ≡ q = same.1 in cc
  tree_is_one depth ss (reject u r) (split axis lower upper) at h g = absurd (rejected_is_no_open k v ss bound u r h g.0)
  tree_is_one depth ss (reject u r) unknown at h g = absurd (rejected_is_no_open k v ss bound u r h g.0)
  tree_is_one depth ss (split axis lower upper) (accept t y) at h g = absurd (accepted_is_no_open k v ss bound t y g h.0)
  tree_is_one depth ss (split axis lower upper) (reject t q) at h g = absurd (rejected_is_no_open k v ss bound t q g h.0)
  tree_is_one depth ss (split axis lower upper) (split other low up) at h g =
      let same : other ≡ axis = axes _ ss other axis g.1.axis_is h.1.axis_is in
      let deeper = halves k ss depth axis is at h.1.left h.1.axis_is in
      let lows : lower ≡ low = tree_is_one (depth + 1) (lower_half axis ss) lower low deeper.0 h.2 (subst (λ a. IsRight k v (lower_half a ss) bound (depth + 1) low) same g.2) in
      let ups : upper ≡ up = tree_is_one (depth + 1) (upper_half axis ss) upper up deeper.1 h.3 (subst (λ a. IsRight k v (upper_half a ss) bound (depth + 1) up) same g.3) in
      cc
  tree_is_one depth ss (split axis lower upper) unknown at h g = absurd (omega (arith, h.1.left, g.1))
  tree_is_one depth ss unknown (accept t y) at h g = absurd (accepted_is_no_open k v ss bound t y g h.0)
  tree_is_one depth ss unknown (reject t q) at h g = absurd (rejected_is_no_open k v ss bound t q g h.0)
  tree_is_one depth ss unknown (split axis lower upper) at h g = absurd (omega (arith, g.1.left, h.1))
  tree_is_one depth ss unknown unknown at h g = refl
