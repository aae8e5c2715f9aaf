-- Lower vectors: of one of the whole model, the numbers, ranks and choices of the states that are kept are one of the collapsed model, and no state's number is above that of what stands for it.
use Rattle.std.proofs.Common.{◌≡◌, ℕ, zero, suc, ◌^◌, ◌<◌, ◌≤◌, Bool, true, false, cond, List, [], length, get_or, map, All, ℤ, pos, ◌*ℤ◌, ◌≤ℤ◌, ◌<ℤ◌, refl, sym, ap, subst, ◌∙◌, arith, nat_lt, ltb-true, lt-ltb}
use Rattle.std.proofs.lemmas.List.FromFn.{get_or-map-range_with_len, length-map-range_with_len}
use Rattle.std.specs.List.{range_with_len}
use Rattle.lift_poly.proofs.Ring.{linear, mul-comm, mul-zero, zero-mul, mul-le}
use Rattle.lift_grid.specs.Rectangle.{Spans}
use Rattle.lift_grid.specs.Tree.{RejectData}
use Rattle.lift_model.specs.Links.{targets_of}
use Rattle.lift_model.specs.Model.{is_goal, row_at}
use Rattle.corner_lift.specs.Case.{CaseData, number}
use Rattle.corner_lift.specs.Certificate.{MeansAtLeast, IsLower, IsHeld, mark, unmarked, ranked_below, chosen_row}
use Rattle.corner_lift.specs.Corner.{AtCorners, corner_sum, whole}
use Rattle.lift_collapse.specs.Collapse.{CollapseData, IsSure, place, placed_row, collapsed}
use Rattle.lift_collapse.proofs.Kept.{choices_kept, row_kept}
use Rattle.lift_collapse.proofs.Scene.{Scene, either_way, below_or_past, past, goal_inside, by_stand, targets_inside, positive, first_corner, at_most, rise, between, to_placed}

-- what has a rank of r or more does not count below r
below_no : (rank : ℕ → ℕ) (r t : ℕ) → r ≤ rank t → ranked_below rank r t ≡ pos 0
below_no rank r t le = ap (λ b. cond b (pos 1) (pos 0)) (either_way (nat_lt (rank t) r) (λ e. absurd (omega (arith, le, ltb-true (rank t) r e))) (λ e. e))

below_least : (rank : ℕ → ℕ) (r t : ℕ) → pos 0 ≤ℤ ranked_below rank r t
below_least rank r t = least (nat_lt (rank t) r)
  where
    least : (b : Bool) → pos 0 ≤ℤ cond b (pos 1) (pos 0)
    least true = omega (arith, linear)
    least false = omega (arith, linear)

-- where t has a rank below r and u then has no higher one, u counts wherever t does
below_more : (rank new : ℕ → ℕ) (r t u : ℕ) → (rank t < r → new u ≤ rank t) → ranked_below rank r t ≤ℤ ranked_below new r u
below_more rank new r t u h =
    below_or_past (rank t) r
    (λ lt. let up : nat_lt (new u) r ≡ true = lt-ltb (new u) r (omega (arith, lt, h lt)) in
    let here : nat_lt (rank t) r ≡ true = lt-ltb (rank t) r lt in
    let one : ranked_below rank r t ≡ pos 1 = ap (λ b. cond b (pos 1) (pos 0)) here in
    let also : ranked_below new r u ≡ pos 1 = ap (λ b. cond b (pos 1) (pos 0)) up in
    omega (arith, linear, one, also))
    (λ le. omega (arith, linear, below_no rank r t le, below_least new r u))

module _ (k : CaseData) (spans : Spans) (c : CollapseData) (scene : Scene k spans c) (r : RejectData) (h : IsLower k spans r) where
  abbrev rank : ℕ → ℕ
  rank s = mark r.ranks s

  abbrev y : ℕ → ℤ
  y s = number r.numbers s

  range : (s : ℕ) → (pos 0 ≤ℤ y s) × (y s ≤ℤ pos (2 ^ k.w))
  range s = scene.laws.numbers k r.numbers s h.numbers

  -- a state that is held leads to some lower rank
  sinks : (s : ℕ) → s < length k.model.states → IsHeld k spans r s → All (λ t. rank s ≤ rank t) (targets_of (chosen_row k r s)) → ⊥
  sinks s lt held none =
      let a = mark r.picks s in
      let row = chosen_row k r s in
      let w = whole k.model k.d spans row in
      let corner = first_corner k spans c scene s a lt held.pick in
      let low = at_most k spans c scene s a lt held.pick (ranked_below (mark r.ranks) (rank s)) (pos 0) (λ i d at. let zero_there = below_no (mark r.ranks) (rank s) (get_or (targets_of row) i d) (none i d at) in omega (arith, linear, zero_there)) 0 corner in
      let rates = held.rates 0 corner in
      let sum = corner_sum k.d spans row 0 (ranked_below (mark r.ranks) (rank s)) in
      scaled sum w (pos (2 ^ r.e)) low rates (omega (arith, linear)) (positive k spans c scene s a lt held.pick)
    where
      scaled : (sum w q : ℤ) → sum ≤ℤ (pos 0 *ℤ w) → w ≤ℤ (sum *ℤ q) → pos 0 ≤ℤ q → pos 0 <ℤ w → ⊥
      scaled sum w q low rates least more =
          let le = mul-le q sum (pos 0) least (omega (arith, linear, low, zero-mul w)) in
          omega (arith, linear, le, rates, more, mul-comm sum q, mul-zero q)

  held_or_zero : {P : Type 0} (s : ℕ) → is_goal k.model s ≡ false → (rank s < unmarked → IsHeld k spans r s → P) → (unmarked ≤ rank s → y s ≡ pos 0 → P) → P
  held_or_zero s g f z = below_or_past (rank s) unmarked (λ lt. f lt (h.held s g lt)) (λ le. z le (h.unranked s g le).0)

  -- lost states have no rank
  lost_unranked_at : (bound s : ℕ) → rank s < bound → s < length k.model.states → scene.is.lost s ≡ true → unmarked ≤ rank s
  lost_unranked_at zero s low lt e = absurd (omega (arith, low))
  lost_unranked_at (suc bound) s low lt e =
      held_or_zero s (scene.is.are_lost.no_goal s lt e)
      (λ ranked held. absurd (sinks s lt held
      (λ i d at. let t = get_or (targets_of (chosen_row k r s)) i d in
      below_or_past (rank t) (rank s)
      (λ less. let far = lost_unranked_at bound t (omega (arith, less, low)) (targets_inside k spans c scene s (mark r.picks s) lt held.pick i d at) (scene.is.are_lost.targets s lt e (mark r.picks s) held.pick i d at).0 in
      absurd (omega (arith, far, less, ranked)))
      (λ le. le))))
      (λ le z. le)

  lost_is_zero : (s : ℕ) → s < length k.model.states → scene.is.lost s ≡ true → (unmarked ≤ rank s) × (y s ≡ pos 0)
  lost_is_zero s lt e =
      let far = lost_unranked_at (suc (rank s)) s (omega arith) lt e in
      (far, (h.unranked s (scene.is.are_lost.no_goal s lt e) far).0)

  -- what stands for a state has no lesser number, and where the state has a rank no higher one
  abbrev standing : ℕ → ℕ
  standing s = scene.is.kept (place c s)

  abbrev Stands : ℕ → Type 0
  Stands s = (y s ≤ℤ y (standing s)) × (rank s < unmarked → rank (standing s) ≤ rank s)

  sure_stands : (s : ℕ) → s < length k.model.states → IsSure k.model c scene.is.height s → ((t : ℕ) → t < length k.model.states → scene.is.height t < scene.is.height s → Stands t) → Stands s
  sure_stands s lt sure before =
      held_or_zero s sure.no_goal
      (λ ranked held.
      let a = mark r.picks s in
      let row = chosen_row k r s in
      let corner = first_corner k spans c scene s a lt held.pick in
      let target = λ (i d : ℕ) (at : i < length (targets_of row)). sure.targets a held.pick i d at in
      let stand : (i d : ℕ) → (at : i < length (targets_of row)) → (y (get_or (targets_of row) i d) ≤ℤ y (standing s)) × (rank (get_or (targets_of row) i d) < unmarked → rank (standing s) ≤ rank (get_or (targets_of row) i d)) =
      λ i d at. let t = get_or (targets_of row) i d in
      subst (λ p. (y t ≤ℤ y (scene.is.kept p)) × (rank t < unmarked → rank (scene.is.kept p) ≤ rank t)) (target i d at).0 (before t (targets_inside k spans c scene s a lt held.pick i d at) (target i d at).1) in (
        between k spans c scene s a lt held.pick (y s) (y (standing s)) (corner_sum k.d spans row 0 (number r.numbers)) (held.means 0 corner)
            (at_most k spans c scene s a lt held.pick (number r.numbers) (y (standing s)) (λ i d at. (stand i d at).0) 0 corner),
        λ small. below_or_past (rank s) (rank (standing s))
            (λ higher. absurd (sinks s lt held (λ i d at. let t = get_or (targets_of row) i d in below_or_past (rank t) unmarked (λ some. let le = (stand i d at).1 some in omega (arith, le, higher)) (λ none. omega (arith, none, ranked)))))
            (λ le. le),
      ))
      (λ far z. (omega (arith, linear, z, (range (standing s)).0), λ small. absurd (omega (arith, small, far))))

  stands_at : (height s : ℕ) → scene.is.height s < height → s < length k.model.states → Stands s
  stands_at zero s low lt = absurd (omega (arith, low))
  stands_at (suc height) s low lt =
      by_stand k.model c scene.is.kept scene.is.lost scene.is.height s (scene.is.stands s lt)
      (λ e. subst (λ t. (y s ≤ℤ y t) × (rank s < unmarked → rank t ≤ rank s)) (sym e) (omega (arith, linear), λ small. omega arith))
      (λ here there. let a = h.goal s here in let b = h.goal (standing s) there in (omega (arith, linear, a.0, b.0), λ small. omega (arith, a.1, b.1)))
      (λ here there. let z = lost_is_zero s lt here in (omega (arith, linear, z.1, (range (standing s)).0), λ small. absurd (omega (arith, small, z.0))))
      (λ sure. sure_stands s lt sure (λ t inside lower. stands_at height t (omega (arith, lower, low)) inside))

  stands : (s : ℕ) → s < length k.model.states → Stands s
  stands s lt = stands_at (suc (scene.is.height s)) s (omega arith) lt

  -- ---- the vector of the collapsed model

  abbrev gather : {A : Type 0} → (ℕ → A) → List A
  gather f = map (λ i. f (scene.is.kept i)) (range_with_len 0 (length c.model.states))

  gather_at : {A : Type 0} (f : ℕ → A) (d : A) (i : ℕ) → i < length c.model.states → get_or (gather f) i d ≡ f (scene.is.kept i)
  gather_at f d i lt = get_or-map-range_with_len (λ i. f (scene.is.kept i)) 0 (length c.model.states) i i d lt (omega arith)

  gather_length : {A : Type 0} (f : ℕ → A) → length (gather f) ≡ length c.model.states
  gather_length f = length-map-range_with_len (λ i. f (scene.is.kept i)) 0 (length c.model.states)

  gather_past : {A : Type 0} (f : ℕ → A) (d : A) (i : ℕ) → length c.model.states ≤ i → get_or (gather f) i d ≡ d
  gather_past f d i le = past (gather f) i d (omega (arith, le, gather_length f))

  gather_all : {A : Type 0} (P : A → Type 0) (f : ℕ → A) → ((s : ℕ) → P (f s)) → All P (gather f)
  gather_all P f each i d lt = subst P (sym (gather_at f d i (omega (arith, lt, gather_length f)))) (each (scene.is.kept i))

  abbrev pub gathered : RejectData
  gathered = record { numbers = gather y; picks = gather (mark r.picks); ranks = gather rank; e = r.e; k = r.k }

  rank_small : (s : ℕ) → rank s ≤ unmarked
  rank_small s =
      below_or_past s (length r.ranks)
      (λ lt. h.marks s unmarked lt)
      (λ le. omega (arith, past r.ranks s unmarked le))

  -- no number is above that of its place
  pub place_above : (s : ℕ) → s < length k.model.states → y s ≤ℤ number gathered.numbers (place c s)
  place_above s lt = omega (arith, linear, (stands s lt).0, gather_at y (pos 0) (place c s) (scene.is.inside s lt))

  number_least : (i : ℕ) → pos 0 ≤ℤ number gathered.numbers i
  number_least i =
      below_or_past i (length c.model.states)
      (λ lt. omega (arith, linear, gather_at y (pos 0) i lt, (range (scene.is.kept i)).0))
      (λ le. omega (arith, linear, gather_past y (pos 0) i le))

  above : (s : ℕ) → y s ≤ℤ number gathered.numbers (place c s)
  above s =
      below_or_past s (length k.model.states)
      (λ lt. place_above s lt)
      (λ le. omega (arith, linear, past r.numbers s (pos 0) (omega (arith, le, h.numbers.size)), number_least (place c s)))

  lower : (bound : ℕ) → bound < unmarked → (s : ℕ) → ranked_below (mark r.ranks) bound s ≤ℤ ranked_below (mark gathered.ranks) bound (place c s)
  lower bound small s =
      below_or_past s (length k.model.states)
      (λ lt. below_more (mark r.ranks) (mark gathered.ranks) bound s (place c s) (λ less. let le = (stands s lt).1 (omega (arith, less, small)) in omega (arith, le, gather_at rank unmarked (place c s) (scene.is.inside s lt))))
      (λ le. below_more (mark r.ranks) (mark gathered.ranks) bound s (place c s) (λ less. absurd (omega (arith, less, small, past r.ranks s unmarked (omega (arith, le, h.sizes.1))))))

  held_there : (i : ℕ) → i < length c.model.states → IsHeld k spans r (scene.is.kept i) → rank (scene.is.kept i) < unmarked → IsHeld (collapsed k c) spans gathered i
  held_there i lt held small =
      let s = scene.is.kept i in
      let kept_is = scene.is.keeps i lt in
      let a = mark r.picks s in
      let rank_is : mark gathered.ranks i ≡ rank s = gather_at rank unmarked i lt in
      let choice_is : mark gathered.picks i ≡ a = gather_at (mark r.picks) unmarked i lt in
      let number_is : number gathered.numbers i ≡ y s = gather_at y (pos 0) i lt in
      let row = row_at k.model s a in
      let placed = placed_row c row in
      let row_is : chosen_row (collapsed k c) gathered i ≡ placed = ap (λ p. row_at c.model i p) choice_is ∙ row_kept k.model c scene.is i lt a [] held.pick in
      record {
        rank = (omega (arith, rank_is, held.rank.0), omega (arith, rank_is, held.rank.1));
        pick = omega (arith, choice_is, held.pick, choices_kept k.model c scene.is i lt);
        means =
            subst (λ p. MeansAtLeast (collapsed k c) spans p (number gathered.numbers) (number gathered.numbers i)) (sym row_is)
            (subst (λ n. MeansAtLeast (collapsed k c) spans placed (number gathered.numbers) n) (sym number_is)
            (to_placed k spans c scene s a kept_is.inside held.pick (λ sum w. (y s *ℤ w) ≤ℤ sum) (number gathered.numbers) (λ t. number gathered.numbers (place c t)) (λ t at. refl)
            (λ j at. let up = rise k spans c scene s a kept_is.inside held.pick j (number r.numbers) (λ t. number gathered.numbers (place c t)) above in omega (arith, linear, held.means j at, up))));
        rates =
            subst (λ p. AtCorners spans p (λ j. whole c.model k.d spans p ≤ℤ (corner_sum k.d spans p j (ranked_below (mark gathered.ranks) (mark gathered.ranks i)) *ℤ pos (2 ^ r.e)))) (sym row_is)
            (subst (λ n. AtCorners spans placed (λ j. whole c.model k.d spans placed ≤ℤ (corner_sum k.d spans placed j (ranked_below (mark gathered.ranks) n) *ℤ pos (2 ^ r.e)))) (sym rank_is)
            (to_placed k spans c scene s a kept_is.inside held.pick (λ sum w. w ≤ℤ (sum *ℤ pos (2 ^ r.e))) (ranked_below (mark gathered.ranks) (rank s)) (λ t. ranked_below (mark gathered.ranks) (rank s) (place c t)) (λ t at. refl)
            (λ j at. let up = rise k spans c scene s a kept_is.inside held.pick j (ranked_below (mark r.ranks) (rank s)) (λ t. ranked_below (mark gathered.ranks) (rank s) (place c t)) (lower (rank s) small) in
            raised (whole k.model k.d spans row) (corner_sum k.d spans row j (ranked_below (mark r.ranks) (rank s))) (corner_sum k.d spans row j (λ t. ranked_below (mark gathered.ranks) (rank s) (place c t))) (pos (2 ^ r.e)) (omega (arith, linear)) (held.rates j at) up)));
      }
    where
      raised : (w sum more q : ℤ) → pos 0 ≤ℤ q → w ≤ℤ (sum *ℤ q) → sum ≤ℤ more → w ≤ℤ (more *ℤ q)
      raised w sum more q least le up = let up_there = mul-le q sum more least up in omega (arith, linear, up_there, le, mul-comm sum q, mul-comm more q)

  pub gathered_is_lower : IsLower (collapsed k c) spans gathered
  gathered_is_lower = record {
    numbers = record { size = gather_length y; range = gather_all (λ n. (pos 0 ≤ℤ n) × (n ≤ℤ pos (2 ^ k.w))) y range };
    sizes = (gather_length (mark r.picks), gather_length rank);
    marks = gather_all (λ rank. rank ≤ unmarked) rank rank_small;
    bounds = h.bounds;
    goal =
        λ i g. let lt = goal_inside c.model.goal (length c.model.states) i scene.is.model.goals g in
        let there = h.goal (scene.is.kept i) (sym (scene.is.keeps i lt).goal ∙ g) in
        (gather_at y (pos 0) i lt ∙ there.0, gather_at rank unmarked i lt ∙ there.1, gather_at (mark r.picks) unmarked i lt ∙ there.2);
    unranked =
        λ i g far. below_or_past i (length c.model.states)
        (λ lt. let there = h.unranked (scene.is.kept i) (sym (scene.is.keeps i lt).goal ∙ g) (omega (arith, far, gather_at rank unmarked i lt)) in
        (gather_at y (pos 0) i lt ∙ there.0, gather_at (mark r.picks) unmarked i lt ∙ there.1))
        (λ le. (gather_past y (pos 0) i le, gather_past (mark r.picks) unmarked i le));
    held =
        λ i g small. below_or_past i (length c.model.states)
        (λ lt. let ranked : rank (scene.is.kept i) < unmarked = omega (arith, small, gather_at rank unmarked i lt) in
        held_there i lt (h.held (scene.is.kept i) (sym (scene.is.keeps i lt).goal ∙ g) ranked) ranked)
        (λ le. absurd (omega (arith, small, gather_past rank unmarked i le)));
  }
