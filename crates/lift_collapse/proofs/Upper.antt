-- Upper vectors: that of the collapsed model, read at the places, is one of the whole model; and of one of the whole model the numbers of the states that are kept, with 0 for lost ones, are one of the collapsed model.
use Rattle.std.proofs.Common.{◌≡◌, ℕ, zero, suc, ◌^◌, ◌<◌, Bool, true, false, cond, List, [], length, get_or, map, All, ℤ, pos, ◌*ℤ◌, ◌≤ℤ◌, sym, ap, subst, ◌∙◌, arith, true≢false}
use Rattle.std.proofs.lemmas.List.{get_or_default}
use Rattle.std.proofs.lemmas.List.FromFn.{get_or-map-range_with_len, length-map-range_with_len}
use Rattle.std.specs.List.{range_with_len}
use Rattle.lift_poly.proofs.Ring.{linear}
use Rattle.lift_grid.specs.Rectangle.{Spans}
use Rattle.lift_model.specs.Links.{targets_of}
use Rattle.lift_model.specs.Model.{is_goal, choices, row_at}
use Rattle.corner_lift.specs.Case.{CaseData, number}
use Rattle.corner_lift.specs.Certificate.{AreNumbers, MeansAtMost, AtMost, IsUpper, IsLeastUpper}
use Rattle.corner_lift.specs.Corner.{AtCorners, corner_sum, whole}
use Rattle.lift_collapse.specs.Collapse.{CollapseData, place, placed_row, collapsed, spread}
use Rattle.lift_collapse.proofs.Kept.{choices_kept, row_kept}
use Rattle.lift_collapse.proofs.Scene.{Scene, either_way, below_or_past, past, goal_inside, by_stand, targets_inside, first_corner, at_most, at_least, rise, between, to_placed, from_placed, spread_at, spread_past, spread_numbers, spread_goal}

module _ (k : CaseData) (spans : Spans) (c : CollapseData) (scene : Scene k spans c) where
  -- ---- from the collapsed model to the whole one

  module _ (z : List ℤ) (h : IsUpper (collapsed k c) spans z) where
    -- where all targets have the state's place, each mean is the number there
    level : (s a : ℕ) → s < length k.model.states → a < length (choices k.model s) → All (λ t. place c t ≡ place c s) (targets_of (row_at k.model s a)) → MeansAtMost k spans (row_at k.model s a) (spread c z) (number (spread c z) s)
    level s a lt choice all =
        subst (MeansAtMost k spans (row_at k.model s a) (spread c z)) (sym (spread_at k spans c scene z s lt))
        (at_most k spans c scene s a lt choice (number (spread c z)) (number z (place c s))
        (λ i d at. let same : number (spread c z) (get_or (targets_of (row_at k.model s a)) i d) ≡ number z (place c s) = spread_at k spans c scene z _ (targets_inside k spans c scene s a lt choice i d at) ∙ ap (number z) (all i d at) in
        omega (arith, linear, same)))

    kept_means : (s a : ℕ) → s < length k.model.states → is_goal k.model s ≡ false → scene.is.kept (place c s) ≡ s → a < length (choices k.model s) → MeansAtMost k spans (row_at k.model s a) (spread c z) (number (spread c z) s)
    kept_means s a lt g e choice =
        let i = place c s in
        let inside = scene.is.inside s lt in
        let kept_is = scene.is.keeps i inside in
        let choice_there : a < length (choices k.model (scene.is.kept i)) = subst (λ t. a < length (choices k.model t)) (sym e) choice in
        let choice_here : a < length (choices c.model i) = omega (arith, choice_there, choices_kept k.model c scene.is i inside) in
        let means = h.means i (kept_is.goal ∙ ap (is_goal k.model) e ∙ g) a [] choice_here in
        let row_is : get_or (choices c.model i) a [] ≡ placed_row c (row_at k.model s a) = row_kept k.model c scene.is i inside a [] choice_there ∙ ap (λ t. placed_row c (row_at k.model t a)) e in
        from_placed k spans c scene s a lt choice (λ sum w. sum ≤ℤ (number (spread c z) s *ℤ w)) (number z) (number (spread c z)) (λ t at. sym (spread_at k spans c scene z t at))
        (subst (λ n. MeansAtMost (collapsed k c) spans (placed_row c (row_at k.model s a)) z n) (sym (spread_at k spans c scene z s lt))
        (subst (λ row. MeansAtMost (collapsed k c) spans row z (number z i)) row_is means))

    spread_means : (s a : ℕ) → s < length k.model.states → is_goal k.model s ≡ false → a < length (choices k.model s) → MeansAtMost k spans (row_at k.model s a) (spread c z) (number (spread c z) s)
    spread_means s a lt g choice =
        by_stand k.model c scene.is.kept scene.is.lost scene.is.height s (scene.is.stands s lt)
        (λ e. kept_means s a lt g e choice)
        (λ here there. absurd (true≢false (sym here ∙ g)))
        (λ here there. level s a lt choice (λ i d at. (scene.is.are_lost.targets s lt here a choice i d at).1))
        (λ sure. level s a lt choice (λ i d at. (sure.targets a choice i d at).0))

    pub spread_is_upper : IsUpper k spans (spread c z)
    spread_is_upper = record {
      numbers = spread_numbers k spans c scene z h.numbers;
      goal = spread_goal k spans c scene z h.goal;
      means =
          λ s g. below_or_past s (length k.model.states)
          (λ lt a d choice. subst (λ row. MeansAtMost k spans row (spread c z) (number (spread c z) s)) (get_or_default (choices k.model s) a [] d choice) (spread_means s a lt g choice))
          (λ le a d choice. absurd (omega (arith, choice, ap (λ rows. length rows) (past k.model.states s [] le))));
    }

  -- ---- from the whole model to the collapsed one

  module _ (x : List ℤ) (h : IsUpper k spans x) where
    range : (s : ℕ) → (pos 0 ≤ℤ number x s) × (number x s ≤ℤ pos (2 ^ k.w))
    range s = scene.laws.numbers k x s h.numbers

    -- the number of the state that is kept, or 0 for a lost one
    abbrev gathered_at : ℕ → ℤ
    gathered_at i = cond (scene.is.lost (scene.is.kept i)) (pos 0) (number x (scene.is.kept i))

    abbrev pub gathered : List ℤ
    gathered = map gathered_at (range_with_len 0 (length c.model.states))

    gathered_is : (i : ℕ) → i < length c.model.states → number gathered i ≡ gathered_at i
    gathered_is i lt = get_or-map-range_with_len gathered_at 0 (length c.model.states) i i (pos 0) lt (omega arith)

    at_range : (b : Bool) (n : ℤ) → (pos 0 ≤ℤ n) × (n ≤ℤ pos (2 ^ k.w)) → (pos 0 ≤ℤ cond b (pos 0) n) × (cond b (pos 0) n ≤ℤ pos (2 ^ k.w))
    at_range true n r = (omega (arith, linear), omega (arith, linear))
    at_range false n r = r

    gathered_numbers : AreNumbers (collapsed k c) gathered
    gathered_numbers = record {
      size = length-map-range_with_len gathered_at 0 (length c.model.states);
      range =
          λ i d lt. let inside : i < length c.model.states = omega (arith, lt, length-map-range_with_len gathered_at 0 (length c.model.states)) in
          subst (λ n. (pos 0 ≤ℤ n) × (n ≤ℤ pos (2 ^ k.w))) (sym (get_or-map-range_with_len gathered_at 0 (length c.model.states) i i d inside (omega arith)))
          (at_range (scene.is.lost (scene.is.kept i)) (number x (scene.is.kept i)) (range (scene.is.kept i)));
    }

    gathered_range : (i : ℕ) → (pos 0 ≤ℤ number gathered i) × (number gathered i ≤ℤ pos (2 ^ k.w))
    gathered_range i = scene.laws.numbers (collapsed k c) gathered i gathered_numbers

    lost_is_zero : (i : ℕ) → i < length c.model.states → scene.is.lost (scene.is.kept i) ≡ true → number gathered i ≡ pos 0
    lost_is_zero i lt e = gathered_is i lt ∙ ap (λ b. cond b (pos 0) (number x (scene.is.kept i))) e

    other_is_kept : (i : ℕ) → i < length c.model.states → scene.is.lost (scene.is.kept i) ≡ false → number gathered i ≡ number x (scene.is.kept i)
    other_is_kept i lt e = gathered_is i lt ∙ ap (λ b. cond b (pos 0) (number x (scene.is.kept i))) e

    gathered_below : (i : ℕ) → i < length c.model.states → number gathered i ≤ℤ number x (scene.is.kept i)
    gathered_below i lt =
        either_way (scene.is.lost (scene.is.kept i))
        (λ e. omega (arith, linear, lost_is_zero i lt e, (range (scene.is.kept i)).0))
        (λ e. omega (arith, linear, other_is_kept i lt e))

    -- one state after another, the lower first: what stands for a state has no greater number
    place_below_at : (height s : ℕ) → scene.is.height s < height → s < length k.model.states → number gathered (place c s) ≤ℤ number x s
    place_below_at zero s low lt = absurd (omega (arith, low))
    place_below_at (suc height) s low lt =
        let i = place c s in
        let inside = scene.is.inside s lt in
        by_stand k.model c scene.is.kept scene.is.lost scene.is.height s (scene.is.stands s lt)
        (λ e. subst (λ t. number gathered i ≤ℤ number x t) e (gathered_below i inside))
        (λ here there. omega (arith, linear, (gathered_range i).1, h.goal s here))
        (λ here there. omega (arith, linear, lost_is_zero i inside there, (range s).0))
        (λ sure.
        let choice : 0 < length (choices k.model s) = omega (arith, scene.case.asked.model.some_choice s [] lt) in
        let corner = first_corner k spans c scene s 0 lt choice in
        let low_mean = at_least k spans c scene s 0 lt choice (number x) (number gathered i)
        (λ j d at. let t = get_or (targets_of (row_at k.model s 0)) j d in
        let target = sure.targets 0 choice j d at in
        let lower : scene.is.height t < height = omega (arith, low, target.1) in
        subst (λ p. number gathered p ≤ℤ number x t) target.0 (place_below_at height t lower (targets_inside k spans c scene s 0 lt choice j d at)))
        0 corner in
        between k spans c scene s 0 lt choice (number gathered i) (number x s) (corner_sum k.d spans (row_at k.model s 0) 0 (number x)) low_mean (h.means s sure.no_goal 0 [] choice 0 corner))

    pub place_below : (s : ℕ) → s < length k.model.states → number gathered (place c s) ≤ℤ number x s
    place_below s lt = place_below_at (suc (scene.is.height s)) s (omega arith) lt

    spread_below : (s : ℕ) → number (spread c gathered) s ≤ℤ number x s
    spread_below s =
        below_or_past s (length k.model.states)
        (λ lt. omega (arith, linear, spread_at k spans c scene gathered s lt, place_below s lt))
        (λ le. omega (arith, linear, spread_past k spans c scene gathered s le, (range s).0))

    gathered_means_at : (i a : ℕ) (lt : i < length c.model.states) → is_goal c.model i ≡ false → (choice : a < length (choices k.model (scene.is.kept i)))
        → AtCorners spans (row_at k.model (scene.is.kept i) a) (λ j. corner_sum k.d spans (row_at k.model (scene.is.kept i) a) j (number (spread c gathered)) ≤ℤ (number gathered i *ℤ whole k.model k.d spans (row_at k.model (scene.is.kept i) a)))
    gathered_means_at i a lt g choice =
        let s = scene.is.kept i in
        let kept_is = scene.is.keeps i lt in
        either_way (scene.is.lost s)
        (λ e. at_most k spans c scene s a kept_is.inside choice (number (spread c gathered)) (number gathered i)
        (λ j d at. let same : number (spread c gathered) (get_or (targets_of (row_at k.model s a)) j d) ≡ number gathered i =
        spread_at k spans c scene gathered _ (targets_inside k spans c scene s a kept_is.inside choice j d at) ∙ ap (number gathered) ((scene.is.are_lost.targets s kept_is.inside e a choice j d at).1 ∙ kept_is.place) in
        omega (arith, linear, same)))
        (λ e j at.
        let means = h.means s (sym kept_is.goal ∙ g) a [] choice j at in
        let up = rise k spans c scene s a kept_is.inside choice j (number (spread c gathered)) (number x) spread_below in
        subst (λ n. corner_sum k.d spans (row_at k.model s a) j (number (spread c gathered)) ≤ℤ (n *ℤ whole k.model k.d spans (row_at k.model s a))) (sym (other_is_kept i lt e)) (omega (arith, linear, means, up)))

    pub gathered_is_upper : IsUpper (collapsed k c) spans gathered
    gathered_is_upper = record {
      numbers = gathered_numbers;
      goal =
          λ i g. let lt = goal_inside c.model.goal (length c.model.states) i scene.is.model.goals g in
          let kept_is = scene.is.keeps i lt in
          let goal_there = sym kept_is.goal ∙ g in
          either_way (scene.is.lost (scene.is.kept i))
          (λ e. absurd (true≢false (sym goal_there ∙ scene.is.are_lost.no_goal (scene.is.kept i) kept_is.inside e)))
          (λ e. other_is_kept i lt e ∙ h.goal (scene.is.kept i) goal_there);
      means =
          λ i g. below_or_past i (length c.model.states)
          (λ lt a d choice.
          let s = scene.is.kept i in
          let kept_is = scene.is.keeps i lt in
          let there : a < length (choices k.model s) = omega (arith, choice, choices_kept k.model c scene.is i lt) in
          subst (λ row. MeansAtMost (collapsed k c) spans row gathered (number gathered i)) (sym (row_kept k.model c scene.is i lt a d there))
          (to_placed k spans c scene s a kept_is.inside there (λ sum w. sum ≤ℤ (number gathered i *ℤ w)) (number gathered) (number (spread c gathered)) (λ t at. sym (spread_at k spans c scene gathered t at)) (gathered_means_at i a lt g there)))
          (λ le a d choice. absurd (omega (arith, choice, ap (λ rows. length rows) (past c.model.states i [] le))));
    }

    -- each upper vector of the whole model is at least the least of the collapsed one, read at the places
    pub spread_least : (z : List ℤ) → AtMost z gathered → AtMost (spread c z) x
    spread_least z least s =
        below_or_past s (length k.model.states)
        (λ lt. omega (arith, linear, spread_at k spans c scene z s lt, least (place c s), place_below s lt))
        (λ le. omega (arith, linear, spread_past k spans c scene z s le, (range s).0))

  pub least_spreads : (z : List ℤ) → IsLeastUpper (collapsed k c) spans z → IsLeastUpper k spans (spread c z)
  least_spreads z h = record {
    upper = spread_is_upper z h.upper;
    least = λ x upper. spread_least x upper z (h.least (gathered x upper) (gathered_is_upper x upper));
  }
