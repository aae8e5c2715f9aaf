-- A collapse of a case's model and a rectangle inside its root: what its parts give, and what holds at the corners of rows.
use Rattle.std.proofs.Common.{◌≡◌, ℕ, zero, suc, ◌^◌, ◌<◌, ◌≤◌, inl, inr, Bool, true, false, List, [], ◌∷◌, length, get_or, All, ℤ, pos, ◌*ℤ◌, ◌≤ℤ◌, ◌<ℤ◌, refl, sym, ap, subst, ◌∙◌, arith, nat_lt, ltb-true, ltb-false, true≢false}
use Rattle.std.proofs.lemmas.List.{get_or-map, length-map}
use Rattle.std.proofs.lemmas.List.Elements.{All-map}
use Rattle.std.proofs.lemmas.Nat.{pow_pos}
use Rattle.lift_poly.proofs.Ring.{linear, mul-comm, mul-zero, mul-lt, mul-le_cancel}
use Rattle.lift_grid.specs.Rectangle.{Spans}
use Rattle.lift_model.specs.declared.entry.Entry.{Entry}
use Rattle.lift_model.specs.Links.{targets_of}
use Rattle.lift_model.specs.Model.{ModelData, support, is_goal, choices, row_at}
use Rattle.lift_model.specs.Process.{power}
use Rattle.lift_model.specs.Valid.{IsRow}
use Rattle.corner_lift.specs.Case.{CaseData, IsCase, IsInside, row_whole, number}
use Rattle.corner_lift.specs.Certificate.{AreNumbers}
use Rattle.corner_lift.specs.Corner.{AtCorners, corner_sum, parameter_count, whole}
use Rattle.corner_lift.specs.Laws.{HasRow, NumbersAreInRange, ParametersAreTheRoots, SumsRise, SumsAreAtMost, SumsAreAtLeast}
use Rattle.lift_collapse.specs.Collapse.{CollapseData, IsCollapse, IsSure, StandsFor, place, placed_row, collapsed, spread}
use Rattle.lift_collapse.proofs.Rows.{corner_sum-placed, whole-placed, corners_to, corners_from}

-- the laws of rows at corners that the proofs here rest on
pub record Premises : Type 0 where
  pub numbers : NumbersAreInRange
  pub parameters : ParametersAreTheRoots
  pub rise : SumsRise
  pub most : SumsAreAtMost
  pub least : SumsAreAtLeast

-- a case, a rectangle inside its root and a collapse of its model, with these laws
pub record Scene (k : CaseData) (spans : Spans) (c : CollapseData) : Type 0 where
  pub laws : Premises
  pub case : IsCase k
  pub within : IsInside k.root spans
  pub is : IsCollapse k.model c

pub scene_of : Premises → (k : CaseData) (spans : Spans) (c : CollapseData) → IsCase k → IsInside k.root spans → IsCollapse k.model c → Scene k spans c
scene_of laws k spans c case within is = record { laws = laws; case = case; within = within; is = is }

pub either_way : {P : Type 0} (b : Bool) → (b ≡ true → P) → (b ≡ false → P) → P
either_way true f g = f refl
either_way false f g = g refl

pub below_or_past : {P : Type 0} (a b : ℕ) → (a < b → P) → (b ≤ a → P) → P
below_or_past a b f g = either_way (nat_lt a b) (λ e. f (ltb-true a b e)) (λ e. g (ltb-false a b e))

-- past its end a list gives what stands for that
pub past : {A : Type 0} (xs : List A) (i : ℕ) (d : A) → length xs ≤ i → get_or xs i d ≡ d
past [] i d le = refl
past (x ∷ xs) zero d le = absurd (omega (arith, le))
past (x ∷ xs) (suc i) d le = past xs i d (omega (arith, le))

-- a goal state is one of the states
pub goal_inside : (goal : List Bool) (n s : ℕ) → length goal ≡ n → get_or goal s false ≡ true → s < n
goal_inside goal n s size g = below_or_past s n (λ lt. lt) (λ le. absurd (true≢false (sym g ∙ past goal s false (omega (arith, le, size)))))

-- what stands for a state, by cases
pub by_stand : {P : Type 0} (m : ModelData) (c : CollapseData) (kept : ℕ → ℕ) (lost : ℕ → Bool) (height : ℕ → ℕ) (s : ℕ) → StandsFor m c kept lost height s
    → (kept (place c s) ≡ s → P)
    → (is_goal m s ≡ true → is_goal m (kept (place c s)) ≡ true → P)
    → (lost s ≡ true → lost (kept (place c s)) ≡ true → P)
    → (IsSure m c height s → P)
    → P
by_stand m c kept lost height s (inl e) itself goals losts sure = itself e
by_stand m c kept lost height s (inr (inl p)) itself goals losts sure = goals p.0 p.1
by_stand m c kept lost height s (inr (inr (inl p))) itself goals losts sure = losts p.0 p.1
by_stand m c kept lost height s (inr (inr (inr h))) itself goals losts sure = sure h

product-positive : (a b : ℤ) → pos 0 <ℤ a → pos 0 <ℤ b → pos 0 <ℤ (a *ℤ b)
product-positive a b f g = let lt = mul-lt a (pos 0) b f g in omega (arith, linear, lt, mul-zero a)

power-positive : (b : ℤ) (n : ℕ) → pos 0 <ℤ b → pos 0 <ℤ power b n
power-positive b zero h = omega (arith, linear)
power-positive b (suc n) h = product-positive b (power b n) h (power-positive b n h)

module _ (k : CaseData) (spans : Spans) (c : CollapseData) (scene : Scene k spans c) where
  -- ---- rows of the whole model

  module _ (s a : ℕ) (state : s < length k.model.states) (choice : a < length (choices k.model s)) where
    pub targets_inside : All (λ t. t < length k.model.states) (targets_of (row_at k.model s a))
    targets_inside =
        let row : IsRow (length k.model.states) (length k.model.names) (row_at k.model s a) = scene.case.asked.model.rows s [] state a [] choice in
        All-map (λ t. t < length k.model.states) (λ (entry : Entry). entry.target) (row_at k.model s a) (λ i d lt. (row.entries i d lt).target)

    there : HasRow k s a
    there = record { state = state; choice = choice }

    whole_is : row_whole k s a ≡ whole k.model k.d spans (row_at k.model s a)
    whole_is = sym (ap (λ count. k.model.common *ℤ power k.d count) (scene.laws.parameters k spans (row_at k.model s a) scene.within.within))

    pub positive : pos 0 <ℤ whole k.model k.d spans (row_at k.model s a)
    positive =
        let count = parameter_count spans (support (row_at k.model s a)) in
        product-positive k.model.common (power k.d count) (omega (arith, linear, scene.case.asked.model.denominator.0)) (power-positive k.d count (omega (arith, linear, scene.case.asked.grid.positive)))

    pub first_corner : 0 < 2 ^ parameter_count spans (support (row_at k.model s a))
    first_corner = pow_pos (parameter_count spans (support (row_at k.model s a)))

    pub at_most : (f : ℕ → ℤ) (v : ℤ) → All (λ t. f t ≤ℤ v) (targets_of (row_at k.model s a)) → AtCorners spans (row_at k.model s a) (λ i. corner_sum k.d spans (row_at k.model s a) i f ≤ℤ (v *ℤ whole k.model k.d spans (row_at k.model s a)))
    at_most f v all i lt = subst (λ w. corner_sum k.d spans (row_at k.model s a) i f ≤ℤ (v *ℤ w)) whole_is (scene.laws.most k spans s a f v scene.case scene.within there all i lt)

    pub at_least : (f : ℕ → ℤ) (v : ℤ) → All (λ t. v ≤ℤ f t) (targets_of (row_at k.model s a)) → AtCorners spans (row_at k.model s a) (λ i. (v *ℤ whole k.model k.d spans (row_at k.model s a)) ≤ℤ corner_sum k.d spans (row_at k.model s a) i f)
    at_least f v all i lt = subst (λ w. (v *ℤ w) ≤ℤ corner_sum k.d spans (row_at k.model s a) i f) whole_is (scene.laws.least k spans s a f v scene.case scene.within there all i lt)

    pub rise : (i : ℕ) (f g : ℕ → ℤ) → ((t : ℕ) → f t ≤ℤ g t) → corner_sum k.d spans (row_at k.model s a) i f ≤ℤ corner_sum k.d spans (row_at k.model s a) i g
    rise i f g le = scene.laws.rise k spans s a i f g scene.case scene.within there le

    -- a mean is between what it is at least and at most
    pub between : (u v sum : ℤ) → (u *ℤ whole k.model k.d spans (row_at k.model s a)) ≤ℤ sum → sum ≤ℤ (v *ℤ whole k.model k.d spans (row_at k.model s a)) → u ≤ℤ v
    between u v sum low high =
        let w = whole k.model k.d spans (row_at k.model s a) in
        mul-le_cancel w u v positive (omega (arith, linear, low, high, mul-comm w u, mul-comm w v))

    -- ---- the same row with its targets at their places

    module _ (R : ℤ → ℤ → Type 0) (f g : ℕ → ℤ) (same : (t : ℕ) → t < length k.model.states → f (place c t) ≡ g t) where
      pub to_placed : AtCorners spans (row_at k.model s a) (λ i. R (corner_sum k.d spans (row_at k.model s a) i g) (whole k.model k.d spans (row_at k.model s a)))
          → AtCorners spans (placed_row c (row_at k.model s a)) (λ i. R (corner_sum k.d spans (placed_row c (row_at k.model s a)) i f) (whole c.model k.d spans (placed_row c (row_at k.model s a))))
      to_placed h =
          let row = row_at k.model s a in
          let sum = λ (i : ℕ). corner_sum-placed c (length k.model.states) f g same k.d spans row i targets_inside in
          let w = whole-placed c k.model scene.is.common k.d spans row in
          corners_to c (λ i. R (corner_sum k.d spans (placed_row c row) i f) (whole c.model k.d spans (placed_row c row))) spans row
          (λ i lt. subst (λ z. R (corner_sum k.d spans (placed_row c row) i f) z) (sym w) (subst (λ z. R z (whole k.model k.d spans row)) (sym (sum i)) (h i lt)))

      pub from_placed : AtCorners spans (placed_row c (row_at k.model s a)) (λ i. R (corner_sum k.d spans (placed_row c (row_at k.model s a)) i f) (whole c.model k.d spans (placed_row c (row_at k.model s a))))
          → AtCorners spans (row_at k.model s a) (λ i. R (corner_sum k.d spans (row_at k.model s a) i g) (whole k.model k.d spans (row_at k.model s a)))
      from_placed h =
          let row = row_at k.model s a in
          let sum = λ (i : ℕ). corner_sum-placed c (length k.model.states) f g same k.d spans row i targets_inside in
          let w = whole-placed c k.model scene.is.common k.d spans row in
          corners_from c (λ i. R (corner_sum k.d spans row i g) (whole k.model k.d spans row)) spans row
          (λ i lt. subst (λ z. R (corner_sum k.d spans row i g) z) w (subst (λ z. R z (whole c.model k.d spans (placed_row c row))) (sum i) (h i lt)))

  -- ---- vectors read at the places

  pub spread_at : (z : List ℤ) (s : ℕ) → s < length k.model.states → number (spread c z) s ≡ number z (place c s)
  spread_at z s lt = get_or-map (number z) c.places s 0 (pos 0) (omega (arith, lt, scene.is.size))

  pub spread_past : (z : List ℤ) (s : ℕ) → length k.model.states ≤ s → number (spread c z) s ≡ pos 0
  spread_past z s le = past (spread c z) s (pos 0) (omega (arith, le, scene.is.size, length-map c.places (number z)))

  pub spread_numbers : (z : List ℤ) → AreNumbers (collapsed k c) z → AreNumbers k (spread c z)
  spread_numbers z h = record {
    size = length-map c.places (number z) ∙ scene.is.size;
    range =
        λ i d lt. let inside : i < length c.places = omega (arith, lt, length-map c.places (number z)) in
        subst (λ n. (pos 0 ≤ℤ n) × (n ≤ℤ pos (2 ^ k.w))) (sym (get_or-map (number z) c.places i 0 d inside)) (scene.laws.numbers (collapsed k c) z (place c i) h);
  }

  -- the place of a goal state is one
  pub goal_placed : (s : ℕ) → is_goal k.model s ≡ true → is_goal c.model (place c s) ≡ true
  goal_placed s g =
      let lt = goal_inside k.model.goal (length k.model.states) s scene.case.asked.model.goals g in
      let at = (scene.is.keeps (place c s) (scene.is.inside s lt)).goal in
      by_stand k.model c scene.is.kept scene.is.lost scene.is.height s (scene.is.stands s lt)
      (λ e. at ∙ ap (is_goal k.model) e ∙ g)
      (λ here there. at ∙ there)
      (λ here there. absurd (true≢false (sym g ∙ scene.is.are_lost.no_goal s lt here)))
      (λ sure. absurd (true≢false (sym g ∙ sure.no_goal)))

  pub spread_goal : (z : List ℤ) → ((i : ℕ) → is_goal c.model i ≡ true → number z i ≡ pos (2 ^ k.w)) → (s : ℕ) → is_goal k.model s ≡ true → number (spread c z) s ≡ pos (2 ^ k.w)
  spread_goal z h s g =
      spread_at z s (goal_inside k.model.goal (length k.model.states) s scene.case.asked.model.goals g) ∙ h (place c s) (goal_placed s g)
