-- Rows at their corners, as certificates have them and as they are tested: a row has as many corners over a rectangle inside the root as over the root.
use Rattle.std.proofs.Common.{◌≡◌, ◌^◌, ◌<◌, ◌≤◌, ℕ, Bool, true, false, nat_lt, cond, List, [], length, get_or, ℤ, pos, ◌*ℤ◌, ◌≤ℤ◌, sym, ap, subst, ◌∙◌, arith, ◌⊎◌, ⊎_elim}
use Rattle.std.specs.Prelude.{◌↔◌}
use Rattle.std.proofs.lemmas.List.{get_or_past}
use Rattle.lift_poly.proofs.Ring.{linear, mul-le, mul-comm, one-mul, zero-mul}
use Rattle.lift_grid.specs.Rectangle.{Spans}
use Rattle.lift_grid.specs.Tree.{RejectData}
use Rattle.lift_model.specs.Process.{power}
use Rattle.lift_model.specs.declared.entry.Entry.{Entry}
use Rattle.lift_model.specs.Model.{support, is_goal, choices, row_at}
use Rattle.lift_model.specs.Links.{targets_of}
use Rattle.corner_lift.specs.Corner.{AtCorners, corner_sum, parameter_count, whole}
use Rattle.corner_lift.specs.Case.{CaseData, IsCase, IsInside, IsLeast, Within, number, row_value, row_whole, corner_count}
use Rattle.corner_lift.specs.Certificate.{MeansAtMost, MeansAtLeast, mark, ranked_below}
use Rattle.corner_lift.specs.Laws.{HasRow, ParametersAreTheRoots, SumsAreAtLeast, SumsAreAtMost}
use Rattle.lift_cert.specs.RejectMiss.{IsFast, weight_below}

-- ---- states

pub inside_or_past : (s count : ℕ) → (s < count) ⊎ (count ≤ s)
inside_or_past s count = grind arith

-- a goal state is one of the model's states
pub goal_there : (k : CaseData) (s : ℕ) → IsCase k → is_goal k.model s ≡ true → s < length k.model.states
goal_there k s is e = ⊎_elim (λ (lt : s < length k.model.states). lt)
    (λ (le : length k.model.states ≤ s).
    let none : is_goal k.model s ≡ false = get_or_past k.model.goal s false (omega (arith, is.asked.model.goals, le)) in
    let wrong : true ≡ false = sym e ∙ none in absurd (cc wrong))
    (inside_or_past s (length k.model.states))

-- and so is a state that has a choice
pub choice_there : (k : CaseData) (s a : ℕ) → a < length (choices k.model s) → s < length k.model.states
choice_there k s a lt = ⊎_elim (λ (there : s < length k.model.states). there)
    (λ (le : length k.model.states ≤ s).
    let none : choices k.model s ≡ [] = get_or_past k.model.states s [] le in
    absurd (omega (arith, lt, ap (λ (l : List (List Entry)). length l) none)))
    (inside_or_past s (length k.model.states))

-- ---- corners

module _ (parameters : ParametersAreTheRoots) (k : CaseData) (spans : Spans) (within : Within spans k.root) where
  as_many : (s a : ℕ) → parameter_count spans (support (row_at k.model s a)) ≡ parameter_count k.root (support (row_at k.model s a))
  as_many s a = parameters k spans (row_at k.model s a) within

  -- what holds at each corner of the rectangle's row holds at each that is tested
  pub corners_in : (s a : ℕ) (P : ℕ → Type 0) → AtCorners spans (row_at k.model s a) P → (c : ℕ) → c < corner_count k s a → P c
  corners_in s a P all c lt = all c (subst (λ n. c < 2 ^ n) (sym (as_many s a)) lt)

  pub corners_out : (s a : ℕ) (P : ℕ → Type 0) → ((c : ℕ) → c < corner_count k s a → P c) → AtCorners spans (row_at k.model s a) P
  corners_out s a P all c lt = all c (subst (λ n. c < 2 ^ n) (as_many s a) lt)

  same_whole : (s a : ℕ) → whole k.model k.d spans (row_at k.model s a) ≡ row_whole k s a
  same_whole s a = ap (λ n. k.model.common *ℤ power k.d n) (as_many s a)

  -- ---- means and rates

  pub most_in : (s a : ℕ) (x : List ℤ) (n : ℤ) → MeansAtMost k spans (row_at k.model s a) x n → (c : ℕ) → c < corner_count k s a → row_value k spans s a x c ≤ℤ (n *ℤ row_whole k s a)
  most_in s a x n means c lt =
      let here = corners_in s a (λ c. row_value k spans s a x c ≤ℤ (n *ℤ whole k.model k.d spans (row_at k.model s a))) means c lt in
      omega (arith, linear, here, ap (λ m. n *ℤ m) (same_whole s a))

  pub most_out : (s a : ℕ) (x : List ℤ) (n : ℤ) → ((c : ℕ) → c < corner_count k s a → row_value k spans s a x c ≤ℤ (n *ℤ row_whole k s a)) → MeansAtMost k spans (row_at k.model s a) x n
  most_out s a x n all = corners_out s a (λ c. row_value k spans s a x c ≤ℤ (n *ℤ whole k.model k.d spans (row_at k.model s a)))
      (λ c lt. omega (arith, linear, all c lt, ap (λ m. n *ℤ m) (same_whole s a)))

  pub least_in : (s a : ℕ) (y : List ℤ) (n : ℤ) → MeansAtLeast k spans (row_at k.model s a) (number y) n → (c : ℕ) → c < corner_count k s a → (n *ℤ row_whole k s a) ≤ℤ row_value k spans s a y c
  least_in s a y n means c lt =
      let here = corners_in s a (λ c. (n *ℤ whole k.model k.d spans (row_at k.model s a)) ≤ℤ row_value k spans s a y c) means c lt in
      omega (arith, linear, here, ap (λ m. n *ℤ m) (same_whole s a))

  pub least_out : (s a : ℕ) (y : List ℤ) (n : ℤ) → ((c : ℕ) → c < corner_count k s a → (n *ℤ row_whole k s a) ≤ℤ row_value k spans s a y c) → MeansAtLeast k spans (row_at k.model s a) (number y) n
  least_out s a y n all = corners_out s a (λ c. (n *ℤ whole k.model k.d spans (row_at k.model s a)) ≤ℤ row_value k spans s a y c)
      (λ c lt. omega (arith, linear, all c lt, ap (λ m. n *ℤ m) (same_whole s a)))

  abbrev pub Leads : RejectData → ℕ → ℕ → Type 0
  Leads r s a = let row = row_at k.model s a in AtCorners spans row (λ c. whole k.model k.d spans row ≤ℤ (corner_sum k.d spans row c (ranked_below (mark r.ranks) (mark r.ranks s)) *ℤ pos (2 ^ r.e)))

  pub fast_in : (r : RejectData) (s a : ℕ) → Leads r s a → (c : ℕ) → c < corner_count k s a → IsFast k spans r s a c
  fast_in r s a rates c lt =
      let row = row_at k.model s a in
      let here = corners_in s a (λ c. whole k.model k.d spans row ≤ℤ (corner_sum k.d spans row c (ranked_below (mark r.ranks) (mark r.ranks s)) *ℤ pos (2 ^ r.e))) rates c lt in
      omega (arith, linear, here, same_whole s a)

  pub fast_out : (r : RejectData) (s a : ℕ) → ((c : ℕ) → c < corner_count k s a → IsFast k spans r s a c) → Leads r s a
  fast_out r s a all =
      let row = row_at k.model s a in
      corners_out s a (λ c. whole k.model k.d spans row ≤ℤ (corner_sum k.d spans row c (ranked_below (mark r.ranks) (mark r.ranks s)) *ℤ pos (2 ^ r.e)))
      (λ c lt. omega (arith, linear, all c lt, same_whole s a))

  -- ---- the weight into lower ranks

  counted : (b : Bool) → (pos 0 ≤ℤ cond b (pos 1) (pos 0)) × (cond b (pos 1) (pos 0) ≤ℤ pos 1)
  counted true = (omega (arith, linear), omega (arith, linear))
  counted false = (omega (arith, linear), omega (arith, linear))

  -- it lies from 0 to the whole
  pub weight_range : SumsAreAtLeast → SumsAreAtMost → IsCase k → IsInside k.root spans → (r : RejectData) (s a c : ℕ) → HasRow k s a → c < corner_count k s a
      → (pos 0 ≤ℤ weight_below k spans r s a c) × (weight_below k spans r s a c ≤ℤ row_whole k s a)
  weight_range least most is inside r s a c there lt =
      let rank = mark r.ranks in
      let below = mark r.ranks s in
      let low = corners_in s a _ (least k spans s a (ranked_below rank below) (pos 0) is inside there (λ i d at. (counted (nat_lt (rank (get_or (targets_of (row_at k.model s a)) i d)) below)).0)) c lt in
      let high = corners_in s a _ (most k spans s a (ranked_below rank below) (pos 1) is inside there (λ i d at. (counted (nat_lt (rank (get_or (targets_of (row_at k.model s a)) i d)) below)).1)) c lt in
      (omega (arith, linear, low, zero-mul (row_whole k s a)), omega (arith, linear, high, one-mul (row_whole k s a)))

-- the least of values is enough exactly where each of them is
pub enough : (value : ℕ → ℤ) (count : ℕ) (z all : ℤ) (e : ℕ) → IsLeast value count z → (all ≤ℤ (z *ℤ pos (2 ^ e))) ↔ ((c : ℕ) → c < count → all ≤ℤ (value c *ℤ pos (2 ^ e)))
enough value count z all e is = (
  λ le c lt. omega (arith, linear, le, mul-le (pos (2 ^ e)) z (value c) (omega (arith, linear)) (is.least c lt), mul-comm z (pos (2 ^ e)), mul-comm (value c) (pos (2 ^ e))),
  λ each. subst (λ (v : ℤ). all ≤ℤ (v *ℤ pos (2 ^ e))) (sym is.attained.1.1) (each is.attained.0 is.attained.1.0),
)
