-- What a choice holds, and how far a state is lowered to it.
use Rattle.std.proofs.Common.{◌≡◌, ◌≢◌, ◌==◌, ℕ, zero, suc, ◌+◌, ◌^◌, ◌<◌, ◌≤◌, inl, inr, ⊎_elim, Bool, true, false, List, [], ◌∷◌, length, set, ℤ, pos, ◌+ℤ◌, ◌-ℤ◌, ◌*ℤ◌, ◌≤ℤ◌, ◌<ℤ◌, refl, sym, ap, subst, ◌∙◌, arith, pow_mono, true≢false, length-set, get_or-set_same, get_or-set_other}
use Rattle.std.proofs.lemmas.Int.{ints}
use Rattle.std.proofs.lemmas.List.Elements.{All-set}
use Rattle.std.proofs.lemmas.Nat.{pow_pos}
use Rattle.lift_poly.proofs.Ring.{linear, add-mul, one-mul, mul-comm, mul-le}
use Rattle.lift_grid.specs.Rectangle.{Spans}
use Rattle.lift_model.specs.Process.{power}
use Rattle.lift_model.specs.Model.{is_goal, choices, row_at, support}
use Rattle.lift_model.specs.Links.{HasChoice, targets_of}
use Rattle.corner_lift.specs.Corner.{whole, parameter_count}
use Rattle.corner_lift.specs.Case.{CaseData, IsCase, IsInside, IsLeast, number, row_value, row_whole, corner_count}
use Rattle.corner_lift.specs.Certificate.{AreNumbers}
use Rattle.corner_lift.specs.Laws.{ParametersAreTheRoots, NumbersAreInRange, SumsAreInRange}
use Rattle.lower_cert.specs.Lowering.{Run, IsHighUnder, HoldsNoMore, HoldNoMore, IsLowered, IsWrittenLower, total}
use Rattle.lower_cert.specs.Capping.{CapsAt}
use Rattle.lower_cert.specs.Laws.{CappingKeepsUnder}
use Rattle.lower_cert.proofs.Means.{Place, only, only_inside, positive, same_or_less, same_or_not}
use Rattle.lower_cert.proofs.Capped.{caps_more}

-- ---- what a choice holds

pub holds_no_more : ParametersAreTheRoots → (k : CaseData) (spans : Spans) (x : List ℤ) (s a : ℕ) (m r : ℤ) → IsInside k.root spans → IsLeast (row_value k spans s a x) (corner_count k s a) m → m <ℤ ((r +ℤ pos 1) *ℤ row_whole k s a) → HoldsNoMore k spans x s a r
holds_no_more parameters k spans x s a m r within least less =
    let row = row_at k.model s a in
    let same : parameter_count spans (support row) ≡ parameter_count k.root (support row) = parameters k spans row within.within in
    let wholes : (r +ℤ pos 1) *ℤ whole k.model k.d spans row ≡ (r +ℤ pos 1) *ℤ row_whole k s a = ap (λ n. (r +ℤ pos 1) *ℤ (k.model.common *ℤ power k.d n)) same in
    λ low. (least.attained.0, (subst (λ n. least.attained.0 < 2 ^ n) (sym same) least.attained.1.0, inr (inr (omega (arith, linear, less, least.attained.1.1, wholes)))))

-- the only target of a row is a state
pub target_inside : (k : CaseData) (s a t n : ℕ) → IsCase k → HasChoice k.model s a → targets_of (row_at k.model s a) ≡ t ∷ [] → n ≡ length k.model.states → t < n
target_inside k s a t n is has one size = omega (arith, size, only_inside (length k.model.states) (length k.model.names) (row_at k.model s a) t one (is.asked.model.rows s [] has.state a [] has.choice).entries)

-- a choice whose row has one entry holds its target's number, and no more
pub only_holds : (k : CaseData) (spans : Spans) (place : Place k spans) (x : List ℤ) (s a t : ℕ) → a < length (choices k.model s) → targets_of (row_at k.model s a) ≡ t ∷ [] → HoldsNoMore k spans x s a (number x t)
only_holds k spans place x s a t choice one low =
    let full = whole k.model k.d spans (row_at k.model s a) in
    let some = pow_pos (parameter_count spans (support (row_at k.model s a))) in
    (0, (some, inr (inr (omega (arith, linear, only k spans place s a choice 0 some t one (number x), positive k spans place s a choice, add-mul (number x t) (pos 1) full, one-mul full, mul-comm full (number x t))))))

-- the only choice of a state stands for all
pub hold_one : (k : CaseData) (spans : Spans) (x : List ℤ) (s : ℕ) (r : ℤ) → length (choices k.model s) ≡ 1 → pos 0 ≤ℤ r → HoldsNoMore k spans x s 0 r → HoldNoMore k spans x s (length (choices k.model s)) r
hold_one k spans x s r one least holds = record {
  least = least;
  each = λ a lt choice. let first : a ≡ 0 = omega (arith, lt, one) in subst (λ i. HoldsNoMore k spans x s i r) (sym first) holds;
}

module _ (k : CaseData) (spans : Spans) (place : Place k spans) (x : List ℤ) (s : ℕ) where
  more : (a : ℕ) (r q : ℤ) → a < length (choices k.model s) → r ≤ℤ q → HoldsNoMore k spans x s a r → HoldsNoMore k spans x s a q
  more a r q choice le h =
      λ low. let one = h (omega (arith, linear, le, low)) in
      (one.0, (one.1.0, caps_more place.laws k spans (λ t. t == s) (number x) (r +ℤ pos 1) (q +ℤ pos 1) s a one.0 place.case place.within choice one.1.0 (omega (arith, linear, le)) one.1.1))

  pub hold_next : (a : ℕ) (r h q : ℤ) → HoldNoMore k spans x s a r → HoldsNoMore k spans x s a h → r ≤ℤ q → h ≤ℤ q → HoldNoMore k spans x s (a + 1) q
  hold_next a r h q old one r_le h_le =
      record {
        least = omega (arith, linear, old.least, r_le);
        each = λ b lt choice.
            ⊎_elim
            (λ (l : b < a). more b r q choice r_le (old.each b l choice))
            (λ (e : b ≡ a). more b h q choice h_le (subst (λ i. HoldsNoMore k spans x s i h) (sym e) one))
            (same_or_less b a lt);
      }

-- ---- one state

total_set : (x : List ℤ) (s : ℕ) (v : ℤ) → s < length x → pos 0 ≤ℤ v → v <ℤ number x s → total (set x s v) < total x
total_set [] s v lt least less = absurd (omega arith)
total_set (n ∷ x) zero v lt least less = omega (arith, ints, least, less)
total_set (n ∷ x) (suc s) v lt least less = omega (arith, total_set x s v (omega (arith, lt)) least less)

pub is_same : (t s : ℕ) → (t == s) ≡ true → t ≡ s
is_same t s e = grind (arith, e)

pub same_is : (t s : ℕ) → t ≡ s → (t == s) ≡ true
same_is t s e = grind (arith, e)

module _ (keeps : CappingKeepsUnder) (ranges : NumbersAreInRange) (k : CaseData) (run : Run) (x : List ℤ) (s : ℕ) (r : ℤ) (is : IsCase k) (within : IsInside k.root run.spans) (high : IsHighUnder k run x) (state : s < length k.model.states) (goal : is_goal k.model s ≡ false) (most : HoldNoMore k run.spans x s (length (choices k.model s)) r) where
  in_lane : s < length x
  in_lane = omega (arith, state, high.numbers.size)

  set_high : r <ℤ number x s → IsHighUnder k run (set x s r)
  set_high low =
      record {
        numbers = record { size = length-set x s r ∙ high.numbers.size; range = All-set (λ n. (pos 0 ≤ℤ n) × (n ≤ℤ pos (2 ^ k.w))) x s r (most.least, omega (arith, linear, low, (ranges k x s high.numbers).1)) high.numbers.range };
        goal = λ t g. ⊎_elim
            (λ (e : t ≡ s). absurd (no_goal (subst (λ i. is_goal k.model i ≡ true) e g)))
            (λ (ne : t ≢ s). other t ne ∙ high.goal t g)
            (same_or_not t s);
        above = keeps k run.spans (λ t. t == s) run.ceiling (number x) (r +ℤ pos 1) (number (set x s r)) is within
            (λ t e. subst (λ i. is_goal k.model i ≡ false) (sym (is_same t s e)) goal)
            (omega (arith, linear, most.least))
            high.above
            (λ t a e choice. subst (λ i. (c : ℕ) × ((c < 2 ^ parameter_count run.spans (support (row_at k.model i a))) × Caps i a c)) (sym (is_same t s e)) (capped a (subst (λ i. a < length (choices k.model i)) (is_same t s e) choice)))
            (λ t. ⊎_elim
            (λ (e : t ≡ s). inr (same_is t s e, subst (λ i. ((r +ℤ pos 1) -ℤ pos 1) ≤ℤ number (set x s r) i) (sym e) (omega (arith, linear, here))))
            (λ (ne : t ≢ s). inl (omega (arith, linear, other t ne)))
            (same_or_not t s));
      }
    where
      Caps : ℕ → ℕ → ℕ → Type 0
      Caps t a c = CapsAt k run.spans (λ i. i == s) (number x) (r +ℤ pos 1) (row_at k.model t a) c

      no_goal : is_goal k.model s ≡ true → ⊥
      no_goal g = true≢false (sym g ∙ goal)

      other : (t : ℕ) → t ≢ s → number (set x s r) t ≡ number x t
      other t ne = rw get_or-set_other refl

      here : number (set x s r) s ≡ r
      here = let lt = in_lane in rw get_or-set_same refl

      capped : (a : ℕ) → a < length (choices k.model s) → (c : ℕ) × ((c < 2 ^ parameter_count run.spans (support (row_at k.model s a))) × Caps s a c)
      capped a choice = most.each a choice choice low

  set_below : r <ℤ number x s → (t : ℕ) → number (set x s r) t ≤ℤ number x t
  set_below low t = ⊎_elim
      (λ (e : t ≡ s). subst (λ i. number (set x s r) i ≤ℤ number x i) (sym e) (let lt = in_lane in rw get_or-set_same (omega (arith, linear, low))))
      (λ (ne : t ≢ s). rw get_or-set_other (omega (arith, linear)))
      (same_or_not t s)

  pub lowered_state : (new : List ℤ) (lower : Bool) → IsWrittenLower x new s r lower → IsLowered k run x new lower
  lowered_state new true w =
      let y = w.yes refl in
      subst (λ l. IsLowered k run x l true) (sym y.0)
      (record { high = set_high y.1; below = set_below y.1; most = let lt = total_set x s r in_lane most.least y.1 in omega (arith, lt); less = λ b. total_set x s r in_lane most.least y.1 })
  lowered_state new false w = subst (λ l. IsLowered k run x l false) (sym (w.no refl)) (record { high = high; below = λ t. omega (arith, linear); most = omega arith; less = λ b. absurd (true≢false (sym b)) })

-- what is as it was where another state's number was written
pub written_other : (old new : List ℤ) (s : ℕ) (v : ℤ) (lower : Bool) → IsWrittenLower old new s v lower → (t : ℕ) → t ≢ s → number new t ≡ number old t
written_other old new s v true w t ne = subst (λ x. number x t ≡ number old t) (sym (w.yes refl).0) (rw get_or-set_other refl)
written_other old new s v false w t ne = ap (λ x. number x t) (w.no refl)

-- what was lowered twice
pub lowered_both : (k : CaseData) (run : Run) (x y z : List ℤ) (a b : Bool) → IsLowered k run x y a → IsLowered k run y z b → IsLowered k run x z false
lowered_both k run x y z a b f g = record {
  high = g.high;
  below = λ t. omega (arith, linear, f.below t, g.below t);
  most = omega (arith, f.most, g.most);
  less = λ e. absurd (true≢false (sym e));
}

-- ---- room

pub sum_room : SumsAreInRange → (k : CaseData) (spans : Spans) (x : List ℤ) (s a : ℕ) (m : ℤ) → IsCase k → IsInside k.root spans → HasChoice k.model s a → AreNumbers k x → IsLeast (row_value k spans s a x) (corner_count k s a) m
    → (w : ℤ) → w ≡ row_whole k s a → pos 1 ≤ℤ w → (pos 0 ≤ℤ m) × (m <ℤ (pos (2 ^ 41) *ℤ w))
sum_room ranges k spans x s a m is within has numbers least w same some =
    let range = ranges k spans s a least.attained.0 x is within (record { state = has.state; choice = has.choice }) numbers in
    let small : 2 ^ k.w ≤ 2 ^ 40 = pow_mono is.asked.precision.1 in
    let up = mul-le w (pos (2 ^ k.w)) (pos (2 ^ 40)) (omega (arith, linear, some)) (omega (arith, linear, small)) in
    let wholes : pos (2 ^ k.w) *ℤ row_whole k s a ≡ pos (2 ^ k.w) *ℤ w = ap (λ n. pos (2 ^ k.w) *ℤ n) (sym same) in
    let double : pos (2 ^ 41) *ℤ w ≡ pos (2 ^ 40) *ℤ w +ℤ pos (2 ^ 40) *ℤ w = add-mul (pos (2 ^ 40)) (pos (2 ^ 40)) w in
    let one = mul-le w (pos 1) (pos (2 ^ 40)) (omega (arith, linear, some)) (omega (arith, linear)) in
    (omega (arith, linear, range.0, least.attained.1.1), omega (arith, linear, range.1, least.attained.1.1, up, wholes, mul-comm w (pos (2 ^ k.w)), mul-comm w (pos (2 ^ 40)), some, double, one, mul-comm w (pos 1), one-mul w))
