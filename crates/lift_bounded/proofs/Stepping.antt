-- What a choice needs and what it holds, and how the choices of a state are gone through.
use Rattle.std.proofs.Common.{◌≡◌, ◌≢◌, ℕ, zero, suc, ◌+◌, ◌*◌, ◌^◌, ◌<◌, ◌≤◌, ◌⊎◌, inl, inr, ⊎_elim, true, false, List, [], length, ℤ, pos, negsuc, ◌+ℤ◌, ◌-ℤ◌, ◌*ℤ◌, ◌≤ℤ◌, ◌<ℤ◌, refl, sym, ap, subst, ◌∙◌, arith, pow_mono, set, get_or-set_same, get_or-set_other, unsigned_abs, Option, Some, None, IfSome}
use Rattle.std.proofs.lemmas.Int.{by_lt_z}
use Rattle.std.proofs.lemmas.List.{get_or_past, get_or_default}
use Rattle.std.proofs.lemmas.List.Elements.{All-from_get_or}
use Rattle.lift_poly.proofs.Ring.{linear, mul-comm, mul-le, mul-zero, zero-mul, one-mul, add-mul, mul-le_cancel}
use Rattle.lift_grid.specs.Rectangle.{Spans}
use Rattle.lift_model.specs.Process.{power}
use Rattle.lift_model.specs.Model.{is_goal, choices, row_at, support}
use Rattle.lift_model.specs.Links.{HasChoice}
use Rattle.corner_lift.specs.Corner.{parameter_count, whole}
use Rattle.corner_lift.specs.Case.{CaseData, IsCase, IsInside, IsGreatest, IsLeast, number, row_value, row_whole, row_parameters, corner_count, most_precision, engine_limit}
use Rattle.corner_lift.specs.Certificate.{AreNumbers, MeansAtMost, MeansAtLeast, mark}
use Rattle.corner_lift.specs.Quotient.{IsRoundedDown, IsRoundedUp, IsRoundedUpFrom, AtEachScale}
use Rattle.corner_lift.specs.Table.{IsWhole}
use Rattle.corner_lift.specs.Laws.{ParametersAreTheRoots, SumsAreInRange, HasRow}
use Rattle.lift_bounded.specs.Steps.{IsLeastStep, IsGreatestStep}
use Rattle.lift_bounded.specs.Stepping.{Covers, IsNeeded, IsRaised, IsLeastFor, IsUpperAt, Holds, IsMostHeld, IsGreatestFor, IsLowerAt, IsBetter, StepsRise}
use Rattle.lift_bounded.specs.declared.steps.Chosen.{Chosen}
use Rattle.lift_bounded.proofs.Inside.{in_or_past, true_or_false, state_of}

-- ---- order

pub lt_cancel : (c a b : ℤ) → pos 1 ≤ℤ c → (a *ℤ c) <ℤ (b *ℤ c) → a <ℤ b
lt_cancel c a b positive h = by_lt_z a b (λ lt. lt) (λ le. absurd (omega (arith, linear, h, mul-le c b a (omega (arith, linear)) le, mul-comm a c, mul-comm b c)))

-- ---- a choice

-- a sum up to 2 ^ w times the whole is up to the greatest precision's
pub sum_most : (k : CaseData) (z full : ℤ) → IsCase k → pos 1 ≤ℤ full → z ≤ℤ (pos (2 ^ k.w) *ℤ full) → z ≤ℤ (pos (2 ^ most_precision) *ℤ full)
sum_most k z full is positive le =
    let small : 2 ^ k.w ≤ 2 ^ most_precision = pow_mono is.asked.precision.1 in
    omega (arith, linear, le, mul-le full (pos (2 ^ k.w)) (pos (2 ^ most_precision)) (omega (arith, linear, positive)) (omega (arith, linear, small)), mul-comm (pos (2 ^ k.w)) full, mul-comm (pos (2 ^ most_precision)) full)

pub needed_of : (k : CaseData) (spans : Spans) (x : List ℤ) (s a : ℕ) (z full q : ℤ) → IsGreatest (row_value k spans s a x) (corner_count k s a) z → (pos 0 ≤ℤ z) × (z ≤ℤ (pos (2 ^ k.w) *ℤ row_whole k s a)) → IsWhole k s a full → IsRoundedUp z full q → IsNeeded k spans x s a q
needed_of k spans x s a z full q greatest range is up =
    let positive : pos 1 ≤ℤ full = is.positive in
    let same : (n : ℤ) → n *ℤ full ≡ n *ℤ row_whole k s a = λ n. ap (λ w. n *ℤ w) is.value in
    record {
      range = (
        mul-le_cancel full (pos 0) q (omega (arith, linear, positive)) (omega (arith, linear, mul-zero full, range.0, up.0, mul-comm q full)),
        (let lt : (q -ℤ pos 1) <ℤ pos (2 ^ k.w) = lt_cancel full (q -ℤ pos 1) (pos (2 ^ k.w)) positive (omega (arith, linear, up.1, range.1, same (pos (2 ^ k.w)))) in omega (arith, linear, lt)),
      );
      covers = λ c lt. omega (arith, linear, greatest.most c lt, up.0, same q);
      least = λ u covers.
          let lt : (q -ℤ pos 1) <ℤ u = lt_cancel full (q -ℤ pos 1) u positive (omega (arith, linear, up.1, greatest.attained.1.1, covers greatest.attained.0 greatest.attained.1.0, same u)) in
          omega (arith, linear, lt);
    }

pub held_of : (k : CaseData) (spans : Spans) (y : List ℤ) (s a : ℕ) (z full q : ℤ) → IsLeast (row_value k spans s a y) (corner_count k s a) z → (pos 0 ≤ℤ z) × (z ≤ℤ (pos (2 ^ k.w) *ℤ row_whole k s a)) → IsWhole k s a full → IsRoundedDown z full q → IsMostHeld k spans y s a q
held_of k spans y s a z full q least range is down =
    let positive : pos 1 ≤ℤ full = is.positive in
    let same : (n : ℤ) → n *ℤ full ≡ n *ℤ row_whole k s a = λ n. ap (λ w. n *ℤ w) is.value in
    record {
      range = (
        (let lt : pos 0 <ℤ (q +ℤ pos 1) = lt_cancel full (pos 0) (q +ℤ pos 1) positive (omega (arith, linear, zero-mul full, range.0, down.1)) in omega (arith, linear, lt)),
        mul-le_cancel full q (pos (2 ^ k.w)) (omega (arith, linear, positive)) (omega (arith, linear, range.1, down.0, same (pos (2 ^ k.w)), mul-comm full q, mul-comm full (pos (2 ^ k.w)))),
      );
      holds = λ c lt. omega (arith, linear, least.least c lt, down.0, same q);
      most = λ u holds.
          let lt : u <ℤ (q +ℤ pos 1) = lt_cancel full u (q +ℤ pos 1) positive (omega (arith, linear, down.1, least.attained.1.1, holds least.attained.0 least.attained.1.0, same u)) in
          omega (arith, linear, lt);
    }

-- ---- sums and wholes that were divided by the same number

pub scaled_least : (sum scale : ℤ) → pos 1 ≤ℤ scale → pos 0 ≤ℤ (sum *ℤ scale) → pos 0 ≤ℤ sum
scaled_least sum scale some least = mul-le_cancel scale (pos 0) sum (omega (arith, linear, some)) (omega (arith, linear, least, mul-zero scale, mul-comm sum scale))

map_some : (P Q : ℤ → Type 0) (o : Option ℤ) → ((v : ℤ) → P v → Q v) → IfSome o P → IfSome o Q
map_some P Q None f h = tt
map_some P Q (Some v) f h = f v h

-- ---- the greatest and the least sum of a row

has_row : (k : CaseData) (s a : ℕ) → HasChoice k.model s a → HasRow k s a
has_row k s a row = record { state = row.state; choice = row.choice }

-- the greatest sum lies in the range in which all do
pub greatest_range : SumsAreInRange → (k : CaseData) (spans : Spans) (y : List ℤ) (s a : ℕ) (z : ℤ) → IsCase k → IsInside k.root spans → HasRow k s a → AreNumbers k y → IsGreatest (row_value k spans s a y) (corner_count k s a) z → (pos 0 ≤ℤ z) × (z ≤ℤ (pos (2 ^ k.w) *ℤ row_whole k s a))
greatest_range range k spans y s a z is within has numbers greatest =
    let at = range k spans s a greatest.attained.0 y is within has numbers in
    (omega (arith, linear, at.0, greatest.attained.1.1), omega (arith, linear, at.1, greatest.attained.1.1))

-- the least sum lies in the range in which all do
pub least_range : SumsAreInRange → (k : CaseData) (spans : Spans) (y : List ℤ) (s a : ℕ) (z : ℤ) → IsCase k → IsInside k.root spans → HasRow k s a → AreNumbers k y → IsLeast (row_value k spans s a y) (corner_count k s a) z → (pos 0 ≤ℤ z) × (z ≤ℤ (pos (2 ^ k.w) *ℤ row_whole k s a))
least_range range k spans y s a z is within has numbers least =
    let at = range k spans s a least.attained.0 y is within has numbers in
    (omega (arith, linear, at.0, least.attained.1.1), omega (arith, linear, at.1, least.attained.1.1))

abs_small : (n : ℤ) (m : ℕ) → pos 0 ≤ℤ n → n ≤ℤ pos m → unsigned_abs n ≤ m
abs_small (pos n) m least most = omega (arith, linear, most)
abs_small (negsuc n) m least most = absurd (omega (arith, linear, least))

-- a number of a vector times the whole stays within the engine's limit
pub room_of : (k : CaseData) (s a : ℕ) (number full : ℤ) → IsWhole k s a full → pos 0 ≤ℤ number → number ≤ℤ pos (2 ^ k.w) → unsigned_abs number * unsigned_abs full < engine_limit
room_of k s a number full is least most = is.room (unsigned_abs number) (abs_small number (2 ^ k.w) least most)

module _ (range : SumsAreInRange) (k : CaseData) (spans : Spans) (x : List ℤ) (s a : ℕ) (is : IsCase k) (within : IsInside k.root spans) (row : HasChoice k.model s a) (numbers : AreNumbers k x) where
  -- what the code finds from u on
  pub raised_of : (u z full v : ℤ) → IsGreatest (row_value k spans s a x) (corner_count k s a) z → IsWhole k s a full → IsRoundedUpFrom u z full v → IsRaised k spans x s a u v
  raised_of u z full v greatest whole_is first =
      let positive : pos 1 ≤ℤ full = whole_is.positive in
      let same : (n : ℤ) → n *ℤ full ≡ n *ℤ row_whole k s a = λ n. ap (λ w. n *ℤ w) whole_is.value in
      ⊎_elim
      (λ (still : (v ≡ u) × (z ≤ℤ (u *ℤ full))). inl (still.0, λ c lt. omega (arith, linear, greatest.most c lt, still.1, same u)))
      (λ (rose : ((u *ℤ full) <ℤ z) × IsRoundedUp z full v).
      let more : u <ℤ v = lt_cancel full u v positive (omega (arith, linear, rose.0, rose.1.0)) in
      inr (more, needed_of k spans x s a z full v greatest (greatest_range range k spans x s a z is within (has_row k s a row) numbers greatest) whole_is rose.1))
      first

  -- the same, where the sum and the whole were divided by the same number
  pub lane_raised : (u sum full scale : ℤ) (found : Option ℤ) → pos 1 ≤ℤ scale → IsGreatest (row_value k spans s a x) (corner_count k s a) (sum *ℤ scale) → IsWhole k s a (full *ℤ scale) → IfSome found (λ v. AtEachScale (λ whole_sum whole. IsRoundedUpFrom u whole_sum whole v) sum full) → IfSome found (IsRaised k spans x s a u)
  lane_raised u sum full scale found some greatest whole_is first =
      map_some (λ v. AtEachScale (λ whole_sum whole. IsRoundedUpFrom u whole_sum whole v) sum full) (IsRaised k spans x s a u) found
      (λ v is_first. raised_of u (sum *ℤ scale) (full *ℤ scale) v greatest whole_is (is_first scale some)) first

  pub lane_least : (sum scale : ℤ) → pos 1 ≤ℤ scale → IsGreatest (row_value k spans s a x) (corner_count k s a) (sum *ℤ scale) → pos 0 ≤ℤ sum
  lane_least sum scale some greatest = scaled_least sum scale some (greatest_range range k spans x s a (sum *ℤ scale) is within (has_row k s a row) numbers greatest).0

  pub most_of : (z full : ℤ) → IsWhole k s a full → IsGreatest (row_value k spans s a x) (corner_count k s a) z → (pos 0 ≤ℤ z) × (z ≤ℤ (pos (2 ^ most_precision) *ℤ full))
  most_of z full whole_is greatest =
      let at = greatest_range range k spans x s a z is within (has_row k s a row) numbers greatest in
      (at.0, sum_most k z full is whole_is.positive (rw whole_is.value at.1))

  pub held_by : (z full q : ℤ) → IsLeast (row_value k spans s a x) (corner_count k s a) z → IsWhole k s a full → IsRoundedDown z full q → IsMostHeld k spans x s a q
  held_by z full q least whole_is down = held_of k spans x s a z full q least (least_range range k spans x s a z is within (has_row k s a row) numbers least) whole_is down

  pub lane_held : (sum full scale : ℤ) (found : Option ℤ) → pos 1 ≤ℤ scale → IsLeast (row_value k spans s a x) (corner_count k s a) (sum *ℤ scale) → IsWhole k s a (full *ℤ scale) → IfSome found (λ q. AtEachScale (λ whole_sum whole. IsRoundedDown whole_sum whole q) sum full) → IfSome found (IsMostHeld k spans x s a)
  lane_held sum full scale found some least whole_is down =
      map_some (λ q. AtEachScale (λ whole_sum whole. IsRoundedDown whole_sum whole q) sum full) (IsMostHeld k spans x s a) found
      (λ q is_down. held_by (sum *ℤ scale) (full *ℤ scale) q least whole_is (is_down scale some)) down

  pub most_of_least : (z full : ℤ) → IsWhole k s a full → IsLeast (row_value k spans s a x) (corner_count k s a) z → (pos 0 ≤ℤ z) × (z <ℤ (pos (2 ^ 41) *ℤ full))
  most_of_least z full whole_is least =
      let at = least_range range k spans x s a z is within (has_row k s a row) numbers least in
      let most : z ≤ℤ (pos (2 ^ 40) *ℤ full) = sum_most k z full is whole_is.positive (rw whole_is.value at.1) in
      let double : pos (2 ^ 41) *ℤ full ≡ pos (2 ^ 40) *ℤ full +ℤ pos (2 ^ 40) *ℤ full = add-mul (pos (2 ^ 40)) (pos (2 ^ 40)) full in
      let one = mul-le full (pos 1) (pos (2 ^ 40)) (omega (arith, linear, whole_is.positive)) (omega (arith, linear)) in
      (at.0, omega (arith, linear, whole_is.positive, most, double, one, mul-comm full (pos 1), one-mul full, mul-comm full (pos (2 ^ 40))))

-- ---- the choices of a state

one_more : (b a : ℕ) → b < a + 1 → (b < a) ⊎ (b ≡ a)
one_more b a lt = grind arith

product_positive : (a b : ℤ) → pos 1 ≤ℤ a → pos 1 ≤ℤ b → pos 1 ≤ℤ (a *ℤ b)
product_positive a b f g = omega (arith, linear, f, mul-le a (pos 1) b (omega (arith, linear, f)) g, mul-comm a (pos 1), one-mul a)

power_positive : (b : ℤ) (n : ℕ) → pos 1 ≤ℤ b → pos 1 ≤ℤ power b n
power_positive b zero h = omega (arith, linear)
power_positive b (suc n) h = product_positive b (power b n) h (power_positive b n h)

pub whole_positive : (k : CaseData) (s a : ℕ) → IsCase k → pos 1 ≤ℤ row_whole k s a
whole_positive k s a is = product_positive k.model.common (power k.d (row_parameters k (row_at k.model s a))) is.asked.model.denominator.0 (power_positive k.d (row_parameters k (row_at k.model s a)) (omega (arith, linear, is.asked.grid.positive)))

covers_more : (k : CaseData) (spans : Spans) (x : List ℤ) (s a : ℕ) (u v : ℤ) → IsCase k → u ≤ℤ v → Covers k spans x s a u → Covers k spans x s a v
covers_more k spans x s a u v is le covers = λ c lt. let full = row_whole k s a in
    omega (arith, linear, covers c lt, mul-le full u v (omega (arith, linear, whole_positive k s a is)) le, mul-comm u full, mul-comm v full)

pub none_covered : (k : CaseData) (spans : Spans) (x : List ℤ) (s : ℕ) → AreNumbers k x → s < length k.model.states → IsLeastFor k spans x s 0 (number x s)
none_covered k spans x s numbers lt = record {
  range = numbers.range s (pos 0) (omega (arith, lt, numbers.size));
  covers = λ a lt. absurd (omega (arith, lt));
  least = λ u least all. least;
}

pub one_more_covered : (k : CaseData) (spans : Spans) (x : List ℤ) (s n : ℕ) (u v : ℤ) → IsCase k → IsLeastFor k spans x s n u → IsRaised k spans x s n u v → IsLeastFor k spans x s (n + 1) v
one_more_covered k spans x s n u v is h raised = ⊎_elim
    (λ (still : (v ≡ u) × Covers k spans x s n u). rw (still.0) (record {
      range = h.range;
      covers = λ a lt. ⊎_elim
          (λ (before : a < n). h.covers a before)
          (λ (here : a ≡ n). subst (λ i. Covers k spans x s i u) (sym here) still.1)
          (one_more a n lt);
      least = λ w own all. h.least w own (λ a lt. all a (omega (arith, lt)));
    }))
    (λ (rose : (u <ℤ v) × IsNeeded k spans x s n v). record {
      range = rose.1.range;
      covers = λ a lt. ⊎_elim
          (λ (before : a < n). covers_more k spans x s a u v is (omega (arith, linear, rose.0)) (h.covers a before))
          (λ (here : a ≡ n). subst (λ i. Covers k spans x s i v) (sym here) rose.1.covers)
          (one_more a n lt);
      least = λ w own all. rose.1.least w (all n (omega arith));
    })
    raised

pub first_held : (k : CaseData) (spans : Spans) (y : List ℤ) (s : ℕ) (v : ℤ) → IsMostHeld k spans y s 0 v → IsGreatestFor k spans y s 1 (record { number = v; pick = 0 })
first_held k spans y s v h = record {
  range = h.range;
  in_range = omega arith;
  holds = h.holds;
  greatest = λ a u lt holds. h.most u (subst (λ i. Holds k spans y s i u) (let first : a ≡ 0 = omega (arith, lt) in first) holds);
  lowest = λ a lt holds. absurd (omega (arith, lt));
}

pub one_more_held : (k : CaseData) (spans : Spans) (y : List ℤ) (s n : ℕ) (p r : Chosen) (v : ℤ) → IsGreatestFor k spans y s n p → IsMostHeld k spans y s n v → IsBetter p v n r → IsGreatestFor k spans y s (n + 1) r
one_more_held k spans y s n p r v h g b = by_lt_z p.number v
    (λ lt.
    let is = b.more lt in
    record {
      range = rw (is.0) g.range;
      in_range = omega (arith, is.1);
      holds = rw (is.0, is.1) g.holds;
      greatest = λ a u below holds. ⊎_elim
          (λ (before : a < n). omega (arith, linear, is.0, lt, h.greatest a u before holds))
          (λ (here : a ≡ n). rw (is.0) (g.most u (subst (λ i. Holds k spans y s i u) here holds)))
          (one_more a n below);
      lowest = λ a below holds.
          let less = h.greatest a r.number (omega (arith, below, is.1)) holds in
          absurd (omega (arith, linear, less, lt, is.0));
    })
    (λ le.
    let same : r ≡ p = b.same le in
    rw same (record {
      range = h.range;
      in_range = omega (arith, h.in_range);
      holds = h.holds;
      greatest = λ a u below holds. ⊎_elim
          (λ (before : a < n). h.greatest a u before holds)
          (λ (here : a ≡ n). omega (arith, linear, le, g.most u (subst (λ i. Holds k spans y s i u) here holds)))
          (one_more a n below);
      lowest = h.lowest;
    }))

-- ---- all states

goal_inside : (k : CaseData) → IsCase k → (s : ℕ) → is_goal k.model s ≡ true → s < length k.model.states
goal_inside k is s g = ⊎_elim
    (λ (lt : s < length k.model.states). lt)
    (λ (past : length k.model.states ≤ s). absurd (let none : is_goal k.model s ≡ false = get_or_past k.model.goal s false (omega (arith, past, is.asked.model.goals)) in (let both : true ≡ false = sym g ∙ none in cc)))
    (in_or_past s (length k.model.states))

module _ (parameters : ParametersAreTheRoots) (k : CaseData) (spans : Spans) (is : IsCase k) (within : IsInside k.root spans) where
  same_width : (s a : ℕ) → parameter_count spans (support (row_at k.model s a)) ≡ parameter_count k.root (support (row_at k.model s a))
  same_width s a = parameters k spans (row_at k.model s a) within.within

  same_whole : (s a : ℕ) (v : ℤ) → v *ℤ whole k.model k.d spans (row_at k.model s a) ≡ v *ℤ row_whole k s a
  same_whole s a v = ap (λ n. v *ℤ (k.model.common *ℤ power k.d n)) (same_width s a)

  at_root : (s a c : ℕ) → c < 2 ^ parameter_count spans (support (row_at k.model s a)) → c < corner_count k s a
  at_root s a c lt = subst (λ n. c < 2 ^ n) (same_width s a) lt

  at_spans : (s a c : ℕ) → c < corner_count k s a → c < 2 ^ parameter_count spans (support (row_at k.model s a))
  at_spans s a c lt = subst (λ n. c < 2 ^ n) (sym (same_width s a)) lt

  covered : (x : List ℤ) (s a : ℕ) (v : ℤ) → Covers k spans x s a v → MeansAtMost k spans (row_at k.model s a) x v
  covered x s a v covers = λ c lt. omega (arith, linear, covers c (at_root s a c lt), same_whole s a v)

  covering : (x : List ℤ) (s a : ℕ) (v : ℤ) → MeansAtMost k spans (row_at k.model s a) x v → Covers k spans x s a v
  covering x s a v means = λ c lt. omega (arith, linear, means c (at_spans s a c lt), same_whole s a v)

  holding : (y : List ℤ) (s a : ℕ) (v : ℤ) → Holds k spans y s a v → MeansAtLeast k spans (row_at k.model s a) (number y) v
  holding y s a v holds = λ c lt. omega (arith, linear, holds c (at_root s a c lt), same_whole s a v)

  held : (y : List ℤ) (s a : ℕ) (v : ℤ) → MeansAtLeast k spans (row_at k.model s a) (number y) v → Holds k spans y s a v
  held y s a v means = λ c lt. omega (arith, linear, means c (at_spans s a c lt), same_whole s a v)

  module _ (z : List ℤ) (size : length z ≡ length k.model.states) where
    numbers_of : ((s : ℕ) → s < length k.model.states → (pos 0 ≤ℤ number z s) × (number z s ≤ℤ pos (2 ^ k.w))) → AreNumbers k z
    numbers_of range = record {
      size = size;
      range = λ i d lt. subst (λ n. (pos 0 ≤ℤ n) × (n ≤ℤ pos (2 ^ k.w))) (sym (get_or_default z i d (pos 0) lt)) (range i (omega (arith, lt, size)));
    }

    none_past : (s : ℕ) → length k.model.states ≤ s → number z s ≡ pos 0
    none_past s past = get_or_past z s (pos 0) (omega (arith, past, size))

  upper_range : (x : List ℤ) (s : ℕ) (v : ℤ) → IsUpperAt k spans x s v → (pos 0 ≤ℤ v) × (v ≤ℤ pos (2 ^ k.w))
  upper_range x s v h = ⊎_elim
      (λ (g : is_goal k.model s ≡ true). rw (h.goal g) (omega (arith, linear), omega (arith, linear)))
      (λ (g : is_goal k.model s ≡ false). (h.other g).range)
      (true_or_false (is_goal k.model s))

  pub least_step_of : (x z : List ℤ) → StepsRise k spans x → length z ≡ length k.model.states → ((s : ℕ) → s < length k.model.states → IsUpperAt k spans x s (number z s)) → IsLeastStep k spans x z
  least_step_of x z rises size each = record {
    upper = record {
      numbers = numbers_of z size (λ s lt. upper_range x s (number z s) (each s lt));
      goal = λ s g. (each s (goal_inside k is s g)).goal g;
      means = λ s g. All-from_get_or (λ row. MeansAtMost k spans row x (number z s)) (choices k.model s) []
          (λ a lt. covered x s a (number z s) (((each s (state_of k.model.states s a lt)).other g).covers a lt));
    };
    least = λ y upper s. ⊎_elim
        (λ (lt : s < length k.model.states). ⊎_elim
        (λ (g : is_goal k.model s ≡ true). omega (arith, linear, (each s lt).goal g, upper.goal s g))
        (λ (g : is_goal k.model s ≡ false).
        ((each s lt).other g).least (number y s) (rises y upper s) (λ a less. covering x s a (number y s) (upper.means s g a [] less)))
        (true_or_false (is_goal k.model s)))
        (λ (past : length k.model.states ≤ s).
        omega (arith, linear, none_past z size s past, none_past y upper.numbers.size s past))
        (in_or_past s (length k.model.states));
  }

  lower_range : (y : List ℤ) (s : ℕ) (v : ℤ) (pick : ℕ) → IsLowerAt k spans y s v pick → (pos 0 ≤ℤ v) × (v ≤ℤ pos (2 ^ k.w))
  lower_range y s v pick h = ⊎_elim
      (λ (g : is_goal k.model s ≡ true). rw ((h.goal g).0) (omega (arith, linear), omega (arith, linear)))
      (λ (g : is_goal k.model s ≡ false). (h.other g).range)
      (true_or_false (is_goal k.model s))

  pub greatest_step_of : (y z : List ℤ) (picks : List ℕ) → length z ≡ length k.model.states → length picks ≡ length k.model.states → ((s : ℕ) → s < length k.model.states → IsLowerAt k spans y s (number z s) (mark picks s)) → IsGreatestStep k spans y z picks
  greatest_step_of y z picks size count each = record {
    lower = record {
      numbers = numbers_of z size (λ s lt. lower_range y s (number z s) (mark picks s) (each s lt));
      size = count;
      goal = λ s g. (each s (goal_inside k is s g)).goal g;
      held = λ s lt g. let h = (each s lt).other g in record { in_range = h.in_range; means = holding y s (mark picks s) (number z s) h.holds };
    };
    greatest = λ x others lower s. ⊎_elim
        (λ (lt : s < length k.model.states). ⊎_elim
        (λ (g : is_goal k.model s ≡ true). omega (arith, linear, ((each s lt).goal g).0, (lower.goal s g).0))
        (λ (g : is_goal k.model s ≡ false).
        let other = lower.held s lt g in
        ((each s lt).other g).greatest (mark others s) (number x s) other.in_range (held y s (mark others s) (number x s) other.means))
        (true_or_false (is_goal k.model s)))
        (λ (past : length k.model.states ≤ s).
        omega (arith, linear, none_past z size s past, none_past x lower.numbers.size s past))
        (in_or_past s (length k.model.states));
    lowest = λ s a g less by. ⊎_elim
        (λ (lt : s < length k.model.states). ((each s lt).other g).lowest a less (held y s a (number z s) by.means))
        (λ (past : length k.model.states ≤ s). absurd (let inside = state_of k.model.states s a by.in_range in omega (arith, inside, past)))
        (in_or_past s (length k.model.states));
  }

-- what holds of each number so far, where one more is written
pub set_more : (P : ℕ → ℤ → Type 0) (x : List ℤ) (s : ℕ) (v : ℤ) → s < length x → P s v → ((i : ℕ) → i < s → P i (number x i)) → (i : ℕ) → i < s + 1 → P i (number (set x s v) i)
set_more P x s v lt here before i less = ⊎_elim
    (λ (earlier : i < s).
    let ne : i ≢ s = λ e. absurd (omega (arith, e, earlier)) in
    let at : number (set x s v) i ≡ number x i = rw get_or-set_other refl in
    subst (P i) (sym at) (before i earlier))
    (λ (same : i ≡ s).
    let at : number (set x s v) s ≡ v = rw get_or-set_same refl in
    subst (λ j. P j (number (set x s v) j)) (sym same) (subst (P s) (sym at) here))
    (one_more i s less)

pub set_both : (P : ℕ → ℤ → ℕ → Type 0) (z : List ℤ) (picks : List ℕ) (s : ℕ) (v : ℤ) (p : ℕ) → s < length z → s < length picks → P s v p → ((i : ℕ) → i < s → P i (number z i) (mark picks i)) → (i : ℕ) → i < s + 1 → P i (number (set z s v) i) (mark (set picks s p) i)
set_both P z picks s v p lt less here before i below = ⊎_elim
    (λ (earlier : i < s).
    let ne : i ≢ s = λ e. absurd (omega (arith, e, earlier)) in
    let at : number (set z s v) i ≡ number z i = rw get_or-set_other refl in
    let choice_at : mark (set picks s p) i ≡ mark picks i = rw get_or-set_other refl in
    subst (λ m. P i (number (set z s v) i) m) (sym choice_at) (subst (λ m. P i m (mark picks i)) (sym at) (before i earlier)))
    (λ (same : i ≡ s).
    let at : number (set z s v) s ≡ v = rw get_or-set_same refl in
    let choice_at : mark (set picks s p) s ≡ p = rw get_or-set_same refl in
    subst (λ j. P j (number (set z s v) j) (mark (set picks s p) j)) (sym same) (subst (λ m. P s (number (set z s v) s) m) (sym choice_at) (subst (λ m. P s m p) (sym at) here)))
    (one_more i s below)
