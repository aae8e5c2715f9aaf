-- The least bound with rewards is the least priced vector, where what was cut off is truly paid for.
use Rattle.std.proofs.Common.{◌≡◌, ℕ, ◌^◌, ◌<◌, ◌≤◌, min, false, List, [], ◌∷◌, length, ℤ, pos, ◌-ℤ◌, ◌*ℤ◌, ◌≤ℤ◌, ◌<ℤ◌, sym, ap, subst, arith}
use Rattle.std.proofs.lemmas.Int.{by_lt_z}
use Rattle.lift_poly.proofs.Ring.{linear, mul-comm, mul-le, mul-le_cancel, mul-zero, one-mul}
use Rattle.lift_grid.specs.Rectangle.{Spans}
use Rattle.lift_model.specs.Model.{row_at, is_goal}
use Rattle.lift_model.specs.Links.{HasChoice, targets_of}
use Rattle.corner_lift.specs.Corner.{AtCorners, corner_sum, whole}
use Rattle.corner_lift.specs.Case.{CaseData, IsCase, IsInside, IsGreatest, number, row_value, row_whole, corner_count}
use Rattle.corner_lift.specs.Certificate.{AreNumbers}
use Rattle.float_guess.specs.declared.rule.Extreme.TheVariants.{Greatest}
use Rattle.float_guess.specs.declared.reward.Rewards.{Rewards}
use Rattle.float_guess.specs.Reward.{reward}
use Rattle.rounded_iter.specs.Rising.{IsEnoughEverywhere, IsEnoughWith, IsLeastBound}
use Rattle.rounded_iter.specs.Priced.{IsPriced, IsLeastPriced, IsPaidFor, IsBeyond, IsCutOff, ArePaid, SomeUnpaid, paying, price}
use Rattle.rounded_iter.proofs.Solving.{RowLaws, less-mul, same_whole, at_root, at_spans, whole_positive, some_corner, value_range, only_value}
use Rattle.rounded_iter.proofs.Raising.{all_rows}

-- ---- the reward, cut off

cut_most : (w m : ℕ) → pos (min (2 ^ w) m) ≤ℤ pos m
cut_most w m = let le : min (2 ^ w) m ≤ m = grind arith in omega (arith, linear, le)

cut_is : (w m : ℕ) → pos m ≤ℤ pos (2 ^ w) → pos (min (2 ^ w) m) ≡ pos m
cut_is w m le = let small : m ≤ 2 ^ w = omega (arith, linear, le) in let same : min (2 ^ w) m ≡ m = grind arith in ap pos same

cut_top : (w m : ℕ) → pos (2 ^ w) <ℤ pos m → pos (min (2 ^ w) m) ≡ pos (2 ^ w)
cut_top w m lt = let large : 2 ^ w < m = omega (arith, linear, lt) in let same : min (2 ^ w) m ≡ 2 ^ w = grind arith in ap pos same

-- a product of less than 0 is less than 0
pub below_none : (a c : ℤ) → pos 1 ≤ℤ c → a <ℤ pos 0 → (a *ℤ c) <ℤ pos 0
below_none a c some lt = by_lt_z (a *ℤ c) (pos 0) (λ less. less) (λ le.
    let least : pos 0 ≤ℤ a = mul-le_cancel c (pos 0) a (omega (arith, linear, some)) (omega (arith, linear, le, mul-zero c, mul-comm c a)) in
    absurd (omega (arith, linear, least, lt)))

-- ---- one row

module _ (laws : RowLaws) (k : CaseData) (spans : Spans) (is : IsCase k) (within : IsInside k.root spans) (s a : ℕ) (has : HasChoice k.model s a) where
  abbrev full : ℤ
  full = row_whole k s a

  abbrev top : ℤ
  top = pos (2 ^ k.w)

  -- with a price m
  module _ (x : List ℤ) (numbers : AreNumbers k x) (n : ℤ) (m c : ℕ) where
    abbrev cut : ℤ
    cut = pos (min (2 ^ k.w) m)

    S_least : pos 0 ≤ℤ row_value k spans s a x c
    S_least = (value_range laws k spans is within s a has x numbers c).0

    pub enough_of_price : row_value k spans s a x c ≤ℤ ((n -ℤ pos m) *ℤ full) → IsEnoughWith cut k spans x s a n c
    enough_of_price h = λ below. omega (arith, linear, h, less-mul n (pos m) full, mul-le full cut (pos m) (omega (arith, linear, whole_positive laws k spans is within s a has)) (cut_most k.w m), mul-comm full cut, mul-comm full (pos m))

    pub price_of_enough : IsEnoughWith cut k spans x s a n c → n <ℤ top → row_value k spans s a x c ≤ℤ ((n -ℤ pos m) *ℤ full)
    price_of_enough h below = by_lt_z top (pos m)
        (λ large.
        let less : (n -ℤ top) <ℤ pos 0 = omega (arith, linear, below) in
        absurd (omega (arith, linear, h below, S_least, ap (λ t. t *ℤ full) (cut_top k.w m large), below_none (n -ℤ top) full (whole_positive laws k spans is within s a has) less, less-mul n top full)))
        (λ small. omega (arith, linear, h below, ap (λ t. t *ℤ full) (cut_is k.w m small), less-mul n (pos m) full))

  -- what is left of 2 ^ w without the price decides whether 2 ^ w pays
  module _ (x : List ℤ) (numbers : AreNumbers k x) (prices : ℕ → ℤ) where
    pub dear_beyond : top <ℤ prices s → IsBeyond k spans prices x s a
    dear_beyond large =
        let less : (top -ℤ prices s) <ℤ pos 0 = omega (arith, linear, large) in
        (0, (some_corner laws k spans is within s a has, omega (arith, linear, below_none (top -ℤ prices s) full (whole_positive laws k spans is within s a has) less, (value_range laws k spans is within s a has x numbers 0).0)))

    module _ (z rest : ℤ) (greatest : IsGreatest (row_value k spans s a x) (corner_count k s a) z) (same : rest ≡ top -ℤ prices s) where
      pub paid_by : z ≤ℤ (rest *ℤ full) → IsPaidFor k spans prices x s a
      paid_by le c lt = omega (arith, linear, greatest.most c lt, le, ap (λ m. m *ℤ full) same)

      pub beyond_by : (rest *ℤ full) <ℤ z → IsBeyond k spans prices x s a
      beyond_by lt = (greatest.attained.0, (greatest.attained.1.0, omega (arith, linear, greatest.attained.1.1, lt, ap (λ m. m *ℤ full) same)))

  product : (n : ℤ) → n *ℤ whole k.model k.d spans (row_at k.model s a) ≡ n *ℤ full
  product n = ap (λ w. n *ℤ w) (same_whole laws k spans is within s a has)

-- ---- vectors

module _ (laws : RowLaws) (k : CaseData) (spans : Spans) (is : IsCase k) (within : IsInside k.root spans) (t : Rewards) where
  abbrev prices : ℕ → ℤ
  prices s = price k.w t s

  abbrev cost : ℕ → ℕ
  cost s = reward k.w t.costs.now t.cap s

  -- a priced vector is a bound
  pub bound_of_priced : (y : List ℤ) → IsPriced k spans prices y → IsEnoughEverywhere (paying t) k spans y
  bound_of_priced y h = record {
    numbers = h.numbers;
    given = h.goal;
    enough = λ s state g a lt c at.
        let has : HasChoice k.model s a = record { state = state; choice = lt } in
        enough_of_price laws k spans is within s a has y h.numbers (number y s) (cost s) c
        (omega (arith, linear, h.means s g a [] lt c (at_spans laws k spans is within s a has c at), product laws k spans is within s a has (number y s -ℤ prices s)));
  }

  pub least_priced_of : (x : List ℤ) → IsLeastBound (paying t) k spans x → ArePaid k spans prices x (length k.model.states) → IsLeastPriced k spans prices x
  least_priced_of x h paid = record {
    priced = record {
      numbers = h.bound.numbers;
      goal = h.bound.given;
      means = λ s g. all_rows k.model (λ row. AtCorners spans row (λ c. corner_sum k.d spans row c (number x) ≤ℤ ((number x s -ℤ prices s) *ℤ whole k.model k.d spans row))) s (λ a has c lt.
          let at = at_root laws k spans is within s a has c lt in
          omega (arith, linear, row_paid s g a has c at, product laws k spans is within s a has (number x s -ℤ prices s)));
    };
    least = λ y priced. h.least y (bound_of_priced y priced);
  }
    where
      row_paid : (s : ℕ) → is_goal k.model s ≡ false → (a : ℕ) → HasChoice k.model s a → (c : ℕ) → c < corner_count k s a → row_value k spans s a x c ≤ℤ ((number x s -ℤ prices s) *ℤ row_whole k s a)
      row_paid s g a has c at = by_lt_z (number x s) (pos (2 ^ k.w))
          (λ below. price_of_enough laws k spans is within s a has x h.bound.numbers (number x s) (cost s) c (h.bound.enough s has.state g a has.choice c at) below)
          (λ le.
          let same : number x s ≡ pos (2 ^ k.w) = omega (arith, linear, le, (laws.numbers k x s h.bound.numbers).1) in
          subst (λ n. row_value k spans s a x c ≤ℤ ((n -ℤ prices s) *ℤ row_whole k s a)) (sym same) (paid s has.state (g, same) a has.choice c at))

  -- where some number that was cut off isn't paid for, there is none
  pub none_priced : (x : List ℤ) → IsLeastBound (paying t) k spans x → SomeUnpaid k spans prices x → (y : List ℤ) → IsPriced k spans prices y → ⊥
  none_priced x h some y priced =
      let s = some.0 in
      let cut : IsCutOff k x s = some.1.1.0 in
      let one = some.1.1.1 in
      let a = one.0 in
      let beyond : IsBeyond k spans prices x s a = one.1.1 in
      let has : HasChoice k.model s a = record { state = some.1.0; choice = one.1.0 } in
      let c = beyond.0 in
      let under = h.least y (bound_of_priced y priced) in
      let up = laws.rise k spans s a c (number x) (number y) is within (record { state = has.state; choice = has.choice }) under in
      let means = priced.means s cut.0 a [] has.choice c (at_spans laws k spans is within s a has c beyond.1.0) in
      let full = row_whole k s a in
      let most = mul-le full (number y s -ℤ prices s) (pos (2 ^ k.w) -ℤ prices s) (omega (arith, linear, whole_positive laws k spans is within s a has)) (omega (arith, linear, (laws.numbers k y s priced.numbers).1)) in
      absurd (omega (arith, linear, beyond.1.1, up, means, product laws k spans is within s a has (number y s -ℤ prices s), most, mul-comm full (number y s -ℤ prices s), mul-comm full (pos (2 ^ k.w) -ℤ prices s)))

  -- where a choice leads back to its state alone, and that costs something, there is none
  pub none_endless : (s a : ℕ) → HasChoice k.model s a → is_goal k.model s ≡ false → targets_of (row_at k.model s a) ≡ s ∷ [] → 0 < cost s → (y : List ℤ) → IsPriced k spans prices y → ⊥
  none_endless s a has free only some y priced =
      let c : ℕ = 0 in
      let at : c < corner_count k s a = some_corner laws k spans is within s a has in
      let full = row_whole k s a in
      let same = only_value laws k spans is within s a has y priced.numbers Greatest s only c at (number y) in
      let means = priced.means s free a [] has.choice c (at_spans laws k spans is within s a has c at) in
      let positive = whole_positive laws k spans is within s a has in
      let dear : pos 1 ≤ℤ prices s = omega (arith, linear, some) in
      let paid = mul-le full (pos 1) (prices s) (omega (arith, linear, positive)) dear in
      absurd (omega (arith, linear, means, product laws k spans is within s a has (number y s -ℤ prices s), same, less-mul (number y s) (prices s) full, mul-comm full (number y s), mul-comm full (prices s), mul-comm full (pos 1), one-mul full, paid, positive))
