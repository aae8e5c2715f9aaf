-- What a number must be to be enough for a row without a self loop, with a reward.
use Rattle.std.proofs.Common.{◌≡◌, ◌≢◌, ⊎_elim, ℕ, zero, suc, ◌^◌, ◌<◌, ◌≤◌, true, List, [], ◌∷◌, set, ℤ, pos, negsuc, unsigned_abs, SFits, w64, ◌+ℤ◌, ◌-ℤ◌, ◌*ℤ◌, ◌≤ℤ◌, ◌<ℤ◌, refl, ap, sym, subst, ◌∙◌, arith, get_or-set_other, Contains}
use Rattle.std.proofs.lemmas.Int.{ints, by_lt_z, fits_signed_from_abs}
use Rattle.lift_poly.proofs.Ring.{linear, mul-comm, mul-add, add-mul, mul-zero, mul-le, mul-le_cancel}
use Rattle.lift_grid.specs.Rectangle.{Spans}
use Rattle.lift_model.specs.Model.{ModelData, row_at, support, moves_at}
use Rattle.lift_model.specs.Links.{HasChoice, targets_of}
use Rattle.lift_model.specs.OnlyRow.{IsSingleRow}
use Rattle.lift_model.specs.Process.{weighted_sum}
use Rattle.corner_lift.specs.Dot.{only_at}
use Rattle.corner_lift.specs.Laws.{HasRow}
use Rattle.corner_lift.specs.Certificate.{AreNumbers, AtMost}
use Rattle.corner_lift.specs.Corner.{corner}
use Rattle.corner_lift.specs.Case.{CaseData, IsCase, IsInside, number, row_value, row_whole, corner_count}
use Rattle.corner_lift.specs.Quotient.{IsRoundedUp, IsRoundedUpFrom}
use Rattle.float_guess.specs.declared.rule.Extreme.{Extreme}
use Rattle.float_guess.specs.declared.rule.Extreme.TheVariants.{Greatest, Least}
use Rattle.float_guess.specs.declared.rule.Ends.{Ends}
use Rattle.float_guess.specs.declared.rule.Ends.TheVariants.{Goals, Unranked, Rewarded}
use Rattle.float_guess.specs.Rule.{added, has_rewards}
use Rattle.rounded_iter.specs.Rising.{Across, IsExtreme, IsMoreExtreme, IsEnoughWith, IsSolvedFor}
use Rattle.rounded_iter.specs.Reward.{IsBefore, IsAfter}
use Rattle.rounded_iter.proofs.Solving.{RowLaws, mul-lt_cancel, less-mul, own_none, value_set, n_range, some_corner, some_at, only_value, across_map, extreme_holds, extreme_from, extreme_least}

-- what is left of a number is no larger
pub before_small : (w : ℕ) (n reward left : ℤ) → n ≤ℤ pos (2 ^ w) → IsBefore n reward left → unsigned_abs left ≤ 2 ^ w
before_small w n reward left most is = omega (arith, ints, most, is.least, is.most)

-- a sum up to a number that fits
pub sum_fits : (n reward top : ℤ) → SFits w64 top → pos 0 ≤ℤ n → pos 0 ≤ℤ reward → (n +ℤ reward) ≤ℤ top → SFits w64 (n +ℤ reward)
sum_fits n reward (pos top) fits least some le = fits_signed_from_abs w64 (n +ℤ reward) (omega (arith, ints, linear, fits.sfits, least, some, le))
sum_fits n reward (negsuc top) fits least some le = absurd (omega (arith, linear, least, some, le))

-- what is rounded up from a number is at least that
pub from_least : (left z full q : ℤ) → pos 1 ≤ℤ full → IsRoundedUpFrom left z full q → left ≤ℤ q
from_least left z full q positive found = ⊎_elim
    (λ (still : (q ≡ left) × (z ≤ℤ (left *ℤ full))). omega (arith, linear, still.0))
    (λ (rose : ((left *ℤ full) <ℤ z) × IsRoundedUp z full q).
    let less : left <ℤ q = mul-lt_cancel full left q positive (omega (arith, linear, rose.0, rose.1.0)) in
    omega (arith, linear, less))
    found

-- the least number that is enough with what is added, by a rule with rewards
solved_with : (k : CaseData) (spans : Spans) (s a : ℕ) (x : List ℤ) (e : Extreme) (all : ℕ) (paid v : ℤ) → number x s ≤ℤ v → v ≤ℤ pos (2 ^ k.w) → Across e all (IsEnoughWith paid k spans (set x s v) s a v) → ((y : List ℤ) → AtMost x y → Across e all (λ c. IsEnoughWith paid k spans y s a (number y s) c) → v ≤ℤ number y s) → (ends : Ends) → has_rewards ends ≡ true → paid ≡ added k ends s → IsSolvedFor ends e k spans x s a all v
solved_with k spans s a x e all paid v grown most enough least Goals rewards same = cc
solved_with k spans s a x e all paid v grown most enough least (Unranked ranks) rewards same = cc
solved_with k spans s a x e all paid v grown most enough least (Rewarded t) rewards same = record {
  grown = grown;
  most = most;
  enough = subst (λ m. Across e all (IsEnoughWith m k spans (set x s v) s a v)) same enough;
  least = λ y at h. least y at (subst (λ m. Across e all (λ c. IsEnoughWith m k spans y s a (number y s) c)) (sym same) h);
}

module _ (laws : RowLaws) (k : CaseData) (spans : Spans) (is : IsCase k) (within : IsInside k.root spans) (s a : ℕ) (has : HasChoice k.model s a) (x : List ℤ) (numbers : AreNumbers k x) (e : Extreme) (z : ℤ) (extreme : IsExtreme e (row_value k spans s a x) (corner_count k s a) z) (none : Contains (targets_of (row_at k.model s a)) s → ⊥) (positive : pos 1 ≤ℤ row_whole k s a) where
  abbrev top : ℤ
  top = pos (2 ^ k.w)

  abbrev full : ℤ
  full = row_whole k s a

  abbrev n : ℤ
  n = number x s

  abbrev all : ℕ
  all = corner_count k s a

  abbrev S : ℕ → ℤ
  S c = row_value k spans s a x c

  nothing : (c : ℕ) (m : ℤ) → m *ℤ weighted_sum (only_at s) (moves_at (corner k.d spans (support (row_at k.model s a)) c) (row_at k.model s a)) ≡ pos 0
  nothing c m = ap (λ w. m *ℤ w) (own_none (corner k.d spans (support (row_at k.model s a)) c) s (row_at k.model s a) none) ∙ mul-zero m

  -- the state's own number is no matter
  value_same : (v : ℤ) (c : ℕ) → row_value k spans s a (set x s v) c ≡ S c
  value_same v c = omega (arith, linear, value_set laws k spans is within s a has x numbers v c, nothing c v, nothing c n)

  module _ (paid left q v : ℤ) (before : IsBefore n paid left) (found : IsRoundedUpFrom left z full q) (after : IsAfter q paid top v) where
    reached : z ≤ℤ (q *ℤ full)
    reached = ⊎_elim
        (λ (still : (q ≡ left) × (z ≤ℤ (left *ℤ full))). rw still.0 still.1)
        (λ (rose : ((left *ℤ full) <ℤ z) × IsRoundedUp z full q). rose.1.0)
        found

    not_less : left ≤ℤ q
    not_less = from_least left z full q positive found

    grown : n ≤ℤ v
    grown = ⊎_elim
        (λ (e : v ≡ top). omega (arith, linear, e, (n_range laws k spans is within s a has x numbers).1))
        (λ (e : v ≡ q +ℤ paid). omega (arith, linear, e, before.enough, not_less))
        after.cut

    enough : Across e all (IsEnoughWith paid k spans (set x s v) s a v)
    enough = across_map e all (λ c. S c ≤ℤ (q *ℤ full)) (IsEnoughWith paid k spans (set x s v) s a v)
        (λ c lt h. λ below. omega (arith, linear, value_same v c, h, ap (λ i. i *ℤ full) (after.all below), add-mul q paid full))
        (extreme_holds e S all z (q *ℤ full) extreme reached)

    -- what is left of a number that is enough is at least what was found
    under : (y : List ℤ) → AtMost x y → z ≤ℤ ((number y s -ℤ paid) *ℤ full) → q ≤ℤ (number y s -ℤ paid)
    under y at le =
        let bound = number y s -ℤ paid in
        let least = extreme_least laws k spans is within s a has x numbers e z extreme in
        let some : pos 0 ≤ℤ bound = mul-le_cancel full (pos 0) bound (omega (arith, linear, positive)) (omega (arith, linear, least, le, mul-zero full, mul-comm bound full)) in
        ⊎_elim
        (λ (still : (q ≡ left) × (z ≤ℤ (left *ℤ full))). ⊎_elim
        (λ (e : left ≡ pos 0). omega (arith, linear, still.0, e, some))
        (λ (e : left +ℤ paid ≡ n). omega (arith, linear, still.0, e, at s))
        before.tight)
        (λ (rose : ((left *ℤ full) <ℤ z) × IsRoundedUp z full q).
        let less : (q -ℤ pos 1) <ℤ bound = mul-lt_cancel full (q -ℤ pos 1) bound positive (omega (arith, linear, rose.1.1, le)) in
        omega (arith, linear, less))
        found

    least : (y : List ℤ) → AtMost x y → Across e all (λ c. IsEnoughWith paid k spans y s a (number y s) c) → v ≤ℤ number y s
    least y at h = by_lt_z (number y s) top
        (λ below.
        let bound = number y s -ℤ paid in
        let row_of : HasRow k s a = record { state = has.state; choice = has.choice } in
        let le : z ≤ℤ (bound *ℤ full) = extreme_from e S (row_value k spans s a y) all z (bound *ℤ full) extreme
        (λ c. laws.rise k spans s a c (number x) (number y) is within row_of at)
        (across_map e all (λ c. IsEnoughWith paid k spans y s a (number y s) c) (λ c. row_value k spans s a y c ≤ℤ (bound *ℤ full)) (λ c lt g. omega (arith, linear, g below, less-mul (number y s) paid full)) h) in
        omega (arith, linear, under y at le, after.within))
        (λ le. omega (arith, linear, le, after.most))

    -- the least number that is enough, by a rule with rewards
    pub lone_rewarded : (ends : Ends) → has_rewards ends ≡ true → paid ≡ added k ends s → IsSolvedFor ends e k spans x s a all v
    lone_rewarded ends rewards same = solved_with k spans s a x e all paid v grown after.most enough least ends rewards same

-- ---- rows with one entry, which leads to another state

pub single_others : (m : ModelData) (s t : ℕ) → IsSingleRow m s t → Contains (targets_of (row_at m s 0)) s → ⊥
single_others m s t one at = neither t one.other (subst (λ list. Contains list s) one.targets at)
  where
    neither : (t : ℕ) → t ≢ s → Contains (t ∷ []) s → ⊥
    neither t a (zero, lt, e) = a e
    neither t a (suc i, lt, e) = absurd (omega (arith, lt))

target_other : (targets : List ℕ) (s t : ℕ) → targets ≡ t ∷ [] → (Contains targets s → ⊥) → t ≢ s
target_other targets s t only none e = none (subst (λ list. Contains list s) (sym only) (zero, omega arith, e))

module _ (laws : RowLaws) (k : CaseData) (spans : Spans) (is : IsCase k) (within : IsInside k.root spans) (s a : ℕ) (has : HasChoice k.model s a) (x : List ℤ) (numbers : AreNumbers k x) (e : Extreme) (target : ℕ) (only : targets_of (row_at k.model s a) ≡ target ∷ []) (none : Contains (targets_of (row_at k.model s a)) s → ⊥) (positive : pos 1 ≤ℤ row_whole k s a) (paid q v : ℤ) (after : IsAfter (number x target) paid (pos (2 ^ k.w)) q) (more : IsMoreExtreme Greatest (number x s) q v) where
  abbrev W : ℤ
  W = row_whole k s a

  abbrev corners : ℕ
  corners = corner_count k s a

  most : v ≤ℤ pos (2 ^ k.w)
  most = ⊎_elim
      (λ (same : v ≡ number x s). omega (arith, linear, same, (n_range laws k spans is within s a has x numbers).1))
      (λ (same : v ≡ q). omega (arith, linear, same, after.most))
      more.2

  value : (y : List ℤ) (c : ℕ) → c < corners → row_value k spans s a y c ≡ W *ℤ number y target
  value y c lt = only_value laws k spans is within s a has x numbers e target only c lt (number y)

  at_corner : (c : ℕ) → c < corners → IsEnoughWith paid k spans (set x s v) s a v c
  at_corner c lt = λ below.
      let ne : target ≢ s = target_other (targets_of (row_at k.model s a)) s target only none in
      let same : number (set x s v) target ≡ number x target = rw get_or-set_other refl in
      let due : q ≡ number x target +ℤ paid = after.all (omega (arith, linear, below, more.1)) in
      let le : (number x target +ℤ paid) ≤ℤ v = omega (arith, linear, due, more.1) in
      omega (arith, linear, value (set x s v) c lt, ap (λ m. W *ℤ m) same, mul-add W (number x target) paid, mul-le W (number x target +ℤ paid) v (omega (arith, linear, positive)) le, mul-comm W v, mul-comm W paid)

  enough_at : (d : Extreme) → Across d corners (IsEnoughWith paid k spans (set x s v) s a v)
  enough_at Greatest = λ c lt. at_corner c lt
  enough_at Least = (0, (some_corner laws k spans is within s a has, at_corner 0 (some_corner laws k spans is within s a has)))

  least_one : (y : List ℤ) → AtMost x y → Across e corners (λ c. IsEnoughWith paid k spans y s a (number y s) c) → v ≤ℤ number y s
  least_one y at h = by_lt_z (number y s) (pos (2 ^ k.w))
      (λ below.
      let one = some_at e corners (IsEnoughWith paid k spans y s a (number y s)) (some_corner laws k spans is within s a has) h in
      let sum : (row_value k spans s a y one.0 +ℤ paid *ℤ W) ≤ℤ (number y s *ℤ W) = one.1.1 below in
      let le : (number y target +ℤ paid) ≤ℤ number y s = mul-le_cancel W (number y target +ℤ paid) (number y s) (omega (arith, linear, positive)) (omega (arith, linear, sum, value y one.0 one.1.0, mul-add W (number y target) paid, mul-comm W paid, mul-comm W (number y s))) in
      ⊎_elim
      (λ (same : v ≡ number x s). omega (arith, linear, same, at s))
      (λ (same : v ≡ q). omega (arith, linear, same, after.within, at target, le))
      more.2)
      (λ le. omega (arith, linear, le, most))

  -- the target's number with the reward, if it is greater than the state's own
  pub single_rewarded : (ends : Ends) → has_rewards ends ≡ true → paid ≡ added k ends s → IsSolvedFor ends e k spans x s a corners v
  single_rewarded ends rewards same = solved_with k spans s a x e corners paid v more.0 most (enough_at e) least_one ends rewards same
