-- What a number must be to be enough for a choice with a reward.
use Rattle.std.proofs.Common.{◌≡◌, ℕ, ◌*◌, ◌^◌, ◌<◌, ◌≤◌, min, true, List, set, ℤ, pos, negsuc, unsigned_abs, ◌+ℤ◌, ◌-ℤ◌, ◌*ℤ◌, ◌≤ℤ◌, ◌<ℤ◌, refl, sym, subst, arith, pow_mono}
use Rattle.std.proofs.lemmas.Int.{by_lt_z}
use Rattle.lift_poly.proofs.Ring.{linear, mul-comm, mul-le, zero-mul}
use Rattle.lift_grid.specs.Rectangle.{Spans}
use Rattle.lift_model.specs.Model.{row_at}
use Rattle.lift_model.specs.Links.{HasChoice}
use Rattle.corner_lift.specs.Certificate.{AreNumbers, AtMost}
use Rattle.corner_lift.specs.Corner.{corner_sum}
use Rattle.corner_lift.specs.Case.{CaseData, IsCase, IsInside, number, row_value, row_whole, corner_count, most_precision, engine_limit}
use Rattle.corner_lift.specs.Dot.{only_at}
use Rattle.corner_lift.specs.Quotient.{IsRoundedUp}
use Rattle.float_guess.specs.declared.rule.Ends.{Ends}
use Rattle.float_guess.specs.declared.rule.Ends.TheVariants.{Goals, Unranked, Rewarded}
use Rattle.float_guess.specs.Rule.{added, has_rewards}
use Rattle.float_guess.specs.Reward.{reward}
use Rattle.rounded_iter.specs.Rising.{IsEnoughWith, SolvesBy}
use Rattle.rounded_iter.specs.Reward.{CanLeave, IsLeastOver, rest_of}
use Rattle.rounded_iter.proofs.Solving.{RowLaws, mul-lt_cancel, mul-less, whole_positive, own_least, own_most, value_range, set_numbers, value_set, set_below, n_range}

-- what is added is from 0 to 2 ^ w
pub added_range : (k : CaseData) (ends : Ends) (s : ℕ) → (pos 0 ≤ℤ added k ends s) × (added k ends s ≤ℤ pos (2 ^ k.w))
added_range k Goals s = (omega (arith, linear), omega (arith, linear))
added_range k (Unranked ranks) s = (omega (arith, linear), omega (arith, linear))
added_range k (Rewarded t) s = in_range (reward k.w t.costs.now t.cap s)
  where
    in_range : (m : ℕ) → (pos 0 ≤ℤ pos (min (2 ^ k.w) m)) × (pos (min (2 ^ k.w) m) ≤ℤ pos (2 ^ k.w))
    in_range m = (omega (arith, linear), let le : min (2 ^ k.w) m ≤ 2 ^ k.w = grind arith in omega (arith, linear, le))

-- the engine's limit, as a bound of a product
pub room_of : (m : ℕ) (z full : ℤ) → z ≡ full → pos 1 ≤ℤ z → m * unsigned_abs z < engine_limit → (pos m *ℤ full) <ℤ pos engine_limit
room_of m (pos z) full same some lt = subst (λ f. (pos m *ℤ f) <ℤ pos engine_limit) same (let product : m * z < engine_limit = lt in omega (arith, linear, product))
room_of m (negsuc z) full same some lt = absurd (omega (arith, linear, some))

module _ (laws : RowLaws) (k : CaseData) (spans : Spans) (is : IsCase k) (within : IsInside k.root spans) (s a : ℕ) (has : HasChoice k.model s a) (x : List ℤ) (numbers : AreNumbers k x) (c : ℕ) (lt : c < corner_count k s a) (paid : ℤ) where
  abbrev top : ℤ
  top = pos (2 ^ k.w)

  abbrev full : ℤ
  full = row_whole k s a

  abbrev own : ℤ
  own = corner_sum k.d spans (row_at k.model s a) c (only_at s)

  abbrev n : ℤ
  n = number x s

  abbrev S : ℤ
  S = row_value k spans s a x c

  abbrev left : ℤ
  left = full -ℤ own

  abbrev rest : ℤ
  rest = rest_of n paid S full own

  range : (pos 0 ≤ℤ n) × (n ≤ℤ top)
  range = n_range laws k spans is within s a has x numbers

  -- what is known of the numbers of a corner
  pub can_leave : pos 0 ≤ℤ paid → paid ≤ℤ top → (top *ℤ full) <ℤ pos engine_limit → CanLeave n paid top S full own
  can_leave least most room =
      let zero_in = set_numbers laws k spans is within s a has x numbers (pos 0) (omega (arith, linear)) (omega (arith, linear)) in
      let none = value_range laws k spans is within s a has (set x s (pos 0)) zero_in c in
      let small : 2 ^ k.w ≤ 2 ^ most_precision = pow_mono is.asked.precision.1 in
      record {
        number_in = range;
        reward_in = (least, most);
        top_in = omega (arith, linear, small);
        whole_in = whole_positive laws k spans is within s a has;
        own_in = (own_least laws k spans is within s a has c, own_most laws k spans is within s a has c lt);
        sum_in = (omega (arith, linear, none.0, value_set laws k spans is within s a has x numbers (pos 0) c, zero-mul own), (value_range laws k spans is within s a has x numbers c).1);
        room = room;
      }

  left_least : pos 0 ≤ℤ left
  left_least = omega (arith, linear, own_most laws k spans is within s a has c lt)

  -- what other vectors have is enough only if it is enough of this rest
  rest_under : (y : List ℤ) → AtMost x y → (row_value k spans s a y c +ℤ paid *ℤ full) ≤ℤ (number y s *ℤ full) → rest ≤ℤ (number y s *ℤ left)
  rest_under y at h =
      let up = laws.rise k spans s a c (number (set x s (number y s))) (number y) is within (record { state = has.state; choice = has.choice }) (set_below laws k spans is within s a has x numbers (number y s) y at refl) in
      omega (arith, linear, up, h, value_set laws k spans is within s a has x numbers (number y s) c, mul-less (number y s) full own)

  -- v, in place of the state's number, is the least that is enough with what is paid
  pub record Solves (v : ℤ) : Type 0 where
    pub grown : n ≤ℤ v
    pub most : v ≤ℤ top
    pub enough : IsEnoughWith paid k spans (set x s v) s a v c
    pub least : (y : List ℤ) → AtMost x y → IsEnoughWith paid k spans y s a (number y s) c → v ≤ℤ number y s

  still : (S +ℤ paid *ℤ full) ≤ℤ (n *ℤ full) → Solves n
  still le = record {
    grown = omega (arith, linear);
    most = range.1;
    enough = λ below. omega (arith, linear, value_set laws k spans is within s a has x numbers n c, le);
    least = λ y at h. at s;
  }

  capped : (top *ℤ left) <ℤ rest → Solves top
  capped over = record {
    grown = range.1;
    most = omega (arith, linear);
    enough = λ below. absurd (omega (arith, linear, below));
    least = λ y at h. by_lt_z (number y s) top
        (λ less. absurd (omega (arith, linear, over, rest_under y at (h less), mul-le left (number y s) top left_least (omega (arith, linear, less)), mul-comm left (number y s), mul-comm left top)))
        (λ le. le);
  }

  quotient : (q : ℤ) → (n *ℤ full) <ℤ (S +ℤ paid *ℤ full) → pos 1 ≤ℤ left → rest ≤ℤ (top *ℤ left) → IsRoundedUp rest left q → Solves q
  quotient q short some under up =
      let less_top : (q -ℤ pos 1) <ℤ top = mul-lt_cancel left (q -ℤ pos 1) top some (omega (arith, linear, up.1, under)) in
      record {
        grown = let less : n <ℤ q = mul-lt_cancel left n q some (omega (arith, linear, short, up.0, mul-less n full own)) in omega (arith, linear, less);
        most = omega (arith, linear, less_top);
        enough = λ below. omega (arith, linear, value_set laws k spans is within s a has x numbers q c, up.0, mul-less q full own);
        least = λ y at h. by_lt_z (number y s) top
            (λ below.
            let less : (q -ℤ pos 1) <ℤ number y s = mul-lt_cancel left (q -ℤ pos 1) (number y s) some (omega (arith, linear, up.1, rest_under y at (h below))) in
            omega (arith, linear, less))
            (λ le. omega (arith, linear, le, less_top));
      }

  pub least_over_solves : (v : ℤ) → IsLeastOver n top rest left v → Solves v
  least_over_solves v h = by_lt_z (n *ℤ left) rest
      (λ short. by_lt_z (top *ℤ left) rest
      (λ over. subst Solves (sym (h.capped short over)) (capped over))
      (λ under. let found = h.solved short under in quotient v (omega (arith, linear, short, mul-less n full own)) found.1 under found.0))
      (λ le. subst Solves (sym (h.still le)) (still (omega (arith, linear, le, mul-less n full own))))

  -- the same by a rule with rewards
  pub solves_by : (ends : Ends) → has_rewards ends ≡ true → paid ≡ added k ends s → (v : ℤ) → Solves v → SolvesBy ends k spans x s a c v
  solves_by Goals rewards same v h = cc
  solves_by (Unranked ranks) rewards same v h = cc
  solves_by (Rewarded t) rewards same v h = record {
    grown = h.grown;
    most = h.most;
    enough = subst (λ m. IsEnoughWith m k spans (set x s v) s a v c) same h.enough;
    least = λ y at g. h.least y at (subst (λ m. IsEnoughWith m k spans y s a (number y s) c) (sym same) g);
  }
