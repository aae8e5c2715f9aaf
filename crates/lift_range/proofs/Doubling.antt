-- Vectors and certificates with each number doubled, at a greater precision.
use Rattle.std.proofs.Common.{◌≡◌, ℕ, zero, suc, ◌+◌, ◌-◌, ◌^◌, ◌≤◌, Bool, true, false, List, [], ◌∷◌, All, ℤ, pos, ◌*ℤ◌, ◌≤ℤ◌, ◌<ℤ◌, refl, sym, ap, ◌∙◌, subst, arith}
use Rattle.std.proofs.lemmas.List.{length-map}
use Rattle.std.proofs.lemmas.List.Elements.{All-map}
use Rattle.std.proofs.lemmas.Nat.{pow-add, pow_pos}
use Rattle.lift_poly.proofs.Ring.{linear, mul-comm, mul-assoc, add-mul, zero-mul, mul-le, mul-lt, mul-nonneg}
use Rattle.lift_grid.specs.Rectangle.{Spans}
use Rattle.lift_grid.specs.Tree.{RejectData}
use Rattle.lift_model.specs.declared.entry.Entry.{Entry}
use Rattle.lift_model.specs.Process.{Move, weighted_sum}
use Rattle.lift_model.specs.Model.{choices, support, moves_at}
use Rattle.corner_lift.specs.Corner.{corner, corner_sum, whole}
use Rattle.corner_lift.specs.Case.{CaseData, at, number}
use Rattle.corner_lift.specs.Certificate.{AreNumbers, MeansAtMost, MeansAtLeast, IsUpper, IsLower}
use Rattle.lift_cert.specs.declared.bound.Bound.{Bound}
use Rattle.lift_cert.specs.Certificate.{IsAccepting, IsRejecting, IsWithin, IsBeyond}
use Rattle.lift_cert.specs.Laws.{NotBothKinds}
use Rattle.lower_cert.specs.AnyRanks.{IsUnboundedLower}
use Rattle.property_text.specs.declared.op.Op.TheVariants.{AtMost, Below, AtLeast, Above}
use Rattle.lift_dual.specs.Sides.{RowHolds, IsUpperOne, IsLowerAll}
use Rattle.lift_range.specs.Doubled.{doubled, doubled_data, doubled_unbounded}
use Rattle.lift_range.specs.Laws.{AcceptingDoubles, RejectingDoubles, NoneAcceptsBelow, NoneRejectsBelow, NotBothKindsAtPrecisions, UpperDoubles, UpperOneDoubles, LowerDoubles, LowerAllDoubles, UnboundedLowerDoubles, LowSideDoubles, HighSideDoubles}

-- ---- numbers

-- a state's number, doubled; past the end both are 0
number_doubled : (s : ℕ) (x : List ℤ) (i : ℕ) → number (doubled s x) i ≡ number x i *ℤ pos (2 ^ s)
number_doubled s [] i = sym (zero-mul (pos (2 ^ s)))
number_doubled s (n ∷ x) zero = refl
number_doubled s (n ∷ x) (suc i) = number_doubled s x i

-- a weighted sum of multiples
sum_scaled : (q : ℤ) (x z : ℕ → ℤ) → ((t : ℕ) → z t ≡ x t *ℤ q) → (moves : List Move) → weighted_sum z moves ≡ weighted_sum x moves *ℤ q
sum_scaled q x z same [] = sym (zero-mul q)
sum_scaled q x z same (m ∷ moves) = omega (arith, linear, sum_scaled q x z same moves, add-mul (m.1 *ℤ x m.0) (weighted_sum x moves) q, mul-assoc m.1 (x m.0) q, ap (λ n. m.1 *ℤ n) (same m.0))

sum_doubled : (d : ℤ) (spans : Spans) (row : List Entry) (c s : ℕ) (x : List ℤ) → corner_sum d spans row c (number (doubled s x)) ≡ corner_sum d spans row c (number x) *ℤ pos (2 ^ s)
sum_doubled d spans row c s x = sum_scaled (pos (2 ^ s)) (number x) (number (doubled s x)) (number_doubled s x) (moves_at (corner d spans (support row) c) row)

power_sum : (u s : ℕ) → pos (2 ^ (u + s)) ≡ pos (2 ^ u) *ℤ pos (2 ^ s)
power_sum u s = ap pos (pow-add 2 u s)

-- 2 ^ s isn't negative
not_negative : (s : ℕ) → pos 0 ≤ℤ pos (2 ^ s)
not_negative s = omega (arith, linear)

above_zero : (s : ℕ) → pos 0 <ℤ pos (2 ^ s)
above_zero s = omega (arith, linear, pow_pos s)

-- inequalities between products, both sides times 2 ^ s
scaled_le : (s : ℕ) (a b : ℤ) → a ≤ℤ b → (a *ℤ pos (2 ^ s)) ≤ℤ (b *ℤ pos (2 ^ s))
scaled_le s a b le = omega (arith, linear, mul-le (pos (2 ^ s)) a b (not_negative s) le, mul-comm (pos (2 ^ s)) a, mul-comm (pos (2 ^ s)) b)

scaled_lt : (s : ℕ) (a b : ℤ) → a <ℤ b → (a *ℤ pos (2 ^ s)) <ℤ (b *ℤ pos (2 ^ s))
scaled_lt s a b lt = omega (arith, linear, mul-lt (pos (2 ^ s)) a b (above_zero s) lt, mul-comm (pos (2 ^ s)) a, mul-comm (pos (2 ^ s)) b)

swap : (a b c : ℤ) → (a *ℤ b) *ℤ c ≡ (a *ℤ c) *ℤ b
swap a b c = mul-assoc a b c ∙ ap (λ z. a *ℤ z) (mul-comm b c) ∙ sym (mul-assoc a c b)

All-each : {X : Type 0} (P Q : X → Type 0) → ((x : X) → P x → Q x) → (xs : List X) → All P xs → All Q xs
All-each P Q f xs h i d lt = f _ (h i d lt)

-- ---- vectors

module _ (k : CaseData) (spans : Spans) (u s : ℕ) where
  numbers_double : (x : List ℤ) → AreNumbers (at k u) x → AreNumbers (at k (u + s)) (doubled s x)
  numbers_double x h = record {
    size = length-map x (λ n. n *ℤ pos (2 ^ s)) ∙ h.size;
    range = All-map (λ n. (pos 0 ≤ℤ n) × (n ≤ℤ pos (2 ^ (u + s)))) (λ n. n *ℤ pos (2 ^ s)) x
        (All-each (λ n. (pos 0 ≤ℤ n) × (n ≤ℤ pos (2 ^ u))) (λ n. (pos 0 ≤ℤ (n *ℤ pos (2 ^ s))) × ((n *ℤ pos (2 ^ s)) ≤ℤ pos (2 ^ (u + s)))) (λ n in_range.
        (mul-nonneg n (pos (2 ^ s)) in_range.0 (not_negative s), omega (arith, linear, scaled_le s n (pos (2 ^ u)) in_range.1, power_sum u s))) x h.range);
  }

  top_doubled : (x : List ℤ) (i : ℕ) → number x i ≡ pos (2 ^ u) → number (doubled s x) i ≡ pos (2 ^ (u + s))
  top_doubled x i is = number_doubled s x i ∙ ap (λ n. n *ℤ pos (2 ^ s)) is ∙ sym (power_sum u s)

  most_doubled : (row : List Entry) (x : List ℤ) (i : ℕ) → MeansAtMost (at k u) spans row x (number x i) → MeansAtMost (at k (u + s)) spans row (doubled s x) (number (doubled s x) i)
  most_doubled row x i most c lt =
      let all = whole k.model k.d spans row in
      let sum = corner_sum k.d spans row c (number x) in
      rw (sum_doubled k.d spans row c s x, number_doubled s x i) (omega (arith, linear, scaled_le s sum (number x i *ℤ all) (most c lt), swap (number x i) all (pos (2 ^ s))))

  least_doubled : (row : List Entry) (x : List ℤ) (i : ℕ) → MeansAtLeast (at k u) spans row (number x) (number x i) → MeansAtLeast (at k (u + s)) spans row (number (doubled s x)) (number (doubled s x) i)
  least_doubled row x i least c lt =
      let all = whole k.model k.d spans row in
      let sum = corner_sum k.d spans row c (number x) in
      rw (sum_doubled k.d spans row c s x, number_doubled s x i) (omega (arith, linear, scaled_le s (number x i *ℤ all) sum (least c lt), swap (number x i) all (pos (2 ^ s))))

pub uppers_double : UpperDoubles
uppers_double k spans u s x h = record {
  numbers = numbers_double k spans u s x h.numbers;
  goal = λ i is. top_doubled k spans u s x i (h.goal i is);
  means = λ i is. All-each (λ row. MeansAtMost (at k u) spans row x (number x i)) (λ row. MeansAtMost (at k (u + s)) spans row (doubled s x) (number (doubled s x) i)) (λ row. most_doubled k spans u s row x i) (choices k.model i) (h.means i is);
}

pub lowers_double : LowerDoubles
lowers_double k spans u s r h = record {
  numbers = numbers_double k spans u s r.numbers h.numbers;
  sizes = h.sizes;
  marks = h.marks;
  bounds = h.bounds;
  goal = λ i is. (top_doubled k spans u s r.numbers i (h.goal i is).0, (h.goal i is).1, (h.goal i is).2);
  unranked = λ i is past. (number_doubled s r.numbers i ∙ ap (λ n. n *ℤ pos (2 ^ s)) (h.unranked i is past).0 ∙ zero-mul (pos (2 ^ s)), (h.unranked i is past).1);
  held = λ i is lt. let held = h.held i is lt in record {
    rank = held.rank;
    pick = held.pick;
    means = least_doubled k spans u s _ r.numbers i held.means;
    rates = held.rates;
  };
}

pub uppers_one_double : UpperOneDoubles
uppers_one_double k spans u s x picks h = record {
  numbers = numbers_double k spans u s x h.numbers;
  size = h.size;
  goal = λ i is. (top_doubled k spans u s x i (h.goal i is).0, (h.goal i is).1);
  pick = h.pick;
  means = λ i lt is. most_doubled k spans u s _ x i (h.means i lt is);
}

pub lowers_all_double : LowerAllDoubles
lowers_all_double k spans u s r h = record {
  numbers = numbers_double k spans u s r.numbers h.numbers;
  sizes = h.sizes;
  marks = h.marks;
  bounds = h.bounds;
  goal = λ i is. (top_doubled k spans u s r.numbers i (h.goal i is).0, (h.goal i is).1);
  unranked = λ i is past. number_doubled s r.numbers i ∙ ap (λ n. n *ℤ pos (2 ^ s)) (h.unranked i is past) ∙ zero-mul (pos (2 ^ s));
  held = λ i is lt. let held = h.held i is lt in record {
    rank = held.rank;
    rows = All-each (RowHolds (at k u) spans r i) (RowHolds (at k (u + s)) spans (doubled_data s r) i) (λ row holds. record { means = least_doubled k spans u s row r.numbers i holds.means; rates = holds.rates }) (choices k.model i) held.rows;
  };
}

pub unbounded_double : UnboundedLowerDoubles
unbounded_double k spans u s r h = record {
  numbers = numbers_double k spans u s r.numbers h.numbers;
  bounds = h.bounds;
  goal = λ i is. (top_doubled k spans u s r.numbers i (h.goal i is).0, (h.goal i is).1, (h.goal i is).2);
  unranked = λ i is past. (number_doubled s r.numbers i ∙ ap (λ n. n *ℤ pos (2 ^ s)) (h.unranked i is past).0 ∙ zero-mul (pos (2 ^ s)), (h.unranked i is past).1);
  held = λ i rank is some. let held = h.held i rank is some in record {
    range = held.range;
    choice = held.choice;
    is_choice = held.is_choice;
    in_range = held.in_range;
    means = least_doubled k spans u s _ r.numbers i held.means;
    rates = held.rates;
  };
}

-- ---- certificates

module _ (bound : Bound) (u s : ℕ) (n : ℤ) where
  within_doubles : IsWithin bound u n → IsWithin bound (u + s) (n *ℤ pos (2 ^ s))
  within_doubles h =
      omega (arith, linear, scaled_le s (n *ℤ pos bound.den) (pos bound.num *ℤ pos (2 ^ u)) h, swap n (pos bound.den) (pos (2 ^ s)), mul-assoc (pos bound.num) (pos (2 ^ u)) (pos (2 ^ s)), ap (λ z. pos bound.num *ℤ z) (power_sum u s))

  beyond_doubles : IsBeyond bound u n → IsBeyond bound (u + s) (n *ℤ pos (2 ^ s))
  beyond_doubles h =
      omega (arith, linear, scaled_lt s (pos bound.num *ℤ pos (2 ^ u)) (n *ℤ pos bound.den) h, swap n (pos bound.den) (pos (2 ^ s)), mul-assoc (pos bound.num) (pos (2 ^ u)) (pos (2 ^ s)), ap (λ z. pos bound.num *ℤ z) (power_sum u s))

  below_doubles : (n *ℤ pos bound.den) <ℤ (pos bound.num *ℤ pos (2 ^ u)) → ((n *ℤ pos (2 ^ s)) *ℤ pos bound.den) <ℤ (pos bound.num *ℤ pos (2 ^ (u + s)))
  below_doubles h =
      omega (arith, linear, scaled_lt s (n *ℤ pos bound.den) (pos bound.num *ℤ pos (2 ^ u)) h, swap n (pos bound.den) (pos (2 ^ s)), mul-assoc (pos bound.num) (pos (2 ^ u)) (pos (2 ^ s)), ap (λ z. pos bound.num *ℤ z) (power_sum u s))

  above_doubles : (pos bound.num *ℤ pos (2 ^ u)) ≤ℤ (n *ℤ pos bound.den) → (pos bound.num *ℤ pos (2 ^ (u + s))) ≤ℤ ((n *ℤ pos (2 ^ s)) *ℤ pos bound.den)
  above_doubles h =
      omega (arith, linear, scaled_le s (pos bound.num *ℤ pos (2 ^ u)) (n *ℤ pos bound.den) h, swap n (pos bound.den) (pos (2 ^ s)), mul-assoc (pos bound.num) (pos (2 ^ u)) (pos (2 ^ s)), ap (λ z. pos bound.num *ℤ z) (power_sum u s))

pub low_doubles : LowSideDoubles
low_doubles AtMost bound u s x i h = rw (number_doubled s x i) (within_doubles bound u s (number x i) h)
low_doubles Below bound u s x i h = rw (number_doubled s x i) (below_doubles bound u s (number x i) h)
low_doubles AtLeast bound u s x i h = rw (number_doubled s x i) (below_doubles bound u s (number x i) h)
low_doubles Above bound u s x i h = rw (number_doubled s x i) (within_doubles bound u s (number x i) h)

pub high_doubles : HighSideDoubles
high_doubles AtMost bound u s x i h = rw (number_doubled s x i) (beyond_doubles bound u s (number x i) h)
high_doubles Below bound u s x i h = rw (number_doubled s x i) (above_doubles bound u s (number x i) h)
high_doubles AtLeast bound u s x i h = rw (number_doubled s x i) (above_doubles bound u s (number x i) h)
high_doubles Above bound u s x i h = rw (number_doubled s x i) (beyond_doubles bound u s (number x i) h)

pub accepting_doubles : AcceptingDoubles
accepting_doubles k spans bound u s x h = record {
  upper = uppers_double k spans u s x h.upper;
  limit = rw (number_doubled s x k.model.init) (within_doubles bound u s (number x k.model.init) h.limit);
}

pub rejecting_doubles : RejectingDoubles
rejecting_doubles k spans bound u s r h = record {
  holds = lowers_double k spans u s r h.holds;
  limit = rw (number_doubled s r.numbers k.model.init) (beyond_doubles bound u s (number r.numbers k.model.init) h.limit);
}

-- ---- other precisions

so_much_more : (u v : ℕ) → u ≤ v → u + (v - u) ≡ v
so_much_more u v le = omega arith

accepting_above : (k : CaseData) (spans : Spans) (bound : Bound) (u v : ℕ) → u ≤ v → (x : List ℤ) → IsAccepting (at k u) spans bound x → IsAccepting (at k v) spans bound (doubled (v - u) x)
accepting_above k spans bound u v le x h = subst (λ n. IsAccepting (at k n) spans bound (doubled (v - u) x)) (so_much_more u v le) (accepting_doubles k spans bound u (v - u) x h)

rejecting_above : (k : CaseData) (spans : Spans) (bound : Bound) (u v : ℕ) → u ≤ v → (r : RejectData) → IsRejecting (at k u) spans bound r → IsRejecting (at k v) spans bound (doubled_data (v - u) r)
rejecting_above k spans bound u v le r h = subst (λ n. IsRejecting (at k n) spans bound (doubled_data (v - u) r)) (so_much_more u v le) (rejecting_doubles k spans bound u (v - u) r h)

pub none_accepts_below : NoneAcceptsBelow
none_accepts_below k spans bound u v le none x h = none (doubled (v - u) x) (accepting_above k spans bound u v le x h)

pub none_rejects_below : NoneRejectsBelow
none_rejects_below k spans bound u v le none r h = none (doubled_data (v - u) r) (rejecting_above k spans bound u v le r h)

pub not_both_kinds_at_precisions : NotBothKinds → NotBothKindsAtPrecisions
not_both_kinds_at_precisions not_both k spans bound u v x r is inside most most_other accepting rejecting =
    not_both k spans bound _ _ is inside (accepting_above k spans bound u k.w most x accepting) (rejecting_above k spans bound v k.w most_other r rejecting)
