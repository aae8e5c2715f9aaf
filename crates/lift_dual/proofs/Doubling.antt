-- Rates: how often a weight is doubled to be enough, at all corners of all choices.
use Rattle.std.proofs.Common.{◌≡◌, ◌+◌, ◌-◌, ◌*◌, ◌^◌, ◌<◌, ◌≤◌, ℕ, zero, suc, false, List, [], ◌∷◌, length, get_or, All, ℤ, pos, ◌*ℤ◌, ◌≤ℤ◌, ◌<ℤ◌, ap, subst, sym, arith, ⊎_elim}
use Rattle.std.proofs.lemmas.Nat.{pow_pos, pow-add}
use Rattle.std.proofs.lemmas.List.{get_or_past}
use Rattle.std.proofs.lemmas.List.Elements.{All-from_get_or, All-nil, All-cons}
use Rattle.lift_poly.proofs.Ring.{linear, mul-comm, mul-le}
use Rattle.lift_grid.specs.Rectangle.{Spans}
use Rattle.lift_grid.specs.Tree.{RejectData}
use Rattle.lift_model.specs.declared.entry.Entry.{Entry}
use Rattle.lift_model.specs.Process.{power}
use Rattle.lift_model.specs.Model.{is_goal, choices, row_at, support}
use Rattle.corner_lift.specs.Corner.{corner_sum, parameter_count, whole}
use Rattle.corner_lift.specs.Case.{CaseData, IsCase, IsInside, IsLeast, corner_count, row_whole}
use Rattle.corner_lift.specs.Certificate.{unmarked, mark, ranked_below, most_rate}
use Rattle.corner_lift.specs.Laws.{ParametersAreTheRoots}
use Rattle.robust_rank.specs.Rate.{IsRowRate, IsFirstFrom}
use Rattle.lower_cert.specs.Lowering.{IsHeight}
use Rattle.lift_dual.specs.Avoiding.{IsRateOf, HasLeast}
use Rattle.lift_dual.specs.Rates.{IsRateOfChoices, IsRateOfState, IsRateOfStates}
use Rattle.lift_dual.proofs.Choosing.{one_more}
use Rattle.lift_dual.proofs.Inside.{in_or_past}
use Rattle.lift_dual.proofs.Sums.{positive_part, product-positive}

-- ---- the first from a given one on

-- where each number will do
pub any_will : (P : ℕ → Type 0) (first : ℕ) → P first → IsFirstFrom P first first
any_will P first holds = record { from = omega arith; holds = holds; least = λ m le p. le }

-- of two properties of which the first, once it holds, stays
joined : (P Q R : ℕ → Type 0) (first e next : ℕ) → ((m n : ℕ) → m ≤ n → P m → P n) → ((m : ℕ) → P m → Q m → R m) → ((m : ℕ) → R m → P m × Q m) → IsFirstFrom P first e → IsFirstFrom Q e next → IsFirstFrom R first next
joined P Q R first e next rise both apart p q = record {
  from = omega (arith, p.from, q.from);
  holds = both next (rise e next q.from p.holds) q.holds;
  least = λ m le r. let parts = apart m r in q.least m (p.least m le parts.0) parts.1;
}

-- ---- doublings

power-positive : (b : ℤ) (n : ℕ) → pos 0 <ℤ b → pos 0 <ℤ power b n
power-positive b zero h = omega (arith, linear)
power-positive b (suc n) h = product-positive b (power b n) h (power-positive b n h)

whole-positive : (k : CaseData) (spans : Spans) (row : List Entry) → IsCase k → pos 0 <ℤ whole k.model k.d spans row
whole-positive k spans row is =
    let count = parameter_count spans (support row) in
    product-positive k.model.common (power k.d count) (omega (arith, linear, is.asked.model.denominator.0)) (power-positive k.d count (omega (arith, linear, is.asked.grid.positive)))

-- what is enough stays so when it is doubled
enough_more : (weight all : ℤ) (m n : ℕ) → pos 0 <ℤ all → m ≤ n → all ≤ℤ (weight *ℤ pos (2 ^ m)) → all ≤ℤ (weight *ℤ pos (2 ^ n))
enough_more weight all m n some le enough =
    let least = positive_part weight all (pos (2 ^ m)) (omega (arith, linear)) some enough in
    let rises : 2 ^ m ≤ 2 ^ n = powers m n le in
    let more = mul-le weight (pos (2 ^ m)) (pos (2 ^ n)) (omega (arith, linear, least)) (omega (arith, linear, rises)) in
    omega (arith, linear, enough, more)
  where
    powers : (m n : ℕ) → m ≤ n → 2 ^ m ≤ 2 ^ n
    powers m n le =
        let e : n ≡ m + (n - m) = omega (arith, le) in
        rw e (rw pow-add (times (2 ^ m) (2 ^ (n - m)) (pow_pos (n - m))))
      where
        times : (a b : ℕ) → 0 < b → a ≤ a * b
        times a b lt = grind (arith, lt)

-- so many doublings are enough for any whole
pub most_enough : (weight all : ℤ) (limit : ℕ) → pos 1 ≤ℤ weight → all <ℤ pos limit → all ≤ℤ (weight *ℤ pos limit)
most_enough weight all limit one less =
    let more = mul-le (pos limit) (pos 1) weight (omega (arith, linear)) one in
    omega (arith, linear, less, more, mul-comm (pos limit) weight, mul-comm (pos limit) (pos 1))

pub here : (P : ℕ → Type 0) (first n : ℕ) → first ≤ n → P n → ((m : ℕ) → first ≤ m → m < n → P m → ⊥) → IsFirstFrom P first n
here P first n from holds none = record {
  from = from;
  holds = holds;
  least = λ m le p. ⊎_elim (λ (lt : m < n). absurd (none m le lt p)) (λ (past : n ≤ m). past) (in_or_past m n);
}

-- ---- rows

-- the rate at the corner with the least weight is that of the row
pub row_rate : ParametersAreTheRoots → (k : CaseData) (spans : Spans) (within : IsInside k.root spans) (ranks : List ℕ) (s a first e : ℕ) (weight all : ℤ)
    → IsLeast (λ c. corner_sum k.d spans (row_at k.model s a) c (ranked_below (mark ranks) (mark ranks s))) (corner_count k s a) weight → all ≡ row_whole k s a
    → IsFirstFrom (λ e. all ≤ℤ (weight *ℤ pos (2 ^ e))) first e → IsFirstFrom (IsRowRate k spans ranks s a) first e
row_rate parameters k spans within ranks s a first e weight all is all_is found =
    let row = row_at k.model s a in
    let same : parameter_count spans (support row) ≡ parameter_count k.root (support row) = parameters k spans row within.within in
    let wholes : whole k.model k.d spans row ≡ row_whole k s a = ap (λ n. k.model.common *ℤ power k.d n) same in
    let there = is.attained in
    record {
      from = found.from;
      holds = λ c lt.
          let sum = corner_sum k.d spans row c (ranked_below (mark ranks) (mark ranks s)) in
          let more = mul-le (pos (2 ^ e)) weight sum (omega (arith, linear)) (is.least c (subst (λ n. c < 2 ^ n) same lt)) in
          omega (arith, linear, found.holds, more, mul-comm (pos (2 ^ e)) weight, mul-comm (pos (2 ^ e)) sum, wholes, all_is);
      least = λ m le enough. found.least m le (rw (there.1.1, all_is, ← wholes) (enough there.0 (subst (λ n. there.0 < 2 ^ n) (sym same) there.1.0)));
    }

module _ (k : CaseData) (spans : Spans) (is : IsCase k) (ranks : List ℕ) where
  row_more : (s a m n : ℕ) → m ≤ n → IsRowRate k spans ranks s a m → IsRowRate k spans ranks s a n
  row_more s a m n le enough c lt = enough_more (corner_sum k.d spans (row_at k.model s a) c (ranked_below (mark ranks) (mark ranks s))) (whole k.model k.d spans (row_at k.model s a)) m n (whole-positive k spans (row_at k.model s a) is) le (enough c lt)

  -- one choice more
  pub next_choice : (s a first e next : ℕ) → IsFirstFrom (IsRateOfChoices k spans ranks s a) first e → IsFirstFrom (IsRowRate k spans ranks s a) e next → IsFirstFrom (IsRateOfChoices k spans ranks s (a + 1)) first next
  next_choice s a first e next =
      joined (IsRateOfChoices k spans ranks s a) (IsRowRate k spans ranks s a) (IsRateOfChoices k spans ranks s (a + 1)) first e next
      (λ m n le p b lt. row_more s b m n le (p b lt))
      (λ m p q. one_more (λ b. IsRowRate k spans ranks s b m) a p q)
      (λ m r. (λ b lt. r b (omega (arith, lt)), r a (omega arith)))

  -- one state more
  pub next_state : (s first e next : ℕ) → IsFirstFrom (IsRateOfStates k spans ranks s) first e → IsFirstFrom (IsRateOfState k spans ranks s) e next → IsFirstFrom (IsRateOfStates k spans ranks (s + 1)) first next
  next_state s first e next =
      joined (IsRateOfStates k spans ranks s) (IsRateOfState k spans ranks s) (IsRateOfStates k spans ranks (s + 1)) first e next
      (λ m n le p t lt g ranked a inside. row_more t a m n le (p t lt g ranked a inside))
      (λ m p q. one_more (λ t. IsRateOfState k spans ranks t m) s p q)
      (λ m r. (λ t lt. r t (omega (arith, lt)), r s (omega arith)))

-- ---- the least rate and height of a certificate

-- a mark is at most that of none
pub all_marks : (marks : List ℕ) → ((i : ℕ) → get_or marks i 0 ≤ unmarked) → All (λ rank. rank ≤ unmarked) marks
all_marks [] h = All-nil (λ rank. rank ≤ unmarked)
all_marks (m ∷ marks) h = All-cons (λ rank. rank ≤ unmarked) m marks (h 0) (all_marks marks (λ i. h (suc i)))

pub has_least : (k : CaseData) (spans : Spans) (r : RejectData) → length r.ranks ≡ length k.model.states → IsFirstFrom (IsRateOfStates k spans r.ranks (length k.model.states)) 0 r.e → r.e ≤ most_rate → IsHeight r.ranks (length r.ranks) r.k → HasLeast k spans r
has_least k spans r size rate most height = record {
  rate = (most, λ s g ranked. All-from_get_or (IsRateOf k spans (mark r.ranks) r.e s) (choices k.model s) [] (λ a lt. rate.holds s (omega (arith, inside s ranked, size)) g ranked a lt));
  least_rate = λ e rates. rate.least e (omega arith) (λ s lt g ranked a there. rates s g ranked a [] there);
  height = (height.positive, height.small, λ s ranked. height.most s (inside s ranked) ranked);
  least_height = height.least;
}
  where
    inside : (s : ℕ) → mark r.ranks s < unmarked → s < length r.ranks
    inside s ranked = ⊎_elim (λ (lt : s < length r.ranks). lt) (λ (past : length r.ranks ≤ s). absurd (omega (arith, ranked, get_or_past r.ranks s unmarked past))) (in_or_past s (length r.ranks))
