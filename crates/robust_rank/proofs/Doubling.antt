-- Rates: how often a weight is doubled to be enough, at all corners of a row and for all choices.
use Rattle.std.proofs.Common.{◌≡◌, ◌+◌, ◌-◌, ◌*◌, ◌/◌, ◌^◌, ◌<◌, ◌≤◌, ℕ, List, ℤ, pos, ◌-ℤ◌, ◌*ℤ◌, ◌≤ℤ◌, ◌<ℤ◌, unsigned_abs, ap, subst, sym, arith, ⊎_elim}
use Rattle.std.proofs.lemmas.Int.{ints}
use Rattle.std.proofs.lemmas.Nat.{le-div, pow_pos, pow-add}
use Rattle.lift_poly.proofs.Ring.{linear, mul-comm, mul-le}
use Rattle.lift_grid.specs.Rectangle.{Spans}
use Rattle.lift_model.specs.Process.{power}
use Rattle.lift_model.specs.Model.{row_at, support}
use Rattle.corner_lift.specs.Corner.{corner_sum, parameter_count, whole}
use Rattle.corner_lift.specs.Case.{CaseData, IsCase, IsInside, IsLeast, corner_count, row_whole}
use Rattle.corner_lift.specs.Certificate.{mark, ranked_below}
use Rattle.corner_lift.specs.Stages.{LeadsBelow}
use Rattle.corner_lift.specs.Laws.{ParametersAreTheRoots}
use Rattle.robust_rank.specs.Rate.{IsRowRate, IsStateRate, IsStateRateBefore, IsFirstFrom}
use Rattle.robust_rank.proofs.Means.{in_or_past, positive_part, whole-positive}

-- ---- the first from a given one on

pub here : (P : ℕ → Type 0) (first n : ℕ) → first ≤ n → P n → ((m : ℕ) → first ≤ m → m < n → P m → ⊥) → IsFirstFrom P first n
here P first n from holds none = record {
  from = from;
  holds = holds;
  least = λ m le p. ⊎_elim (λ (lt : m < n). absurd (none m le lt p)) (λ (past : n ≤ m). past) (in_or_past m n);
}

-- of two properties of which the first, once it holds, stays
joined : (P Q R : ℕ → Type 0) (first e next : ℕ) → ((m n : ℕ) → m ≤ n → P m → P n) → ((m : ℕ) → P m → Q m → R m) → ((m : ℕ) → R m → P m × Q m) → IsFirstFrom P first e → IsFirstFrom Q e next → IsFirstFrom R first next
joined P Q R first e next rise both apart p q = record {
  from = omega (arith, p.from, q.from);
  holds = both next (rise e next q.from p.holds) q.holds;
  least = λ m le r. let parts = apart m r in q.least m (p.least m le parts.0) parts.1;
}

-- what is enough stays so when it is doubled
pub enough_more : (weight all : ℤ) (m n : ℕ) → pos 0 <ℤ all → m ≤ n → all ≤ℤ (weight *ℤ pos (2 ^ m)) → all ≤ℤ (weight *ℤ pos (2 ^ n))
enough_more weight all m n some le enough =
    let least = positive_part weight all (pos (2 ^ m)) (omega (arith, linear)) some enough in
    let rises : 2 ^ m ≤ 2 ^ n = powers m n le in
    let more = mul-le weight (pos (2 ^ m)) (pos (2 ^ n)) (omega (arith, linear, least)) (omega (arith, linear, rises)) in
    omega (arith, linear, enough, more)
  where
    powers : (m n : ℕ) → m ≤ n → 2 ^ m ≤ 2 ^ n
    powers m n le =
        let e : n ≡ m + (n - m) = omega (arith, le) in
        rw e (rw pow-add (times (2 ^ m) (2 ^ (n - m)) (pow_pos (n - m))))
      where
        times : (a b : ℕ) → 0 < b → a ≤ a * b
        times a b lt = grind (arith, lt)

-- where a whole less 1, over a power of 2, is below the weight, so many doublings are enough
pub surely_enough : (weight all : ℤ) (size below e : ℕ) → pos 1 ≤ℤ weight → pos 1 ≤ℤ all → size ≡ unsigned_abs weight → below ≡ unsigned_abs (all -ℤ pos 1) → below / 2 ^ e < size → all ≤ℤ (weight *ℤ pos (2 ^ e))
surely_enough weight all size below e some one size_is below_is less =
    let weight_is : weight ≡ pos size = omega (arith, ints, some, size_is) in
    let all_is : all ≡ pos (below + 1) = omega (arith, ints, one, below_is) in
    let lt : below < size * 2 ^ e =
    ⊎_elim (λ (l : below < size * 2 ^ e). l) (λ (le : size * 2 ^ e ≤ below). absurd (omega (arith, less, le-div size below (2 ^ e) (pow_pos e) le))) (in_or_past below (size * 2 ^ e)) in
    rw (weight_is, all_is) (omega (arith, linear, lt))

-- 126 doublings are enough for any whole
pub most_enough : (weight all : ℤ) (limit : ℕ) → pos 1 ≤ℤ weight → all <ℤ pos limit → all ≤ℤ (weight *ℤ pos limit)
most_enough weight all limit one less =
    let more = mul-le (pos limit) (pos 1) weight (omega (arith, linear)) one in
    omega (arith, linear, less, more, mul-comm (pos limit) weight, mul-comm (pos limit) (pos 1))

module _ (k : CaseData) (spans : Spans) (is : IsCase k) (ranks : List ℕ) where
  corner_more : (s a c m n : ℕ) → m ≤ n → (whole k.model k.d spans (row_at k.model s a) ≤ℤ (corner_sum k.d spans (row_at k.model s a) c (ranked_below (mark ranks) (mark ranks s)) *ℤ pos (2 ^ m))) → whole k.model k.d spans (row_at k.model s a) ≤ℤ (corner_sum k.d spans (row_at k.model s a) c (ranked_below (mark ranks) (mark ranks s)) *ℤ pos (2 ^ n))
  corner_more s a c m n le enough = enough_more (corner_sum k.d spans (row_at k.model s a) c (ranked_below (mark ranks) (mark ranks s))) (whole k.model k.d spans (row_at k.model s a)) m n (whole-positive k spans (row_at k.model s a) is) le enough

  pub next_state : (picks : List ℕ) (s first e next : ℕ) → IsFirstFrom (IsStateRateBefore k spans ranks picks s) first e → IsFirstFrom (IsStateRate k spans ranks picks s) e next → IsFirstFrom (IsStateRateBefore k spans ranks picks (s + 1)) first next
  next_state picks s first e next =
      joined (IsStateRateBefore k spans ranks picks s) (IsStateRate k spans ranks picks s) (IsStateRateBefore k spans ranks picks (s + 1)) first e next
      (λ m n le p t lt chosen c small. corner_more t (mark picks t) c m n le (p t lt chosen c small))
      (λ m p q t lt. ⊎_elim (λ (l : t < s). p t l) (λ (past : s ≤ t). let same : t ≡ s = omega (arith, past, lt) in rw same q) (in_or_past t s))
      (λ m r. (λ t lt. r t (omega (arith, lt)), r s (omega arith)))

-- the rate at the corner with the least weight is that of the row
module _ (k : CaseData) (spans : Spans) (within : IsInside k.root spans) (ranks : List ℕ) (s a : ℕ) where
  pub row_rate : ParametersAreTheRoots → (first e : ℕ) (weight all : ℤ) → IsLeast (λ c. corner_sum k.d spans (row_at k.model s a) c (ranked_below (mark ranks) (mark ranks s))) (corner_count k s a) weight → all ≡ row_whole k s a
      → IsFirstFrom (λ e. all ≤ℤ (weight *ℤ pos (2 ^ e))) first e → IsFirstFrom (IsRowRate k spans ranks s a) first e
  row_rate parameters first e weight all is all_is found =
      let row = row_at k.model s a in
      let same : parameter_count spans (support row) ≡ parameter_count k.root (support row) = parameters k spans row within.within in
      let wholes : whole k.model k.d spans row ≡ row_whole k s a = ap (λ n. k.model.common *ℤ power k.d n) same in
      let there = is.attained in
      record {
        from = found.from;
        holds = λ c lt.
            let sum = corner_sum k.d spans row c (ranked_below (mark ranks) (mark ranks s)) in
            let more = mul-le (pos (2 ^ e)) weight sum (omega (arith, linear)) (is.least c (subst (λ n. c < 2 ^ n) same lt)) in
            omega (arith, linear, found.holds, more, mul-comm (pos (2 ^ e)) weight, mul-comm (pos (2 ^ e)) sum, wholes, all_is);
        least = λ m le enough. found.least m le (rw (there.1.1, all_is, ← wholes) (enough there.0 (subst (λ n. there.0 < 2 ^ n) (sym same) there.1.0)));
      }

  -- the least weight tells whether the choice leads below
  pub leads_is : ParametersAreTheRoots → (below : ℕ) (weight : ℤ) → IsLeast (λ c. corner_sum k.d spans (row_at k.model s a) c (ranked_below (mark ranks) below)) (corner_count k s a) weight
      → (pos 0 <ℤ weight → LeadsBelow k spans (mark ranks) below s a) × (LeadsBelow k spans (mark ranks) below s a → pos 0 <ℤ weight)
  leads_is parameters below weight is =
      let row = row_at k.model s a in
      let same : parameter_count spans (support row) ≡ parameter_count k.root (support row) = parameters k spans row within.within in
      let there = is.attained in (
        λ some c lt. omega (arith, linear, some, is.least c (subst (λ n. c < 2 ^ n) same lt)),
        λ leads. omega (arith, linear, leads there.0 (subst (λ n. there.0 < 2 ^ n) (sym same) there.1.0), there.1.1),
      )
