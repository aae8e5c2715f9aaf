-- What a choice of a case gives at the corners of a rectangle inside the root, and below what its whole stays.
use Rattle.std.proofs.Common.{◌≡◌, ℕ, zero, suc, ◌+◌, ◌*◌, ◌^◌, ◌<◌, ◌≤◌, Bool, true, false, cond, eqb, List, [], ◌∷◌, length, ℤ, pos, negsuc, ◌+ℤ◌, ◌*ℤ◌, ◌≤ℤ◌, ◌<ℤ◌, unsigned_abs, sym, ap, ◌∙◌, subst, arith, mul-le-mul, mul_comm, pow-suc}
use Rattle.std.proofs.lemmas.Int.{ints, by_lt_z, unsigned_abs-mul}
use Rattle.std.proofs.lemmas.List.{get_or_past}
use Rattle.std.proofs.lemmas.List.Sums.{sum_by-cons}
use Rattle.std.proofs.lemmas.Nat.{pow_pos}
use Rattle.std.proofs.Math.Nat.{pow-zero}
use Rattle.lift_poly.proofs.Ring.{linear, mul-comm, mul-zero, one-mul, mul-le, mul-lt}
use Rattle.lift_poly.specs.Polynomial.{Term}
use Rattle.lift_poly.specs.Arithmetic as polynomial
use Rattle.lift_grid.specs.Rectangle.{Spans}
use Rattle.lift_model.specs.declared.entry.Entry.{Entry}
use Rattle.lift_model.specs.Process.{power}
use Rattle.lift_model.specs.Model.{is_goal, choices, row_at, support}
use Rattle.corner_lift.specs.Corner.{parameter_count, corner_sum, whole}
use Rattle.corner_lift.specs.Case.{CaseData, IsCase, IsInside, IsAdmittedRow, row_parameters, row_coefficient, row_whole, abs_sum, greatest_size, engine_limit}
use Rattle.corner_lift.specs.Laws.{HasRow}
use Rattle.lower_cert.specs.Premises.{Premises}
use Rattle.region_tree.proofs.Unique.{no_state}

-- a rectangle inside a case's root, with the laws of rows at corners
pub record Place (k : CaseData) (spans : Spans) : Type 0 where
  pub laws : Premises
  pub case : IsCase k
  pub within : IsInside k.root spans

-- how many corners a state's choice has in the rectangle
abbrev pub corners : CaseData → Spans → ℕ → ℕ → ℕ
corners k spans s a = 2 ^ parameter_count spans (support (row_at k.model s a))

-- no state past the last one is a goal state
pub goal_past : (k : CaseData) → IsCase k → (s : ℕ) → length k.model.states ≤ s → is_goal k.model s ≡ false
goal_past k is s le = get_or_past k.model.goal s false (omega (arith, le, is.asked.model.goals))

-- ---- the whole

product_positive : (a b : ℤ) → pos 0 <ℤ a → pos 0 <ℤ b → pos 0 <ℤ (a *ℤ b)
product_positive a b f g = let lt = mul-lt a (pos 0) b f g in omega (arith, linear, lt, mul-zero a)

power_positive : (b : ℤ) (n : ℕ) → pos 0 <ℤ b → pos 0 <ℤ power b n
power_positive b zero h = omega (arith, linear)
power_positive b (suc n) h = product_positive b (power b n) h (power_positive b n h)

coefficient_size : (terms : List Term) → unsigned_abs (polynomial.coefficient 0 terms) ≤ polynomial.abs_sum terms
coefficient_size [] = omega arith
coefficient_size (t ∷ terms) =
    let size : Term → ℕ = λ (x : Term). unsigned_abs x.1 in
    omega (arith, coefficient_size terms, sum_by-cons size t terms, by_test (eqb t.0 0) t.1, sum_size (cond (eqb t.0 0) t.1 (pos 0)) (polynomial.coefficient 0 terms))
  where
    by_test : (b : Bool) (n : ℤ) → unsigned_abs (cond b n (pos 0)) ≤ unsigned_abs n
    by_test true n = omega arith
    by_test false n = omega arith

    sum_size : (a b : ℤ) → unsigned_abs (a +ℤ b) ≤ unsigned_abs a + unsigned_abs b
    sum_size a b = omega (arith, ints)

row_coefficient_size : (row : List Entry) → unsigned_abs (row_coefficient 0 row) ≤ abs_sum row
row_coefficient_size [] = omega arith
row_coefficient_size (e ∷ row) =
    let size : Entry → ℕ = λ (x : Entry). polynomial.abs_sum x.poly in
    omega (arith, row_coefficient_size row, coefficient_size e.poly, sum_by-cons size e row, sum_size (polynomial.coefficient 0 e.poly) (row_coefficient 0 row))
  where
    sum_size : (a b : ℤ) → unsigned_abs (a +ℤ b) ≤ unsigned_abs a + unsigned_abs b
    sum_size a b = omega (arith, ints)

grid_size : (d : ℤ) (ss : Spans) → unsigned_abs d ≤ greatest_size d ss
grid_size d [] = omega arith
grid_size d (s ∷ ss) = omega (arith, grid_size d ss)

-- a power's size is at most that power of a greater size
power_size : (d : ℤ) (size n : ℕ) → unsigned_abs d ≤ size → unsigned_abs (power d n) ≤ size ^ n
power_size d size zero le = omega (arith, pow-zero size)
power_size d size (suc n) le =
    let both : unsigned_abs d * unsigned_abs (power d n) ≤ size * size ^ n = mul-le-mul le (power_size d size n le) in
    let raised : size ^ suc n ≡ size * size ^ n = pow-suc size n ∙ mul_comm (size ^ n) size in
    omega (arith, both, raised, unsigned_abs-mul d (power d n))

below_size : (z : ℤ) (limit : ℕ) → unsigned_abs z < limit → z <ℤ pos limit
below_size (pos n) limit lt = omega (arith, linear, lt)
below_size (negsuc n) limit lt = omega (arith, linear)

module _ (k : CaseData) (spans : Spans) (place : Place k spans) (s a : ℕ) (choice : a < length (choices k.model s)) where
  abbrev row : List Entry
  row = row_at k.model s a

  abbrev total : ℤ
  total = whole k.model k.d spans row

  state : s < length k.model.states
  state = no_state k.model s a choice

  there : HasRow k s a
  there = record { state = state; choice = choice }

  same_count : parameter_count spans (support row) ≡ row_parameters k row
  same_count = place.laws.parameters k spans row place.within.within

  pub whole_positive : pos 0 <ℤ total
  whole_positive =
      product_positive k.model.common (power k.d (parameter_count spans (support row))) (omega (arith, linear, place.case.asked.model.denominator.0)) (power_positive k.d (parameter_count spans (support row)) (omega (arith, linear, place.case.asked.grid.positive)))

  -- the whole stays below the engine's limit
  pub whole_below : total <ℤ pos engine_limit
  whole_below =
      let count = parameter_count spans (support row) in
      let admitted : IsAdmittedRow k row = place.case.admitted s [] state a [] choice in
      let first : unsigned_abs k.model.common ≤ abs_sum row = subst (λ z. unsigned_abs z ≤ abs_sum row) (admitted.sum 0) (row_coefficient_size row) in
      let second : unsigned_abs (power k.d count) ≤ greatest_size k.d k.root ^ row_parameters k row =
      subst (λ n. unsigned_abs (power k.d count) ≤ greatest_size k.d k.root ^ n) same_count (power_size k.d (greatest_size k.d k.root) count (grid_size k.d k.root)) in
      let both : unsigned_abs k.model.common * unsigned_abs (power k.d count) ≤ abs_sum row * greatest_size k.d k.root ^ row_parameters k row = mul-le-mul first second in
      let some : 1 ≤ 2 ^ k.w = pow_pos k.w in
      let all : unsigned_abs k.model.common * unsigned_abs (power k.d count) * 1 ≤ abs_sum row * greatest_size k.d k.root ^ row_parameters k row * 2 ^ k.w = mul-le-mul both some in
      let size = unsigned_abs-mul k.model.common (power k.d count) in
      below_size total engine_limit (omega (arith, all, size, admitted.narrow))

  -- ---- sums

  pub sum_rises : (c : ℕ) (f g : ℕ → ℤ) → ((t : ℕ) → f t ≤ℤ g t) → corner_sum k.d spans row c f ≤ℤ corner_sum k.d spans row c g
  sum_rises c f g le = place.laws.rise k spans s a c f g place.case place.within there le

  -- where no number is above top, no sum is above top times the whole
  pub sum_most : (c : ℕ) → c < corners k spans s a → (f : ℕ → ℤ) (top : ℤ) → ((t : ℕ) → f t ≤ℤ top) → corner_sum k.d spans row c f ≤ℤ (top *ℤ total)
  sum_most c corner f top le =
      let same : row_whole k s a ≡ total = ap (λ n. k.model.common *ℤ power k.d n) (sym same_count) in
      subst (λ z. corner_sum k.d spans row c f ≤ℤ (top *ℤ z)) same (place.laws.most k spans s a f top place.case place.within there (λ i t at. le _) c corner)

  -- products with the whole have the order of what it is multiplied with
  pub whole_cancels : (m n : ℤ) → (m *ℤ total) <ℤ (n *ℤ total) → m <ℤ n
  whole_cancels m n lt =
      by_lt_z m n (λ l. l)
      (λ le. let more = mul-le total n m (let some = whole_positive in omega (arith, linear, some)) le in absurd (omega (arith, linear, more, lt, mul-comm total n, mul-comm total m)))

-- a weight of at least 1 is enough for whatever is below a limit, times the limit
pub limit_is_enough : (weight all : ℤ) (limit : ℕ) → pos 0 <ℤ weight → all <ℤ pos limit → all ≤ℤ (weight *ℤ pos limit)
limit_is_enough weight all limit some less =
    let more = mul-le (pos limit) (pos 1) weight (omega (arith, linear)) (omega (arith, linear, some)) in
    omega (arith, linear, less, more, mul-comm (pos limit) weight, mul-comm (pos limit) (pos 1), one-mul (pos limit))
