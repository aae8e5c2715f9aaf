-- The laws of rows at corners and inside.
use Rattle.std.proofs.Common.{◌≡◌, ◌^◌, ℕ, List, [], ◌∷◌, get_or, ℤ, pos, ◌*ℤ◌, ◌≤ℤ◌, refl, ap, arith, All}
use Rattle.std.proofs.lemmas.List.Elements.{All-head, All-tail}
use Rattle.lift_poly.specs.Polynomial.{Valuation, weight, denominator}
use Rattle.lift_poly.proofs.Ring.{linear, mul-assoc, mul-comm, mul-le, one-mul, add-mul, zero-mul}
use Rattle.lift_grid.specs.Rectangle.{Spans, AreSides, sides_of, spans_of}
use Rattle.lift_model.specs.declared.entry.Entry.{Entry}
use Rattle.lift_model.specs.Process.{power, weighted_sum}
use Rattle.lift_model.specs.Model.{support, row_at, moves_at}
use Rattle.lift_model.specs.Links.{targets_of}
use Rattle.corner_lift.specs.Corner.{corner, parameter_count}
use Rattle.corner_lift.specs.Case.{CaseData, IsCase, Within, AreSidesInside, number, row_whole}
use Rattle.corner_lift.specs.Laws.{BitsAreParameters, ParametersAreTheRoots, NumbersAreInRange, SumsAreInRange, SumsRise, SumsAreAtMost, SumsAreAtLeast, WeightsInside, SumsAreTotals, MeansAtMostInside, MeansAtLeastInside, RootIsInside}
use Rattle.corner_lift.specs.Premises.{Premises}
use Rattle.corner_lift.proofs.CornerBound.{Inside-on}
use Rattle.corner_lift.proofs.Coefficients.{row_total}
use Rattle.corner_lift.proofs.Rows.{number_range}
use Rattle.corner_lift.proofs.CornerEnds.{weights_least, weights_sum}
use Rattle.corner_lift.proofs.RowBound.{row_upper, row_lower}
use Rattle.corner_lift.proofs.Cases.{admitted_row, parameters_asked, parameter_count-within, corner_moves, corner_sum_range, inside_least}

-- ---- at corners

pub bits_are_parameters : BitsAreParameters
bits_are_parameters k s a is has = parameters_asked k s a is has.state has.choice

pub parameters_are_the_roots : ParametersAreTheRoots
parameters_are_the_roots k spans row within = parameter_count-within spans k.root (support row) within

pub numbers_are_in_range : NumbersAreInRange
numbers_are_in_range k x s are = number_range k x are s

pub sums_are_in_range : Premises → SumsAreInRange
sums_are_in_range laws k spans s a c x is inside has numbers =
    corner_sum_range laws k (row_at k.model s a) spans is.asked.grid.positive is.asked.spans inside.rectangle inside.within (admitted_row k s a is has.state has.choice) c (number x) (pos (2 ^ k.w)) (number_range k x numbers)

pub sums_rise : Premises → SumsRise
sums_rise laws k spans s a c x y is inside has le =
    let row = row_at k.model s a in
    laws.rise x y (moves_at (corner k.d spans (support row) c) row) le
    (corner_moves laws k row spans is.asked.grid.positive is.asked.spans inside.rectangle inside.within (admitted_row k s a is has.state has.choice) c)

module _ (v : Valuation) (x : ℕ → ℤ) (n : ℤ) where
  sum_most : (row : List Entry) → All (λ (entry : Entry). pos 0 ≤ℤ weight v entry.poly) row → All (λ t. x t ≤ℤ n) (targets_of row) → weighted_sum x (moves_at v row) ≤ℤ (weighted_sum (λ t. pos 1) (moves_at v row) *ℤ n)
  sum_most [] least most = omega (arith, linear, zero-mul n)
  sum_most (e ∷ row) least most =
      let w = weight v e.poly in
      let others = weighted_sum (λ t. pos 1) (moves_at v row) in
      let rest = sum_most row (All-tail (λ (entry : Entry). pos 0 ≤ℤ weight v entry.poly) e row least) (All-tail (λ t. x t ≤ℤ n) e.target (targets_of row) most) in
      let here = mul-le w (x e.target) n (All-head (λ (entry : Entry). pos 0 ≤ℤ weight v entry.poly) e row least) (All-head (λ t. x t ≤ℤ n) e.target (targets_of row) most) in
      omega (arith, linear, here, rest, add-mul (w *ℤ pos 1) others n, mul-assoc w (pos 1) n, ap (λ z. w *ℤ z) (one-mul n))

  sum_least : (row : List Entry) → All (λ (entry : Entry). pos 0 ≤ℤ weight v entry.poly) row → All (λ t. n ≤ℤ x t) (targets_of row) → (weighted_sum (λ t. pos 1) (moves_at v row) *ℤ n) ≤ℤ weighted_sum x (moves_at v row)
  sum_least [] least most = omega (arith, linear, zero-mul n)
  sum_least (e ∷ row) least most =
      let w = weight v e.poly in
      let others = weighted_sum (λ t. pos 1) (moves_at v row) in
      let rest = sum_least row (All-tail (λ (entry : Entry). pos 0 ≤ℤ weight v entry.poly) e row least) (All-tail (λ t. n ≤ℤ x t) e.target (targets_of row) most) in
      let here = mul-le w n (x e.target) (All-head (λ (entry : Entry). pos 0 ≤ℤ weight v entry.poly) e row least) (All-head (λ t. n ≤ℤ x t) e.target (targets_of row) most) in
      omega (arith, linear, here, rest, add-mul (w *ℤ pos 1) others n, mul-assoc w (pos 1) n, ap (λ z. w *ℤ z) (one-mul n))

pub sums_are_at_most : Premises → SumsAreAtMost
sums_are_at_most laws k spans s a x n is inside has most c lt =
    let row = row_at k.model s a in
    let v = corner k.d spans (support row) c in
    let le = sum_most v x n row (weights_least laws k spans s a is inside has c lt) most in
    omega (arith, linear, le, ap (λ z. z *ℤ n) (weights_sum laws k spans s a is inside has c lt), mul-comm n (row_whole k s a))

pub sums_are_at_least : Premises → SumsAreAtLeast
sums_are_at_least laws k spans s a x n is inside has least c lt =
    let row = row_at k.model s a in
    let v = corner k.d spans (support row) c in
    let le = sum_least v x n row (weights_least laws k spans s a is inside has c lt) least in
    omega (arith, linear, le, ap (λ z. z *ℤ n) (weights_sum laws k spans s a is inside has c lt), mul-comm n (row_whole k s a))

-- ---- inside

pub weights_inside : Premises → WeightsInside
weights_inside laws k spans v is inside at i d lt a r here =
    let row = get_or (get_or k.model.states i d) a r in
    inside_least laws k row spans is.asked.grid.positive is.asked.spans inside.rectangle inside.within (is.admitted i d lt a r here) v at

pub sums_are_totals : SumsAreTotals
sums_are_totals m row v sums = row_total m.common row sums v

pub means_at_most_inside : Premises → MeansAtMostInside
means_at_most_inside laws k spans row x n is inside means v at =
    let p = power k.d (parameter_count spans (support row)) in
    let bound = row_upper laws.affine k.d is.asked.grid.positive spans inside.rectangle row (number x) (n *ℤ k.model.common)
    (λ c lt. let here = means c lt in omega (arith, linear, here, mul-assoc n k.model.common p)) v (Inside-on k.d spans (support row) v at) in
    omega (arith, linear, bound, mul-assoc n k.model.common (denominator v))

pub means_at_least_inside : Premises → MeansAtLeastInside
means_at_least_inside laws k spans row y n is inside means v at =
    let p = power k.d (parameter_count spans (support row)) in
    let bound = row_lower laws.affine k.d is.asked.grid.positive spans inside.rectangle row y (n *ℤ k.model.common)
    (λ c lt. let here = means c lt in omega (arith, linear, here, mul-assoc n k.model.common p)) v (Inside-on k.d spans (support row) v at) in
    omega (arith, linear, bound, mul-assoc n k.model.common (denominator v))

within_itself : (spans : Spans) → Within spans spans
within_itself [] = tt
within_itself (s ∷ spans) = (omega (arith, linear), omega (arith, linear), within_itself spans)

pub root_is_inside : RootIsInside
root_is_inside k is = record { rectangle = is.asked.spans; within = within_itself k.root }

spans_of-sides_of : (spans : Spans) → spans_of (sides_of spans) ≡ spans
spans_of-sides_of [] = refl
spans_of-sides_of (s ∷ spans) = ap (λ rest. s ∷ rest) (spans_of-sides_of spans)

pub root_sides_inside : (k : CaseData) → IsCase k → AreSidesInside k.root (sides_of k.root)
root_sides_inside k is =
    let same = spans_of-sides_of k.root in
    let sides : AreSides (sides_of k.root) = record { paired = ap sides_of same; spans = rw same is.asked.spans } in
    record { rectangle = sides; within = rw same (within_itself k.root) }
