-- What admission over a rectangle gives at each valuation inside it: each row is a distribution.
use Rattle.std.specs.Prelude.{◌≡◌, pos, ◌≤ℤ◌, All}
use Rattle.lift_poly.specs.Polynomial.{Valuation, weight}
use Rattle.lift_grid.specs.Rectangle.{Inside}
use Rattle.lift_model.specs.Process.{weighted_sum}
use Rattle.lift_model.specs.Model.{moves_at, process_at}
use Rattle.corner_lift.specs.Case.{CaseData}

-- at each valuation inside the root no entry's weight is below 0
abbrev pub HasWeightsFromZero : CaseData → Type 0
HasWeightsFromZero k = (v : Valuation) → Inside k.d k.root v → All (All (All (λ entry. pos 0 ≤ℤ weight v entry.poly))) k.model.states

-- at each valuation inside the root the weights of each row sum to the total
abbrev pub HasSumsOfTotal : CaseData → Type 0
HasSumsOfTotal k = (v : Valuation) → Inside k.d k.root v → All (All (λ row. weighted_sum (λ target. pos 1) (moves_at v row) ≡ (process_at k.model v).total)) k.model.states
