-- A case at a lower precision is a case.
use Rattle.std.proofs.Common.{ℕ, ◌*◌, ◌^◌, ◌<◌, ◌≤◌, All, List, arith, mul-le-mul_left, pow_mono, le_trans}
use Rattle.corner_lift.specs.Case.{at, IsAdmittedRow, abs_sum, greatest_size, row_parameters, engine_limit}
use Rattle.corner_lift.specs.Laws.{LowerPrecisionIsCase}

all_map : {X : Type 0} (P Q : X → Type 0) → ((x : X) → P x → Q x) → (xs : List X) → All P xs → All Q xs
all_map P Q f xs h i d lt = f _ (h i d lt)

narrower : (a u w : ℕ) → u ≤ w → a * 2 ^ w < engine_limit → a * 2 ^ u < engine_limit
narrower a u w le lt = let f : a * 2 ^ u ≤ a * 2 ^ w = mul-le-mul_left a (pow_mono {j = w} le) in omega (arith, f, lt)

pub lower_precision_is_case : LowerPrecisionIsCase
lower_precision_is_case k u is positive most = record {
  asked = record {
    model = is.asked.model;
    spans = is.asked.spans;
    grid = is.asked.grid;
    depth = is.asked.depth;
    precision = (positive, le_trans most is.asked.precision.1);
  };
  admitted = all_map (All (IsAdmittedRow k)) (All (IsAdmittedRow (at k u))) (λ rows. all_map (IsAdmittedRow k) (IsAdmittedRow (at k u)) (λ row h. record {
    sum = h.sum;
    few = h.few;
    narrow = narrower (abs_sum row * greatest_size k.d k.root ^ row_parameters k row) u k.w most h.narrow;
    least = h.least;
  }) rows) k.model.states is.admitted;
}
