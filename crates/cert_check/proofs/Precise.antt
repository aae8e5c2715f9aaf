-- A case at another precision of a report's range is a case.
use Rattle.std.proofs.Common.{ℕ, ◌*◌, ◌^◌, ◌<◌, ◌≤◌, List, All, arith, mul-le-mul_left, pow_mono}
use Rattle.corner_lift.specs.Case.{CaseData, IsCase, IsAdmittedRow, engine_limit, abs_sum, greatest_size, row_parameters}
use Rattle.cert_text.specs.Head.{HeadData, case_at}
use Rattle.cert_text.specs.Forms.{IsHead, IsPrecision}

All-each : {X : Type 0} (P Q : X → Type 0) → ((x : X) → P x → Q x) → (xs : List X) → All P xs → All Q xs
All-each P Q f xs h i d lt = f _ (h i d lt)

narrower : (a u w : ℕ) → u ≤ w → a * 2 ^ w < engine_limit → a * 2 ^ u < engine_limit
narrower a u w le lt = let f : a * 2 ^ u ≤ a * 2 ^ w = mul-le-mul_left a (pow_mono {j = w} le) in omega (arith, f, lt)

-- at a lower precision a case is one
pub lower_case : (k : CaseData) (u : ℕ) → IsCase k → 1 ≤ u → u ≤ k.w → IsCase (case_at u k)
lower_case k u is positive most = record {
  asked = record {
    model = is.asked.model;
    spans = is.asked.spans;
    grid = is.asked.grid;
    depth = is.asked.depth;
    precision = (positive, omega (arith, most, is.asked.precision.1));
  };
  admitted = All-each (All (IsAdmittedRow k)) (All (IsAdmittedRow (case_at u k))) (λ rows. All-each (IsAdmittedRow k) (IsAdmittedRow (case_at u k)) (λ row h. record {
    sum = h.sum;
    few = h.few;
    narrow = narrower (abs_sum row * greatest_size k.d k.root ^ row_parameters k row) u k.w most h.narrow;
    least = h.least;
  }) rows) k.model.states is.admitted;
}

-- a precision of a report's range is at least 1
pub precise : (h : HeadData) (u : ℕ) → IsHead h → IsPrecision h u → (1 ≤ u) × (u ≤ h.asked.w)
precise h u head range = (omega (arith, head.range.0, range.0), range.1)

pub precise_case : (h : HeadData) (u : ℕ) → IsHead h → IsCase h.asked → IsPrecision h u → IsCase (case_at u h.asked)
precise_case h u head is range = let p = precise h u head range in lower_case h.asked u is p.0 p.1
