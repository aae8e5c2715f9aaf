-- What the tests of a row need of what is asked for, and what it gives that all rows pass.
use Rattle.std.proofs.Common.{◌≡◌, ℕ, ◌+◌, ◌^◌, ◌<◌, List, length, pos, ◌≤ℤ◌, ℤ, All, get_or, ◌≤◌, inl, inr, ⊎_elim, [], sym, subst, arith}
use Rattle.std.proofs.lemmas.Bool.{cases_lt}
use Rattle.std.proofs.lemmas.List.{get_or_default}
use Rattle.lift_poly.specs.Polynomial.{weight}
use Rattle.lift_grid.specs.Rectangle.{Spans}
use Rattle.lift_model.specs.declared.entry.Entry.{Entry}
use Rattle.lift_model.specs.Model.{ModelData, support, choices, row_at}
use Rattle.lift_model.specs.Valid.{IsRow, IsModel}
use Rattle.corner_lift.specs.Corner.{AtCorners, corner, corner_weight, parameter_count, no_entry}
use Rattle.corner_lift.specs.Case.{CaseData, IsAdmittedRow, IsAdmitted}
use Rattle.corner_lift.specs.Laws.{WeightsInside, SumsAreTotals, RootIsInside}
use Rattle.lift_rows.specs.Laws.{CasesHaveWeights, CasesHaveSums}
use Rattle.lift_rows.specs.Fault.{ComesBefore}
use Rattle.lift_rows.specs.Sums.{AreSmall}

pub small_row : (m : ModelData) (s a : ℕ) → IsModel m → s < length m.states → a < length (choices m s) → AreSmall (row_at m s a)
small_row m s a is state choice = let valid : IsRow (length m.states) (length m.names) (row_at m s a) = is.rows s [] state a [] choice in λ i d lt. (valid.entries i d lt).sizes

-- by corners and then entries, in place of entries and then corners
pub least_at : (d : ℤ) (root : Spans) (row : List Entry) → ((j c : ℕ) → j < length row → c < 2 ^ parameter_count root (support row) → pos 0 ≤ℤ corner_weight d root row c j) → AtCorners root row (λ c. All (λ entry. pos 0 ≤ℤ weight (corner d root (support row) c) entry.poly) row)
least_at d root row h c lt i e at = rw (get_or_default row i e no_entry at) (h i c at lt)

-- ---- going over the rows

-- each row before that of the state's choice is admitted
abbrev pub AreAdmittedBefore : CaseData → ℕ → ℕ → Type 0
AreAdmittedBefore k i j = (s a : ℕ) → s < length k.model.states → a < length (choices k.model s) → ComesBefore (s, a) (i, j) → IsAdmittedRow k (row_at k.model s a)

-- one row more
pub one_more : (k : CaseData) (i j : ℕ) → AreAdmittedBefore k i j → IsAdmittedRow k (row_at k.model i j) → AreAdmittedBefore k i (j + 1)
one_more k i j before here s a state choice first =
    ⊎_elim
    (λ (less : s < i). before s a state choice (inl less))
    (λ (same : (s ≡ i) × (a < j + 1)).
    ⊎_elim
    (λ (less : a < j). before s a state choice (inr (same.0, less)))
    (λ (most : j ≤ a).
    let last : j ≡ a = omega (arith, same.1, most) in
    subst (λ t. IsAdmittedRow k (row_at k.model t a)) (sym same.0) (subst (λ b. IsAdmittedRow k (row_at k.model i b)) last here))
    (cases_lt a j))
    first

-- past the last state all are
pub before_all : (k : CaseData) (i j : ℕ) → length k.model.states ≤ i → AreAdmittedBefore k i j → IsAdmitted k
before_all k i j le h s rows state a row choice =
    let at : a < length (choices k.model s) = rw (get_or_default k.model.states s [] rows state) choice in
    rw (get_or_default k.model.states s rows [] state, get_or_default (choices k.model s) a row [] at) (h s a state at (inl (omega arith)))

-- ---- what admission gives

pub case_weights : WeightsInside → RootIsInside → CasesHaveWeights
case_weights weights root k is v inside = weights k k.root v is (root k is) inside

pub case_sums : SumsAreTotals → CasesHaveSums
case_sums sums k is v inside s rows state a row choice = sums k.model (get_or (get_or k.model.states s rows) a row) v (is.admitted s rows state a row choice).sum
