-- A model that isn't admitted has a first fault: each test of a row is decided.
use Rattle.std.proofs.Common.{◌≡◌, ◌≢◌, ℕ, ◌+◌, ◌*◌, ◌/◌, ◌^◌, ◌<◌, ◌≤◌, ◌⊎◌, inl, inr, ⊎_elim, List, length, get_or, ℤ, pos, ◌<ℤ◌, ◌≤ℤ◌, refl, arith}
use Rattle.std.proofs.lemmas.Bool.{cases_lt}
use Rattle.std.proofs.lemmas.Int.{by_lt_z}
use Rattle.lift_poly.proofs.Ring.{linear}
use Rattle.lift_model.specs.declared.entry.Entry.{Entry}
use Rattle.lift_model.specs.Model.{support, choices, row_at}
use Rattle.corner_lift.specs.Corner.{corner_weight, no_entry}
use Rattle.corner_lift.specs.Case.{CaseData, IsAdmittedRow, IsAdmitted, SumsToOne, IsNarrow, IsNowhereNegative, row_coefficient, due, row_parameters, most_row_parameters, engine_limit, abs_sum, greatest_size}
use Rattle.lift_rows.specs.Fault.{IsSumFault, IsFirstNegative, IsRowFault, IsFirstFault}
use Rattle.lift_rows.specs.declared.error.RowError.{RowError}
use Rattle.lift_rows.specs.declared.error.RowError.TheVariants.{RowSum, Negative, RowParameters, TooWide}
use Rattle.lift_rows.proofs.Searching.{First, first_or_none, FirstPair, first_pair_or_none}
use Rattle.lift_rows.proofs.Blocks.{right_all}
use Rattle.lift_rows.proofs.RowTests.{least_at, before_all}

-- ---- the tests of a row

same_or_other : (a b : ℤ) → (a ≡ b) ⊎ (a ≢ b)
same_or_other a b =
    by_lt_z a b (λ less. inr (λ e. omega (arith, linear, e, less))) (λ least. by_lt_z b a (λ more. inr (λ e. omega (arith, linear, e, more))) (λ most. inl (omega (arith, linear, least, most))))

-- the sums are right, or wrong first at some set: past the row's own set nothing is summed or due
sums_tested : (common : ℤ) (row : List Entry) → SumsToOne common row ⊎ ((set : ℕ) × IsSumFault common row set (row_coefficient set row))
sums_tested common row =
    let blocks : ℕ = support row / 256 + 1 in
    let Right : ℕ → Type 0 = λ at. row_coefficient at row ≡ due common at in
    let Wrong : ℕ → Type 0 = λ at. row_coefficient at row ≢ due common at in
    ⊎_elim
    (λ (all : (at : ℕ) → at < blocks * 256 → Right at). inl (right_all common row blocks (omega arith) all))
    (λ (first : First Right Wrong (blocks * 256)). inr (first.place, record { is = refl; wrong = first.found; least = first.before }))
    (first_or_none Right Wrong (λ at. same_or_other (row_coefficient at row) (due common at)) (blocks * 256))

-- no weight is below 0, or some entry's is, and at some corner first
weights_tested : (k : CaseData) (row : List Entry) → IsNowhereNegative k row ⊎ ((entry corner : ℕ) × IsFirstNegative k row entry corner (corner_weight k.d k.root row corner entry))
weights_tested k row =
    let Fine : ℕ → ℕ → Type 0 = λ j c. pos 0 ≤ℤ corner_weight k.d k.root row c j in
    let Below : ℕ → ℕ → Type 0 = λ j c. corner_weight k.d k.root row c j <ℤ pos 0 in
    let corners : ℕ → ℕ = λ j. 2 ^ row_parameters k row in
    ⊎_elim
    (λ (all : (j c : ℕ) → j < length row → c < corners j → Fine j c). inl (least_at k.d k.root row all))
    (λ (first : FirstPair Fine Below (length row) corners).
    inr (first.row, first.place, record { entry_in = first.row_in; corner_in = first.place_in; is = refl; negative = first.found; first = first.before }))
    (first_pair_or_none Fine Below (λ j c. by_lt_z (corner_weight k.d k.root row c j) (pos 0) (λ less. inr less) (λ fine. inl fine)) (length row) corners)

-- ---- a row, and the model

-- a row is admitted, or has a fault
abbrev RowTested : CaseData → ℕ → ℕ → List Entry → Type 0
RowTested k s a row = IsAdmittedRow k row ⊎ ((e : RowError) × IsRowFault k s a row e)

module _ (k : CaseData) (s a : ℕ) (row : List Entry) (sum : SumsToOne k.model.common row) where
  narrow_tested : row_parameters k row ≤ most_row_parameters → IsNarrow k row → RowTested k s a row
  narrow_tested few narrow =
      ⊎_elim
      (λ (least : IsNowhereNegative k row). inl (record { sum = sum; few = few; narrow = narrow; least = least }))
      (λ (first : (entry corner : ℕ) × IsFirstNegative k row entry corner (corner_weight k.d k.root row corner entry)).
      inr (Negative s a (get_or row first.0 no_entry).target first.1 (corner_weight k.d k.root row first.1 first.0), (refl, refl, sum, few, narrow, (first.0, first.2, refl))))
      (weights_tested k row)

  few_tested : row_parameters k row ≤ most_row_parameters → RowTested k s a row
  few_tested few =
      ⊎_elim
      (λ (narrow : IsNarrow k row). narrow_tested few narrow)
      (λ (wide : engine_limit ≤ abs_sum row * greatest_size k.d k.root ^ row_parameters k row * 2 ^ k.w). inr (TooWide s a, (refl, refl, sum, few, λ narrow. omega (arith, narrow, wide))))
      (cases_lt (abs_sum row * greatest_size k.d k.root ^ row_parameters k row * 2 ^ k.w) engine_limit)

  sum_tested : RowTested k s a row
  sum_tested =
      ⊎_elim
      (λ (many : most_row_parameters < row_parameters k row). inr (RowParameters s a (row_parameters k row), (refl, refl, sum, refl, many)))
      (λ (few : row_parameters k row ≤ most_row_parameters). few_tested few)
      (cases_lt most_row_parameters (row_parameters k row))

row_tested : (k : CaseData) (s a : ℕ) (row : List Entry) → RowTested k s a row
row_tested k s a row =
    ⊎_elim
    (λ (sum : SumsToOne k.model.common row). sum_tested k s a row sum)
    (λ (wrong : (set : ℕ) × IsSumFault k.model.common row set (row_coefficient set row)). inr (RowSum s a wrong.0 (row_coefficient wrong.0 row), (refl, refl, wrong.1)))
    (sums_tested k.model.common row)

pub first_fault_exists : (k : CaseData) → (IsAdmitted k → ⊥) → (e : RowError) × IsFirstFault k e
first_fault_exists k refused =
    let Fine : ℕ → ℕ → Type 0 = λ s a. IsAdmittedRow k (row_at k.model s a) in
    let Faulty : ℕ → ℕ → Type 0 = λ s a. (e : RowError) × IsRowFault k s a (row_at k.model s a) e in
    let count : ℕ → ℕ = λ s. length (choices k.model s) in
    let states : ℕ = length k.model.states in
    ⊎_elim
    (λ (all : (s a : ℕ) → s < states → a < count s → Fine s a). absurd (refused (before_all k states 0 (omega arith) (λ s a state choice before. all s a state choice))))
    (λ (first : FirstPair Fine Faulty states count). (
      first.found.0,
      record {
        state = first.row;
        choice = first.place;
        state_in = first.row_in;
        choice_in = first.place_in;
        before = λ s a state choice before. first.before s a choice before;
        fault = first.found.1;
      },
    ))
    (first_pair_or_none Fine Faulty (λ s a. row_tested k s a (row_at k.model s a)) states count)
