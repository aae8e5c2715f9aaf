-- The first fault of a model that isn't admitted. Rows are tested by state and choice, and a row in the order of its sums, its number of parameters, its width and its weights.
use Rattle.std.specs.Prelude.{◌≡◌, ◌≢◌, ◌^◌, ◌<◌, ◌≤◌, ◌⊎◌, ℕ, List, ℤ, pos, ◌<ℤ◌, ◌≤ℤ◌, length, slice_index_or, unsigned_abs}
use Rattle.lift_model.specs.declared.entry.Entry.{Entry}
use Rattle.lift_model.specs.Model.{choices, row_at}
use Rattle.lift_model.specs.Valid.{most_parameters}
use Rattle.corner_lift.specs.Corner.{corner_weight, no_entry}
use Rattle.corner_lift.specs.Case.{CaseData, IsAdmittedRow, SumsToOne, IsNarrow, row_parameters, row_coefficient, due, most_row_parameters, engine_limit}
use Rattle.lift_rows.specs.declared.error.RowError.{RowError}
use Rattle.lift_rows.specs.declared.error.RowError.TheVariants.{RowSum, Negative, RowParameters, TooWide}

-- the least set at which a row's coefficients don't sum to what is due, and what they sum to there
pub record IsSumFault (common : ℤ) (row : List Entry) (set : ℕ) (sum : ℤ) : Type 0 where
  pub is : sum ≡ row_coefficient set row
  pub wrong : sum ≢ due common set
  pub least : (other : ℕ) → other < set → row_coefficient other row ≡ due common other

-- one entry comes before another, or it is the same and its corner comes before
abbrev pub ComesBefore : ℕ × ℕ → ℕ × ℕ → Type 0
ComesBefore a b = (a.0 < b.0) ⊎ ((a.0 ≡ b.0) × (a.1 < b.1))

-- the first entry of the row, and its first corner, with a weight below 0
pub record IsFirstNegative (k : CaseData) (row : List Entry) (entry corner : ℕ) (weight : ℤ) : Type 0 where
  pub entry_in : entry < length row
  pub corner_in : corner < 2 ^ row_parameters k row
  pub is : weight ≡ corner_weight k.d k.root row corner entry
  pub negative : weight <ℤ pos 0
  pub first : (j c : ℕ) → c < 2 ^ row_parameters k row → ComesBefore (j, c) (entry, corner) → pos 0 ≤ℤ corner_weight k.d k.root row c j

-- the first fault of the row of state s and choice a, with its numbers
abbrev pub IsRowFault : CaseData → ℕ → ℕ → List Entry → RowError → Type 0
IsRowFault k s a row (RowSum t b set sum) = (t ≡ s) × (b ≡ a) × IsSumFault k.model.common row set sum
IsRowFault k s a row (RowParameters t b n) = (t ≡ s) × (b ≡ a) × SumsToOne k.model.common row × (n ≡ row_parameters k row) × (most_row_parameters < n)
IsRowFault k s a row (TooWide t b) = (t ≡ s) × (b ≡ a) × SumsToOne k.model.common row × (row_parameters k row ≤ most_row_parameters) × (IsNarrow k row → ⊥)
IsRowFault k s a row (Negative t b target corner weight) =
    (t ≡ s) × (b ≡ a) × SumsToOne k.model.common row × (row_parameters k row ≤ most_row_parameters) × IsNarrow k row
    × ((entry : ℕ) × IsFirstNegative k row entry corner weight × (target ≡ (slice_index_or row entry no_entry).target))

-- the first fault of the model: every row before that one is admitted
pub record IsFirstFault (k : CaseData) (error : RowError) : Type 0 where
  pub state : ℕ
  pub choice : ℕ
  pub state_in : state < length k.model.states
  pub choice_in : choice < length (choices k.model state)
  pub before : (s a : ℕ) → s < length k.model.states → a < length (choices k.model s) → ComesBefore (s, a) (state, choice) → IsAdmittedRow k (row_at k.model s a)
  pub fault : IsRowFault k state choice (row_at k.model state choice) error

-- the number that the refusal keeps is above -engine_limit and below engine_limit
abbrev pub HasSmallNumber : RowError → Type 0
HasSmallNumber (RowSum t b set sum) = unsigned_abs sum < engine_limit
HasSmallNumber (Negative t b target corner weight) = unsigned_abs weight < engine_limit
HasSmallNumber (RowParameters t b n) = n ≤ most_parameters
HasSmallNumber (TooWide t b) = Unit {0}
