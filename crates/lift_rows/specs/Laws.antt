-- What holds of first faults and of admission, for who reasons about them.
use Rattle.std.specs.Prelude.{◌≡◌}
use Rattle.corner_lift.specs.Case.{CaseData, IsCase, IsAdmitted}
use Rattle.lift_rows.specs.Admitted.{HasWeightsFromZero, HasSumsOfTotal}
use Rattle.lift_rows.specs.Fault.{IsFirstFault}
use Rattle.lift_rows.specs.declared.error.RowError.{RowError}

-- a model has one first fault at most
abbrev pub FirstFaultIsOne : Type 0
FirstFaultIsOne = (k : CaseData) (e f : RowError) → IsFirstFault k e → IsFirstFault k f → e ≡ f

-- a model that is admitted has none
abbrev pub AdmittedHasNoFault : Type 0
AdmittedHasNoFault = (k : CaseData) (e : RowError) → IsAdmitted k → IsFirstFault k e → ⊥

-- and one that isn't admitted has one
abbrev pub UnadmittedHasAFirstFault : Type 0
UnadmittedHasAFirstFault = (k : CaseData) → (IsAdmitted k → ⊥) → (e : RowError) × IsFirstFault k e

-- in a case no weight is negative at a valuation inside the root
abbrev pub CasesHaveWeights : Type 0
CasesHaveWeights = (k : CaseData) → IsCase k → HasWeightsFromZero k

-- and each row's weights sum to the total there
abbrev pub CasesHaveSums : Type 0
CasesHaveSums = (k : CaseData) → IsCase k → HasSumsOfTotal k
