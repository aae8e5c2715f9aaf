-- What holds of first misses, for who reasons about them.
use Rattle.std.specs.Prelude.{◌≡◌}
use Rattle.lift_grid.specs.Rectangle.{Spans}
use Rattle.corner_lift.specs.Case.{CaseData}
use Rattle.lift_cert.specs.declared.miss.Miss.{Miss}
use Rattle.audit_cert.specs.Claim.{ClaimData, Passes}
use Rattle.audit_cert.specs.Miss.{IsFirstMiss}

-- the first test that fails is one
abbrev pub FirstMissIsOne : Type 0
FirstMissIsOne = (k : CaseData) (spans : Spans) (c : ClaimData) (m n : Miss) → IsFirstMiss k spans c m → IsFirstMiss k spans c n → m ≡ n

-- what passes every test has none that fails
abbrev pub PassingMissesNone : Type 0
PassingMissesNone = (k : CaseData) (spans : Spans) (c : ClaimData) (m : Miss) → Passes k spans c → IsFirstMiss k spans c m → ⊥
