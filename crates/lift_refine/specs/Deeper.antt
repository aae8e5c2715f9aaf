-- A case that may be halved more often.
use Rattle.std.specs.Prelude.{◌≡◌, ℕ, ◌+◌}
use Rattle.corner_lift.specs.Case.{CaseData, greatest_depth}
use Rattle.lift_finer.specs.Finer.{finer_spans, finer_case}

-- the same case, root and all, over a grid n times as fine, which may be halved so often
abbrev pub deeper_case : ℕ → ℕ → CaseData → CaseData
deeper_case n depth k = finer_case n (finer_spans n k.root) depth k

-- at these depths as many halvings are left in the one case as in the other
abbrev pub AreAsDeep : CaseData → ℕ → CaseData → ℕ → Type 0
AreAsDeep k depth other place = depth + greatest_depth other ≡ place + greatest_depth k
