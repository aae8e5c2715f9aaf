-- Trees that go on where another one ends.
use Rattle.std.proofs.Common.{ℕ, ◌+◌, subst}
use Rattle.lift_grid.specs.Rectangle.{Spans}
use Rattle.lift_grid.specs.Tree.{Tree, lower_half, upper_half}
use Rattle.lift_grid.specs.Tree.Tree.{split, accept, reject, unknown}
use Rattle.corner_lift.specs.Case.{CaseData}
use Rattle.lift_cert.specs.declared.bound.Bound.{Bound}
use Rattle.lift_finer.specs.Refined.{Refines, IsCertified, IsBase}
use Rattle.lift_finer.specs.Laws.{RefinedBasesAreCertified}

module _ (k : CaseData) (bound : Bound) where
  base_goes_on : (t refined : Tree) (spans : Spans) (depth : ℕ) → IsBase k bound spans depth t → Refines (IsCertified k bound) spans depth t refined → IsCertified k bound spans depth refined
  base_goes_on (accept u x) refined spans depth h same = subst (λ tree. IsCertified k bound spans depth tree) same h
  base_goes_on (reject u r) refined spans depth h same = subst (λ tree. IsCertified k bound spans depth tree) same h
  base_goes_on unknown refined spans depth h below = below
  base_goes_on (split axis lower upper) (split other low up) spans depth h below =
      subst (λ a. IsCertified k bound spans depth (split a low up)) below.0
      (h.0, base_goes_on lower low (lower_half axis spans) (depth + 1) h.1 below.1, base_goes_on upper up (upper_half axis spans) (depth + 1) h.2 below.2)
  base_goes_on (split axis lower upper) refined spans depth h below = absurd below

pub refined_bases_are_certified : RefinedBasesAreCertified
refined_bases_are_certified k bound spans depth t refined = base_goes_on k bound t refined spans depth
