-- Accepting and rejecting certificates of a rectangle of a case, for a bound.
use Rattle.std.specs.Prelude.{ℕ, ◌^◌, List, ℤ, pos, ◌*ℤ◌, ◌≤ℤ◌, ◌<ℤ◌}
use Rattle.lift_grid.specs.Rectangle.{Spans}
use Rattle.lift_grid.specs.Tree.{RejectData}
use Rattle.corner_lift.specs.Case.{CaseData, number}
use Rattle.corner_lift.specs.Certificate.{IsUpper, IsLower}
use Rattle.lift_cert.specs.declared.bound.Bound.{Bound}

-- a number over 2 ^ w is at most the bound
abbrev pub IsWithin : Bound → ℕ → ℤ → Type 0
IsWithin bound w n = (n *ℤ pos bound.den) ≤ℤ (pos bound.num *ℤ pos (2 ^ w))

-- a number over 2 ^ w is above the bound
abbrev pub IsBeyond : Bound → ℕ → ℤ → Type 0
IsBeyond bound w n = (pos bound.num *ℤ pos (2 ^ w)) <ℤ (n *ℤ pos bound.den)

-- an accepting certificate: an upper vector whose number of the initial state is within the bound
pub record IsAccepting (k : CaseData) (spans : Spans) (bound : Bound) (x : List ℤ) : Type 0 where
  pub upper : IsUpper k spans x
  pub limit : IsWithin bound k.w (number x k.model.init)

-- a rejecting certificate: a lower vector whose number of the initial state is beyond the bound
pub record IsRejecting (k : CaseData) (spans : Spans) (bound : Bound) (r : RejectData) : Type 0 where
  pub holds : IsLower k spans r
  pub limit : IsBeyond bound k.w (number r.numbers k.model.init)

-- no accepting certificate of the rectangle exists
abbrev pub NoneAccepts : CaseData → Spans → Bound → Type 0
NoneAccepts k spans bound = (x : List ℤ) → IsAccepting k spans bound x → ⊥
