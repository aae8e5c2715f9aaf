-- What a sound file says of its own model, region and bound. It speaks of valuations, steps and probabilities alone.
use Rattle.std.specs.Prelude.{ℕ, List, All, map, ⊤}
use Rattle.lift_poly.specs.Polynomial.{Valuation}
use Rattle.lift_grid.specs.Rectangle.{Spans, Inside}
use Rattle.lift_grid.specs.Tree.{Tree, Leaf, Tiles, leaves}
use Rattle.lift_grid.specs.Tree.Tree.{accept, reject}
use Rattle.corner_lift.specs.Case.{CaseData, number}
use Rattle.lift_cert.specs.Bounded.{IsBoundedAt}
use Rattle.lift_cert.specs.Reached.{IsReachedAt}
use Rattle.lift_cert.specs.Certificate.{IsBeyond}
use Rattle.lift_cert.specs.declared.bound.Bound.{Bound}
use Rattle.cert_text.specs.Head.{HeadData}
use Rattle.cert_check.specs.Sound.{IsSoundFile}
use Rattle.cert_check.specs.declared.summary.Summary.{Summary}

-- What a node of a tree says of its rectangle, at every valuation inside: where it accepts, every scheduler reaches the goal with probability at most the bound; where it rejects, those that make the printed choices reach it with at least what the node tells, and this is above the bound. Other nodes say nothing.
abbrev pub HoldsInside : CaseData → Bound → Spans → Tree → Type 0
HoldsInside k bound spans (accept u x) = (v : Valuation) → Inside k.d spans v → IsBoundedAt k.model v bound
HoldsInside k bound spans (reject u r) = ((v : Valuation) → Inside k.d spans v → IsReachedAt k.model v u r) × IsBeyond bound u (number r.numbers k.model.init)
HoldsInside k bound spans _ = ⊤

-- what a leaf says holds everywhere inside its rectangle
abbrev pub LeafHolds : CaseData → Bound → Leaf → Type 0
LeafHolds k bound leaf = HoldsInside k bound leaf.spans leaf.node

-- the leaves of a report tile its root, and each leaf holds on its rectangle
pub record ReportHolds (h : HeadData) (t : Tree) : Type 0 where
  pub tiles : Tiles h.asked.d h.asked.root (map (λ leaf. leaf.spans) (leaves h.asked.root 0 t))
  pub each : All (LeafHolds h.asked h.bound) (leaves h.asked.root 0 t)

-- a file that can be trusted: it is sound, with so many leaves, and what its report says holds
pub record IsTrusted (bytes : List ℕ) (leaves : Summary) : Type 0 where
  pub file : IsSoundFile bytes leaves
  pub holds : ReportHolds file.head file.tree
